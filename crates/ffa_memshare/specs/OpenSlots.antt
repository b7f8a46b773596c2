-- SPDX-License-Identifier: MIT OR Apache-2.0
-- FOR PROOFS ALONE
-- The transaction that is open in a slot, by the slot's parts.
use Rattle.std.specs.Prelude.{Bool, true, false, Option, Some, None}
use Rattle.ffa_memshare.specs.declared.transaction.OpenTransaction.{OpenTransaction}

abbrev pub open_if : Bool → OpenTransaction → Option OpenTransaction
open_if false t = None
open_if true t = Some t
