-- SPDX-License-Identifier: MIT OR Apache-2.0
-- Who may still retrieve the pages of an open transaction, and the most that it may get: a receiver that doesn't hold the transaction,
-- and its ceiling.
use Rattle.std.specs.Prelude.{◌&&◌, is_none, Option, Some, None, if◌then◌else◌}
use Rattle.ffa_model.specs.declared.rights.Rights.{Rights}
use Rattle.ffa_model.specs.Access.{Ownership, held_by, is_receiver, ownership_of, transaction_at}
use Rattle.ffa_model.specs.Numbers.{Identifier, PageIndex}
use Rattle.ffa_model.specs.State.{State, Transaction}
use Rattle.ffa_model.specs.Transactions.{ceiling}

-- the most that e may still get of a transaction, if one is open
abbrev pub offered_by : Ownership → Identifier → Option Transaction → Option Rights
offered_by ram e None = None
offered_by ram e (Some t) = if is_receiver e t && is_none (held_by t e) then Some (ceiling ram t e) else None

-- of a page, by the transaction in which it stands
abbrev pub offered : State → Identifier → PageIndex → Option Rights
offered s e p = offered_by (ownership_of s) e (transaction_at s p)
