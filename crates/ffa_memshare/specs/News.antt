-- SPDX-License-Identifier: MIT OR Apache-2.0
-- FOR PROOFS ALONE
-- The change that was told last, by its parts.
use Rattle.std.specs.Prelude.{Bool, true, false, Option, Some, None}
use Rattle.ffa_memshare.specs.declared.changed.Changed.{Changed}

abbrev pub news_of : Bool → Changed → Option Changed
news_of false changed = None
news_of true changed = Some changed
