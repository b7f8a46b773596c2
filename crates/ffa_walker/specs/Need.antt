-- SPDX-License-Identifier: MIT OR Apache-2.0
-- FOR PROOFS ALONE
-- What each kind of access needs of a leaf.
use Rattle.std.specs.Prelude.{Bool}
use Rattle.ffa_model.specs.Reach.{may_load, may_store_to, may_execute}
use Rattle.ffa_model.specs.declared.leaf.Leaf.{Leaf}
use Rattle.ffa_walker.specs.declared.access.Need.{Need}
use Rattle.ffa_walker.specs.declared.access.Need.TheVariants.{Read, Write, Execute}

abbrev pub needs : Need → Leaf → Bool
needs Read = may_load
needs Write = may_store_to
needs Execute = may_execute
