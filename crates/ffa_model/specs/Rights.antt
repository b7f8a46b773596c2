-- SPDX-License-Identifier: MIT OR Apache-2.0
-- Rights: nothing, or data (ro below rw) with or without execution.
use Rattle.std.specs.Prelude.{Bool, true, false, not, ◌&&◌, ◌||◌, Option, Some, None}
use Rattle.ffa_model.specs.declared.rights.Data.{Data}
use Rattle.ffa_model.specs.declared.rights.Data.TheVariants.{Ro, Rw}
use Rattle.ffa_model.specs.declared.rights.Rights.{Rights}
use Rattle.ffa_model.specs.declared.rights.Kind.{Kind}
use Rattle.ffa_model.specs.declared.rights.Kind.TheVariants.{Share, Lend, Donate}

abbrev pub may_write : Data → Bool
may_write Ro = false
may_write Rw = true

abbrev pub may_store : Option Rights → Bool
may_store None = false
may_store (Some right) = may_write right.level

abbrev pub may_fetch : Option Rights → Bool
may_fetch None = false
may_fetch (Some right) = right.exec

abbrev pub is_share : Kind → Bool
is_share Share = true
is_share kind = false

abbrev pub is_lend : Kind → Bool
is_lend Lend = true
is_lend kind = false

abbrev pub is_donate : Kind → Bool
is_donate Donate = true
is_donate kind = false

abbrev pub is_same_kind : Kind → Kind → Bool
is_same_kind Share k = is_share k
is_same_kind Lend k = is_lend k
is_same_kind Donate k = is_donate k

-- ro is below rw
abbrev pub is_data_at_most : Data → Data → Bool
is_data_at_most Ro b = true
is_data_at_most Rw b = may_write b

-- no more data, and execution only where the other has it
abbrev pub is_at_most : Rights → Rights → Bool
is_at_most a b = is_data_at_most a.level b.level && (not a.exec || b.exec)

-- nothing is least
abbrev pub is_within : Option Rights → Option Rights → Bool
is_within None b = true
is_within (Some a) None = false
is_within (Some a) (Some b) = is_at_most a b
