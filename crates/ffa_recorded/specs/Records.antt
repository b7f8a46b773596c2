-- SPDX-License-Identifier: MIT OR Apache-2.0
-- FOR PROOFS ALONE
-- The steps that lead to a RAM, by what was noted of each.
use Rattle.std.specs.Prelude.{Bool, true, false, List, [], ◌∷◌, Option, Some, None, reverse}
use Rattle.ffa_model.specs.Ram.{Ram, with_page}
use Rattle.ffa_physmem.specs.Moments.{Past, Step}
use Rattle.ffa_physmem.specs.Unrecorded.{no_site}
use Rattle.ffa_recorded.specs.declared.recorded.Noted.{Noted}
use Rattle.ffa_recorded.specs.declared.recorded.Noted.TheVariants.{Stored, Written, Settled, Read}

-- the step that ended in this RAM
abbrev pub step_to : Ram → Noted → Step
step_to ram (Stored held) = record {
  before = with_page ram held.page.0 held.bytes;
  after = ram;
  settled = None;
  reading = None;
  words = 1;
  loans = 0;
}
step_to ram (Written held) = record {
  before = with_page ram held.page.0 held.bytes;
  after = ram;
  settled = None;
  reading = None;
  words = 0;
  loans = 1;
}
step_to ram (Settled x) = record {
  before = ram;
  after = ram;
  settled = Some (record { endpoint = x.endpoint; first = x.first.0; count = x.count });
  reading = None;
  words = 0;
  loans = 0;
}
step_to ram (Read x) = record {
  before = ram;
  after = ram;
  settled = None;
  reading = Some (record { first = x.first.0; count = x.count; begins = x.begins });
  words = 0;
  loans = 0;
}

-- from the last that was noted back to the first
abbrev pub steps_to : Ram → List Noted → List Step
steps_to ram [] = []
steps_to ram (noted ∷ earlier) = step_to ram noted ∷ steps_to (step_to ram noted).before earlier

-- all steps, where the record was kept
abbrev pub kept_steps : Bool → Ram → List Noted → Option (List Step)
kept_steps true ram noted = Some (steps_to ram (reverse noted))
kept_steps false ram noted = None

-- with no page in a copy
abbrev pub history : Bool → Ram → List Noted → Past
history kept ram noted = record { steps = kept_steps kept ram noted; site = no_site }
