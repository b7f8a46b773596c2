-- SPDX-License-Identifier: MIT OR Apache-2.0
-- What stands in RAM between two steps of a call on memory, and what is settled at its end, by the layout of the tables.
use Rattle.std.specs.Prelude.{List, Option}
use Rattle.arrayvec.specs.ArrayVec.{array_vec_len}
use Rattle.ffa_model.specs.Ram.{Ram}
use Rattle.ffa_physmem.specs.Moments.{Only, Past, Step}
use Rattle.ffa_stage2.specs.declared.layout.Layout.{Layout}
use Rattle.ffa_stage2.specs.Moments.{EndsSettled, IsMoment}

-- each step from one history to a later one is such a moment
abbrev pub OnlyMomentsFor : Layout → Ram → Ram → Past → Past → Type 0
OnlyMomentsFor layout old new past later =
    Only past later (λ h s. IsMoment old new (array_vec_len layout.regions) layout.tables.0 layout.blocks past h s)

abbrev pub EndsSettledFor : Layout → Ram → Ram → Past → Type 0
EndsSettledFor layout old new past = EndsSettled old new (array_vec_len layout.regions) layout.tables.0 layout.blocks past
