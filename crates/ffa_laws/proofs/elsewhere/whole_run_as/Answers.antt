-- SPDX-License-Identifier: MIT OR Apache-2.0
use Rattle.ffa_laws.proofs.ElsewhereRunLaws.{isolated_as, never_grow_as, sound_after_as, steady_after_as}
use Rattle.ffa_laws.proofs.elsewhere.whole_run_as.Goals as goal

pub returns-clause-isolated : goal.returns-clause-isolated
returns-clause-isolated c = isolated_as

pub returns-clause-never_grow : goal.returns-clause-never_grow
returns-clause-never_grow c = never_grow_as

pub returns-clause-steady : goal.returns-clause-steady
returns-clause-steady c = steady_after_as

pub returns-clause-sound : goal.returns-clause-sound
returns-clause-sound c = sound_after_as
