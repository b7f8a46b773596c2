-- SPDX-License-Identifier: MIT OR Apache-2.0
use Rattle.ffa_laws.proofs.ProcessorRunLaws.{acts-after, acts-there, isolated_on, shared_never_grows, sound_after_all, steady-shared}
use Rattle.ffa_laws.proofs.processors.whole_run_on.Goals as goal

pub returns-clause-isolated : goal.returns-clause-isolated
returns-clause-isolated c = isolated_on

pub returns-clause-steady : goal.returns-clause-steady
returns-clause-steady c = steady-shared

pub returns-clause-sound : goal.returns-clause-sound
returns-clause-sound c = sound_after_all

pub returns-clause-never_grow : goal.returns-clause-never_grow
returns-clause-never_grow c = shared_never_grows

pub returns-clause-acts : goal.returns-clause-acts
returns-clause-acts c = acts-after

pub returns-clause-there : goal.returns-clause-there
returns-clause-there c = acts-there
