-- SPDX-License-Identifier: MIT OR Apache-2.0
use Rattle.ffa_laws.proofs.ElsewhereLaws.{never_grows_as, one_step_as, sound-step_as, steady-step_as, step_as-runner}
use Rattle.ffa_laws.proofs.elsewhere.one_step_as.Goals as goal

pub returns-clause-runner : goal.returns-clause-runner
returns-clause-runner c = step_as-runner

pub returns-clause-step : goal.returns-clause-step
returns-clause-step c = one_step_as

pub returns-clause-never_grow : goal.returns-clause-never_grow
returns-clause-never_grow c = never_grows_as

pub returns-clause-steady : goal.returns-clause-steady
returns-clause-steady c = steady-step_as

pub returns-clause-sound : goal.returns-clause-sound
returns-clause-sound c = sound-step_as
