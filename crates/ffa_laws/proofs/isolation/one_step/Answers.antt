-- SPDX-License-Identifier: MIT OR Apache-2.0
use Rattle.ffa_laws.proofs.Laws.{one_step, steady-step}
use Rattle.ffa_laws.proofs.Growth.{step_never_grows}
use Rattle.ffa_laws.proofs.SoundOperations.{step-sound}
use Rattle.ffa_laws.proofs.isolation.one_step.Goals as goal

pub returns-clause-step : goal.returns-clause-step
returns-clause-step c = one_step

pub returns-clause-never_grow : goal.returns-clause-never_grow
returns-clause-never_grow c = step_never_grows

pub returns-clause-steady : goal.returns-clause-steady
returns-clause-steady c = λ s op steady. steady-step s steady op

pub returns-clause-sound : goal.returns-clause-sound
returns-clause-sound c = λ s op sound. step-sound s sound op
