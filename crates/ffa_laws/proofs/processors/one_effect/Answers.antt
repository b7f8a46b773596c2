-- SPDX-License-Identifier: MIT OR Apache-2.0
use Rattle.ffa_laws.proofs.ProcessorLaws.{effect-sound, effect_never_grows, one_effect}
use Rattle.ffa_laws.proofs.processors.one_effect.Goals as goal

pub returns-clause-effect : goal.returns-clause-effect
returns-clause-effect c = one_effect

pub returns-clause-never_grow : goal.returns-clause-never_grow
returns-clause-never_grow c = effect_never_grows

pub returns-clause-sound : goal.returns-clause-sound
returns-clause-sound c = λ s op sound. effect-sound s sound op
