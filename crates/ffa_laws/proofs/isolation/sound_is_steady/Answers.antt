-- SPDX-License-Identifier: MIT OR Apache-2.0
use Rattle.ffa_laws.proofs.SoundSteady.{sound-steady}
use Rattle.ffa_laws.proofs.Worlds.{worlds_apart}
use Rattle.ffa_laws.proofs.isolation.sound_is_steady.Goals as goal

pub returns-clause-steady : goal.returns-clause-steady
returns-clause-steady c = sound-steady

pub returns-clause-worlds : goal.returns-clause-worlds
returns-clause-worlds c = worlds_apart
