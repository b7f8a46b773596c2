-- SPDX-License-Identifier: MIT OR Apache-2.0
use Rattle.ffa_laws.proofs.Firsts.{first-held-sound, first-state-sound}
use Rattle.ffa_laws.proofs.isolation.first_is_sound.Goals as goal

pub returns-clause-zeros : goal.returns-clause-zeros
returns-clause-zeros c = first-state-sound

pub returns-clause-held : goal.returns-clause-held
returns-clause-held c = first-held-sound
