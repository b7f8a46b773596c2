-- SPDX-License-Identifier: MIT OR Apache-2.0
use Rattle.ffa_laws.proofs.ProcessorLaws.{interrupt-sound, one_interrupt}
use Rattle.ffa_laws.proofs.processors.one_interrupt.Goals as goal

pub returns-clause-interrupt : goal.returns-clause-interrupt
returns-clause-interrupt c = one_interrupt

pub returns-clause-sound : goal.returns-clause-sound
returns-clause-sound c = interrupt-sound
