-- SPDX-License-Identifier: MIT OR Apache-2.0
use Rattle.ffa_laws.proofs.ProcessorLaws.{one_operation, operation-placed, operation-sound, operation_never_grows}
use Rattle.ffa_laws.proofs.processors.one_operation.Goals as goal

pub returns-clause-operation : goal.returns-clause-operation
returns-clause-operation c = λ processors p s op. one_operation processors p op s

pub returns-clause-never_grow : goal.returns-clause-never_grow
returns-clause-never_grow c = λ processors p s op. operation_never_grows processors p op s

pub returns-clause-sound : goal.returns-clause-sound
returns-clause-sound c = operation-sound

pub returns-clause-placed : goal.returns-clause-placed
returns-clause-placed c = operation-placed
