-- SPDX-License-Identifier: MIT OR Apache-2.0
use Rattle.ffa_model.proofs.OneChain.{one-chain}
use Rattle.ffa_laws.proofs.ProcessorLaws.{effect-simple, operation-current}
use Rattle.ffa_laws.proofs.Simple.{first_held_simple, first_simple, stays_simple}
use Rattle.ffa_laws.proofs.processors.one_chain.Goals as goal

pub returns-clause-chain : goal.returns-clause-chain
returns-clause-chain c = one-chain

pub returns-clause-first : goal.returns-clause-first
returns-clause-first c = first_simple

pub returns-clause-held : goal.returns-clause-held
returns-clause-held c = first_held_simple

pub returns-clause-stays : goal.returns-clause-stays
returns-clause-stays c = stays_simple

pub returns-clause-effect : goal.returns-clause-effect
returns-clause-effect c = effect-simple

pub returns-clause-operation : goal.returns-clause-operation
returns-clause-operation c = operation-current
