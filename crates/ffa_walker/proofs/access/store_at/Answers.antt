-- SPDX-License-Identifier: MIT OR Apache-2.0
use Rattle.std.proofs.Common.{rules, sym}
use Rattle.ffa_physmem.proofs.Moments.{Only-map, Only-none}
use Rattle.ffa_physmem.specs.Work.{loans_of}
use Rattle.ffa_physmem.proofs.Work.{adds-none}
use Rattle.ffa_walker.proofs.access.store_at.Goals as goal

pub returns-in_err-physical-clause-answer : goal.returns-in_err-physical-clause-answer
returns-in_err-physical-clause-answer g c = search rules

pub returns-in_err-physical-clause-stored : goal.returns-in_err-physical-clause-stored
returns-in_err-physical-clause-stored g c = search rules

pub returns-clause-answer : goal.returns-clause-answer
returns-clause-answer g c = search rules

pub returns-clause-stored : goal.returns-clause-stored
returns-clause-stored g c = search rules

pub returns-in_err-physical-clause-steps : goal.returns-in_err-physical-clause-steps
returns-in_err-physical-clause-steps g c = Only-none

pub returns-clause-steps : goal.returns-clause-steps
returns-clause-steps g c = Only-map c.write_number.ensures.steps (λ _ s its. (c.in_ok-physical.physical, sym c.in_ok-physical.ensures.value, its))

pub returns-in_err-physical-clause-few : goal.returns-in_err-physical-clause-few
returns-in_err-physical-clause-few g c = adds-none (loans_of 1)

pub returns-clause-few : goal.returns-clause-few
returns-clause-few g c = c.write_number.ensures.few
