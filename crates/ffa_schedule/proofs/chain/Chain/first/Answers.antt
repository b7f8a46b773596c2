-- SPDX-License-Identifier: MIT OR Apache-2.0
use Rattle.std.proofs.lemmas.Grind.{common_steps}
use Rattle.std.proofs.Common.{◌≡◌, ◌∙◌, ℕ, ap, arith, replicate, None}
use Rattle.ffa_model.specs.First.{first_status}
use Rattle.ffa_model.specs.Lists.{listed}
use Rattle.ffa_model.proofs.Listed.{listed-more}
use Rattle.ffa_schedule.proofs.Steps.{first-kept, first-view, schedule}
use Rattle.ffa_schedule.proofs.chain.Chain.first.Goals as goal

pub loop-place-preserved : goal.loop-place-preserved
loop-place-preserved c = grind (arith, common_steps, listed-more c.loop-place.place first_status)

pub invariant_of-result : goal.invariant_of-result
invariant_of-result c =
    let all : c.loop-place.place ≡ c.args.endpoints = omega (arith, c.loop-place-test.false, c.loop-place.auto.place-end) in
    first-kept (schedule 0 c.loop-place.statuses.items c.loop-place.works.items) c.args.endpoints
    (first-view c.loop-place.statuses.items c.loop-place.works.items c.args.endpoints
    (c.loop-place.invariant.statuses ∙ ap (λ (n : ℕ). listed n first_status) all)
    (c.loop-place.invariant.works ∙ ap (λ (n : ℕ). replicate n None) all)) c.requires.some c.requires.few

pub returns-clause-sound : goal.returns-clause-sound
returns-clause-sound c = (invariant_of-result c).sound
