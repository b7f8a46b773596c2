-- SPDX-License-Identifier: MIT OR Apache-2.0
use Rattle.std.proofs.Common.{rules, ◌≡◌, ◌∙◌, ℕ, ◌-◌, ◌/◌, List, Option, ap, ◌==◌, eq-eqb}
use Rattle.ffa_model.specs.Ram.{Ram}
use Rattle.ffa_model.specs.Reach.{page_index}
use Rattle.ffa_physmem.specs.Moments.{IsInLoan, IsWriting, Only, Past, Step}
use Rattle.ffa_physmem.proofs.Moments.{Only-map, loan-writing}
use Rattle.ffa_physmem.proofs.Work.{spends-adds}
use Rattle.ffa_walker.proofs.access.write_number.Goals as goal

-- a page that is lent is written
written : {before after : Past} (ram : Ram) (base physical : ℕ) → base ≡ ram.base
    → Only before after (λ _ s. IsInLoan ram ((physical - base) / 4096) s) → Only before after (λ _ s. IsWriting ram (λ p. p == page_index ram physical) s)
written ram base physical is lent =
    Only-map lent (λ _ s. loan-writing ram ((physical - base) / 4096) s (λ p. p == page_index ram physical) (eq-eqb _ _ (ap (λ b. (physical - b) / 4096) is)))

pub write_u16-requires : goal.write_u16-requires
write_u16-requires g c = search rules

pub returns-in-B1-clause-steps : goal.returns-in-B1-clause-steps
returns-in-B1-clause-steps g c = written (g.M.PhysMem.ram c.args.memory.now) c.from.result c.args.physical (c.from.ensures ∙ c.base.ensures.value) (g.met.M.PhysMem.in_loan c.args.memory.now _ _)

pub returns-in-B2-clause-steps : goal.returns-in-B2-clause-steps
returns-in-B2-clause-steps g c = written (g.M.PhysMem.ram c.args.memory.now) c.from.result c.args.physical (c.from.ensures ∙ c.base.ensures.value) (g.met.M.PhysMem.in_loan c.args.memory.now _ _)

pub returns-in-B4-clause-steps : goal.returns-in-B4-clause-steps
returns-in-B4-clause-steps g c = written (g.M.PhysMem.ram c.args.memory.now) c.from.result c.args.physical (c.from.ensures ∙ c.base.ensures.value) (g.met.M.PhysMem.in_loan c.args.memory.now _ _)

pub returns-in-B8-clause-steps : goal.returns-in-B8-clause-steps
returns-in-B8-clause-steps g c = written (g.M.PhysMem.ram c.args.memory.now) c.from.result c.args.physical (c.from.ensures ∙ c.base.ensures.value) (g.met.M.PhysMem.in_loan c.args.memory.now _ _)

pub returns-in-B1-clause-few : goal.returns-in-B1-clause-few
returns-in-B1-clause-few g c = spends-adds (g.met.M.PhysMem.one_loan c.args.memory.now _ _)

pub returns-in-B2-clause-few : goal.returns-in-B2-clause-few
returns-in-B2-clause-few g c = spends-adds (g.met.M.PhysMem.one_loan c.args.memory.now _ _)

pub returns-in-B4-clause-few : goal.returns-in-B4-clause-few
returns-in-B4-clause-few g c = spends-adds (g.met.M.PhysMem.one_loan c.args.memory.now _ _)

pub returns-in-B8-clause-few : goal.returns-in-B8-clause-few
returns-in-B8-clause-few g c = spends-adds (g.met.M.PhysMem.one_loan c.args.memory.now _ _)
