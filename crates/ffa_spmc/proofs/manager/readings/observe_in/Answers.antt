-- SPDX-License-Identifier: MIT OR Apache-2.0
use Rattle.std.proofs.Common.{◌∙◌, ◌-◌, ◌*◌, take, ap}
use Rattle.ffa_model.specs.Ram.{Ram, page_of}
use Rattle.ffa_physmem.proofs.Moments.{copied-only, memory-seen}
use Rattle.ffa_spmc.proofs.manager.readings.observe_in.Goals as goal

pub returns-clause-only : goal.returns-clause-only
returns-clause-only g c =
    copied-only g.M.Observed.is_copying (g.M.PhysMem.past c.observe.new.self) c.args.front.pages.first.0 c.args.front.pages.count c.observe.ensures.first c.observe.ensures.copied

pub returns-clause-same : goal.returns-clause-same
returns-clause-same g c = λ alone p at.
    let old = c.args.ram.now in
    let memory = c.observe.ensures.memory alone ∙ g.met.M.PhysMem.beneath old ∙ memory-seen (g.M.PhysMem.ram old) (g.M.PhysMem.past old) c.requires.free in
    c.observe.ensures.seen p at ∙ ap (λ (r : Ram). take (c.args.front.bytes - 4096 * (p - c.args.front.pages.first.0)) (page_of r p)) memory
