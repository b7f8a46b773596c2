-- SPDX-License-Identifier: MIT OR Apache-2.0
use Rattle.std.proofs.Common.{◌∙◌, ℕ, Ok, sym, ap}
use Rattle.ffa_model.specs.declared.leaf.Leaf.{Leaf}
use Rattle.ffa_model.specs.Walk.{Answer}
use Rattle.ffa_spmc.specs.Snapshot.{Snapshot}
use Rattle.ffa_spmc.specs.Walks.{walk_of}
use Rattle.ffa_spmc.proofs.HeldWalks.{held-room, held-walk}
use Rattle.ffa_spmc.proofs.machine.Machine.walk.Goals as goal

pub moved_to-requires : goal.moved_to-requires
moved_to-requires g c =
    let m = c.self.inside.manager in
    held-room m.ram m.state c.holds.ensures.agrees c.holds.ensures.sound c.runner.result.0 c.in-Some.page.0 c.in-Some-lookup.leaf
    (c.self.invariant.0 c.runner.result.0 c.in-Some.page.0 c.in-Some-lookup.leaf
    (sym c.in-Some-lookup.ensures))
    c.args.addr

pub returns-clause-answer : goal.returns-clause-answer
returns-clause-answer g c =
    let m = c.self.inside.manager in
    ap (λ (leaf : Leaf). let answer : Answer = Ok leaf in answer) c.moved_to.ensures
    ∙ sym (held-walk m.ram m.state c.holds.ensures.agrees c.holds.ensures.sound c.runner.result.0 c.in-Some.page.0 c.in-Some-lookup.leaf
    (c.self.invariant.0 c.runner.result.0 c.in-Some.page.0 c.in-Some-lookup.leaf
    (sym c.in-Some-lookup.ensures))
    c.args.addr (sym c.in-Some.ensures))
    ∙ ap (λ (e : ℕ). walk_of m.ram m.state e c.args.addr) c.runner.ensures
    ∙ ap (λ (seen : Snapshot). walk_of seen.ram seen.state seen.state.runner c.args.addr) c.self.view_is
