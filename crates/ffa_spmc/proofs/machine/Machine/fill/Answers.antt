-- SPDX-License-Identifier: MIT OR Apache-2.0
use Rattle.std.proofs.Common.{◌∙◌, ℕ, sym, ap, subst}
use Rattle.std.specs.Option.{option_map}
use Rattle.ffa_model.specs.declared.endpoint.PageNo.{PageNo}
use Rattle.ffa_spmc.specs.Cached.{IsWalk}
use Rattle.ffa_spmc.specs.Caching.{moved_back}
use Rattle.ffa_spmc.specs.Snapshot.{Snapshot}
use Rattle.ffa_spmc.proofs.HeldWalks.{own-back, own-past, walks-filled}
use Rattle.ffa_spmc.proofs.machine.Machine.fill.Goals as goal

pub moved_back-requires : goal.moved_back-requires
moved_back-requires g c =
    own-past c.args.self.now c.holds.ensures.managed.agrees c.holds.ensures.managed.sound c.args.addr c.in-Some-Ok.page.0 c.in-Some-Ok.leaf
    (sym c.in-Some-Ok.is-1 ∙ c.requires.answer)
    (sym (ap (option_map (λ (page : PageNo). page.0)) c.in-Some-Ok.is-0) ∙ c.requires.missed)

pub invariant_of-self : goal.invariant_of-self
invariant_of-self g c =
    let m = c.self.inside.manager in
    let p = c.in-Some-Ok.page.0 in (
      walks-filled m.ram m.state (g.T.Translations.entries c.self.inside.cache) (g.T.Translations.entries c.fill.new.self) c.runner-runner.result.0 p c.moved_back.result
          c.self.invariant.0 c.fill.ensures
          (subst (λ (e : ℕ). IsWalk m.ram m.state e p c.moved_back.result) (sym c.runner-runner.ensures)
          (subst (IsWalk m.ram m.state m.state.runner p) (sym c.moved_back.ensures)
          (subst (λ (seen : Snapshot). IsWalk seen.ram seen.state seen.state.runner p (moved_back c.in-Some-Ok.leaf c.args.addr)) (sym c.self.view_is)
          (own-back c.args.self.now c.holds.ensures.managed.agrees c.holds.ensures.managed.sound c.args.addr p c.in-Some-Ok.leaf
          (sym c.in-Some-Ok.is-1 ∙ c.requires.answer)
          (sym (ap (option_map (λ (page : PageNo). page.0)) c.in-Some-Ok.is-0) ∙ c.requires.missed))))),
      c.self.invariant.1,
    )
