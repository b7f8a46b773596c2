-- SPDX-License-Identifier: MIT OR Apache-2.0
use Rattle.std.proofs.Common.{◌∙◌, ℕ, ◌<◌, length, sym, ap, subst}
use Rattle.ffa_model.specs.Agreement.{root}
use Rattle.ffa_model.specs.Identifiers.{place}
use Rattle.ffa_model.specs.Walk.{walk}
use Rattle.ffa_model.proofs.Places.{known-place}
use Rattle.ffa_laws.proofs.SoundSteady.{runner-known}
use Rattle.ffa_spmc.specs.Managed.{Managed}
use Rattle.ffa_spmc.proofs.Inside.{parts_of}
use Rattle.ffa_spmc.specs.Meaning.{state_of}
use Rattle.ffa_spmc.proofs.manager.Manager.translate.Goals as goal

pub root_at-requires : goal.root_at-requires
root_at-requires g c =
    let s = state_of (parts_of g.M.PhysMem.ram c.self.inside) in
    subst (λ (i : ℕ). i < length c.args.self.now.state.parties) (sym (c.place.ensures ∙ ap place c.runner.ensures))
    (subst (λ (seen : Managed). place seen.state.runner < length seen.state.parties) c.self.view_is
    (known-place (length s.parties) s.runner c.self.invariant.sound.sized.some (runner-known s c.self.invariant.sound)))

pub returns : goal.returns
returns g c =
    c.translate.ensures.walk
    ∙ ap (λ (r : ℕ). walk (g.M.PhysMem.ram c.self.inside.ram) r c.args.addr) c.root_at.ensures.value
    ∙ ap (λ (i : ℕ). walk (g.M.PhysMem.ram c.self.inside.ram) (root c.args.self.now.state i) c.args.addr) (c.place.ensures ∙ ap place c.runner.ensures)
    ∙ ap (λ (seen : Managed). walk seen.ram (root c.args.self.now.state (place c.args.self.now.state.runner)) c.args.addr) c.self.view_is
