-- SPDX-License-Identifier: MIT OR Apache-2.0
use Rattle.std.proofs.Common.{◌∙◌, true, sym, refl, Ok, Err}
use Rattle.ffa_model.specs.Memory.{size_of}
use Rattle.ffa_model.specs.Reach.{may_load}
use Rattle.ffa_spmc.proofs.Accesses.{loaded-seen, offset-kept}
use Rattle.ffa_spmc.proofs.Inside.{parts_of}
use Rattle.ffa_spmc.proofs.manager.Manager.load.Goals as goal

pub load_at-requires : goal.load_at-requires
load_at-requires g c =
    let x = parts_of g.M.PhysMem.ram c.self.inside in
    record { offset = offset-kept x c.self.invariant c.args.self.now c.self.view_is c.args.addr c.args.walked c.requires }

pub returns-in-Ok : goal.returns-in-Ok
returns-in-Ok g c =
    let x = parts_of g.M.PhysMem.ram c.self.inside in
    loaded-seen x c.self.invariant c.args.self.now c.self.view_is c.args.addr c.args.walked c.requires
    (size_of c.args.size) may_load (λ right. true) (Ok c.in-Ok.value) (λ right. refl) (sym c.in-Ok.is ∙ c.load_at.ensures.loaded)

pub returns-in-Err : goal.returns-in-Err
returns-in-Err g c =
    let x = parts_of g.M.PhysMem.ram c.self.inside in
    loaded-seen x c.self.invariant c.args.self.now c.self.view_is c.args.addr c.args.walked c.requires
    (size_of c.args.size) may_load (λ right. true) (Err c.in-Err.fault) (λ right. refl) (sym c.in-Err.is ∙ c.load_at.ensures.loaded)
