-- SPDX-License-Identifier: MIT OR Apache-2.0
use Rattle.std.proofs.Common.{◌∙◌, sym, ap, refl, Ok, Err}
use Rattle.ffa_model.specs.declared.operation.Outcome.TheVariants.{Data}
use Rattle.ffa_model.specs.Reach.{may_execute}
use Rattle.ffa_model.specs.Rights.{may_fetch}
use Rattle.ffa_spmc.proofs.Accesses.{loaded-seen, offset-kept}
use Rattle.ffa_spmc.proofs.Inside.{parts_of}
use Rattle.ffa_spmc.proofs.manager.Manager.fetch.Goals as goal

pub fetch_at-requires : goal.fetch_at-requires
fetch_at-requires g c =
    let x = parts_of g.M.PhysMem.ram c.self.inside in
    record { offset = offset-kept x c.self.invariant c.args.self.now c.self.view_is c.args.addr c.args.walked c.requires }

pub returns-in-Ok : goal.returns-in-Ok
returns-in-Ok g c =
    let x = parts_of g.M.PhysMem.ram c.self.inside in
    ap Data c.from.ensures
    ∙ loaded-seen x c.self.invariant c.args.self.now c.self.view_is c.args.addr c.args.walked c.requires
    4 may_execute may_fetch (Ok c.in-Ok.instruction) (λ right. refl) (sym c.in-Ok.is ∙ c.fetch_at.ensures.fetched)

pub returns-in-Err : goal.returns-in-Err
returns-in-Err g c =
    let x = parts_of g.M.PhysMem.ram c.self.inside in
    loaded-seen x c.self.invariant c.args.self.now c.self.view_is c.args.addr c.args.walked c.requires
    4 may_execute may_fetch (Err c.in-Err.fault) (λ right. refl) (sym c.in-Err.is ∙ c.fetch_at.ensures.fetched)
