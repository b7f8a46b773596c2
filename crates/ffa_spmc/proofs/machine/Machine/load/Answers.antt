-- SPDX-License-Identifier: MIT OR Apache-2.0
use Rattle.std.proofs.Common.{◌∙◌, refl, ap}
use Rattle.ffa_model.specs.declared.operation.Op.TheVariants.{Load}
use Rattle.ffa_model.specs.Memory.{load}
use Rattle.ffa_spmc.specs.Snapshot.{Snapshot}
use Rattle.ffa_spmc.proofs.CachedAccesses.{load-state, read-done}
use Rattle.ffa_spmc.proofs.machine.Machine.load.Goals as goal

pub returns : goal.returns
returns g c =
    read-done c.args.self.now c.fill.new.self (Load c.args.addr c.args.size) c.args.addr refl c.holds.ensures c.holds-2.ensures
    (load-state c.args.self.now.state c.args.addr c.args.size) _
    (c.load.ensures ∙ ap (λ (seen : Snapshot). (load seen.state c.args.addr c.args.size).outcome) c.self.view_is) c.fill.ensures
