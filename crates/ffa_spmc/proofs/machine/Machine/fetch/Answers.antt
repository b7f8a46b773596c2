-- SPDX-License-Identifier: MIT OR Apache-2.0
use Rattle.std.proofs.Common.{◌∙◌, refl, ap}
use Rattle.ffa_model.specs.declared.operation.Op.TheVariants.{Fetch}
use Rattle.ffa_model.specs.Memory.{fetch}
use Rattle.ffa_spmc.specs.Snapshot.{Snapshot}
use Rattle.ffa_spmc.proofs.CachedAccesses.{fetch-state, read-done}
use Rattle.ffa_spmc.proofs.machine.Machine.fetch.Goals as goal

pub returns : goal.returns
returns g c =
    read-done c.args.self.now c.fill.new.self (Fetch c.args.addr) c.args.addr refl c.holds.ensures c.holds-2.ensures
    (fetch-state c.args.self.now.state c.args.addr) _
    (c.fetch.ensures ∙ ap (λ (seen : Snapshot). (fetch seen.state c.args.addr).outcome) c.self.view_is) c.fill.ensures
