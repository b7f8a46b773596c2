-- SPDX-License-Identifier: MIT OR Apache-2.0
use Rattle.std.proofs.Common.{◌∙◌, ap, sym}
use Rattle.ffa_model.specs.declared.endpoint.Version.{Version}
use Rattle.ffa_memshare.specs.declared.descriptor_call.DescriptorCall.{DescriptorCall}
use Rattle.ffa_spmc.specs.Managed.{Managed}
use Rattle.ffa_spmc.proofs.Inside.{parts_of}
use Rattle.ffa_spmc.proofs.Versions.{ffa-is}
use Rattle.ffa_spmc.proofs.manager.Manager.descriptor_call.Goals as goal

pub returns : goal.returns
returns g c =
    let x = parts_of g.M.PhysMem.ram c.self.inside in
    let ffa = sym (ffa-is x) ∙ ap (λ (seen : Managed). seen.state.ffa) c.self.view_is in
    λ i. record { transfer = c.args.transfer; ffa = ffa i; version = c.version.ensures i }
