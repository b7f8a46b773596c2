-- SPDX-License-Identifier: MIT OR Apache-2.0
use Rattle.std.proofs.Common.{◌∙◌, ap, sym}
use Rattle.ffa_model.specs.HypervisorRetrieve.{asks_back}
use Rattle.ffa_spmc.specs.Managed.{Managed}
use Rattle.ffa_spmc.proofs.Fills.{in-ram, runner-there}
use Rattle.ffa_spmc.proofs.Inside.{parts_of}
use Rattle.ffa_spmc.proofs.ReadBacks.{asked-is, call_of}
use Rattle.ffa_spmc.proofs.manager.Manager.asks_back.Goals as goal

pub asks_back-requires : goal.asks_back-requires
asks_back-requires g c =
    let x = parts_of g.M.PhysMem.ram c.self.inside in
    record { tx = in-ram x c.self.invariant c.runner-runner.result.0 (runner-there x c.self.invariant c.runner-runner.result.0 c.runner-runner.ensures.runner) }

pub returns : goal.returns
returns g c =
    let x = parts_of g.M.PhysMem.ram c.self.inside in
    c.asks_back.ensures
    ∙ asked-is x c.self.invariant c.runner-runner.result c.runner-runner.ensures.runner c.descriptor_call-call.result c.args.transfer
    (c.descriptor_call-call.ensures ∙ sym (ap (λ (seen : Managed). call_of seen.state c.args.transfer) c.self.view_is))
    ∙ ap (λ (seen : Managed). asks_back seen.state c.args.transfer) c.self.view_is
