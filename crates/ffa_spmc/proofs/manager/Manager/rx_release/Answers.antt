-- SPDX-License-Identifier: MIT OR Apache-2.0
use Rattle.std.proofs.Common.{◌∙◌, ap, refl}
use Rattle.ffa_model.specs.declared.call.Reply.{Reply}
use Rattle.ffa_model.specs.declared.call.Call.TheVariants.{RxRelease}
use Rattle.ffa_model.specs.Calls.{Stepped, replied}
use Rattle.ffa_spmc.proofs.Machines.{machine-called}
use Rattle.ffa_model.specs.Buffers.{rx_release}
use Rattle.ffa_spmc.proofs.BufferCalls.{released, with_list}
use Rattle.ffa_spmc.proofs.Fills.{known-buffered, runner-there}
use Rattle.std.specs.Prelude.{List, Option}
use Rattle.ffa_model.specs.State.{Buffers, State}
use Rattle.ffa_spmc.proofs.Answered.{refused-so}
use Rattle.ffa_spmc.proofs.Replied.{refused-done, replied-beside}
use Rattle.ffa_spmc.proofs.Inside.{parts_of}
use Rattle.ffa_spmc.proofs.manager.Manager.rx_release.Goals as goal

pub rx_release-requires : goal.rx_release-requires
rx_release-requires g c =
    let x = parts_of g.M.PhysMem.ram c.self.inside in
    known-buffered x c.self.invariant c.runner-runner.result.0 (runner-there x c.self.invariant c.runner-runner.result.0 c.runner-runner.ensures.runner)

pub invariant_of-self : goal.invariant_of-self
invariant_of-self g c =
    let x = parts_of g.M.PhysMem.ram c.self.inside in
    machine-called x x.ram c.rx_release.new.self x.kept.chain c.self.invariant c.self.invariant.tables RxRelease
    (ap (λ (st : Stepped). st.state) (released x c.self.invariant c.runner-runner.result.0 c.runner-runner.ensures.runner c.rx_release.result c.rx_release.new.self c.rx_release.ensures.kept c.rx_release.ensures.refusal c.rx_release.ensures.emptied))

pub returns : goal.returns
returns g c =
    let x = parts_of g.M.PhysMem.ram c.self.inside in
    replied-beside x (record x { kept = record x.kept { buffers = c.rx_release.new.self } }) c.args.self.now c.self.view_is (λ (s : State). rx_release s) c.done_or_error.result
    (ap (λ (reply : Reply). replied (with_list x c.self.invariant c.runner-runner.result.0 c.runner-runner.ensures.runner c.rx_release.result c.rx_release.new.self c.rx_release.ensures.kept c.rx_release.new.self) reply) c.done_or_error.ensures
    ∙ released x c.self.invariant c.runner-runner.result.0 c.runner-runner.ensures.runner c.rx_release.result c.rx_release.new.self c.rx_release.ensures.kept c.rx_release.ensures.refusal c.rx_release.ensures.emptied)
    (refused-done c.rx_release.result c.done_or_error.result c.done_or_error.ensures (refused-so c.rx_release.result (ap (λ (buffers : List (Option Buffers)). record x { kept = record x.kept { buffers = buffers } })) c.rx_release.ensures.kept))
    refl
