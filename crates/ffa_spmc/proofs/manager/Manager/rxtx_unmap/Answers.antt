-- SPDX-License-Identifier: MIT OR Apache-2.0
use Rattle.std.proofs.Common.{◌∙◌, ap, refl}
use Rattle.ffa_model.specs.declared.call.Reply.{Reply}
use Rattle.ffa_model.specs.declared.call.Call.TheVariants.{RxtxUnmap}
use Rattle.ffa_model.specs.Calls.{Stepped, replied}
use Rattle.ffa_spmc.proofs.Machines.{machine-called}
use Rattle.ffa_model.specs.Buffers.{rxtx_unmap}
use Rattle.ffa_spmc.proofs.BufferCalls.{unmapped, with_list}
use Rattle.ffa_spmc.proofs.Fills.{known-buffered, runner-there}
use Rattle.std.specs.Prelude.{List, Option}
use Rattle.ffa_model.specs.State.{Buffers, State}
use Rattle.ffa_spmc.proofs.Answered.{refused-so}
use Rattle.ffa_spmc.proofs.Replied.{refused-done, replied-beside}
use Rattle.ffa_spmc.proofs.Inside.{parts_of}
use Rattle.ffa_spmc.proofs.manager.Manager.rxtx_unmap.Goals as goal

pub unmap-requires : goal.unmap-requires
unmap-requires g c =
    let x = parts_of g.M.PhysMem.ram c.self.inside in
    known-buffered x c.self.invariant c.runner-runner.result.0 (runner-there x c.self.invariant c.runner-runner.result.0 c.runner-runner.ensures.runner)

pub invariant_of-self : goal.invariant_of-self
invariant_of-self g c =
    let x = parts_of g.M.PhysMem.ram c.self.inside in
    machine-called x x.ram c.unmap.new.self x.kept.chain c.self.invariant c.self.invariant.tables (RxtxUnmap c.args.endpoint)
    (ap (λ (st : Stepped). st.state) (unmapped x c.self.invariant c.runner-runner.result.0 c.runner-runner.ensures.runner c.unmap.result c.unmap.new.self c.unmap.ensures.kept c.args.endpoint c.unmap.ensures.refusal c.unmap.ensures.unmapped))

pub returns : goal.returns
returns g c =
    let x = parts_of g.M.PhysMem.ram c.self.inside in
    replied-beside x (record x { kept = record x.kept { buffers = c.unmap.new.self } }) c.args.self.now c.self.view_is (λ (s : State). rxtx_unmap s c.args.endpoint) c.done_or_error.result
    (ap (λ (reply : Reply). replied (with_list x c.self.invariant c.runner-runner.result.0 c.runner-runner.ensures.runner c.unmap.result c.unmap.new.self c.unmap.ensures.kept c.unmap.new.self) reply) c.done_or_error.ensures
    ∙ unmapped x c.self.invariant c.runner-runner.result.0 c.runner-runner.ensures.runner c.unmap.result c.unmap.new.self c.unmap.ensures.kept c.args.endpoint c.unmap.ensures.refusal c.unmap.ensures.unmapped)
    (refused-done c.unmap.result c.done_or_error.result c.done_or_error.ensures (refused-so c.unmap.result (ap (λ (buffers : List (Option Buffers)). record x { kept = record x.kept { buffers = buffers } })) c.unmap.ensures.kept))
    refl
