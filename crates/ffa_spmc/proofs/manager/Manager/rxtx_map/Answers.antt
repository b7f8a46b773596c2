-- SPDX-License-Identifier: MIT OR Apache-2.0
use Rattle.std.proofs.Common.{◌∙◌, ap, refl}
use Rattle.ffa_model.specs.declared.call.Reply.{Reply}
use Rattle.ffa_model.specs.declared.call.Call.TheVariants.{RxtxMap}
use Rattle.ffa_model.specs.Calls.{Stepped, replied}
use Rattle.ffa_spmc.proofs.Machines.{machine-called}
use Rattle.ffa_model.specs.Buffers.{rxtx_map}
use Rattle.ffa_spmc.proofs.BufferCalls.{mapped, with_list}
use Rattle.ffa_spmc.proofs.Fills.{known-buffered, runner-there}
use Rattle.std.specs.Prelude.{List, Option}
use Rattle.ffa_model.specs.State.{Buffers, State}
use Rattle.ffa_spmc.proofs.Answered.{refused-so}
use Rattle.ffa_spmc.proofs.Replied.{refused-done, replied-beside}
use Rattle.ffa_spmc.specs.Meaning.{Parts}
use Rattle.ffa_spmc.proofs.Inside.{parts_of}
use Rattle.ffa_spmc.proofs.manager.Manager.rxtx_map.Goals as goal

pub map-requires-clause-known : goal.map-requires-clause-known
map-requires-clause-known g c =
    let x = parts_of g.M.PhysMem.ram c.self.inside in
    known-buffered x c.self.invariant c.runner-runner.result.0 (runner-there x c.self.invariant c.runner-runner.result.0 c.runner-runner.ensures.runner)

pub invariant_of-self : goal.invariant_of-self
invariant_of-self g c =
    let x = parts_of g.M.PhysMem.ram c.self.inside in
    (machine-called x x.ram c.map.new.self x.kept.chain c.self.invariant c.self.invariant.tables (RxtxMap c.args.tx c.args.rx c.args.pages)
    (ap (λ (st : Stepped). st.state) (mapped x c.self.invariant c.runner-runner.result.0 c.runner-runner.ensures.runner c.map.result c.map.new.self c.map.ensures.kept c.args.tx c.args.rx c.args.pages c.map.ensures.refusal c.map.ensures.mapped)))

pub returns : goal.returns
returns g c =
    let x = parts_of g.M.PhysMem.ram c.self.inside in
    let y : Parts = record x { kept = record x.kept { buffers = c.map.new.self } } in
    (replied-beside x y c.args.self.now c.self.view_is (λ (s : State). rxtx_map s c.args.tx c.args.rx c.args.pages) c.done_or_error.result
    (ap (λ (reply : Reply). replied (with_list x c.self.invariant c.runner-runner.result.0 c.runner-runner.ensures.runner c.map.result c.map.new.self c.map.ensures.kept c.map.new.self) reply) c.done_or_error.ensures
    ∙ mapped x c.self.invariant c.runner-runner.result.0 c.runner-runner.ensures.runner c.map.result c.map.new.self c.map.ensures.kept c.args.tx c.args.rx c.args.pages c.map.ensures.refusal c.map.ensures.mapped)
    (refused-done c.map.result c.done_or_error.result c.done_or_error.ensures (refused-so c.map.result (ap (λ (buffers : List (Option Buffers)). record x { kept = record x.kept { buffers = buffers } })) c.map.ensures.kept))
    refl)
