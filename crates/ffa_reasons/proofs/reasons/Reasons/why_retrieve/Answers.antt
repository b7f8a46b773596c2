-- SPDX-License-Identifier: MIT OR Apache-2.0
use Rattle.std.proofs.Common.{◌∙◌, ap, sym}
use Rattle.ffa_memshare.specs.declared.descriptor_call.DescriptorCall.{DescriptorCall}
use Rattle.ffa_memshare.proofs.Asks.{shared-placed}
use Rattle.ffa_model.specs.declared.call.Call.TheVariants.{MemRetrieve}
use Rattle.ffa_model.specs.Calls.{first_refusal}
use Rattle.ffa_model.specs.HypervisorRetrieve.{memory_retrieve}
use Rattle.ffa_model.specs.State.{State, version_of}
use Rattle.ffa_spmc.specs.Lent.{lent_parts}
use Rattle.ffa_spmc.proofs.Fills.{caller-is, in-ram, runner-there}
use Rattle.ffa_spmc.proofs.Pools.{pool-shared}
use Rattle.ffa_spmc.proofs.ReadBacks.{asked-is}
use Rattle.ffa_reasons.specs.Explanation.{with_told}
use Rattle.ffa_reasons.proofs.Told.{asked-back-told, retrieve-told, seen-in}
use Rattle.ffa_reasons.proofs.reasons.Reasons.why_retrieve.Goals as goal

pub asks_back-requires : goal.asks_back-requires
asks_back-requires g c =
    let x = lent_parts g.M.PhysMem.ram c.self.inside.parts in
    record { tx = in-ram x c.self.invariant.managed c.runner-runner.result.0 (runner-there x c.self.invariant.managed c.runner-runner.result.0 c.runner-runner.ensures.runner) }

pub why_read_back-requires-clause-caller : goal.why_read_back-requires-clause-caller
why_read_back-requires-clause-caller g c =
    let x = lent_parts g.M.PhysMem.ram c.self.inside.parts in
    caller-is x c.self.invariant.managed c.runner-runner.result.0 c.runner-runner.ensures.runner

pub why_read_back-requires-clause-asked : goal.why_read_back-requires-clause-asked
why_read_back-requires-clause-asked g c = sym c.asks_back.ensures ∙ c.if-asks_back.true

pub returns-then-asks_back : goal.returns-then-asks_back
returns-then-asks_back g c =
    let x = lent_parts g.M.PhysMem.ram c.self.inside.parts in
    let view = c.self.invariant.state ∙ c.self.view_is in
    let alike = c.ffa.ensures ∙ sym (ap (λ (s : State). s.ffa) view) in
    let spoken = c.version.ensures ∙ sym (ap (λ (s : State). version_of s s.runner) view) in
    let its : DescriptorCall = record { transfer = c.args.transfer; ffa = c.ffa.result; version = c.version.result } in
    let same = asked-is x c.self.invariant.managed c.runner-runner.result c.runner-runner.ensures.runner its c.args.transfer (λ i. record { transfer = c.args.transfer; ffa = alike i; version = spoken i }) in
    seen-in x c.args.self.now view (λ (s : State). with_told s (MemRetrieve c.args.transfer) (first_refusal (memory_retrieve s c.args.transfer).guards)) c.why_read_back.result
    (c.why_read_back.ensures ∙ asked-back-told x c.self.invariant.managed c.runner-runner.result.0 c.runner-runner.ensures.runner its spoken
    alike (sym same ∙ sym c.asks_back.ensures ∙ c.if-asks_back.true))

pub returns : goal.returns
returns g c =
    let x = lent_parts g.M.PhysMem.ram c.self.inside.parts in
    let view = c.self.invariant.state ∙ c.self.view_is in
    let alike = c.ffa.ensures ∙ sym (ap (λ (s : State). s.ffa) view) in
    let spoken = c.version.ensures ∙ sym (ap (λ (s : State). version_of s s.runner) view) in
    let its : DescriptorCall = record { transfer = c.args.transfer; ffa = c.ffa.result; version = c.version.result } in
    let same = asked-is x c.self.invariant.managed c.runner-runner.result c.runner-runner.ensures.runner its c.args.transfer (λ i. record { transfer = c.args.transfer; ffa = alike i; version = spoken i }) in
    seen-in x c.args.self.now view (λ (s : State). with_told s (MemRetrieve c.args.transfer) (first_refusal (memory_retrieve s c.args.transfer).guards)) c.why_retrieve.result
    (c.why_retrieve.ensures ∙ retrieve-told x c.self.invariant.managed c.runner-runner.result.0 c.runner-runner.ensures.runner its spoken
    alike (sym same ∙ sym c.asks_back.ensures ∙ c.if-asks_back.false))

pub why_retrieve-requires-clause-caller : goal.why_retrieve-requires-clause-caller
why_retrieve-requires-clause-caller g c =
    let x = lent_parts g.M.PhysMem.ram c.self.inside.parts in
    caller-is x c.self.invariant.managed c.runner-runner.result.0 c.runner-runner.ensures.runner

pub why_retrieve-requires-clause-placed : goal.why_retrieve-requires-clause-placed
why_retrieve-requires-clause-placed g c =
    let x = lent_parts g.M.PhysMem.ram c.self.inside.parts in
    shared-placed (pool-shared x c.self.invariant.managed)
