-- SPDX-License-Identifier: MIT OR Apache-2.0
use Rattle.std.proofs.Common.{◌∙◌, ap, refl, sym}
use Rattle.std.specs.Option.{option_map}
use Rattle.ffa_memshare.specs.declared.descriptor_call.DescriptorCall.{DescriptorCall}
use Rattle.ffa_memshare.specs.Found.{sent_told}
use Rattle.ffa_model.specs.Calls.{first_refusal}
use Rattle.ffa_model.specs.MemorySend.{descriptor_in, memory_send}
use Rattle.ffa_model.specs.State.{State, version_of}
use Rattle.ffa_model.specs.Transactions.{scene_of}
use Rattle.ffa_spmc.specs.Lent.{lent_parts}
use Rattle.ffa_spmc.proofs.Fills.{caller-is}
use Rattle.ffa_spmc.proofs.Offers.{offer-endpoints}
use Rattle.ffa_reasons.proofs.Told.{seen-in, sent-told}
use Rattle.ffa_reasons.proofs.reasons.Reasons.why_send.Goals as goal

pub returns : goal.returns
returns g c =
    let x = lent_parts g.M.PhysMem.ram c.self.inside.parts in
    let view = c.self.invariant.state ∙ c.self.view_is in
    let its : DescriptorCall = record { transfer = c.args.transfer; ffa = x.manifest.ffa; version = c.version-version.result } in
    seen-in x c.args.self.now view
    (λ (s : State). option_map (sent_told (scene_of s) s.runner s.ffa c.args.kind c.args.transfer (descriptor_in s c.args.transfer.total)) (first_refusal (memory_send s c.args.kind c.args.transfer).guards))
    c.why_send.result
    (c.why_send.ensures ∙ sent-told x c.self.invariant.managed c.runner-runner.result.0 c.runner-runner.ensures.runner its
    (c.version-version.ensures ∙ sym (ap (λ (s : State). version_of s s.runner) view)) c.args.kind refl)

pub why_send-requires-clause-caller : goal.why_send-requires-clause-caller
why_send-requires-clause-caller g c =
    let x = lent_parts g.M.PhysMem.ram c.self.inside.parts in
    caller-is x c.self.invariant.managed c.runner-runner.result.0 c.runner-runner.ensures.runner

pub why_send-requires-clause-endpoints : goal.why_send-requires-clause-endpoints
why_send-requires-clause-endpoints g c =
    let x = lent_parts g.M.PhysMem.ram c.self.inside.parts in
    offer-endpoints x c.self.invariant.managed
