-- SPDX-License-Identifier: MIT OR Apache-2.0
use Rattle.std.proofs.Common.{◌≡◌, ◌∙◌, of_calls, None, Some, length, ap}
use Rattle.std.specs.Option.{option_map}
use Rattle.ffa_mend.specs.Explained.{explained}
use Rattle.ffa_mend.specs.Mend.{mend_noticed}
use Rattle.ffa_model.specs.declared.refusal.Refusal.{Refusal}
use Rattle.ffa_model.specs.AboutContents.{about_bits}
use Rattle.ffa_model.specs.Notifications.{notifications_of}
use Rattle.ffa_model.specs.State.{State}
use Rattle.ffa_spmc.specs.Lent.{lent_parts}
use Rattle.ffa_reasons.proofs.Told.{bits-told, seen-in}
use Rattle.ffa_reasons.proofs.reasons.Reasons.why_bits.Goals as goal

pub returns : goal.returns
returns g c =
    let x = lent_parts g.M.PhysMem.ram c.self.inside.parts in
    let view = c.self.invariant.state ∙ c.self.view_is in
    let refusal = c.in_ok-refusal.refusal in
    let s = c.args.self.now in
    let some : Some refusal ≡ c.args.refusal = search of_calls in
    ap (λ told. Some (refusal, told)) (seen-in x s view
    (λ (s : State). explained (about_bits (length s.parties) (notifications_of s) s.runner c.args.call.now refusal) None (mend_noticed s c.args.call.now refusal))
    c.explain_bits-told.result
    (c.explain_bits-told.ensures ∙ bits-told x c.self.invariant.managed c.runner-runner.result.0 c.runner-runner.ensures.runner refusal c.args.call.now))
    ∙ ap (option_map (λ (refusal : Refusal). (refusal, explained (about_bits (length s.parties) (notifications_of s) s.runner c.args.call.now refusal) None (mend_noticed s c.args.call.now refusal)))) some
