-- SPDX-License-Identifier: MIT OR Apache-2.0
use Rattle.std.proofs.Common.{◌≡◌, ◌∙◌, None, Option, ap, subst, sym}
use Rattle.std.specs.Option.{option_map}
use Rattle.ffa_mend.specs.Explained.{explained}
use Rattle.ffa_model.specs.declared.call.Call.{Call}
use Rattle.ffa_model.specs.declared.refusal.Refusal.{Refusal}
use Rattle.ffa_model.specs.Calls.{first_refusal}
use Rattle.ffa_model.specs.Step.{service}
use Rattle.ffa_reasons.specs.Explanation.{with_told}
use Rattle.ffa_reasons.proofs.reasons.Reasons.refusal.Goals as goal

pub returns-in-NotificationInfoGet : goal.returns-in-NotificationInfoGet
returns-in-NotificationInfoGet g c =
    let s = c.args.self.now in
    let its = c.in-NotificationInfoGet in
    subst (λ (call : Call). c.bare-in-NotificationInfoGet.result ≡ with_told s call (first_refusal (service s call).guards)) (sym its.is)
    (c.bare-in-NotificationInfoGet.ensures ∙ ap (option_map (λ (refusal : Refusal). (refusal, explained None None None))) (c.notice_refusal.ensures its.is_wide))
