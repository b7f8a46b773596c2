-- SPDX-License-Identifier: MIT OR Apache-2.0
use Rattle.std.proofs.Common.{◌∙◌, Some, ap}
use Rattle.std.specs.Option.{option_map}
use Rattle.std.specs.Prelude.{slice_index}
use Rattle.ffa_mend.specs.declared.explained.Explained.{Explained}
use Rattle.ffa_model.specs.declared.call.Call as calls
use Rattle.ffa_model.specs.declared.refusal.Refusal.{Refusal}
use Rattle.ffa_model.specs.Calls.{first_refusal}
use Rattle.ffa_model.specs.Registers.{low, decode}
use Rattle.ffa_model.specs.Step.{service}
use Rattle.ffa_reasons.specs.Explanation.{call_told, check_explanation}
use Rattle.ffa_reasons.proofs.Explanations.{firsts}
use Rattle.ffa_reasons.proofs.reasons.Reasons.why_call.Goals as goal

pub returns : goal.returns
returns g c =
    let s = c.args.self.now in
    let x = c.args.x in
    let its = c.in_ok-refusal in
    let first = ap (option_map (λ (its : Refusal × Explained). its.0)) its.ensures ∙ firsts (call_told s c.decode-call.result) _ in
    ap Some c.explain.ensures
    ∙ (λ i. Some (check_explanation s (c.low.ensures i) (c.decode-call.ensures i) its.refusal))
    ∙ ap (option_map (check_explanation s (low (slice_index x 0)) (decode x)))
    (first ∙ ap (λ (call : calls.Call). first_refusal (service s call).guards) c.decode-call.ensures)
