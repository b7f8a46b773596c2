-- SPDX-License-Identifier: MIT OR Apache-2.0
use Rattle.std.proofs.Common.{◌≡◌, ◌∙◌, of_calls, length, Some, sym, [], ◌∷◌}
use Rattle.std.specs.List.{list_all}
use Rattle.std.specs.Result.{result_err}
use Rattle.ffa_model.specs.declared.refusal.Refusal.TheVariants.{BitsTaken}
use Rattle.ffa_model.specs.Bits.{bits_of}
use Rattle.ffa_model.specs.Calls.{first_refusal}
use Rattle.ffa_model.specs.Notifications.{is_bindable}
use Rattle.ffa_notify.proofs.bitmaps.Bitmaps.check_bind.Goals as goal

pub returns-in_err-check_sender-clause-refusal : goal.returns-in_err-check_sender-clause-refusal
returns-in_err-check_sender-clause-refusal c =
    let v = c.args.self.now in
    let refusal : result_err c.from_residual.result ≡ Some c.in_err-check_sender.field-0.0 = search of_calls in
    refusal ∙ sym (c.in_err-check_sender.ensures.refused ((list_all (is_bindable (length v.bitmaps) v c.args.caller.0 c.args.bits.now.sender.0) (bits_of c.args.bits.now.bitmap), BitsTaken) ∷ []))

pub returns-then-not-is_bindable-clause-refusal : goal.returns-then-not-is_bindable-clause-refusal
returns-then-not-is_bindable-clause-refusal c =
    let v = c.args.self.now in
    let test = list_all (is_bindable (length v.bitmaps) v c.args.caller.0 c.args.bits.now.sender.0) (bits_of c.args.bits.now.bitmap) in
    let fails = sym c.if-not-is_bindable.true ∙ c.is_bindable.ensures in
    sym (c.in_ok-check_sender.ensures.passed ((test, BitsTaken) ∷ []) ∙ (λ t. first_refusal ((sym fails t, BitsTaken) ∷ [])))

pub returns-clause-refusal : goal.returns-clause-refusal
returns-clause-refusal c =
    let v = c.args.self.now in
    let test = list_all (is_bindable (length v.bitmaps) v c.args.caller.0 c.args.bits.now.sender.0) (bits_of c.args.bits.now.bitmap) in
    let passes = sym c.if-not-is_bindable.false ∙ c.is_bindable.ensures in
    sym (c.in_ok-check_sender.ensures.passed ((test, BitsTaken) ∷ []) ∙ (λ t. first_refusal ((sym passes t, BitsTaken) ∷ [])))
