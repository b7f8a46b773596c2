-- SPDX-License-Identifier: MIT OR Apache-2.0
use Rattle.std.proofs.Common.{◌≡◌, ◌∙◌, Bool, true, false, cond, [], ◌∷◌, Some, refl, sym, ap}
use Rattle.std.specs.Result.{result_err}
use Rattle.ffa_setup.proofs.replies.features.Goals as goal
use Rattle.std.proofs.lemmas.Option.{none-some, same_Some}
use Rattle.ffa_model.specs.Calls.{first_refusal}
use Rattle.ffa_model.specs.RefusalCodes.{code_of}
use Rattle.ffa_model.specs.Setup.{may_call}
use Rattle.ffa_model.specs.declared.call.Reply.{Reply}
use Rattle.ffa_model.specs.declared.call.Reply.TheVariants.{Error}
use Rattle.ffa_model.specs.declared.operation.ErrorCode.TheVariants.{NotSupported}
use Rattle.ffa_model.specs.declared.refusal.Refusal.{Refusal}
use Rattle.ffa_model.specs.declared.refusal.Refusal.TheVariants.{FunctionUnknown}

-- where the check fails, the caller may not make the call
not-told : (may : Bool) (told : Reply) (refusal : Refusal) → Some refusal ≡ first_refusal ((may, FunctionUnknown) ∷ [])
    → Error (code_of refusal) ≡ cond may told (Error NotSupported)
not-told true told refusal is = absurd (none-some refusal (sym is))
not-told false told refusal is = ap (λ r. Error (code_of r)) (same_Some refusal FunctionUnknown is)

pub returns-in-Err : goal.returns-in-Err
returns-in-Err c =
    ap Error c.code.ensures
    ∙ not-told (may_call c.args.ffa c.args.caller.0 c.args.function) _ c.in-Err.refusal (sym (ap result_err c.in-Err.is) ∙ c.check_features.ensures)
