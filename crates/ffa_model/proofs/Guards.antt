-- SPDX-License-Identifier: MIT OR Apache-2.0
-- Guards in order.
use Rattle.std.proofs.Common.{◌≡◌, ℕ, zero, suc, Bool, true, false, List, [], ◌∷◌, get_or, Some, None, refl, ap, sym, ◌∙◌, Option, Result, Ok, Err, IsErrAnd}
use Rattle.std.specs.Option.{option_map}
use Rattle.std.specs.Result.{result_err}
use Rattle.ffa_model.specs.declared.operation.ErrorCode.{ErrorCode}
use Rattle.ffa_model.specs.declared.refusal.Refusal.{Refusal}
use Rattle.ffa_model.specs.declared.refusal.Refusal.TheVariants.{FunctionUnknown, FlagsReserved, TransactionsFull, RxFull, RxEmpty}
use Rattle.ffa_model.specs.RefusalCodes.{code_of}
use Rattle.ffa_model.specs.Calls.{first_failure, first_refusal}

-- a check of each code, where only the code counts
abbrev pub invalid : Refusal
invalid = FlagsReserved

abbrev pub no_memory : Refusal
no_memory = TransactionsFull

abbrev pub busy : Refusal
busy = RxFull

abbrev pub denied : Refusal
denied = RxEmpty

-- what a call answers is the code of the check that fails first
pub failure-code : (guards : List (Bool × Refusal)) → first_failure guards ≡ option_map code_of (first_refusal guards)
failure-code [] = refl
failure-code ((true, one) ∷ guards) = failure-code guards
failure-code ((false, one) ∷ guards) = refl

-- so a call answers as its guards say, where its checks pass, and where it answers the code of the check that fails first
pub answers-pass : (guards : List (Bool × Refusal)) → None ≡ first_refusal guards → None ≡ first_failure guards
answers-pass guards is = ap (λ (o : Option Refusal). option_map code_of o) is ∙ sym (failure-code guards)

pub answers-code : {T : Type 0} (guards : List (Bool × Refusal)) (refusal : Refusal) (answer : Result T ErrorCode) → Some refusal ≡ first_refusal guards
    → IsErrAnd answer (λ code. code ≡ code_of refusal) → result_err answer ≡ first_failure guards
answers-code guards refusal (Ok x) is code = absurd code
answers-code guards refusal (Err e) is code =
    ap (λ (o : ErrorCode). Some o) code ∙ ap (λ (o : Option Refusal). option_map code_of o) is ∙ sym (failure-code guards)

-- where no guard fails, each passes
pub guard-passes : (guards : List (Bool × Refusal)) (k : ℕ) → None ≡ first_failure guards → (get_or guards k (true, FunctionUnknown)).0 ≡ true
guard-passes [] k none = refl
guard-passes ((true, one) ∷ guards) zero none = refl
guard-passes ((true, one) ∷ guards) (suc k) none = guard-passes guards k none
guard-passes ((false, one) ∷ guards) k none = absurd (none_some none)
  where
    none_some : None ≡ Some (code_of one) → ⊥
    none_some e = cc
