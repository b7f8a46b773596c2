-- SPDX-License-Identifier: MIT OR Apache-2.0
-- Checks that others follow.
use Rattle.std.proofs.Common.{◌≡◌, Bool, true, false, List, [], ◌∷◌, ◌++◌, Some, None, refl, sym}
use Rattle.std.proofs.lemmas.Option.{none-some}
use Rattle.ffa_model.specs.declared.refusal.Refusal.{Refusal}
use Rattle.ffa_model.specs.Calls.{first_refusal}

-- where all of them pass, one of the others is the first that fails
pub first-pass : (checks others : List (Bool × Refusal)) → None ≡ first_refusal checks → first_refusal others ≡ first_refusal (checks ++ others)
first-pass [] others none = refl
first-pass ((true, name) ∷ checks) others none = first-pass checks others none
first-pass ((false, name) ∷ checks) others none = absurd (none-some name none)

-- and else it is one of them
pub first-fail : (checks others : List (Bool × Refusal)) (refusal : Refusal) → Some refusal ≡ first_refusal checks → Some refusal ≡ first_refusal (checks ++ others)
first-fail [] others refusal some = absurd (none-some refusal (sym some))
first-fail ((true, name) ∷ checks) others refusal some = first-fail checks others refusal some
first-fail ((false, name) ∷ checks) others refusal some = some
