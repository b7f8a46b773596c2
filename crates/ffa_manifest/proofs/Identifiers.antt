-- SPDX-License-Identifier: MIT OR Apache-2.0
-- Texts that are no identifier.
use Rattle.std.proofs.Common.{◌≡◌, ℕ, zero, suc, ◌==◌, ◌&&◌, List, [], ◌∷◌, length, replicate, Option, Some, None, Result, Ok, Err, IsOk, ◌↔◌, refl, ap, arith, bytes_eq}
use Rattle.ffa_model.specs.Manifest.{is_nil}

none_of : {X : Type 0} (o : Option X) → ((x : X) → o ≡ Some x → ⊥) → o ≡ None
none_of None h = refl
none_of (Some x) h = absurd (h x refl)

-- what a parse that failed says
pub not_parsed : {X E B : Type 0} (r : Result X E) (o : Option B) (e : E) → r ≡ Err e → (IsOk r ↔ ((u : B) × (o ≡ Some u))) → o ≡ None
not_parsed (Ok x) o e is told = cc
not_parsed (Err d) o e is told = none_of o (λ u p. let h = told.1 (u, p) in cc)

-- bytes that equal as many zeros are the Nil UUID's
pub is_nil-zeros : (n : ℕ) (bytes : List ℕ) → length bytes ≡ n → bytes_eq bytes (replicate n 0) ≡ is_nil bytes
is_nil-zeros zero [] h = refl
is_nil-zeros (suc n) (b ∷ bytes) h = ap (λ rest. (b == 0) && rest) (is_nil-zeros n bytes (omega arith))
is_nil-zeros _ _ h = absurd (omega arith)
