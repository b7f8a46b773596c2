-- SPDX-License-Identifier: MIT OR Apache-2.0
-- Texts that are no UUID.
use Rattle.std.proofs.Common.{◌≡◌, Option, Some, None, Result, Ok, Err, IsOk, ◌↔◌, refl}

none_of : {X : Type 0} (o : Option X) → ((x : X) → o ≡ Some x → ⊥) → o ≡ None
none_of None h = refl
none_of (Some x) h = absurd (h x refl)

-- what a parse that failed says
pub not_parsed : {X E B : Type 0} (r : Result X E) (o : Option B) (e : E) → r ≡ Err e → (IsOk r ↔ ((u : B) × (o ≡ Some u))) → o ≡ None
not_parsed (Ok x) o e is told = cc
not_parsed (Err d) o e is told = none_of o (λ u p. let h = told.1 (u, p) in cc)
