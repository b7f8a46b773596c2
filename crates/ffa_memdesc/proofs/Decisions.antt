-- SPDX-License-Identifier: MIT OR Apache-2.0
-- Tests that decide facts, and what they let through.
use Rattle.std.proofs.Common.{◌≡◌, ◌≢◌, ◌⊎◌, ℕ, Bool, true, not, ◌||◌, cond, eqb, Some, None, refl, ap, inl, inr}
use Rattle.std.proofs.lemmas.Bool.{or_cases, not-true, eqb-true, eqb-false, eq-eqb, ne_eqb, or_left, or_right}

pub cond_true : {A : Type 0} (t : Bool) (x : A) → t ≡ true → cond t (Some x) None ≡ Some x
cond_true t x e = rw e refl

pub differ : (x y : ℕ) → not (eqb x y) ≡ true → x ≢ y
differ x y e = eqb-false x y (not-true _ e)

pub differ_again : (x y : ℕ) → x ≢ y → not (eqb x y) ≡ true
differ_again x y h = ap not (ne_eqb x y h)

pub either_told : (p m n : ℕ) → (eqb p m || eqb p n) ≡ true → (p ≡ m) ⊎ (p ≡ n)
either_told p m n e = elim (or_cases _ _ e) [ inl a ↦ inl (eqb-true _ _ a) | inr a ↦ inr (eqb-true _ _ a) ]

pub either_again : (p m n : ℕ) → (p ≡ m) ⊎ (p ≡ n) → (eqb p m || eqb p n) ≡ true
either_again p m n (inl a) = or_left _ _ (eq-eqb _ _ a)
either_again p m n (inr a) = or_right _ _ (eq-eqb _ _ a)

pub either_true : (x y : Bool) → (x ≡ true) ⊎ (y ≡ true) → (x || y) ≡ true
either_true x y (inl a) = or_left x y a
either_true x y (inr a) = or_right x y a
