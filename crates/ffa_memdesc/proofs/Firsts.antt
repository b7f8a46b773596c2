-- SPDX-License-Identifier: MIT OR Apache-2.0
-- The first of some flaws, and what is broken where it is told.
use Rattle.std.proofs.Common.{◌≡◌, ℕ, zero, suc, ◌<◌, Bool, true, false, cond, Option, Some, None, refl, sym, ap, ◌∙◌, subst, arith, inl, inr, ◌⊎◌}
use Rattle.std.specs.Option.{option_or}
use Rattle.std.proofs.lemmas.Option.{same_Some, none-some}
use Rattle.ffa_model.specs.declared.flaw.Flaw.{Flaw}
use Rattle.ffa_model.specs.FirstFlaws.{first_of}

-- one of two: the first where it is told, else the second
pub or_first : {X : Type 0} (o p : Option X) (x : X) → Some x ≡ o → Some x ≡ option_or o p
or_first o p x e = ap (λ q. option_or q p) e

pub or_second : {X : Type 0} (o p q : Option X) → None ≡ o → q ≡ p → q ≡ option_or o p
or_second o p q none e = e ∙ ap (λ r. option_or r p) none

pub or_told : {X : Type 0} (o p : Option X) (x : X) → Some x ≡ option_or o p → (Some x ≡ o) ⊎ (Some x ≡ p)
or_told None p x e = inr e
or_told (Some y) p x e = inl e

pub or_none : {X : Type 0} (o p : Option X) → None ≡ option_or o p → (None ≡ o) × (None ≡ p)
or_none None p e = (refl, e)
or_none (Some y) p e = absurd (none-some y e)

-- where none of the first n tells a flaw, the one at n is the first
pub first_none : (n : ℕ) (f : ℕ → Option Flaw) → ((i : ℕ) → i < n → None ≡ f i) → None ≡ first_of n f
first_none zero f none = refl
first_none (suc n) f none =
    or_second (f 0) (first_of n (λ i. f (suc i))) None (none 0 (omega arith)) (first_none n (λ i. f (suc i)) (λ i lt. none (suc i) (omega arith)))

pub first_here : (n : ℕ) (f : ℕ → Option Flaw) (i : ℕ) (flaw : Flaw) → i < n → ((j : ℕ) → j < i → None ≡ f j) → Some flaw ≡ f i → Some flaw ≡ first_of n f
first_here zero f i flaw lt none e = absurd (omega arith)
first_here (suc n) f zero flaw lt none e = or_first (f 0) (first_of n (λ k. f (suc k))) flaw e
first_here (suc n) f (suc i) flaw lt none e =
    or_second (f 0) (first_of n (λ k. f (suc k))) (Some flaw) (none 0 (omega arith))
    (first_here n (λ k. f (suc k)) i flaw (omega arith) (λ j before. none (suc j) (omega arith)) e)

pub first_told : (n : ℕ) (f : ℕ → Option Flaw) (flaw : Flaw) → Some flaw ≡ first_of n f → (i : ℕ) × (i < n) × (Some flaw ≡ f i)
first_told zero f flaw e = absurd (none-some flaw (sym e))
first_told (suc n) f flaw e =
    elim (or_told (f 0) (first_of n (λ k. f (suc k))) flaw e) [
      | inl here ↦ (0, omega arith, here)
      | inr later ↦
          let (i, lt, there) = first_told n (λ k. f (suc k)) flaw later in
          (suc i, omega arith, there)
    ]

-- a condition that fails tells its flaw, and one that holds leaves it to those behind it
pub condition_told : (P : Flaw → Type 0) (t : Bool) (x : Flaw) (behind : Option Flaw) (flaw : Flaw) → Some flaw ≡ cond t behind (Some x)
    → (t ≡ false → P x) → (Some flaw ≡ behind → P flaw) → P flaw
condition_told P true x behind flaw e fails later = later e
condition_told P false x behind flaw e fails later = subst P (sym (same_Some flaw x e)) (fails refl)

-- behind the last condition nothing is told
pub nothing_told : (P : Type 0) (flaw : Flaw) → Some flaw ≡ None → P
nothing_told P flaw e = absurd (none-some flaw (sym e))
