-- SPDX-License-Identifier: MIT OR Apache-2.0
-- Lists of a function's values, one more at the end.
use Rattle.std.proofs.Common.{◌≡◌, ℕ, zero, suc, ◌+◌, ◌<◌, Bool, true, false, List, [], ◌∷◌, ◌++◌, sym, ap, ◌∙◌, arith, refl, append_assoc, append-nil, ◌&&◌}
use Rattle.std.specs.List.{list_all, flat_map}
use Rattle.std.proofs.lemmas.List.Folds.{list_all-append}
use Rattle.std.proofs.lemmas.Grind.{flat_map-append}
use Rattle.ffa_model.specs.Lists.{listed}
use Rattle.ffa_model.proofs.Listed.{listed-more}

either : (b : Bool) → b && false ≡ false
either true = refl
either false = refl

module _ {X : Type 0} where
  -- one more that passes
  pub all_more : (p : X → Bool) (f : ℕ → X) (n : ℕ) → list_all p (listed n f) ≡ true → p (f n) ≡ true → list_all p (listed (n + 1) f) ≡ true
  all_more p f n h e = ap (list_all p) (listed-more n f) ∙ list_all-append p (listed n f) (f n ∷ []) ∙ rw (h, e) refl

  -- one that doesn't
  pub one_fails : (p : X → Bool) (f : ℕ → X) (i n : ℕ) → i < n → p (f i) ≡ false → list_all p (listed n f) ≡ false
  one_fails p f i zero h e = absurd (omega (arith, h))
  one_fails p f zero (suc n) h e = rw e refl
  one_fails p f (suc i) (suc n) h e = rw (one_fails p (λ k. f (suc k)) i n (omega (arith, h)) e) (either (p (f 0)))

  -- lists made of the values, one after another
  pub parts_more : {A : Type 0} (part : X → List A) (f : ℕ → X) (n : ℕ) (before now after : List A) → now ≡ before ++ flat_map part (listed n f)
      → after ≡ now ++ part (f n) → after ≡ before ++ flat_map part (listed (n + 1) f)
  parts_more part f n before now after h e =
      e ∙ ap (λ l. l ++ part (f n)) h ∙ append_assoc before (flat_map part (listed n f)) (part (f n))
      ∙ ap (λ l. before ++ l) (sym (ap (flat_map part) (listed-more n f) ∙ flat_map-append part (listed n f) (f n ∷ []) ∙ ap (λ l. flat_map part (listed n f) ++ l) (append-nil (part (f n)))))

module _ {X : Type 0} where
  -- five pieces put behind a list one after another
  pub five_pieces : (l a b c d e : List X) → ((((l ++ a) ++ b) ++ c) ++ d) ++ e ≡ l ++ ((a ++ (b ++ (c ++ d))) ++ e)
  five_pieces l a b c d e =
      ap (λ k. k ++ e) (ap (λ k. (k ++ c) ++ d) (append_assoc l a b) ∙ ap (λ k. k ++ d) (append_assoc l (a ++ b) c) ∙ append_assoc l ((a ++ b) ++ c) d
      ∙ ap (λ k. l ++ k) (append_assoc (a ++ b) c d ∙ append_assoc a b (c ++ d)))
      ∙ append_assoc l (a ++ (b ++ (c ++ d))) e

  -- four pieces
  pub four_pieces : (l a b c d : List X) → (((l ++ a) ++ b) ++ c) ++ d ≡ l ++ (((a ++ b) ++ c) ++ d)
  four_pieces l a b c d =
      ap (λ k. k ++ d) (ap (λ k. k ++ c) (append_assoc l a b) ∙ append_assoc l (a ++ b) c) ∙ append_assoc l ((a ++ b) ++ c) d
