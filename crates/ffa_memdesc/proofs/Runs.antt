-- SPDX-License-Identifier: MIT OR Apache-2.0
-- Elements that are written one after another.
use Rattle.std.proofs.Common.{◌≡◌, ℕ, ◌+◌, ◌*◌, ◌<◌, List, [], ◌∷◌, ◌++◌, length, get_or, take, sym, ap, ◌∙◌, subst, arith, append_assoc}
use Rattle.std.specs.List.{flat_map}
use Rattle.std.proofs.lemmas.List.{take_more, take_all, append-nil}
use Rattle.std.proofs.lemmas.List.Concat.{flat_map-append}
use Rattle.ffa_memdesc.specs.Writing.{Wrote}

one_more : {X : Type 0} (f : X → List ℕ) (xs : List X) (i : ℕ) (d : X) → i < length xs → flat_map f (take (i + 1) xs) ≡ flat_map f (take i xs) ++ f (get_or xs i d)
one_more {X} f xs i d lt =
    ap (λ (l : List X). flat_map f l) (take_more xs i d lt) ∙ flat_map-append f (take i xs) (get_or xs i d ∷ [])
    ∙ ap (λ (l : List ℕ). flat_map f (take i xs) ++ l) (append-nil (f (get_or xs i d)))

pub goes_on : {X : Type 0} (f : X → List ℕ) (old front : List ℕ) (at : ℕ) (xs : List X) (i : ℕ) (d : X) (new : List ℕ) → i < length xs
    → Wrote old ((front ++ flat_map f (take i xs)) ++ f (get_or xs i d)) (at + 16 * i + 16) new → Wrote old (front ++ flat_map f (take (i + 1) xs)) (at + 16 * (i + 1)) new
goes_on f old front at xs i d new lt w =
    let further : at + 16 * i + 16 ≡ at + 16 * (i + 1) = omega arith in
    let joined : (front ++ flat_map f (take i xs)) ++ f (get_or xs i d) ≡ front ++ flat_map f (take (i + 1) xs) =
    append_assoc front (flat_map f (take i xs)) (f (get_or xs i d)) ∙ ap (λ (l : List ℕ). front ++ l) (sym (one_more f xs i d lt)) in
    subst (λ (n : ℕ). Wrote old (front ++ flat_map f (take (i + 1) xs)) n new) further (subst (λ (l : List ℕ). Wrote old l (at + 16 * i + 16) new) joined w)

pub ends : {X : Type 0} (f : X → List ℕ) (old front : List ℕ) (at : ℕ) (xs : List X) (i : ℕ) (new : List ℕ) → i ≡ length xs
    → Wrote old (front ++ flat_map f (take i xs)) (at + 16 * i) new → Wrote old (front ++ flat_map f xs) (at + 16 * length xs) new
ends {X} f old front at xs i new e w =
    let whole : take i xs ≡ xs = take_all i xs (omega arith) in
    subst (λ (n : ℕ). Wrote old (front ++ flat_map f xs) (at + 16 * n) new) e (subst (λ (l : List X). Wrote old (front ++ flat_map f l) (at + 16 * i) new) whole w)
