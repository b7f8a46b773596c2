-- SPDX-License-Identifier: MIT OR Apache-2.0
-- Access descriptors that are written one after another.
use Rattle.std.proofs.Common.{◌≡◌, ℕ, suc, ◌+◌, ◌<◌, List, [], ◌∷◌, ◌++◌, length, get_or, take, sym, ap, ◌∙◌, subst, arith, append_assoc, flat_map}
use Rattle.std.proofs.lemmas.List.{take_more, take_all, append-nil}
use Rattle.std.proofs.lemmas.List.Concat.{flat_map-append}
use Rattle.ffa_model.specs.declared.endpoint.Version.{Version}
use Rattle.ffa_model.specs.DescriptorPlaces.{accesses_size}
use Rattle.ffa_memdesc.specs.Writing.{Wrote}
use Rattle.play_trace.proofs.Sizes.{accesses}

-- the place of the next one
pub next_place : (version : Version) (at place i size : ℕ) → place ≡ at + accesses_size version i → size ≡ accesses_size version 1
    → place + size ≡ at + accesses_size version (i + 1)
next_place version at place i size is one =
    let next : accesses_size version (i + 1) ≡ accesses_size version (suc i) = ap (accesses_size version) (omega arith) in
    omega (arith, is, one, next, (accesses version).more i)

one_more : {X : Type 0} (f : X → List ℕ) (xs : List X) (i : ℕ) (d : X) → i < length xs → flat_map f (take (i + 1) xs) ≡ flat_map f (take i xs) ++ f (get_or xs i d)
one_more {X} f xs i d lt =
    ap (λ (l : List X). flat_map f l) (take_more xs i d lt) ∙ flat_map-append f (take i xs) (get_or xs i d ∷ [])
    ∙ ap (λ (l : List ℕ). flat_map f (take i xs) ++ l) (append-nil (f (get_or xs i d)))

pub goes_on : {X : Type 0} (f : X → List ℕ) (old front : List ℕ) (xs : List X) (i : ℕ) (d : X) (to : ℕ) (new : List ℕ) → i < length xs
    → Wrote old ((front ++ flat_map f (take i xs)) ++ f (get_or xs i d)) to new → Wrote old (front ++ flat_map f (take (i + 1) xs)) to new
goes_on f old front xs i d to new lt w =
    let joined : (front ++ flat_map f (take i xs)) ++ f (get_or xs i d) ≡ front ++ flat_map f (take (i + 1) xs) =
    append_assoc front (flat_map f (take i xs)) (f (get_or xs i d)) ∙ ap (λ (l : List ℕ). front ++ l) (sym (one_more f xs i d lt)) in
    subst (λ (l : List ℕ). Wrote old l to new) joined w

pub ends : {X : Type 0} (f : X → List ℕ) (old front : List ℕ) (xs : List X) (i to : ℕ) (new : List ℕ) → i ≡ length xs
    → Wrote old (front ++ flat_map f (take i xs)) to new → Wrote old (front ++ flat_map f xs) to new
ends {X} f old front xs i to new e w =
    let whole : take i xs ≡ xs = take_all i xs (omega arith) in
    subst (λ (l : List X). Wrote old (front ++ flat_map f l) to new) whole w
