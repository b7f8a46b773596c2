-- SPDX-License-Identifier: MIT OR Apache-2.0
-- The first failure of tests one after another.
use Rattle.std.proofs.Common.{◌≡◌, ℕ, ◌+◌, ◌<◌, Bool, true, false, cond, List, [], ◌∷◌, ◌++◌, length, take, drop, get_or, append-nil, append_assoc, Option, Some, None, refl, sym, ap, subst, ◌∙◌}
use Rattle.std.proofs.lemmas.List.{drop_more, take_more}
use Rattle.ffa_manifest.specs.declared.error.ManifestError.{ManifestError}
use Rattle.ffa_manifest.specs.Parts.{Tests, first_failure, tests_of_each}

-- where all of the first pass, the others decide
pub first_failure-passed : (ts us : Tests) → first_failure ts ≡ None → first_failure (ts ++ us) ≡ first_failure us
first_failure-passed [] us h = refl
first_failure-passed ((true, e) ∷ ts) us h = first_failure-passed ts us h
first_failure-passed ((false, e) ∷ ts) us h = cc

-- where one of the first fails, it decides
pub first_failure-failed : (ts us : Tests) (e : ManifestError) → first_failure ts ≡ Some e → first_failure (ts ++ us) ≡ Some e
first_failure-failed [] us e h = cc
first_failure-failed ((true, d) ∷ ts) us e h = first_failure-failed ts us e h
first_failure-failed ((false, d) ∷ ts) us e h = h

-- the thing at a place, beside those before it
tests_of_each-at : {A : Type 0} (one : List A → A → Tests) (xs : List A) (i : ℕ) (d x : A) → i < length xs → x ≡ get_or xs i d
    → tests_of_each one (take i xs) (drop i xs) ≡ one (take i xs) x ++ tests_of_each one (take (i + 1) xs) (drop (i + 1) xs)
tests_of_each-at one xs i d x within is =
    ap (tests_of_each one (take i xs)) (drop_more xs i d within ∙ ap (λ y. y ∷ drop (i + 1) xs) (sym is))
    ∙ ap (λ so_far. one (take i xs) x ++ tests_of_each one so_far (drop (i + 1) xs)) (ap (λ y. take i xs ++ y ∷ []) is ∙ sym (take_more xs i d within))

-- where it passes, those behind it decide
pub passed-at : {A : Type 0} (one : List A → A → Tests) (xs : List A) (i : ℕ) (d x : A) → i < length xs → x ≡ get_or xs i d → None ≡ first_failure (one (take i xs) x)
    → first_failure (tests_of_each one (take (i + 1) xs) (drop (i + 1) xs)) ≡ first_failure (tests_of_each one (take i xs) (drop i xs))
passed-at one xs i d x within is passed =
    sym (ap first_failure (tests_of_each-at one xs i d x within is) ∙ first_failure-passed (one (take i xs) x) (tests_of_each one (take (i + 1) xs) (drop (i + 1) xs)) (sym passed))

-- where it fails, it decides
pub failed-at : {A : Type 0} (one : List A → A → Tests) (xs : List A) (i : ℕ) (d x : A) (e : ManifestError) → i < length xs → x ≡ get_or xs i d → Some e ≡ first_failure (one (take i xs) x)
    → first_failure (tests_of_each one (take i xs) (drop i xs)) ≡ Some e
failed-at one xs i d x e within is failed =
    ap first_failure (tests_of_each-at one xs i d x within is) ∙ first_failure-failed (one (take i xs) x) (tests_of_each one (take (i + 1) xs) (drop (i + 1) xs)) e (sym failed)

-- what passed, test by test
pub passed-first : (b : Bool) (e : ManifestError) (others : Option ManifestError) → cond b others (Some e) ≡ None → (b ≡ true) × (others ≡ None)
passed-first true e others h = (refl, h)
passed-first false e others h = cc

passed-parts : (ts us : Tests) → first_failure (ts ++ us) ≡ None → (first_failure ts ≡ None) × (first_failure us ≡ None)
passed-parts [] us h = (refl, h)
passed-parts ((true, e) ∷ ts) us h = passed-parts ts us h
passed-parts ((false, e) ∷ ts) us h = cc

-- what holds of the things so far, and with each next one that passes, holds of all
pub tests_of_each-keeps : {A : Type 0} (P : List A → Type 0) (one : List A → A → Tests)
    → ((before : List A) (x : A) → P before → first_failure (one before x) ≡ None → P (before ++ x ∷ []))
    → (before xs : List A) → P before → first_failure (tests_of_each one before xs) ≡ None → P (before ++ xs)
tests_of_each-keeps P one next before [] p h = subst P (sym (append-nil before)) p
tests_of_each-keeps P one next before (x ∷ xs) p h =
    let (here, rest) = passed-parts (one before x) (tests_of_each one (before ++ x ∷ []) xs) h in
    subst P (append_assoc before (x ∷ []) xs) (tests_of_each-keeps P one next (before ++ x ∷ []) xs (next before x p here) rest)

-- where each one passes, all do
pub tests_of_each-passed : {A : Type 0} (one : List A → A → Tests) (all : List A)
    → ((before : List A) (x : A) (after : List A) → all ≡ before ++ x ∷ after → first_failure (one before x) ≡ None)
    → (before xs : List A) → all ≡ before ++ xs → first_failure (tests_of_each one before xs) ≡ None
tests_of_each-passed one all each before [] is = refl
tests_of_each-passed one all each before (x ∷ xs) is =
    first_failure-passed (one before x) (tests_of_each one (before ++ x ∷ []) xs) (each before x xs is)
    ∙ tests_of_each-passed one all each (before ++ x ∷ []) xs (is ∙ sym (append_assoc before (x ∷ []) xs))
