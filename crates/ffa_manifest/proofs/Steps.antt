-- SPDX-License-Identifier: MIT OR Apache-2.0
-- What reading that no cause ended says, step by step.
use Rattle.std.proofs.Common.{◌≡◌, ℕ, ◌+◌, Bool, true, false, cond, List, [], ◌∷◌, ◌++◌, length, length-append, Option, Some, None, Result, Ok, Err, refl, sym, ap, subst, ◌∙◌, arith}
use Rattle.toml.specs.Data.{Data, Items, no_items, item, as_array, Members}
use Rattle.ffa_model.specs.Manifest.{is_from_to}
use Rattle.ffa_manifest.specs.declared.error.ManifestError.{ManifestError}
use Rattle.ffa_manifest.specs.declared.error.ManifestError.TheVariants.{WrongKind}
use Rattle.ffa_manifest.specs.Reading.{◌>>=◌, or_cause, tested, read_each, item_count}
use Rattle.ffa_manifest.specs.Keys.{items_at, value_at}

-- what followed a step that no cause ended
pub bind_ok : {A B : Type 0} (r : Result A ManifestError) (f : A → Result B ManifestError) (y : B) → (r >>= f) ≡ Ok y → (x : A) × (r ≡ Ok x) × (f x ≡ Ok y)
bind_ok (Ok x) f y h = (x, refl, h)
bind_ok (Err e) f y h = cc

-- what passed a test
pub guard_ok : {A : Type 0} (b : Bool) (e : ManifestError) (x y : A) → cond b (Ok x) (Err e) ≡ Ok y → (b ≡ true) × (x ≡ y)
guard_ok true e x y h = (refl, cc)
guard_ok false e x y h = cc

-- what failed a test for a cause
pub refusal_ok : {A : Type 0} (b : Bool) (e : ManifestError) (x y : A) → cond b (Err e) (Ok x) ≡ Ok y → (b ≡ false) × (x ≡ y)
refusal_ok true e x y h = cc
refusal_ok false e x y h = (refl, cc)

pub tested_ok : (test : ℕ → Bool) (e : ManifestError) (o : Option ℕ) (n : ℕ) → tested test e o ≡ Ok n → test n ≡ true
tested_ok test e None n h = cc
tested_ok test e (Some m) n h = let g = guard_ok (test m) e m n h in ap test (sym g.1) ∙ g.0

-- what holds of the items so far, and with each next one, holds of all
pub read_each-keeps : {A : Type 0} (P : List A → Type 0) (one : List A → Data → Result A ManifestError)
    → ((before : List A) (d : Data) (a : A) → P before → one before d ≡ Ok a → P (before ++ a ∷ []))
    → (before : List A) (ds : Items) (all : List A) → P before → read_each one before ds ≡ Ok all → P all
read_each-keeps P one next before no_items all p h = let e : before ≡ all = cc in subst P e p
read_each-keeps P one next before (item d ds) all p h =
    let (a, is, rest) = bind_ok (one before d) _ all h in
    read_each-keeps P one next (before ++ a ∷ []) ds all (next before d a p is) rest

pub length-read_each : {A : Type 0} (one : List A → Data → Result A ManifestError) (before : List A) (ds : Items) (all : List A) → read_each one before ds ≡ Ok all → length all ≡ length before + item_count ds
length-read_each one before no_items all h = let e : before ≡ all = cc in rw (← e) (omega arith)
length-read_each one before (item d ds) all h =
    let (a, is, rest) = bind_ok (one before d) _ all h in
    let more : length all ≡ length (before ++ a ∷ []) + item_count ds = length-read_each one (before ++ a ∷ []) ds all rest in
    omega (arith, more, length-append before (a ∷ []))

pub items_at-count : (key : List ℕ) (most : ℕ) (cause : ManifestError) (ms : Members) (ds : Items) → items_at key most cause ms ≡ Ok ds → is_from_to 1 most (item_count ds) ≡ true
unfolding items_at
items_at-count key most cause ms ds h =
    let (d, _, h1) = bind_ok (value_at key ms) _ ds h in
    let (found, _, h2) = bind_ok (or_cause WrongKind (as_array d)) _ ds h1 in
    let g = guard_ok (is_from_to 1 most (item_count found)) cause found ds h2 in
    ap (λ x. is_from_to 1 most (item_count x)) (sym g.1) ∙ g.0

-- all items, from none on
pub length-read_all : {A : Type 0} (one : List A → Data → Result A ManifestError) (ds : Items) (all : List A) → read_each one [] ds ≡ Ok all → length all ≡ item_count ds
length-read_all {A} one ds all h = let count : length all ≡ length {A = A} [] + item_count ds = length-read_each one [] ds all h in omega (arith, count)
