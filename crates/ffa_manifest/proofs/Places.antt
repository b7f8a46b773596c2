-- SPDX-License-Identifier: MIT OR Apache-2.0
-- The items before a place, and the item there.
use Rattle.std.proofs.Common.{◌≡◌, ◌≤◌, ◌<◌, ℕ, zero, suc, ◌+◌, List, [], ◌∷◌, ◌++◌, length, get_or, Some, Result, Ok, refl, sym, ap, ◌∙◌, arith}
use Rattle.toml.specs.Data.{Data, Items, no_items, item, get_item}
use Rattle.toml.specs.View.{view, items_view}
use Rattle.toml.specs.declared.value.Value.{Value}
use Rattle.ffa_manifest.specs.declared.error.ManifestError.{ManifestError}
use Rattle.ffa_manifest.specs.Reading.{◌>>=◌, read_each, item_count}
use Rattle.ffa_manifest.specs.Places.{first_items}
use Rattle.ffa_manifest.proofs.Steps.{bind_ok}

-- the item of a value, by its place
pub get_item-view : (vs : List Value) (i : ℕ) (v : Value) → i < length vs → v ≡ get_or vs i v → get_item i (items_view vs) ≡ Some (view v)
get_item-view [] i v within is = absurd (omega arith)
get_item-view (w ∷ vs) zero v within is = ap (λ (u : Value). Some (view u)) (sym is)
get_item-view (w ∷ vs) (suc i) v within is = get_item-view vs i v (omega arith) is

-- all items
pub first_items-all : (n : ℕ) (ds : Items) → item_count ds ≤ n → first_items n ds ≡ ds
first_items-all zero no_items all = refl
first_items-all zero (item d ds) all = absurd (omega arith)
first_items-all (suc n) no_items all = refl
first_items-all (suc n) (item d ds) all = ap (item d) (first_items-all n ds (omega arith))

-- one item more that is read after those before it
next-read : {A : Type 0} (one : List A → Data → Result A ManifestError) (before : List A) (ds : Items) (i : ℕ) (d : Data) (so_far : List A) (a : A)
    → get_item i ds ≡ Some d → read_each one before (first_items i ds) ≡ Ok so_far → one so_far d ≡ Ok a
    → read_each one before (first_items (suc i) ds) ≡ Ok (so_far ++ a ∷ [])
next-read one before no_items i d so_far a there read is = cc
next-read one before (item e ds) zero d so_far a there read is =
    let same : e ≡ d = cc in
    let none : before ≡ so_far = cc in
    let first : one before e ≡ Ok a = ap (λ x. one x e) none ∙ ap (one so_far) same ∙ is in
    ap (λ r. r >>= λ x. read_each one (before ++ x ∷ []) no_items) first ∙ ap (λ xs. Ok (xs ++ a ∷ [])) none
next-read one before (item e ds) (suc i) d so_far a there read is =
    let (x, first, rest) = bind_ok (one before e) _ so_far read in
    ap (λ r. r >>= λ y. read_each one (before ++ y ∷ []) (first_items (suc i) ds)) first
    ∙ next-read one (before ++ x ∷ []) ds i d so_far a there rest is

pub read_each-next : {A : Type 0} (one : List A → Data → Result A ManifestError) (before : List A) (ds : Items) (i : ℕ) (d : Data) (so_far : List A) (a : A)
    → get_item i ds ≡ Some d → read_each one before (first_items i ds) ≡ Ok so_far → one so_far d ≡ Ok a
    → read_each one before (first_items (i + 1) ds) ≡ Ok (so_far ++ a ∷ [])
read_each-next one before ds i d so_far a there read is =
    let on : i + 1 ≡ suc i = omega arith in
    ap (λ n. read_each one before (first_items n ds)) on ∙ next-read one before ds i d so_far a there read is
