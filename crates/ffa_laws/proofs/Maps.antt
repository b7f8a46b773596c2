-- SPDX-License-Identifier: MIT OR Apache-2.0
-- Lists and finite maps that are read by their keys.
use Rattle.std.proofs.Common.{◌≡◌, ◌∙◌, ℕ, suc, zero, ◌<◌, Bool, true, false, cond, List, [], ◌∷◌, length, map, get_or, set, Option, Some, None, is_some, refl, sym, ap, arith, ◌||◌}
use Rattle.std.proofs.Math.Path.{fun_ext}
use Rattle.std.proofs.lemmas.Bool.Decides.{nat_tests}
use Rattle.std.specs.List.{find, list_any}
use Rattle.std.specs.Option.{option_map}
use Rattle.std.specs.Ordering.{nat_cmp, eq_by_cmp}
use Rattle.std.specs.Cmp.{nat_cmp_total}
use Rattle.std.specs.FinMap as finite
use Rattle.ffa_model.specs.State.{Transaction}
use Rattle.ffa_model.specs.Lists.{map_at}
use Rattle.ffa_laws.specs.View.{map_values}
use Rattle.ffa_model.specs.Access.{first_handle}
use Rattle.ffa_model.proofs.Handles.{find-misses, find-passes}

pub get_or-map_at : {X Y : Type 0} (f : ℕ → X → Y) (xs : List X) (i : ℕ) (d : X) (e : Y) → i < length xs → get_or (map_at f xs) i e ≡ f i (get_or xs i d)
get_or-map_at f [] i d e lt = absurd (omega arith)
get_or-map_at f (x ∷ xs) zero d e lt = refl
get_or-map_at f (x ∷ xs) (suc i) d e lt = get_or-map_at (λ i. f (suc i)) xs i d e (omega arith)

-- a function that keeps None keeps it past the end
pub at-map_at : {X Y : Type 0} (f : ℕ → Option X → Option Y) (xs : List (Option X)) (i : ℕ) → ((j : ℕ) → f j None ≡ None) → get_or (map_at f xs) i None ≡ f i (get_or xs i None)
at-map_at f [] i keeps = sym (keeps i)
at-map_at f (x ∷ xs) zero keeps = refl
at-map_at f (x ∷ xs) (suc i) keeps = at-map_at (λ i. f (suc i)) xs i (λ j. keeps (suc j))

pub at-map_at-from : {X Y : Type 0} (f : ℕ → X → Y) (xs : List X) (i : ℕ) (d : X) (e : Y) → ((j : ℕ) → f j d ≡ e) → get_or (map_at f xs) i e ≡ f i (get_or xs i d)
at-map_at-from f [] i d e keeps = sym (keeps i)
at-map_at-from f (x ∷ xs) zero d e keeps = refl
at-map_at-from f (x ∷ xs) (suc i) d e keeps = at-map_at-from (λ i. f (suc i)) xs i d e (λ j. keeps (suc j))

pub map_at-set : {X Y : Type 0} (f : ℕ → X → Y) (xs : List X) (i : ℕ) (x : X) → map_at f (set xs i x) ≡ set (map_at f xs) i (f i x)
map_at-set f [] i x = refl
map_at-set f (y ∷ xs) zero x = refl
map_at-set f (y ∷ xs) (suc i) x = ap (λ ys. f 0 y ∷ ys) (map_at-set (λ i. f (suc i)) xs i x)

pub map_at-same : {X Y : Type 0} (f g : ℕ → X → Y) (xs : List X) → ((i : ℕ) (x : X) → f i x ≡ g i x) → map_at f xs ≡ map_at g xs
map_at-same f g xs same = ap (λ h. map_at h xs) (fun_ext (λ i. fun_ext (same i)))

pub map_at-twice : {X Y Z : Type 0} (f : ℕ → Y → Z) (g : ℕ → X → Y) (xs : List X) → map_at f (map_at g xs) ≡ map_at (λ i x. f i (g i x)) xs
map_at-twice f g [] = refl
map_at-twice f g (x ∷ xs) = λ i. f 0 (g 0 x) ∷ map_at-twice (λ j. f (suc j)) (λ j. g (suc j)) xs i

-- two lists of one length, changed alike at each index
pub map_at-alike : {X Y Z : Type 0} (f : ℕ → X → Z) (g : ℕ → Y → Z) (xs : List X) (ys : List Y) (d : X) (e : Y) → length xs ≡ length ys
    → ((i : ℕ) → f i (get_or xs i d) ≡ g i (get_or ys i e)) → map_at f xs ≡ map_at g ys
map_at-alike f g [] [] d e each same = refl
map_at-alike f g (x ∷ xs) (y ∷ ys) d e each same =
    λ i. same 0 i ∷ map_at-alike (λ j. f (suc j)) (λ j. g (suc j)) xs ys d e (omega arith) (λ j. same (suc j)) i
map_at-alike f g _ _ d e each same = absurd (omega arith)

-- a list that a function leaves as it is at each index
pub map_at-id : {X : Type 0} (f : ℕ → X → X) (xs : List X) (d : X) → ((i : ℕ) → f i (get_or xs i d) ≡ get_or xs i d) → map_at f xs ≡ xs
map_at-id f [] d same = refl
map_at-id f (x ∷ xs) d same = λ i. same 0 i ∷ map_at-id (λ j. f (suc j)) xs d (λ j. same (suc j)) i

-- a test of each element that such a function changes in nothing that is tested
pub any-map_at : {X : Type 0} (test : X → Bool) (f : ℕ → X → X) (xs : List X) (d : X) → ((i : ℕ) → test (f i (get_or xs i d)) ≡ test (get_or xs i d)) → list_any test (map_at f xs) ≡ list_any test xs
any-map_at test f [] d same = refl
any-map_at test f (x ∷ xs) d same = λ i. same 0 i || any-map_at test (λ j. f (suc j)) xs d (λ j. same (suc j)) i

pub get_or-map : {X Y : Type 0} (f : Option X → Option Y) (xs : List (Option X)) (i : ℕ) → f None ≡ None → get_or (map f xs) i None ≡ f (get_or xs i None)
get_or-map f [] i none = sym none
get_or-map f (x ∷ xs) zero none = refl
get_or-map f (x ∷ xs) (suc i) none = get_or-map f xs i none

-- ---- the first number that passes a test, where one alone does
find_one : (p : ℕ → Bool) (xs : List ℕ) (x : ℕ) → p x ≡ true → list_any (eq_by_cmp nat_cmp x) xs ≡ true → ((y : ℕ) → p y ≡ true → y ≡ x) → find p xs ≡ Some x
find_one p [] x px here one = grind arith
find_one p (y ∷ xs) x px here one = grind (arith, nat_tests, one y, find_one p xs x px)

find_no : (p : ℕ → Bool) (xs : List ℕ) → ((y : ℕ) → p y ≡ false) → find p xs ≡ None
find_no p [] never = refl
find_no p (y ∷ xs) never = grind (arith, never y, find_no p xs never)

module _ (test : Option Transaction → Bool) (m : finite.FinMap nat_cmp Transaction) where
  some_where : test None ≡ false → (h : ℕ) → test (finite.get m h) ≡ true → is_some (finite.get m h) ≡ true
  some_where none h is = grind (arith)

  pub first_one : test None ≡ false → (h : ℕ) → test (finite.get m h) ≡ true → ((k : ℕ) → test (finite.get m k) ≡ true → k ≡ h) → first_handle test m ≡ Some h
  first_one none h is one = find_one (λ k. test (finite.get m k)) (finite.keys m) h is (sym (finite.contains_key-keys m h) ∙ some_where none h is) one

  pub first_no : ((k : ℕ) → test (finite.get m k) ≡ false) → first_handle test m ≡ None
  first_no never = find_no (λ k. test (finite.get m k)) (finite.keys m) never

  pub first_some : (h : ℕ) → first_handle test m ≡ Some h → test (finite.get m h) ≡ true
  first_some h e = find-passes (λ k. test (finite.get m k)) (finite.keys m) h e

  pub first_none : test None ≡ false → first_handle test m ≡ None → (k : ℕ) → test (finite.get m k) ≡ false
  first_none none e k =
      elim (finite.get m k) as (λ o. finite.get m k ≡ o → test (finite.get m k) ≡ false) [
        | None ↦ λ is. rw is none
        | Some t ↦ λ is. find-misses (λ k. test (finite.get m k)) (finite.keys m) k e (sym (finite.contains_key-keys m k) ∙ ap is_some is)
      ] refl

-- ---- a map whose values are changed
find-map : {X Y : Type 0} (f : X → Y) (q : ℕ) (es : List (ℕ × X)) → finite.find nat_cmp q (map (λ e. (e.0, f e.1)) es) ≡ option_map f (finite.find nat_cmp q es)
find-map f q [] = refl
find-map {X} {Y} f q (e ∷ es) = elim (eq_by_cmp nat_cmp q e.0) as (λ b. cond b (Some (f e.1)) (finite.find nat_cmp q (map (λ (e : ℕ × X). (e.0, f e.1)) es)) ≡ option_map f (cond b (Some e.1) (finite.find nat_cmp q es))) [
  | true ↦ refl
  | false ↦ find-map f q es
]

pub get-map_values : {X Y : Type 0} (f : X → Y) (m : finite.FinMap nat_cmp X) (q : ℕ) → finite.get (map_values f m) q ≡ option_map f (finite.get m q)
get-map_values f m q = finite.get-from_entries nat_cmp_total (map (λ e. (e.0, f e.1)) (finite.entries m)) q ∙ find-map f q (finite.entries m) ∙ ap (option_map f) (sym (finite.get-entries m q))
