-- SPDX-License-Identifier: MIT OR Apache-2.0
-- What slots hold when they are empty, when an endpoint's page is taken out of them, and when one is written.
use Rattle.std.proofs.Common.{◌≡◌, ◌∙◌, ◌⊎◌, inl, inr, ℕ, zero, suc, ◌<◌, Bool, true, false, List, [], ◌∷◌, Option, None, Some, length, get_or, take, drop, ◌++◌, ◌+◌, refl, arith, slice_set, replicate, if◌then◌else◌}
use Rattle.std.specs.List.{cons_option}
use Rattle.std.proofs.lemmas.Grind.{common_steps}
use Rattle.std.proofs.lemmas.List.{get_or_default}
use Rattle.std.proofs.lemmas.List.Edits.{map_over_more}
use Rattle.ffa_model.specs.declared.leaf.Leaf.{Leaf}
use Rattle.ffa_tlb.specs.declared.translations.Entry.{Entry}
use Rattle.ffa_tlb.specs.Lookups.{is_pair, lookup, IsFilled, IsForgotten}
use Rattle.ffa_tlb.specs.Slots.{entries_of, is_distinct, holds, without}

-- empty slots hold nothing
pub entries_of_empty : (n : ℕ) → entries_of (replicate n None) ≡ []
entries_of_empty zero = refl
entries_of_empty (suc n) = entries_of_empty n

-- with an endpoint's page taken out the slots hold what they held of every other
pub lookup_without : (slots : List (Option Entry)) (e p f q : ℕ)
    → lookup (entries_of (without slots e p)) f q ≡ (if is_pair f q e p then None else lookup (entries_of slots) f q)
lookup_without [] e p f q = either_way (is_pair f q e p)
  where
    either_way : (b : Bool) → lookup [] f q ≡ (if b then None else lookup [] f q)
    either_way true = refl
    either_way false = refl
lookup_without (None ∷ slots) e p f q = lookup_without slots e p f q
lookup_without (Some x ∷ slots) e p f q = one x (lookup (entries_of slots) f q) (entries_of (without slots e p)) (lookup_without slots e p f q)
  where
    one : (x : Entry) (old : Option Leaf) (new : List Entry) → lookup new f q ≡ (if is_pair f q e p then None else old)
        → lookup (cons_option (if is_pair x.endpoint.0 x.page.0 e p then None else Some x) new) f q
        ≡ (if is_pair f q e p then None else if is_pair x.endpoint.0 x.page.0 f q then Some x.leaf else old)
    one x old new rest = grind (arith, common_steps, rest)

pub distinct_without : (slots : List (Option Entry)) (e p : ℕ) → is_distinct (entries_of slots) ≡ true → is_distinct (entries_of (without slots e p)) ≡ true
distinct_without [] e p distinct = refl
distinct_without (None ∷ slots) e p distinct = distinct_without slots e p distinct
distinct_without (Some x ∷ slots) e p distinct = one x slots distinct (distinct_without slots e p (grind (arith, common_steps, distinct)))
  where
    one : (x : Entry) (slots : List (Option Entry)) → is_distinct (entries_of (Some x ∷ slots)) ≡ true → is_distinct (entries_of (without slots e p)) ≡ true
        → is_distinct (cons_option (if is_pair x.endpoint.0 x.page.0 e p then None else Some x) (entries_of (without slots e p))) ≡ true
    one x slots distinct rest = grind (arith, common_steps, distinct, rest, lookup_without slots e p x.endpoint.0 x.page.0)

-- a slot that is written holds the leaf of an endpoint's page that no slot held
pub lookup_put : (slots : List (Option Entry)) (i : ℕ) (x : Entry) → i < length slots → lookup (entries_of slots) x.endpoint.0 x.page.0 ≡ None
    → lookup (entries_of (slice_set slots i (Some x))) x.endpoint.0 x.page.0 ≡ Some x.leaf
lookup_put [] i x within none = absurd (omega (arith, within))
lookup_put (slot ∷ slots) zero x within none = grind (arith, common_steps)
lookup_put (None ∷ slots) (suc i) x within none = lookup_put slots i x (omega (arith, within)) none
lookup_put (Some y ∷ slots) (suc i) x within none =
    one y.leaf x.leaf _ _ (is_pair y.endpoint.0 y.page.0 x.endpoint.0 x.page.0) none (lookup_put slots i x (omega (arith, within)))
  where
    one : (held leaf : Leaf) (old new : Option Leaf) (b : Bool) → (if b then Some held else old) ≡ None → (old ≡ None → new ≡ Some leaf)
        → (if b then Some held else new) ≡ Some leaf
    one held leaf old new true none after = cc
    one held leaf old new false none after = after none

-- behind its entry an endpoint's page has none
none_behind : (x : Entry) (entries : List Entry) (f q : ℕ) → is_distinct (x ∷ entries) ≡ true → is_pair x.endpoint.0 x.page.0 f q ≡ true → lookup entries f q ≡ None
none_behind x entries f q distinct own = grind (arith, common_steps, distinct, own)

-- and the slots hold what they held of every other, or nothing
pub lookup_put_other : (slots : List (Option Entry)) (i : ℕ) (x : Entry) (f q : ℕ) → is_distinct (entries_of slots) ≡ true → is_pair x.endpoint.0 x.page.0 f q ≡ false
    → (lookup (entries_of (slice_set slots i (Some x))) f q ≡ None) ⊎ (lookup (entries_of (slice_set slots i (Some x))) f q ≡ lookup (entries_of slots) f q)
lookup_put_other [] i x f q distinct other = inr refl
lookup_put_other (None ∷ slots) zero x f q distinct other = inr (grind (arith, common_steps, other))
lookup_put_other (Some y ∷ slots) zero x f q distinct other =
    rw other (of y.leaf _ (is_pair y.endpoint.0 y.page.0 f q) (none_behind y (entries_of slots) f q distinct))
  where
    of : (held : Leaf) (rest : Option Leaf) (b : Bool) → (b ≡ true → rest ≡ None) → (rest ≡ None) ⊎ (rest ≡ (if b then Some held else rest))
    of held rest true none = inl (none refl)
    of held rest false none = inr refl
lookup_put_other (None ∷ slots) (suc i) x f q distinct other = lookup_put_other slots i x f q distinct other
lookup_put_other (Some y ∷ slots) (suc i) x f q distinct other =
    of y.leaf _ _ (is_pair y.endpoint.0 y.page.0 f q) (lookup_put_other slots i x f q (grind (arith, common_steps, distinct)) other)
  where
    of : (held : Leaf) (old new : Option Leaf) (b : Bool) → (new ≡ None) ⊎ (new ≡ old)
        → ((if b then Some held else new) ≡ None) ⊎ ((if b then Some held else new) ≡ (if b then Some held else old))
    of held old new true same = inr refl
    of held old new false same = same

pub distinct_put : (slots : List (Option Entry)) (i : ℕ) (x : Entry) → is_distinct (entries_of slots) ≡ true → lookup (entries_of slots) x.endpoint.0 x.page.0 ≡ None
    → is_distinct (entries_of (slice_set slots i (Some x))) ≡ true
distinct_put [] i x distinct none = refl
distinct_put (None ∷ slots) zero x distinct none = rw none distinct
distinct_put (Some y ∷ slots) zero x distinct none = grind (arith, common_steps, distinct, none)
distinct_put (None ∷ slots) (suc i) x distinct none = distinct_put slots i x distinct none
distinct_put (Some y ∷ slots) (suc i) x distinct none =
    one (entries_of slots) (entries_of (slice_set slots i (Some x))) distinct none
    (λ other. lookup_put_other slots i x y.endpoint.0 y.page.0 (grind (arith, common_steps, distinct)) other)
    (distinct_put slots i x (grind (arith, common_steps, distinct)) (grind (arith, common_steps, none)))
  where
    one : (old new : List Entry) → is_distinct (y ∷ old) ≡ true → lookup (y ∷ old) x.endpoint.0 x.page.0 ≡ None
        → (is_pair x.endpoint.0 x.page.0 y.endpoint.0 y.page.0 ≡ false → (lookup new y.endpoint.0 y.page.0 ≡ None) ⊎ (lookup new y.endpoint.0 y.page.0 ≡ lookup old y.endpoint.0 y.page.0))
        → is_distinct new ≡ true → is_distinct (y ∷ new) ≡ true
    one old new distinct none kept rest = grind (arith, common_steps, distinct, none, kept, rest)

-- what was forgotten is held no more
pub none_forgotten : (old new : List Entry) (e p : ℕ) → IsForgotten old new e p → lookup new e p ≡ None
none_forgotten old new e p forgotten = grind (arith, common_steps, forgotten e p)

-- one page of one endpoint has one leaf
same_lookup : (entries : List Entry) (e p f q : ℕ) → is_pair f q e p ≡ true → lookup entries f q ≡ lookup entries e p
same_lookup entries e p f q same = grind (arith, common_steps, same)

-- so an endpoint's page that is forgotten, and then written in some slot, is filled
pub filled_forgotten : (old : List Entry) (slots : List (Option Entry)) (i : ℕ) (x : Entry) → i < length slots → is_distinct (entries_of slots) ≡ true
    → IsForgotten old (entries_of slots) x.endpoint.0 x.page.0 → IsFilled old (entries_of (slice_set slots i (Some x))) x.endpoint.0 x.page.0 x.leaf
filled_forgotten old slots i x within distinct forgotten f q = of (is_pair f q x.endpoint.0 x.page.0) refl
  where
    new : List Entry
    new = entries_of (slice_set slots i (Some x))

    of : (own : Bool) → is_pair f q x.endpoint.0 x.page.0 ≡ own → (lookup new f q ≡ None) ⊎ (lookup new f q ≡ (if own then Some x.leaf else lookup old f q))
    of true own =
        inr (same_lookup new x.endpoint.0 x.page.0 f q own ∙ lookup_put slots i x within (none_forgotten old (entries_of slots) x.endpoint.0 x.page.0 forgotten))
    of false own = elim (lookup_put_other slots i x f q distinct (grind (arith, common_steps, own))) [
      | inl none ↦ inl none
      | inr same ↦ inr (same ∙ (rw own at (forgotten f q)))
    ]

-- one more slot, where those before it are without an endpoint's page
pub without_more : (old slots : List (Option Entry)) (i e p : ℕ) → i < length old → slots ≡ without (take i old) e p ++ drop i old
    → slice_set slots i (if holds e p (get_or slots i None) then None else get_or slots i None) ≡ without (take (i + 1) old) e p ++ drop (i + 1) old
without_more old slots i e p within before = map_over_more (λ slot. if holds e p slot then None else slot) old slots i (get_or slots i None) within before (get_or_default slots i None (get_or slots i None) (rw before (grind (arith, common_steps))))
