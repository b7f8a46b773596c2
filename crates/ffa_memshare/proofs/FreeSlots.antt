-- SPDX-License-Identifier: MIT OR Apache-2.0
-- An endpoint may have one open transaction more exactly where one of its slots is free.
use Rattle.std.proofs.Common.{◌≡◌, ◌∙◌, ℕ, zero, suc, ◌+◌, ◌*◌, ◌/◌, ◌<◌, ◌≤◌, Bool, true, false, cond, List, [], ◌∷◌, length, get_or, Option, Some, None, refl, sym, ap, arith}
use Rattle.std.specs.Prelude.{◌==◌, nat_lt, is_some, filter}
use Rattle.std.specs.Ordering.{nat_cmp}
use Rattle.std.specs.FinMap as finite
use Rattle.std.proofs.lemmas.Bool.{eq-eqb, false≢true, le-ltb, lt-ltb, ne_eqb, true≢false}
use Rattle.ffa_model.specs.declared.limits.TheConstants.{MOST_OPEN}
use Rattle.ffa_model.specs.Identifiers.{identifier, place}
use Rattle.ffa_model.specs.State.{Transaction}
use Rattle.ffa_model.specs.Transactions.{open_count}
use Rattle.ffa_model.proofs.Counts.{count, count-insert, counted, one, values_of}
use Rattle.ffa_model.proofs.Slots.{AreApart, entries_in}
use Rattle.ffa_memshare.specs.SlotChanges.{IsFree}
use Rattle.ffa_memshare.specs.declared.transaction.OpenTransaction.{OpenTransaction}
use Rattle.ffa_memshare.specs.Stored.{IsPool, Pooled, Slot, map_in, open_in, pool_slot, kept_slots, view_of}
use Rattle.ffa_model.proofs.Places.{place-identifier}
use Rattle.ffa_memshare.proofs.PoolKept.{seen-at, unfound}

-- one more where a slot is free
abbrev vacant : Slot → ℕ
vacant None = 1
vacant (Some x) = 0

-- how many of n slots from one on are free
abbrev free_in : ℕ → ℕ → List Slot → ℕ
free_in w n [] = 0
free_in zero zero (slot ∷ slots) = 0
free_in zero (suc n) (slot ∷ slots) = vacant slot + free_in zero n slots
free_in (suc w) n (slot ∷ slots) = free_in w n slots

one-free : (w n : ℕ) (slots : List Slot) (k : ℕ) → w ≤ k → k < w + n → k < length slots → pool_slot slots k ≡ None → 1 ≤ free_in w n slots
one-free w n [] k from to lt free = absurd (omega arith)
one-free zero zero (slot ∷ slots) k from to lt free = absurd (omega arith)
one-free zero (suc n) (slot ∷ slots) zero from to lt free = let first = ap vacant free in omega (arith, first)
one-free zero (suc n) (slot ∷ slots) (suc k) from to lt free = let rest = one-free zero n slots k (omega arith) (omega arith) (omega arith) free in omega (arith, rest)
one-free (suc w) n (slot ∷ slots) zero from to lt free = absurd (omega arith)
one-free (suc w) n (slot ∷ slots) (suc k) from to lt free = one-free w n slots k (omega arith) (omega arith) (omega arith) free

none-free : (w n : ℕ) (slots : List Slot) → ((k : ℕ) → w ≤ k → k < w + n → (x : ℕ × Transaction) × (pool_slot slots k ≡ Some x)) → free_in w n slots ≡ 0
none-free w n [] taken = refl
none-free zero zero (slot ∷ slots) taken = refl
none-free zero (suc n) (slot ∷ slots) taken =
    let (x, is) = taken 0 (omega arith) (omega arith) in
    let first = ap vacant is in
    let rest = none-free zero n slots (λ k from to. taken (suc k) (omega arith) (omega arith)) in
    omega (arith, first, rest)
none-free (suc w) n (slot ∷ slots) taken = none-free w n slots (λ k from to. taken (suc k) (omega arith) (omega arith))

module _ (test : Transaction → Bool) where
  abbrev passing : List Slot → ℕ
  passing slots = counted test (values_of (entries_in slots))

  passes : (t : Transaction) (ts : List Transaction) → test t ≡ true → counted test (t ∷ ts) ≡ 1 + counted test ts
  passes t ts is = ap (λ b. length (cond b (t ∷ filter test ts) (filter test ts))) is ∙ omega arith

  fails : (t : Transaction) (ts : List Transaction) → test t ≡ false → counted test (t ∷ ts) ≡ counted test ts
  fails t ts is = ap (λ b. length (cond b (t ∷ filter test ts) (filter test ts))) is

  counted-first : (t : Transaction) (ts : List Transaction) → counted test (t ∷ ts) ≡ one test t + counted test ts
  counted-first t ts = of (test t)
    where
      of : (b : Bool) → length (cond b (t ∷ filter test ts) (filter test ts)) ≡ cond b 1 0 + length (filter test ts)
      of true = omega arith
      of false = omega arith

  -- the open transactions are those in slots
  count-slots : (slots : List Slot) → AreApart slots → count test (map_in slots) ≡ passing slots
  count-slots [] apart = ap (λ (es : List (ℕ × Transaction)). counted test (values_of es)) (nothing (finite.entries (map_in [])) (sym (finite.len-entries (map_in [])) ∙ finite.len-empty nat_cmp Transaction))
    where
      nothing : (es : List (ℕ × Transaction)) → length es ≡ 0 → es ≡ []
      nothing [] none = refl
      nothing (e ∷ es) none = absurd (omega arith)
  count-slots (None ∷ slots) apart = count-slots slots (tail slots None apart)
    where
      tail : (slots : List Slot) (slot : Slot) → AreApart (slot ∷ slots) → AreApart slots
      tail slots slot apart i j x y at_i at_j is = let next : suc i ≡ suc j = apart (suc i) (suc j) x y at_i at_j is in omega arith
  count-slots (Some x ∷ slots) apart =
      count-insert test (map_in slots) x.0 x.1 new
      ∙ ap (λ n. one test x.1 + n) (count-slots slots tail)
      ∙ sym (counted-first x.1 (values_of (entries_in slots)))
    where
      tail : AreApart slots
      tail i j y z at_i at_j is = let next : suc i ≡ suc j = apart (suc i) (suc j) y z at_i at_j is in omega arith

      new : finite.get (map_in slots) x.0 ≡ None
      new = unfound slots x.0 (length slots) (omega arith) (λ k y lt at is. never k (apart 0 (suc k) x y refl at is))
        where
          never : (k : ℕ) → 0 ≡ suc k → ⊥
          never k is = omega arith

  -- where those that pass are in n slots from one on
  passing-free : (w n : ℕ) (slots : List Slot) → w + n ≤ length slots
      → ((k : ℕ) (x : ℕ × Transaction) → pool_slot slots k ≡ Some x → w ≤ k → k < w + n → test x.1 ≡ true)
      → ((k : ℕ) (x : ℕ × Transaction) → pool_slot slots k ≡ Some x → k < w → test x.1 ≡ false)
      → ((k : ℕ) (x : ℕ × Transaction) → pool_slot slots k ≡ Some x → w + n ≤ k → test x.1 ≡ false)
      → passing slots + free_in w n slots ≡ n
  passing-free zero zero [] fits inside before after = refl
  passing-free zero (suc n) [] fits inside before after = absurd (omega arith)
  passing-free (suc w) n [] fits inside before after = absurd (omega arith)
  passing-free zero zero (None ∷ slots) fits inside before after =
      none slots (passing-free zero zero slots (omega arith) (λ k x at from to. absurd (omega arith)) (λ k x at lt. absurd (omega arith)) (λ k x at from. after (suc k) x at (omega arith)))
    where
      none : (slots : List Slot) → passing slots + free_in zero zero slots ≡ 0 → passing slots + 0 ≡ 0
      none [] is = is
      none (slot ∷ slots) is = is
  passing-free zero zero (Some x ∷ slots) fits inside before after =
      ap (λ n. n + 0) (fails x.1 (values_of (entries_in slots)) (after 0 x refl (omega arith)))
      ∙ none slots (passing-free zero zero slots (omega arith) (λ k x at from to. absurd (omega arith)) (λ k x at lt. absurd (omega arith)) (λ k x at from. after (suc k) x at (omega arith)))
    where
      none : (slots : List Slot) → passing slots + free_in zero zero slots ≡ 0 → passing slots + 0 ≡ 0
      none [] is = is
      none (slot ∷ slots) is = is
  passing-free zero (suc n) (None ∷ slots) fits inside before after =
      let rest = passing-free zero n slots (omega arith) (λ k x at from to. inside (suc k) x at (omega arith) (omega arith)) (λ k x at lt. absurd (omega arith)) (λ k x at from. after (suc k) x at (omega arith)) in
      omega (arith, rest)
  passing-free zero (suc n) (Some x ∷ slots) fits inside before after =
      let rest = passing-free zero n slots (omega arith) (λ k x at from to. inside (suc k) x at (omega arith) (omega arith)) (λ k x at lt. absurd (omega arith)) (λ k x at from. after (suc k) x at (omega arith)) in
      let first = passes x.1 (values_of (entries_in slots)) (inside 0 x refl (omega arith) (omega arith)) in
      omega (arith, rest, first)
  passing-free (suc w) n (None ∷ slots) fits inside before after =
      passing-free w n slots (omega arith) (λ k x at from to. inside (suc k) x at (omega arith) (omega arith)) (λ k x at lt. before (suc k) x at (omega arith)) (λ k x at from. after (suc k) x at (omega arith))
  passing-free (suc w) n (Some x ∷ slots) fits inside before after =
      let rest = passing-free w n slots (omega arith) (λ k x at from to. inside (suc k) x at (omega arith) (omega arith)) (λ k x at lt. before (suc k) x at (omega arith)) (λ k x at from. after (suc k) x at (omega arith)) in
      let first = fails x.1 (values_of (entries_in slots)) (before 0 x refl (omega arith)) in
      omega (arith, rest, first)

module _ (kept : Pooled) (pool : IsPool kept) (e : ℕ) (known : identifier (place e) ≡ e) (lt : place e < length kept.sent) where
  -- open transactions and free slots are as many together as a sender has slots
  together : open_count (open_in kept) e + free_in (MOST_OPEN * place e) MOST_OPEN kept.slots ≡ MOST_OPEN
  together =
      ap (λ n. n + free_in (MOST_OPEN * place e) MOST_OPEN kept.slots) (count-slots (λ (t : Transaction). t.sender == e) kept.slots pool.apart)
      ∙ passing-free (λ (t : Transaction). t.sender == e) (MOST_OPEN * place e) MOST_OPEN kept.slots (omega (arith, pool.size, lt))
      (λ k x at from to. (
      let here : k / MOST_OPEN ≡ place e = omega arith in
      eq-eqb x.1.sender e ((pool.places k x.0 x.1 at).sender ∙ ap identifier here ∙ known)
      ))
      (λ k x at less. ne_eqb x.1.sender e (λ same. apart k x at same (λ here. omega (arith, here, less))))
      (λ k x at past. ne_eqb x.1.sender e (λ same. apart k x at same (λ here. omega (arith, here, past))))
    where
      apart : (k : ℕ) (x : ℕ × Transaction) → pool_slot kept.slots k ≡ Some x → x.1.sender ≡ e → (k / MOST_OPEN ≡ place e → ⊥) → ⊥
      apart k x at same away = away (sym (place-identifier (k / MOST_OPEN)) ∙ ap place (sym (pool.places k x.0 x.1 at).sender ∙ same))

  pub few-open : (k : ℕ) → IsFree kept.slots (place e) k → nat_lt (open_count (open_in kept) e) MOST_OPEN ≡ true
  few-open k free =
      let some = one-free (MOST_OPEN * place e) MOST_OPEN kept.slots k (omega (arith, free.own)) (omega (arith, free.own)) free.within free.free in
      lt-ltb _ _ (omega (arith, together, some))

  pub all-open : ((k : ℕ) → MOST_OPEN * place e ≤ k → k < MOST_OPEN * place e + MOST_OPEN → (x : ℕ × Transaction) × (pool_slot kept.slots k ≡ Some x)) → nat_lt (open_count (open_in kept) e) MOST_OPEN ≡ false
  all-open taken =
      let none = none-free (MOST_OPEN * place e) MOST_OPEN kept.slots taken in
      le-ltb _ _ (omega (arith, together, none))

-- WHAT THE CODE FINDS IN A SLOT
pub slot-free : (items : List (Option OpenTransaction)) (k : ℕ) (o : Option OpenTransaction) → k < length items → o ≡ get_or items k o → is_some o ≡ false → pool_slot (kept_slots items) k ≡ None
slot-free items k None lt at none = seen-at items k None lt at
slot-free items k (Some t) lt at none = absurd (true≢false none)

pub slot-taken : (items : List (Option OpenTransaction)) (k : ℕ) (o : Option OpenTransaction) → k < length items → o ≡ get_or items k o → is_some o ≡ true
    → (x : ℕ × Transaction) × (pool_slot (kept_slots items) k ≡ Some x)
slot-taken items k None lt at some = absurd (false≢true some)
slot-taken items k (Some t) lt at some = ((t.handle, view_of t), seen-at items k (Some t) lt at)
