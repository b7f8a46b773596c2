-- SPDX-License-Identifier: MIT OR Apache-2.0
-- How many open transactions a view has: as many from the viewer as there are.
use Rattle.std.proofs.Common.{◌≡◌, ◌∙◌, ℕ, zero, suc, ◌+◌, ◌-◌, Bool, true, false, cond, List, [], ◌∷◌, length, Some, None, is_some, refl, sym, ap, arith, inl, inr, ◌==◌, ◌||◌}
use Rattle.std.specs.Option.{option_map}
use Rattle.std.specs.Ordering.{nat_cmp}
use Rattle.std.specs.Cmp.{nat_cmp_total, unsigned_tied}
use Rattle.std.specs.FinMap as finite
use Rattle.std.proofs.lemmas.Bool.{cases_eq, eq-eqb, false≢true}
use Rattle.ffa_laws.specs.View.{map_values}
use Rattle.ffa_model.specs.State.{State, Transaction, transaction_of}
use Rattle.ffa_model.specs.Access.{is_receiver}
use Rattle.ffa_model.specs.Transactions.{open_of, open_count}
use Rattle.ffa_laws.specs.View.{view, involves, seen_by}
use Rattle.ffa_model.proofs.Counts.{count, count-insert, count-remove, one}
use Rattle.ffa_model.proofs.Handles.{Transactions, get-beside, get-left, get-put, get-taken}
use Rattle.ffa_laws.proofs.Maps.{get-map_values}

-- transactions of some handles, changed in what the test doesn't ask
module _ (test : Transaction → Bool) (f : Transaction → Transaction) (keep : ℕ → Bool) (same : (t : Transaction) → test (f t) ≡ test t) where
  abbrev seen : Transactions → Transactions
  seen m = map_values f (finite.retain_keys m keep)

  get-seen : (m : Transactions) (q : ℕ) → finite.get (seen m) q ≡ option_map f (cond (keep q) (finite.get m q) None)
  get-seen m q =
      get-map_values f (finite.retain_keys m keep) q
      ∙ ap (option_map f) (finite.get-retain_keys m keep q (λ k tie. ap keep (sym (finite.nat_cmp-IsAntisymmetric q k tie))))

  abbrev IsKept : Transactions → Type 0
  IsKept m = (k : ℕ) (t : Transaction) → finite.get m k ≡ Some t → test t ≡ true → keep k ≡ true

  same_transactions : (m n : Transactions) → ((q : ℕ) → finite.get m q ≡ finite.get n q) → m ≡ n
  same_transactions m n is = finite.same_map nat_cmp_total finite.nat_cmp-IsAntisymmetric m n is

  none-left : (b : Bool) → option_map f (cond b None None) ≡ None
  none-left true = refl
  none-left false = refl

  seen-empty : seen finite.empty ≡ finite.empty
  seen-empty = same_transactions (seen finite.empty) finite.empty (λ q.
      get-seen finite.empty q ∙ ap (λ o. option_map f (cond (keep q) o None)) (finite.get-empty nat_cmp q) ∙ none-left (keep q) ∙ sym (finite.get-empty nat_cmp q))

  module _ (m : Transactions) (k : ℕ) (t : Transaction) (is : finite.get m k ≡ Some t) where
    gone : finite.get (seen (finite.remove m k)) k ≡ None
    gone = get-seen (finite.remove m k) k ∙ ap (λ o. option_map f (cond (keep k) o None)) (get-taken m k) ∙ none-left (keep k)

    beside : (q : ℕ) → (q ≡ k → ⊥) → finite.get (seen m) q ≡ finite.get (seen (finite.remove m k)) q
    beside q other = get-seen m q ∙ ap (λ o. option_map f (cond (keep q) o None)) (sym (get-left m k q other)) ∙ sym (get-seen (finite.remove m k) q)

    seen-kept : keep k ≡ true → seen m ≡ finite.insert (seen (finite.remove m k)) k (f t)
    seen-kept there = same_transactions (seen m) (finite.insert (seen (finite.remove m k)) k (f t)) (λ q. elim (cases_eq q k) [
      | inl here ↦
          ap (finite.get (seen m)) here
          ∙ get-seen m k ∙ (λ i. option_map f (cond (there i) (is i) None))
          ∙ sym (get-put (seen (finite.remove m k)) k (f t))
          ∙ ap (finite.get (finite.insert (seen (finite.remove m k)) k (f t))) (sym here)
      | inr other ↦ beside q other ∙ sym (get-beside (seen (finite.remove m k)) k (f t) q other)
    ])

    seen-left : keep k ≡ false → seen m ≡ seen (finite.remove m k)
    seen-left away = same_transactions (seen m) (seen (finite.remove m k)) (λ q. elim (cases_eq q k) [
      | inl here ↦
          ap (finite.get (seen m)) here
          ∙ get-seen m k ∙ ap (λ b. option_map f (cond b (finite.get m k) None)) away
          ∙ sym gone
          ∙ ap (finite.get (seen (finite.remove m k))) (sym here)
      | inr other ↦ beside q other
    ])

    step : IsKept m → count test (seen (finite.remove m k)) ≡ count test (finite.remove m k) → count test (seen m) ≡ count test m
    step kept before =
        elim (keep k) as (λ b. keep k ≡ b → count test (seen m) ≡ count test m) [
          | true ↦ λ there.
              ap (count test) (seen-kept there)
              ∙ count-insert test (seen (finite.remove m k)) k (f t) gone
              ∙ (λ i. cond (same t i) 1 0 + before i)
              ∙ count-remove test m k t is
          | false ↦ λ away.
              let all : one test t + count test (finite.remove m k) ≡ count test m = count-remove test m k t is in
              let none : one test t ≡ 0 = ap (λ b. cond b 1 0) (untested (test t) refl away) in
              let rest : count test (finite.remove m k) ≡ count test m = omega (arith, all, none) in
              ap (count test) (seen-left away) ∙ before ∙ rest
        ] refl
      where
        untested : (b : Bool) → test t ≡ b → keep k ≡ false → test t ≡ false
        untested false at away = at
        untested true at away = absurd (false≢true (sym away ∙ kept k t is at))

    kept-left : IsKept m → IsKept (finite.remove m k)
    kept-left kept q u at = elim (cases_eq q k) [
      | inl here ↦ absurd (none_some (sym (ap (finite.get (finite.remove m k)) here ∙ get-taken m k) ∙ at))
      | inr other ↦ kept q u (sym (get-left m k q other) ∙ at)
    ]
      where
        none_some : {u : Transaction} → None ≡ Some u → ⊥
        none_some e = cc

  counts : (n : ℕ) (m : Transactions) → finite.len m ≡ n → IsKept m → count test (seen m) ≡ count test m
  counts zero m size kept = (λ i. count test (seen (finite.empty_of_len m size i))) ∙ ap (count test) seen-empty ∙ ap (count test) (sym (finite.empty_of_len m size))
  counts (suc n) m size kept = of (finite.entries m) refl (λ rest rest_size rest_kept. counts n rest rest_size rest_kept)
    where
      smaller : (k : ℕ) (t : Transaction) → finite.get m k ≡ Some t → finite.len (finite.remove m k) ≡ n
      smaller k t is = finite.len-remove nat_cmp_total m k ∙ ap (λ b. cond b (finite.len m - 1) (finite.len m)) (ap is_some is) ∙ ap (λ l. l - 1) size ∙ one_less
        where
          one_less : suc n - 1 ≡ n
          one_less = omega arith

      of : (es : List (ℕ × Transaction)) → finite.entries m ≡ es
          → ((rest : Transactions) → finite.len rest ≡ n → IsKept rest → count test (seen rest) ≡ count test rest)
          → count test (seen m) ≡ count test m
      of [] none before = (let empty : 0 ≡ suc n = sym (ap length none) ∙ sym (finite.len-entries m) ∙ size in absurd (omega (arith, empty)))
      of ((k, t) ∷ es) some before =
          let is : finite.get m k ≡ Some t = finite.get-entries m k ∙ ap (finite.find nat_cmp k) some ∙ ap (λ b. cond b (Some t) (finite.find nat_cmp k es)) (unsigned_tied k k ∙ eq-eqb k k refl) in
          step m k t is kept (before (finite.remove m k) (smaller k t is) (kept-left m k t is kept))

pub count-seen : (e : ℕ) (s : State) → open_count (open_of (view e s)) e ≡ open_count (open_of s) e
count-seen e s =
    counts (λ (t : Transaction). t.sender == e) (seen_by e) (λ h. involves e (transaction_of s h)) (λ t. refl) (finite.len s.transactions) s.transactions refl
    (λ k t is mine. ap (involves e) is ∙ ap (λ b. b || is_receiver e t) mine)
