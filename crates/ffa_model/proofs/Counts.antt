-- SPDX-License-Identifier: MIT OR Apache-2.0
-- How many open transactions an endpoint has sent, after a change of one of them.
use Rattle.std.proofs.Common.{◌≡◌, ◌∙◌, ℕ, ◌+◌, Bool, true, false, cond, List, [], ◌∷◌, length, map, Some, None, refl, sym, ap, arith, ◌==◌, filter, eqb-true}
use Rattle.std.specs.Ordering.{nat_cmp, eq_by_cmp, is_eq}
use Rattle.std.specs.declared.cmp.Ordering.TheVariants.{Less, Equal, Greater}
use Rattle.std.specs.Cmp.{nat_cmp_total, unsigned_tied}
use Rattle.std.specs.FinMap as finite
use Rattle.std.specs.FinMap.Entries.{by_order}
use Rattle.std.proofs.lemmas.Option.{none-some}
use Rattle.ffa_model.specs.State.{Transaction}
use Rattle.ffa_model.specs.Transactions.{OpenTransactions, closed, open_count, opened, with_transaction}
use Rattle.ffa_model.proofs.Handles.{Transactions, get-taken}

some-none : {A : Type 0} (x : A) → Some x ≡ None → ⊥
some-none x e = none-some x (sym e)

abbrev pub values_of : List (ℕ × Transaction) → List Transaction
values_of es = map (λ (x : ℕ × Transaction). x.1) es

module _ (test : Transaction → Bool) where
  -- one that passes counts as one
  abbrev pub one : Transaction → ℕ
  one t = cond (test t) 1 0

  abbrev pub counted : List Transaction → ℕ
  counted ts = length (filter test ts)

  counted-first : (t : Transaction) (ts : List Transaction) → counted (t ∷ ts) ≡ one t + counted ts
  counted-first t ts = of (test t)
    where
      of : (b : Bool) → length (cond b (t ∷ filter test ts) (filter test ts)) ≡ cond b 1 0 + length (filter test ts)
      of true = omega arith
      of false = omega arith

  count-put : (k : ℕ) (t : Transaction) (es : List (ℕ × Transaction)) → finite.find nat_cmp k es ≡ None
      → counted (values_of (finite.put nat_cmp k t es)) ≡ one t + counted (values_of es)
  count-put k t [] none = counted-first t []
  count-put k t (x ∷ es) none =
      elim (nat_cmp k x.0)
      as (λ r. nat_cmp k x.0 ≡ r → cond (is_eq r) (Some x.1) (finite.find nat_cmp k es) ≡ None
      → counted (values_of (by_order r ((k, t) ∷ x ∷ es) ((x.0, t) ∷ es) (x ∷ finite.put nat_cmp k t es)))
      ≡ one t + counted (values_of (x ∷ es))) [
        | Less ↦ λ _ _. counted-first t (values_of (x ∷ es))
        | Equal ↦ λ _ found. absurd (some-none x.1 found)
        | Greater ↦ λ _ rest. (
            let after = count-put k t es rest in
            let one_more = counted-first x.1 (values_of (finite.put nat_cmp k t es)) in
            let one_before = counted-first x.1 (values_of es) in
            omega (arith, after, one_more, one_before))
      ] refl none

  abbrev pub count : Transactions → ℕ
  count m = counted (finite.values m)

  -- a transaction under a new handle
  pub count-insert : (m : Transactions) (k : ℕ) (t : Transaction) → finite.get m k ≡ None → count (finite.insert m k t) ≡ one t + count m
  count-insert m k t none =
      ap (λ (es : List (ℕ × Transaction)). counted (values_of es)) (finite.entries-insert nat_cmp_total m k t)
      ∙ count-put k t (finite.entries m) (sym (finite.get-entries m k) ∙ none)

  -- one that was open is put in again, or another in its place
  again : (m : Transactions) (k : ℕ) (t : Transaction) → finite.insert m k t ≡ finite.insert (finite.remove m k) k t
  again m k t =
      finite.same_map nat_cmp_total finite.nat_cmp-IsAntisymmetric (finite.insert m k t) (finite.insert (finite.remove m k) k t)
      (λ q. of q (eq_by_cmp nat_cmp q k) refl)
    where
      of : (q : ℕ) (b : Bool) → eq_by_cmp nat_cmp q k ≡ b → finite.get (finite.insert m k t) q ≡ finite.get (finite.insert (finite.remove m k) k t) q
      of q b is =
          finite.get-insert nat_cmp_total m k t q
          ∙ inner b is
          ∙ sym (finite.get-insert nat_cmp_total (finite.remove m k) k t q ∙ ap (cond (eq_by_cmp nat_cmp q k) (Some t)) (finite.get-remove nat_cmp_total m k q))
        where
          inner : (b : Bool) → eq_by_cmp nat_cmp q k ≡ b
              → cond (eq_by_cmp nat_cmp q k) (Some t) (finite.get m q) ≡ cond (eq_by_cmp nat_cmp q k) (Some t) (cond (eq_by_cmp nat_cmp q k) None (finite.get m q))
          inner true is = ap (λ b. cond b (Some t) (finite.get m q)) is ∙ sym (ap (λ b. cond b (Some t) (cond b None (finite.get m q))) is)
          inner false is = ap (λ b. cond b (Some t) (finite.get m q)) is ∙ sym (ap (λ b. cond b (Some t) (cond b None (finite.get m q))) is)

  itself : (m : Transactions) (k : ℕ) (t : Transaction) → finite.get m k ≡ Some t → finite.insert m k t ≡ m
  itself m k t is = finite.same_map nat_cmp_total finite.nat_cmp-IsAntisymmetric (finite.insert m k t) m (λ q. finite.get-insert nat_cmp_total m k t q ∙ of q (eq_by_cmp nat_cmp q k) refl)
    where
      of : (q : ℕ) (b : Bool) → eq_by_cmp nat_cmp q k ≡ b → cond b (Some t) (finite.get m q) ≡ finite.get m q
      of q true at = sym (ap (finite.get m) (eqb-true q k (sym (unsigned_tied q k) ∙ at)) ∙ is)
      of q false at = refl

  -- one that is taken out
  pub count-remove : (m : Transactions) (k : ℕ) (t : Transaction) → finite.get m k ≡ Some t → one t + count (finite.remove m k) ≡ count m
  count-remove m k t is =
      sym (count-insert (finite.remove m k) k t (get-taken m k)) ∙ ap count (sym (again m k t) ∙ itself m k t is)

  -- one that is changed
  pub count-change : (m : Transactions) (k : ℕ) (t u : Transaction) → finite.get m k ≡ Some t → test u ≡ test t → count (finite.insert m k u) ≡ count m
  count-change m k t u is same =
      ap count (again m k u)
      ∙ count-insert (finite.remove m k) k u (get-taken m k)
      ∙ ap (λ b. cond b 1 0 + count (finite.remove m k)) same
      ∙ count-remove m k t is

-- the same of what endpoints have sent
module _ (o : OpenTransactions) (h : ℕ) (e : ℕ) where
  pub open-opened : (t : Transaction) → finite.get o.transactions h ≡ None → open_count (opened o h t) e ≡ cond (t.sender == e) 1 0 + open_count o e
  open-opened t none = count-insert (λ (u : Transaction). u.sender == e) o.transactions h t none

  pub open-closed : (t : Transaction) → finite.get o.transactions h ≡ Some t → cond (t.sender == e) 1 0 + open_count (closed o h) e ≡ open_count o e
  open-closed t is = count-remove (λ (u : Transaction). u.sender == e) o.transactions h t is

  pub open-changed : (t u : Transaction) → finite.get o.transactions h ≡ Some t → u.sender ≡ t.sender → open_count (with_transaction o h u) e ≡ open_count o e
  open-changed t u is same = count-change (λ (u : Transaction). u.sender == e) o.transactions h t u is (ap (λ n. n == e) same)
