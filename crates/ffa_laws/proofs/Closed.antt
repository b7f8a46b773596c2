-- SPDX-License-Identifier: MIT OR Apache-2.0
-- A transaction that is closed, and pages that are zeroed: what becomes of views.
use Rattle.std.proofs.Common.{◌≡◌, ◌∙◌, ℕ, Bool, true, false, cond, List, Option, Some, None, refl, sym, ap, inl, inr, arith, ◌==◌, ◌||◌}
use Rattle.std.specs.Option.{option_and_then, option_map}
use Rattle.std.specs.Cmp.{nat_cmp_total}
use Rattle.std.specs.FinMap as finite
use Rattle.std.proofs.Math.Path.{fun_ext}
use Rattle.std.proofs.lemmas.Bool.{cases_Bool, eq-eqb, eqb-true, false≢true}
use Rattle.std.proofs.lemmas.Bool.Decides.{nat_tests}
use Rattle.ffa_model.specs.declared.transaction.Range.{Range}
use Rattle.ffa_model.specs.Lists.{map_at}
use Rattle.ffa_model.specs.State.{State, Page, Transaction, page_at, owner_of, transaction_of}
use Rattle.ffa_model.specs.Access.{handle_at, is_naming, is_receiver, names, transaction_at}
use Rattle.ffa_model.specs.RunStates.{schedule_of}
use Rattle.ffa_laws.specs.Steady.{IsSteady}
use Rattle.ffa_laws.specs.View.{view, involves, is_near, kept, seen_by, transactions_of}
use Rattle.ffa_model.specs.Memory.{changed_pages, with_pages, zeroed_if, zeroed_page}
use Rattle.ffa_model.specs.MemoryReturn.{named_ranges}
use Rattle.ffa_model.proofs.Accesses.{length-map_at}
use Rattle.ffa_laws.specs.Events.{Closed, apply}
use Rattle.ffa_laws.proofs.Maps.{first_no, first_none, first_one, first_some, at-map_at, map_at-alike, map_at-same, map_at-twice}
use Rattle.ffa_laws.proofs.Views.{shown, view-page, view-transaction}
use Rattle.ffa_laws.proofs.Changes.{AreRewritten, standing, unwritten, view-changed, with_parts}
use Rattle.ffa_laws.proofs.Opened.{Transactions, same_transactions}
use Rattle.ffa_laws.proofs.Ceilings.{at-named}

pub get-remove : (m : Transactions) (h k : ℕ) → finite.get (finite.remove m h) k ≡ cond (k == h) None (finite.get m k)
get-remove m h k = finite.get-remove nat_cmp_total m h k ∙ ap (λ b. cond b None (finite.get m k)) (grind (arith, nat_tests))

abbrev pub closed : State → ℕ → State
closed s h = record s { transactions = finite.remove s.transactions h }

-- ---- pages that are zeroed: a view is zeroed alike
abbrev pub zeroed : State → List Range → State
zeroed s ranges = with_pages s ranges zeroed_page

zeroed-kept : (b : Bool) (page : Option Page) → kept b (zeroed_page page) ≡ zeroed_page (kept b page)
zeroed-kept true page = refl
zeroed-kept false page = refl

zeroed-none : (b : Bool) → cond b (zeroed_page None) None ≡ None
zeroed-none true = refl
zeroed-none false = refl

standing-zeroed : (b : Bool) (page : Option Page) → standing (cond b (zeroed_page page) page) ≡ standing page
standing-zeroed true None = refl
standing-zeroed true (Some page) = refl
standing-zeroed false page = refl

pub rewritten-zeroed : (s : State) (ranges : List Range) → AreRewritten s.pages (zeroed s ranges).pages
rewritten-zeroed s ranges =
    record {
      each = length-map_at (λ q page. cond (names s ranges q) (zeroed_page page) page) s.pages;
      same = λ p. ap standing (at-map_at (λ q page. cond (names s ranges q) (zeroed_page page) page) s.pages p (λ q. zeroed-none (names s ranges q))) ∙ standing-zeroed (names s ranges p) (page_at s p);
    }

pub rewritten-zeroed_if : (asked : Bool) (s : State) (ranges : List Range) → AreRewritten s.pages (zeroed_if asked s ranges).pages
rewritten-zeroed_if true s ranges = rewritten-zeroed s ranges
rewritten-zeroed_if false s ranges = unwritten s.pages

-- whoever knows of the pages or not
pub view-zeroed : (e : ℕ) (s : State) (ranges : List Range) → view e (zeroed s ranges) ≡ zeroed (view e s) ranges
view-zeroed e s ranges =
    view-changed e s (zeroed s ranges).pages s.buffers (schedule_of s) (rewritten-zeroed s ranges)
    ∙ (λ i. with_parts (view e s) (pages i) (view e s).buffers (schedule_of s))
  where
    commutes : (q : ℕ) (page : Option Page) (b : Bool) → kept (is_near e s q) (cond b (zeroed_page page) page) ≡ cond b (zeroed_page (kept (is_near e s q) page)) (kept (is_near e s q) page)
    commutes q page true = zeroed-kept (is_near e s q) page
    commutes q page false = refl

    pages : map_at (λ q page. kept (is_near e s q) page) (zeroed s ranges).pages ≡ (zeroed (view e s) ranges).pages
    pages =
        map_at-twice (λ q page. kept (is_near e s q) page) (λ q page. cond (names s ranges q) (zeroed_page page) page) s.pages
        ∙ map_at-same _ _ s.pages (λ q page. commutes q page (names s ranges q))
        ∙ sym (map_at-twice (λ q page. cond (names s ranges q) (zeroed_page page) page) (λ q page. kept (is_near e s q) page) s.pages)

module _ (s : State) (steady : IsSteady s) (h : ℕ) (t : Transaction) (there : transaction_of s h ≡ Some t) where
  naming-closed : (p k : ℕ) → is_naming s p (transaction_of (closed s h) k) ≡ cond (k == h) false (is_naming s p (transaction_of s k))
  naming-closed p k =
      ap (is_naming s p) (get-remove s.transactions h k)
      ∙ elim (k == h) as (λ b. is_naming s p (cond b None (transaction_of s k)) ≡ cond b false (is_naming s p (transaction_of s k))) [ true ↦ refl | false ↦ refl ]

  -- whoever names a page of the closed transaction is it
  named-once : (p k : ℕ) → names s t.ranges p ≡ true → is_naming s p (transaction_of s k) ≡ true → k ≡ h
  named-once p k named is = steady.one p k h is (ap (is_naming s p) there ∙ named)

  pub transaction_at-closed : (p : ℕ) → transaction_at (closed s h) p ≡ cond (names s t.ranges p) None (transaction_at s p)
  transaction_at-closed p =
      elim (names s t.ranges p) as (λ b. names s t.ranges p ≡ b → transaction_at (closed s h) p ≡ cond b None (transaction_at s p)) [
        | true ↦ λ named. ap (option_and_then (transaction_of (closed s h))) (first_no (is_naming s p) (closed s h).transactions (λ k. naming-closed p k ∙ none named k))
        | false ↦ λ away. go away (handle_at s p) refl
      ] refl
    where
      none : names s t.ranges p ≡ true → (k : ℕ) → cond (k == h) false (is_naming s p (transaction_of s k)) ≡ false
      none named k =
          elim (cases_Bool (is_naming s p (transaction_of s k))) [
            | inl is ↦ ap (λ b. cond b false (is_naming s p (transaction_of s k))) (eq-eqb k h (named-once p k named is))
            | inr not ↦ elim (k == h) as (λ b. cond b false (is_naming s p (transaction_of s k)) ≡ false) [ true ↦ refl | false ↦ not ]
          ]

      other : names s t.ranges p ≡ false → (k : ℕ) → is_naming s p (transaction_of s k) ≡ true → (k == h) ≡ false
      other away k is =
          elim (cases_Bool (k == h)) [
            | inl same ↦ absurd (false≢true (sym (ap (is_naming s p) (ap (transaction_of s) (eqb-true k h same) ∙ there) ∙ away) ∙ is))
            | inr differ ↦ differ
          ]

      kept_off : names s t.ranges p ≡ false → (k : ℕ) → is_naming s p (transaction_of (closed s h) k) ≡ is_naming s p (transaction_of s k)
      kept_off away k =
          naming-closed p k
          ∙ elim (cases_Bool (is_naming s p (transaction_of s k))) [
            | inl is ↦ ap (λ b. cond b false (is_naming s p (transaction_of s k))) (other away k is)
            | inr not ↦ elim (k == h) as (λ b. cond b false (is_naming s p (transaction_of s k)) ≡ is_naming s p (transaction_of s k)) [ true ↦ sym not | false ↦ refl ]
          ]

      go : names s t.ranges p ≡ false → (o : Option ℕ) → handle_at s p ≡ o → transaction_at (closed s h) p ≡ option_and_then (transaction_of s) o
      go away None is = ap (option_and_then (transaction_of (closed s h))) (first_no (is_naming s p) (closed s h).transactions (λ k. kept_off away k ∙ first_none (is_naming s p) s.transactions refl is k))
      go away (Some k) is =
          let here : is_naming s p (transaction_of s k) ≡ true = first_some (is_naming s p) s.transactions k is in
          ap (option_and_then (transaction_of (closed s h))) (first_one (is_naming s p) (closed s h).transactions refl k (kept_off away k ∙ here) (λ j now. steady.one p j k (sym (kept_off away j) ∙ now) here))
          ∙ get-remove s.transactions h k ∙ ap (λ b. cond b None (transaction_of s k)) (other away k here)

  pub near-closed : (e p : ℕ) → is_near e (closed s h) p ≡ (owner_of s p == e || cond (names s t.ranges p) false (involves e (transaction_at s p)))
  near-closed e p =
      ap (λ o. owner_of s p == e || involves e o) (transaction_at-closed p)
      ∙ ap (λ b. owner_of s p == e || b) (elim (names s t.ranges p) as (λ b. involves e (cond b None (transaction_at s p)) ≡ cond b false (involves e (transaction_at s p))) [ true ↦ refl | false ↦ refl ])

  pub transactions-closed : (e : ℕ) → transactions_of e (closed s h) ≡ finite.remove (transactions_of e s) h
  transactions-closed e = same_transactions _ _ (λ k.
      view-transaction e (closed s h) k ∙ ap (shown e) (get-remove s.transactions h k)
      ∙ elim (k == h) as (λ b. shown e (cond b None (transaction_of s k)) ≡ cond b None (finite.get (transactions_of e s) k)) [ true ↦ refl | false ↦ sym (view-transaction e s k) ]
      ∙ sym (get-remove (transactions_of e s) h k))

  -- to its owner the pages stay
  pub own-closed : (e : ℕ) → t.sender ≡ e → closed (view e s) h ≡ view e (closed s h)
  own-closed e own = λ i. record (view e s) { pages = sym pages i; transactions = sym (transactions-closed e) i }
    where
      at : (p : ℕ) → is_near e (closed s h) p ≡ is_near e s p
      at p =
          near-closed e p
          ∙ elim (names s t.ranges p) as (λ b. names s t.ranges p ≡ b → (owner_of s p == e || cond b false (involves e (transaction_at s p))) ≡ is_near e s p) [
            | true ↦ λ named. (let owner = eq-eqb (owner_of s p) e ((steady.transactions h t there).owned p named ∙ own) in ap (λ b. b || false) owner ∙ sym (ap (λ b. b || involves e (transaction_at s p)) owner))
            | false ↦ λ away. refl
          ] refl

      pages : (view e (closed s h)).pages ≡ (view e s).pages
      pages = ap (λ (near : ℕ → Bool). map_at (λ p page. kept (near p) page) s.pages) (fun_ext at)

  -- to a receiver they leave, with the transaction
  pub other-closed : (e : ℕ) → (t.sender == e) ≡ false → is_receiver e t ≡ true → view e (closed s h) ≡ apply e (view e s) (Closed h)
  other-closed e other offered =
      (λ i. record (view e s) { pages = pages i; transactions = transactions-closed e i })
      ∙ (λ i. record (view e s) { pages = changed_pages (view e s) (sym ranges i) (λ page. None); transactions = finite.remove (transactions_of e s) h })
    where
      knows : involves e (Some t) ≡ true
      knows = ap (λ b. (t.sender == e) || b) offered ∙ grind (arith, cases_Bool (t.sender == e))

      ranges : named_ranges (transaction_of (view e s) h) ≡ t.ranges
      ranges = ap named_ranges (view-transaction e s h ∙ ap (shown e) there ∙ ap (λ b. option_map (seen_by e) (kept b (Some t))) knows)

      at : (p : ℕ) (b : Bool) → names s t.ranges p ≡ b → kept (is_near e (closed s h) p) (page_at s p) ≡ cond b None (page_at (view e s) p)
      at p true named =
          ap (λ b. kept b (page_at s p)) (near-closed e p ∙ ap (λ b. owner_of s p == e || cond b false (involves e (transaction_at s p))) named
          ∙ ap (λ o. (o == e) || false) ((steady.transactions h t there).owned p named) ∙ ap (λ b. b || false) other)
      at p false away =
          ap (λ b. kept b (page_at s p)) (near-closed e p ∙ ap (λ b. owner_of s p == e || cond b false (involves e (transaction_at s p))) away)
          ∙ sym (view-page e s p)

      pages : (view e (closed s h)).pages ≡ map_at (λ p page. cond (names s t.ranges p) None page) (view e s).pages
      pages =
          map_at-alike (λ p page. kept (is_near e (closed s h) p) page) (λ p page. cond (names s t.ranges p) None page) s.pages (view e s).pages None None
          (sym (length-map_at (λ p page. kept (is_near e s p) page) s.pages)) (λ p. at p (names s t.ranges p) refl)

  -- others see nothing
  pub closed-untold : (e : ℕ) → involves e (Some t) ≡ false → view e (closed s h) ≡ view e s
  closed-untold e unknown = λ i. record (view e s) { pages = pages i; transactions = transactions i }
    where
      at : (p : ℕ) → is_near e (closed s h) p ≡ is_near e s p
      at p =
          near-closed e p
          ∙ elim (names s t.ranges p) as (λ b. names s t.ranges p ≡ b → (owner_of s p == e || cond b false (involves e (transaction_at s p))) ≡ is_near e s p) [
            | true ↦ λ named. ap (λ b. owner_of s p == e || b) (sym (ap (involves e) (at-named s steady h t there p named) ∙ unknown))
            | false ↦ λ away. refl
          ] refl

      pages : (view e (closed s h)).pages ≡ (view e s).pages
      pages = ap (λ (near : ℕ → Bool). map_at (λ p page. kept (near p) page) s.pages) (fun_ext at)

      transactions : transactions_of e (closed s h) ≡ transactions_of e s
      transactions = same_transactions _ _ (λ k.
          view-transaction e (closed s h) k ∙ ap (shown e) (get-remove s.transactions h k)
          ∙ elim (k == h) as (λ b. (k == h) ≡ b → shown e (cond b None (transaction_of s k)) ≡ finite.get (transactions_of e s) k) [
            | true ↦ λ same. sym (view-transaction e s k ∙ ap (shown e) (ap (transaction_of s) (eqb-true k h same) ∙ there) ∙ ap (λ b. option_map (seen_by e) (kept b (Some t))) unknown)
            | false ↦ λ differ. sym (view-transaction e s k)
          ] refl)
