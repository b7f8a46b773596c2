-- SPDX-License-Identifier: MIT OR Apache-2.0
-- A donate that is taken: its pages are the receiver's own. What becomes of views, and that a state stays steady.
use Rattle.std.proofs.Common.{◌≡◌, ◌≢◌, ◌∙◌, ℕ, Bool, true, false, cond, length, Option, Some, None, refl, sym, ap, inl, inr, arith, ◌==◌, ◌||◌, filter}
use Rattle.std.specs.List.{list_all}
use Rattle.std.specs.Option.{option_map, option_map_or}
use Rattle.std.specs.FinMap as finite
use Rattle.std.proofs.lemmas.Bool.{cases_Bool, eq-eqb, ne_eqb}
use Rattle.std.proofs.lemmas.Option.{none-some}
use Rattle.ffa_model.specs.declared.rights.Rights.{Rights}
use Rattle.ffa_model.specs.Identifiers.{manager}
use Rattle.ffa_model.specs.Lists.{listed, map_at}
use Rattle.ffa_model.specs.Rights.{is_within, may_fetch, may_store}
use Rattle.ffa_model.specs.State.{State, Page, Transaction, owner_of, page_at, transaction_of, own_right_of}
use Rattle.ffa_model.specs.Access.{handle_at, is_naming, names, transaction_at, ownership_of}
use Rattle.ffa_model.specs.Memory.{changed_pages, with_pages}
use Rattle.ffa_model.specs.MemoryRetrieve.{donated_page}
use Rattle.ffa_model.specs.MemoryReturn.{named_ranges}
use Rattle.ffa_model.specs.Transactions.{ceiling, ceiling_in, pages_in}
use Rattle.ffa_laws.specs.Events.{Closed, apply}
use Rattle.ffa_laws.specs.Steady.{IsSteady, IsSteadyTransaction}
use Rattle.ffa_laws.specs.View.{view, buffers_seen, involves, is_near, kept, seen_by, transactions_of}
use Rattle.ffa_model.proofs.Accesses.{length-map_at, page-changed}
use Rattle.ffa_model.proofs.KeptDonate.{same-tests}
use Rattle.ffa_laws.proofs.Ceilings.{near-named}
use Rattle.ffa_laws.proofs.Closed.{closed, closed-untold, get-remove, near-closed, transaction_at-closed, transactions-closed}
use Rattle.ffa_laws.proofs.Maps.{first_none, map_at-alike, map_at-id, map_at-twice}
use Rattle.ffa_laws.proofs.ReturnLaws.{open-before, steady-closed}
use Rattle.ffa_laws.proofs.Views.{kept_none, shown, view-page, view-transaction}

abbrev owner_in : Option Page → ℕ
owner_in page = option_map_or (λ (q : Page). q.owner) page manager

or_false : (b : Bool) → (b || false) ≡ b
or_false true = refl
or_false false = refl

module _ (s : State) (steady : IsSteady s) (h : ℕ) (t : Transaction) (there : transaction_of s h ≡ Some t) (r : ℕ) (right : Rights) where
  abbrev pub given : State
  given = with_pages (closed s h) t.ranges (donated_page r right)

  pub size-given : length given.pages ≡ length s.pages
  size-given = length-map_at (λ q page. cond (names s t.ranges q) (donated_page r right page) page) s.pages

  pub page-given : (p : ℕ) → page_at given p ≡ cond (names s t.ranges p) (donated_page r right (page_at s p)) (page_at s p)
  page-given p = page-changed (closed s h) t.ranges (donated_page r right) p refl

  near-given : (e p : ℕ) → is_near e given p ≡ cond (names s t.ranges p) (owner_in (donated_page r right (page_at s p)) == e) (is_near e s p)
  near-given e p =
      (λ i. owner_in (page-given p i) == e || involves e (transaction_at-closed s steady h t there p i))
      ∙ elim (names s t.ranges p) as (λ b. (owner_in (cond b (donated_page r right (page_at s p)) (page_at s p)) == e || involves e (cond b None (transaction_at s p))) ≡ cond b (owner_in (donated_page r right (page_at s p)) == e) (is_near e s p)) [
        | true ↦ or_false (owner_in (donated_page r right (page_at s p)) == e)
        | false ↦ refl
      ]

  -- ---- views
  -- the pages of a view, where those that are given become so
  pages-given : (e : ℕ) (change : Option Page → Option Page)
      → ((p : ℕ) → names s t.ranges p ≡ true → kept (owner_in (donated_page r right (page_at s p)) == e) (donated_page r right (page_at s p)) ≡ change (page_at (view e s) p))
      → (view e given).pages ≡ changed_pages (view e s) t.ranges change
  pages-given e change become =
      map_at-twice (λ q page. kept (is_near e given q) page) (λ q page. cond (names s t.ranges q) (donated_page r right page) page) s.pages
      ∙ map_at-alike (λ q page. kept (is_near e given q) (cond (names s t.ranges q) (donated_page r right page) page)) (λ q page. cond (names s t.ranges q) (change page) page) s.pages (view e s).pages None None
      (sym (length-map_at (λ q page. kept (is_near e s q) page) s.pages)) (λ p. at p (names s t.ranges p) refl)
    where
      at : (p : ℕ) (b : Bool) → names s t.ranges p ≡ b
          → kept (is_near e given p) (cond b (donated_page r right (page_at s p)) (page_at s p)) ≡ cond b (change (page_at (view e s) p)) (page_at (view e s) p)
      at p true named =
          ap (λ n. kept n (donated_page r right (page_at s p))) (near-given e p ∙ ap (λ b. cond b (owner_in (donated_page r right (page_at s p)) == e) (is_near e s p)) named)
          ∙ become p named
      at p false away =
          ap (λ n. kept n (page_at s p)) (near-given e p ∙ ap (λ b. cond b (owner_in (donated_page r right (page_at s p)) == e) (is_near e s p)) away)
          ∙ sym (view-page e s p)

  view-changed : (e : ℕ) (change : Option Page → Option Page) → (view e given).pages ≡ changed_pages (view e s) t.ranges change
      → view e given ≡ with_pages (closed (view e s) h) t.ranges change
  view-changed e change pages =
      λ i. record (view e s) { pages = pages i; transactions = transactions-closed s steady h t there e i; buffers = map_at (buffers_seen e (size-given i)) s.buffers }

  -- to the receiver they are its own
  pub view-taken : involves r (Some t) ≡ true → view r given ≡ with_pages (closed (view r s) h) t.ranges (donated_page r right)
  view-taken known = view-changed r (donated_page r right) (pages-given r (donated_page r right) become)
    where
      own : (page : Option Page) → kept (owner_in (donated_page r right page) == r) (donated_page r right page) ≡ donated_page r right page
      own None = kept_none (manager == r)
      own (Some q) = ap (λ b. kept b (donated_page r right (Some q))) (eq-eqb r r refl)

      become : (p : ℕ) → names s t.ranges p ≡ true → kept (owner_in (donated_page r right (page_at s p)) == r) (donated_page r right (page_at s p)) ≡ donated_page r right (page_at (view r s) p)
      become p named =
          own (page_at s p)
          ∙ ap (donated_page r right) (sym (view-page r s p ∙ ap (λ b. kept b (page_at s p)) (near-named r s steady h t there known p named)))

  -- from others they leave
  module _ (e : ℕ) (other : r ≢ e) where
    leave : view e given ≡ with_pages (closed (view e s) h) t.ranges (λ page. None)
    leave = view-changed e (λ page. None) (pages-given e (λ page. None) (λ p named. gone (page_at s p)))
      where
        gone : (page : Option Page) → kept (owner_in (donated_page r right page) == e) (donated_page r right page) ≡ None
        gone None = kept_none (manager == e)
        gone (Some q) = ap (λ b. kept b (donated_page r right (Some q))) (ne_eqb r e other)

    pub view-lost : involves e (Some t) ≡ true → view e given ≡ apply e (view e s) (Closed h)
    view-lost known = leave ∙ (λ i. with_pages (closed (view e s) h) (sym ranges i) (λ page. None))
      where
        ranges : named_ranges (transaction_of (view e s) h) ≡ t.ranges
        ranges = ap named_ranges (view-transaction e s h ∙ ap (shown e) there ∙ ap (λ b. option_map (seen_by e) (kept b (Some t))) known)

    pub view-unlost : involves e (Some t) ≡ false → view e given ≡ view e s
    view-unlost unknown =
        leave
        ∙ (λ i. record (closed (view e s) h) { pages = map_at-id (λ p page. cond (names s t.ranges p) None page) (view e s).pages None (λ p. at p (names s t.ranges p) refl) i })
        ∙ (λ i. record (view e s) { transactions = transactions i })
      where
        before : view e (closed s h) ≡ view e s
        before = closed-untold s steady h t there e unknown

        transactions : finite.remove (transactions_of e s) h ≡ transactions_of e s
        transactions = sym (transactions-closed s steady h t there e) ∙ ap (λ (v : State). v.transactions) before

        sender : (t.sender == e) ≡ false
        sender = grind (arith, cases_Bool (t.sender == e))

        at : (p : ℕ) (b : Bool) → names s t.ranges p ≡ b → cond b None (page_at (view e s) p) ≡ page_at (view e s) p
        at p false away = refl
        at p true named =
            sym (sym (ap (λ (v : State). page_at v p) before)
            ∙ view-page e (closed s h) p
            ∙ ap (λ b. kept b (page_at s p)) (near-closed s steady h t there e p
            ∙ ap (λ b. owner_of s p == e || cond b false (involves e (transaction_at s p))) named
            ∙ ap (λ o. (o == e) || false) ((steady.transactions h t there).owned p named)
            ∙ ap (λ b. b || false) sender))

  -- ---- steadiness
  pub page-same : (p : ℕ) → names s t.ranges p ≡ false → page_at given p ≡ page_at s p
  page-same p away = page-given p ∙ ap (λ b. cond b (donated_page r right (page_at s p)) (page_at s p)) away

  own_right-same : (p : ℕ) → names s t.ranges p ≡ false → own_right_of given p ≡ own_right_of s p
  own_right-same p away = ap (option_map (λ (page : Page). page.own_right)) (page-same p away)

  owner-same : (p : ℕ) → names s t.ranges p ≡ false → owner_of given p ≡ owner_of s p
  owner-same p away = ap owner_in (page-same p away)

  -- a page in no transaction isn't given
  pub unnamed-away : (p : ℕ) → handle_at s p ≡ None → names s t.ranges p ≡ false
  unnamed-away p none = sym (ap (is_naming s p) there) ∙ first_none (is_naming s p) s.transactions refl none h

  module _ (k : ℕ) (u : Transaction) (open_u : transaction_of (closed s h) k ≡ Some u) where
    was : IsSteadyTransaction (closed s h) u
    was = (steady-closed s steady h).transactions k u open_u

    -- no page of another open transaction is given
    apart : (p : ℕ) → names s u.ranges p ≡ true → names s t.ranges p ≡ false
    apart p named = elim (cases_Bool (names s t.ranges p)) [
      | inr away ↦ away
      | inl its ↦
          let same : k ≡ h = steady.one p k h (ap (is_naming s p) (open-before s steady h k u open_u) ∙ named) (ap (is_naming s p) there ∙ its) in
          absurd (none-some u (sym (get-remove s.transactions h k ∙ ap (λ b. cond b None (transaction_of s k)) (eq-eqb k h same)) ∙ open_u))
    ]

    rights-same : (test : Option Rights → Bool)
        → list_all (λ p. test (own_right_of given p)) (pages_in (ownership_of given) u.ranges) ≡ list_all (λ p. test (own_right_of s p)) (pages_in (ownership_of s) u.ranges)
    rights-same test =
        ap (λ n. list_all (λ p. test (own_right_of given p)) (filter (names s u.ranges) (listed n (λ p. p)))) size-given
        ∙ same-tests (λ p. test (own_right_of given p)) (λ p. test (own_right_of s p)) (names s u.ranges) (length s.pages) (λ p. p) (λ p lt named. ap test (own_right-same p (apart p named)))

    ceiling-same : (f : ℕ) → ceiling (ownership_of given) u f ≡ ceiling (ownership_of s) u f
    ceiling-same f = λ i. ceiling_in u.kind (rights-same may_store i) (rights-same may_fetch i) u f

    steady-other : IsSteadyTransaction given u
    steady-other =
        record {
          owned = λ p named. owner-same p (apart p named) ∙ was.owned p named;
          receiver = was.receiver;
          within = λ p e its named held. ap (is_within (Some its)) (own_right-same p (apart p named)) ∙ was.within p e its named held;
          alone = was.alone;
          ceilings = λ p e named. (λ i. is_within (Some (ceiling-same e i)) (own_right-same p (apart p named) i)) ∙ was.ceilings p e named;
          taker = was.taker;
        }

  pub steady-given : IsSteady given
  steady-given =
      let after = steady-closed s steady h in
      record {
        some = steady.some;
        few = steady.few;
        each = steady.each;
        runner = steady.runner;
        requesters = steady.requesters;
        one = after.one;
        transactions = steady-other;
        sends = steady.sends;
        numbers = after.numbers;
        buffers = λ e b known is.
            let old = steady.buffers e b known is in
            let new = after.buffers e b known is in
            record {
              tx = λ q its. record { owner = owner-same q (unnamed-away q (old.tx q its).unnamed) ∙ (old.tx q its).owner; unnamed = (new.tx q its).unnamed };
              rx = λ q its. record { owner = owner-same q (unnamed-away q (old.rx q its).unnamed) ∙ (old.rx q its).owner; unnamed = (new.rx q its).unnamed };
            };
        bound = steady.bound;
      }
