-- SPDX-License-Identifier: MIT OR Apache-2.0
-- Access after each change of the open transactions: at the pages that the transaction names, and at all others.
use Rattle.std.proofs.Common.{◌≡◌, ◌∙◌, ℕ, zero, suc, Bool, true, false, cond, List, [], ◌∷◌, length, get_or, replicate, Option, Some, None, refl, sym, ap, subst, inl, inr, ◌==◌, ◌&&◌, if◌then◌else◌}
use Rattle.std.specs.Option.{option_and_then}
use Rattle.std.specs.Cmp.{nat_cmp_total, unsigned_tied}
use Rattle.std.specs.FinMap as finite
use Rattle.std.proofs.lemmas.Bool.{cases_eq, eq-eqb, false≢true, ne_eqb, true≢false}
use Rattle.ffa_model.specs.declared.rights.Rights.{Rights}
use Rattle.ffa_model.specs.declared.transaction.Range.{Range}
use Rattle.ffa_model.specs.Lists.{listed, map_at}
use Rattle.ffa_model.specs.Rights.{is_share}
use Rattle.ffa_model.specs.State.{State, Page, Transaction, page_at, transaction_of}
use Rattle.ffa_model.specs.Access.{access, handle_at, held_by, is_naming, names, right_by, right_of, transaction_at}
use Rattle.ffa_model.specs.Memory.{with_pages, zeroed_if, zeroed_page}
use Rattle.ffa_model.specs.Transactions.{closed, holding, not_holding, open_of, opened, with_open, with_transaction}
use Rattle.ffa_model.specs.MemoryRetrieve.{donated_page}
use Rattle.ffa_model.proofs.Handles.{IsAlone, alone-in, get-beside, get-left, get-put, get-taken, none-in, none-passes, same-in}

-- LISTS
pub get_or-map_at : {X : Type 0} (f : ℕ → X → X) (xs : List X) (i : ℕ) (d : X) → ((j : ℕ) → f j d ≡ d) → get_or (map_at f xs) i d ≡ f i (get_or xs i d)
get_or-map_at f [] i d none = sym (none i)
get_or-map_at f (x ∷ xs) zero d none = refl
get_or-map_at f (x ∷ xs) (suc i) d none = get_or-map_at (λ j. f (suc j)) xs i d (λ j. none (suc j))

pub length-map_at : {X Y : Type 0} (f : ℕ → X → Y) (xs : List X) → length (map_at f xs) ≡ length xs
length-map_at f [] = refl
length-map_at f (x ∷ xs) = ap suc (length-map_at (λ j. f (suc j)) xs)

pub map_at-listed : {X Y : Type 0} (g : ℕ → X → Y) (n : ℕ) (f : ℕ → X) → map_at g (listed n f) ≡ listed n (λ i. g i (f i))
map_at-listed g zero f = refl
map_at-listed g (suc n) f = ap (λ ys. g 0 (f 0) ∷ ys) (map_at-listed (λ j. g (suc j)) n (λ j. f (suc j)))

-- PAGES
pub page-changed : (s : State) (ranges : List Range) (change : Option Page → Option Page) (p : ℕ) → change None ≡ None
    → page_at (with_pages s ranges change) p ≡ (if names s ranges p then change (page_at s p) else page_at s p)
page-changed s ranges change p none =
    get_or-map_at (λ q page. if names s ranges q then change page else page) s.pages p None (λ q. of (names s ranges q))
  where
    of : (b : Bool) → cond b (change None) None ≡ None
    of true = none
    of false = refl

-- zeros change nobody's access
right-zeroed : (e : ℕ) (page : Option Page) (t : Option Transaction) → right_of e (zeroed_page page) t ≡ right_of e page t
right-zeroed e None t = refl
right-zeroed e (Some page) None = refl
right-zeroed e (Some page) (Some t) = of (held_by t e)
  where
    of : (o : Option Rights) → right_by e (record page { bytes = replicate 4096 0 }) t o ≡ right_by e page t o
    of None = refl
    of (Some right) = refl

pub access-zeroed : (asked : Bool) (s : State) (ranges : List Range) (e p : ℕ) → access (zeroed_if asked s ranges) e p ≡ access s e p
access-zeroed false s ranges e p = refl
access-zeroed true s ranges e p =
    ap (λ page. right_of e page (transaction_at s p)) (page-changed s ranges zeroed_page p refl)
    ∙ of (names s ranges p)
  where
    of : (b : Bool) → right_of e (cond b (zeroed_page (page_at s p)) (page_at s p)) (transaction_at s p) ≡ right_of e (page_at s p) (transaction_at s p)
    of true = right-zeroed e (page_at s p) (transaction_at s p)
    of false = refl

-- THE TRANSACTION OF A PAGE
-- at most one open transaction names the page
abbrev pub IsNamedOnce : State → ℕ → Type 0
IsNamedOnce s p = IsAlone (is_naming s p) s.transactions

-- a page stands in the one transaction that names it
pub named-in : (s : State) (p h : ℕ) (t : Transaction) → IsNamedOnce s p → transaction_of s h ≡ Some t → names s t.ranges p ≡ true → transaction_at s p ≡ Some t
named-in s p h t once is named = alone-in (is_naming s p) refl s.transactions h once (ap (is_naming s p) is ∙ named) ∙ is

-- and in none where none does
pub unnamed-in : (s : State) (p : ℕ) → ((h : ℕ) (t : Transaction) → transaction_of s h ≡ Some t → names s t.ranges p ≡ false) → transaction_at s p ≡ None
unnamed-in s p never = none-in (is_naming s p) refl s.transactions (λ h. of h (transaction_of s h) refl)
  where
    of : (h : ℕ) (o : Option Transaction) → transaction_of s h ≡ o → is_naming s p o ≡ false
    of h None is = refl
    of h (Some t) is = never h t is

-- A SEND
module _ (s : State) (h : ℕ) (t : Transaction) (new : transaction_of s h ≡ None) where
  abbrev pub after_send : State
  after_send = with_open s (opened (open_of s) h t)

  beside : (p k : ℕ) → is_naming s p (transaction_of after_send k) ≡ true → (k ≡ h → ⊥) → is_naming s p (transaction_of s k) ≡ true
  beside p k passes other = sym (ap (is_naming s p) (get-beside s.transactions h t k other)) ∙ passes

  -- a page that it names, and that stood in no other
  module _ (p : ℕ) (named : names s t.ranges p ≡ true) (unnamed : handle_at s p ≡ None) where
    its : (k : ℕ) → is_naming s p (transaction_of after_send k) ≡ true → k ≡ h
    its k passes = elim (cases_eq k h) [
      | inl same ↦ same
      | inr other ↦ absurd (true≢false (sym (beside p k passes other) ∙ none-passes (is_naming s p) refl s.transactions k unnamed))
    ]

    pub once-opened : IsNamedOnce after_send p
    once-opened k j at_k at_j = its k at_k ∙ sym (its j at_j)

    pub in-opened : transaction_at after_send p ≡ Some t
    in-opened =
        alone-in (is_naming s p) refl (finite.insert s.transactions h t) h once-opened (ap (is_naming s p) (get-put s.transactions h t) ∙ named)
        ∙ get-put s.transactions h t

    -- gives access to nobody but a share's sender
    pub access-opened : (e : ℕ) → held_by t e ≡ None
        → access after_send e p ≡ option_and_then (λ (page : Page). if is_share t.kind && t.sender == e then Some page.own_right else None) (page_at s p)
    access-opened e none = ap (right_of e (page_at s p)) in-opened ∙ of (page_at s p)
      where
        of : (o : Option Page) → right_of e o (Some t) ≡ option_and_then (λ (page : Page). if is_share t.kind && t.sender == e then Some page.own_right else None) o
        of None = refl
        of (Some page) = ap (right_by e page t) none

  -- any other page is as it was
  module _ (p : ℕ) (other : names s t.ranges p ≡ false) (once : IsNamedOnce s p) where
    tests-opened : (k : ℕ) → is_naming s p (transaction_of after_send k) ≡ is_naming s p (transaction_of s k)
    tests-opened k = elim (cases_eq k h) [
      | inl same ↦ subst (λ j. is_naming s p (transaction_of after_send j) ≡ is_naming s p (transaction_of s j)) (sym same)
          (ap (is_naming s p) (get-put s.transactions h t) ∙ other ∙ sym (ap (is_naming s p) new))
      | inr apart ↦ ap (is_naming s p) (get-beside s.transactions h t k apart)
    ]

    pub in-beside : transaction_at after_send p ≡ transaction_at s p
    in-beside = same-in (is_naming s p) refl (finite.insert s.transactions h t) s.transactions once tests-opened (λ k passes. of k passes)
      where
        of : (k : ℕ) → is_naming s p (transaction_of after_send k) ≡ true → transaction_of after_send k ≡ transaction_of s k
        of k passes = elim (cases_eq k h) [
          | inl same ↦ absurd (true≢false (sym passes ∙ tests-opened k ∙ ap (λ j. is_naming s p (transaction_of s j)) same ∙ ap (is_naming s p) new))
          | inr apart ↦ get-beside s.transactions h t k apart
        ]

    pub once-beside : IsNamedOnce after_send p
    once-beside k j at_k at_j = once k j (sym (tests-opened k) ∙ at_k) (sym (tests-opened j) ∙ at_j)

    pub access-beside : (e : ℕ) → access after_send e p ≡ access s e p
    access-beside e = ap (right_of e (page_at s p)) in-beside

-- A CHANGE of who holds an open transaction
module _ (s : State) (h : ℕ) (t u : Transaction) (was : transaction_of s h ≡ Some t) (same_ranges : u.ranges ≡ t.ranges) (p : ℕ) (once : IsNamedOnce s p) where
  abbrev pub after_change : State
  after_change = with_open s (with_transaction (open_of s) h u)

  tests-changed : (k : ℕ) → is_naming s p (transaction_of after_change k) ≡ is_naming s p (transaction_of s k)
  tests-changed k = elim (cases_eq k h) [
    | inl same ↦ subst (λ j. is_naming s p (transaction_of after_change j) ≡ is_naming s p (transaction_of s j)) (sym same)
        (ap (is_naming s p) (get-put s.transactions h u) ∙ ap (λ (ranges : List Range). names s ranges p) same_ranges ∙ sym (ap (is_naming s p) was))
    | inr apart ↦ ap (is_naming s p) (get-beside s.transactions h u k apart)
  ]

  pub once-changed : IsNamedOnce after_change p
  once-changed k j at_k at_j = once k j (sym (tests-changed k) ∙ at_k) (sym (tests-changed j) ∙ at_j)

  pub in-changed : names s t.ranges p ≡ true → transaction_at after_change p ≡ Some u
  in-changed named =
      named-in after_change p h u once-changed (get-put s.transactions h u) (ap (λ (ranges : List Range). names s ranges p) same_ranges ∙ named)

  pub in-unchanged : names s t.ranges p ≡ false → transaction_at after_change p ≡ transaction_at s p
  in-unchanged other = same-in (is_naming s p) refl (finite.insert s.transactions h u) s.transactions once tests-changed (λ k passes. of k passes)
    where
      of : (k : ℕ) → is_naming s p (transaction_of after_change k) ≡ true → transaction_of after_change k ≡ transaction_of s k
      of k passes = elim (cases_eq k h) [
        | inl same ↦ absurd (true≢false (sym passes ∙ tests-changed k ∙ ap (λ j. is_naming s p (transaction_of s j)) same ∙ ap (is_naming s p) was ∙ other))
        | inr apart ↦ get-beside s.transactions h u k apart
      ]

  pub access-unchanged : names s t.ranges p ≡ false → (e : ℕ) → access after_change e p ≡ access s e p
  access-unchanged other e = ap (right_of e (page_at s p)) (in-unchanged other)

-- whoever holds it has what it holds, and nobody else's access changes
module _ (t : Transaction) (e : ℕ) where
  pub held-itself : (right : Rights) → held_by (holding t e right) e ≡ Some right
  held-itself right = finite.get-insert nat_cmp_total t.held e right e ∙ ap (λ b. cond b (Some right) (held_by t e)) (unsigned_tied e e ∙ eq-eqb e e refl)

  pub held-beside : (right : Rights) (f : ℕ) → (f ≡ e → ⊥) → held_by (holding t e right) f ≡ held_by t f
  held-beside right f other = finite.get-insert nat_cmp_total t.held e right f ∙ ap (λ b. cond b (Some right) (held_by t f)) (unsigned_tied f e ∙ ne_eqb f e other)

  pub released-itself : held_by (not_holding t e) e ≡ None
  released-itself = finite.get-remove nat_cmp_total t.held e e ∙ ap (λ b. cond b None (held_by t e)) (unsigned_tied e e ∙ eq-eqb e e refl)

  pub released-beside : (f : ℕ) → (f ≡ e → ⊥) → held_by (not_holding t e) f ≡ held_by t f
  released-beside f other = finite.get-remove nat_cmp_total t.held e f ∙ ap (λ b. cond b None (held_by t f)) (unsigned_tied f e ∙ ne_eqb f e other)

-- the right to a page by what is held alone, where kind and sender are the same
pub right-held : (page : Option Page) (t u : Transaction) (f : ℕ) → u.kind ≡ t.kind → u.sender ≡ t.sender → held_by u f ≡ held_by t f
    → right_of f page (Some u) ≡ right_of f page (Some t)
right-held None t u f kind sender held = refl
right-held (Some page) t u f kind sender held =
    ap (λ o. right_by f page u o) held ∙ of (held_by t f)
  where
    of : (o : Option Rights) → right_by f page u o ≡ right_by f page t o
    of None = λ i. if is_share (kind i) && sender i == f then Some page.own_right else None
    of (Some right) = refl

module _ (s : State) (h : ℕ) (t : Transaction) (was : transaction_of s h ≡ Some t) (p : ℕ) (once : IsNamedOnce s p) (named : names s t.ranges p ≡ true) (e : ℕ) where
  -- e holds it
  pub access-holding : (right : Rights) (page : Page) → page_at s p ≡ Some page
      → access (with_open s (with_transaction (open_of s) h (holding t e right))) e p ≡ Some right
  access-holding right page is =
      ap (right_of e (page_at s p)) (in-changed s h t (holding t e right) was refl p once named)
      ∙ ap (λ o. right_of e o (Some (holding t e right))) is
      ∙ ap (right_by e page (holding t e right)) (held-itself t e right)

  pub access-holding_beside : (right : Rights) (f : ℕ) → (f ≡ e → ⊥)
      → access (with_open s (with_transaction (open_of s) h (holding t e right))) f p ≡ access s f p
  access-holding_beside right f other =
      ap (right_of f (page_at s p)) (in-changed s h t (holding t e right) was refl p once named)
      ∙ right-held (page_at s p) t (holding t e right) f refl refl (held-beside t e right f other)
      ∙ sym (ap (right_of f (page_at s p)) (named-in s p h t once was named))

  -- e holds it no more: what it has then is a share's sender's alone
  pub access-released : access (with_open s (with_transaction (open_of s) h (not_holding t e))) e p
      ≡ option_and_then (λ (page : Page). if is_share t.kind && t.sender == e then Some page.own_right else None) (page_at s p)
  access-released =
      ap (right_of e (page_at s p)) (in-changed s h t (not_holding t e) was refl p once named) ∙ of (page_at s p)
    where
      of : (o : Option Page) → right_of e o (Some (not_holding t e)) ≡ option_and_then (λ (page : Page). if is_share t.kind && t.sender == e then Some page.own_right else None) o
      of None = refl
      of (Some page) = ap (right_by e page (not_holding t e)) (released-itself t e)

  pub access-released_beside : (f : ℕ) → (f ≡ e → ⊥)
      → access (with_open s (with_transaction (open_of s) h (not_holding t e))) f p ≡ access s f p
  access-released_beside f other =
      ap (right_of f (page_at s p)) (in-changed s h t (not_holding t e) was refl p once named)
      ∙ right-held (page_at s p) t (not_holding t e) f refl refl (released-beside t e f other)
      ∙ sym (ap (right_of f (page_at s p)) (named-in s p h t once was named))

-- A CLOSE
module _ (s : State) (h : ℕ) (t : Transaction) (was : transaction_of s h ≡ Some t) (p : ℕ) (once : IsNamedOnce s p) where
  abbrev pub after_close : State
  after_close = with_open s (closed (open_of s) h)

  left : (k : ℕ) → is_naming s p (transaction_of after_close k) ≡ true → (k ≡ h → ⊥) × (is_naming s p (transaction_of s k) ≡ true)
  left k passes = elim (cases_eq k h) [
    | inl same ↦ absurd (false≢true (sym (ap (λ j. is_naming s p (transaction_of after_close j)) same ∙ ap (is_naming s p) (get-taken s.transactions h)) ∙ passes))
    | inr apart ↦ (apart, sym (ap (is_naming s p) (get-left s.transactions h k apart)) ∙ passes)
  ]

  -- a page that it named stands in none, so that it is its owner's again
  pub in-closed : names s t.ranges p ≡ true → transaction_at after_close p ≡ None
  in-closed named = none-in (is_naming s p) refl (finite.remove s.transactions h) (λ k. of k (is_naming s p (transaction_of after_close k)) refl)
    where
      of : (k : ℕ) (b : Bool) → is_naming s p (transaction_of after_close k) ≡ b → is_naming s p (transaction_of after_close k) ≡ false
      of k false is = is
      of k true is = let (apart, passes) = left k is in absurd (apart (once k h passes (ap (is_naming s p) was ∙ named)))

  pub access-closed : names s t.ranges p ≡ true → (e : ℕ) → access after_close e p ≡ right_of e (page_at s p) None
  access-closed named e = ap (right_of e (page_at s p)) (in-closed named)

  module _ (other : names s t.ranges p ≡ false) where
    tests-closed : (k : ℕ) → is_naming s p (transaction_of after_close k) ≡ is_naming s p (transaction_of s k)
    tests-closed k = elim (cases_eq k h) [
      | inl same ↦ subst (λ j. is_naming s p (transaction_of after_close j) ≡ is_naming s p (transaction_of s j)) (sym same)
          (ap (is_naming s p) (get-taken s.transactions h) ∙ sym (ap (is_naming s p) was ∙ other))
      | inr apart ↦ ap (is_naming s p) (get-left s.transactions h k apart)
    ]

    pub in-still : transaction_at after_close p ≡ transaction_at s p
    in-still = same-in (is_naming s p) refl (finite.remove s.transactions h) s.transactions once tests-closed
        (λ k passes. get-left s.transactions h k (left k passes).0)

    pub access-still : (e : ℕ) → access after_close e p ≡ access s e p
    access-still e = ap (right_of e (page_at s p)) in-still

-- GIVING, for a donate that was retrieved
right-given : (e f : ℕ) (right : Rights) (page : Option Page) → right_of f (donated_page e right page) None ≡ option_and_then (λ (_ : Page). if e == f then Some right else None) page
right-given e f right None = refl
right-given e f right (Some page) = refl

-- the new owner has the right, and nobody else has any
pub access-given : (s : State) (ranges : List Range) (e f : ℕ) (right : Rights) (p : ℕ) → names s ranges p ≡ true → transaction_at s p ≡ None
    → access (with_pages s ranges (donated_page e right)) f p ≡ option_and_then (λ (_ : Page). if e == f then Some right else None) (page_at s p)
access-given s ranges e f right p named none =
    (λ i. right_of f (page-changed s ranges (donated_page e right) p refl i) (none i))
    ∙ ap (λ b. right_of f (cond b (donated_page e right (page_at s p)) (page_at s p)) None) named
    ∙ right-given e f right (page_at s p)

pub access-kept : (s : State) (ranges : List Range) (e f : ℕ) (right : Rights) (p : ℕ) → names s ranges p ≡ false
    → access (with_pages s ranges (donated_page e right)) f p ≡ access s f p
access-kept s ranges e f right p other =
    ap (λ page. right_of f page (transaction_at s p))
    (page-changed s ranges (donated_page e right) p refl ∙ ap (λ b. cond b (donated_page e right (page_at s p)) (page_at s p)) other)
