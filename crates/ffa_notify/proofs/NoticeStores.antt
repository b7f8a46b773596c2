-- SPDX-License-Identifier: MIT OR Apache-2.0
-- What the stored notices mean for endpoints, and how they change.
use Rattle.std.proofs.Common.{◌≡◌, ◌∙◌, ℕ, zero, suc, ◌+◌, ◌*◌, ◌<◌, ◌≤◌, Bool, true, false, List, length, get_or, replicate, set, refl, sym, ap, subst, arith, inl, inr, get_or-set_other, get_or-set_same}
use Rattle.std.specs.Prelude.{◌&&◌, ◌||◌, not, if◌then◌else◌}
use Rattle.std.specs.Cmp.Lexicographic.{nat_list_cmp_total, slice_cmp}
use Rattle.std.specs.FinSet as finite_set
use Rattle.std.specs.Ordering.{eq_by_cmp, nat_cmp}
use Rattle.std.proofs.lemmas.Bool.{and_parts, cases_eq, cases_lt, eq-eqb, false≢true, ne_eqb, or_cases}
use Rattle.ffa_model.specs.Bits.{is_set}
use Rattle.ffa_model.specs.Identifiers.{identifier, place}
use Rattle.ffa_model.specs.Notifications.{is_got, notice}
use Rattle.ffa_model.specs.State.{is_known_among}
use Rattle.ffa_model.proofs.Places.{known-named, known-place, place-identifier}
use Rattle.ffa_model.proofs.Sets.{Bits, among, contains-retained, same-itself, same_elements}
use Rattle.ffa_notify.specs.Stored.{entries, has_notice_of, is_asked, notice_of, notices_in}
use Rattle.ffa_notify.proofs.Asked.{asked-at, asked-before, asked-behind}
use Rattle.ffa_notify.proofs.Stores.{as-before, neither}
use Rattle.ffa_notify.proofs.Universe.{all-has, contains-at, contains-none, retained-is}

read-at : (notices : List Bool) (i j k : ℕ) → has_notice_of notices (notice_of i j k) ≡ get_or notices (3 * i + j) false
read-at notices i j k t = get_or notices (3 * place-identifier i t + j) false

module _ (n : ℕ) (notices : List Bool) where
  contains-notice : (i j : ℕ) → i < n → j < 3 → finite_set.contains (notices_in n notices) (notice (identifier i) j) ≡ get_or notices (3 * i + j) false
  unfolding notices_in
  contains-notice i j lt_i lt_j = contains-at notice_of n 3 1 (has_notice_of notices) i j 0 lt_i lt_j (omega arith) ∙ read-at notices i j 0

  no-others : (x : List ℕ) → finite_set.contains (notices_in n notices) x ≡ true → among x (entries notice_of n 3 1) ≡ true
  unfolding notices_in
  no-others x is = contains-none notice_of n 3 1 (has_notice_of notices) x is

  -- the set of notices is one that has the same entries
  notices-are : (b : Bits) → ((x : List ℕ) → finite_set.contains b x ≡ true → among x (entries notice_of n 3 1) ≡ true)
      → ((i j : ℕ) → i < n → j < 3 → get_or notices (3 * i + j) false ≡ finite_set.contains b (notice (identifier i) j))
      → notices_in n notices ≡ b
  unfolding notices_in
  notices-are b others same = retained-is notice_of n 3 1 (has_notice_of notices) b others (λ i j k lt_i lt_j lt_k. read-at notices i j k ∙ same i j lt_i lt_j)

-- where there is none
none-there : (count i : ℕ) → get_or (replicate count false) i false ≡ false
none-there zero i = refl
none-there (suc count) zero = refl
none-there (suc count) (suc i) = none-there count i

pub no-notices : (n count : ℕ) → notices_in n (replicate count false) ≡ finite_set.empty
no-notices n count =
    notices-are n (replicate count false) finite_set.empty (λ x is. absurd (false≢true (sym (finite_set.contains-empty (slice_cmp nat_cmp) x) ∙ is)))
    (λ i j lt_i lt_j. none-there count (3 * i + j) ∙ sym (finite_set.contains-empty (slice_cmp nat_cmp) (notice (identifier i) j)))

module _ (n : ℕ) (notices : List Bool) (some : 1 ≤ n) (r class : ℕ) (known_r : is_known_among n r ≡ true) (few : class < 3) where
  pub notice-at : get_or notices (3 * place r + class) false ≡ finite_set.contains (notices_in n notices) (notice r class)
  notice-at =
      sym (contains-notice n notices (place r) class (known-place n r some known_r) few)
      ∙ (λ t. finite_set.contains (notices_in n notices) (notice (known-named n r known_r t) class))

  module _ (count : length notices ≡ 3 * n) where
    abbrev at : ℕ
    at = 3 * place r + class

    abbrev more : Bits
    more = finite_set.insert (notices_in n notices) (notice r class)

    has-more : (x : List ℕ) → finite_set.contains more x ≡ (eq_by_cmp (slice_cmp nat_cmp) x (notice r class) || finite_set.contains (notices_in n notices) x)
    has-more x = finite_set.contains-insert nat_list_cmp_total (notices_in n notices) (notice r class) x

    others : (x : List ℕ) → finite_set.contains more x ≡ true → among x (entries notice_of n 3 1) ≡ true
    others x is = elim (or_cases _ _ (sym (has-more x) ∙ is)) [
      | inl new ↦ subst (λ y. among y (entries notice_of n 3 1) ≡ true) (ap (λ e. notice e class) (known-named n r known_r) ∙ sym (same_elements x (notice r class) new))
          (all-has notice_of n 3 1 (place r) class 0 (known-place n r some known_r) few (omega arith))
      | inr old ↦ no-others n notices x old
    ]

    -- another notice than the one that is added
    another : (i j : ℕ) → j < 3 → (3 * i + j ≡ at → ⊥) → eq_by_cmp (slice_cmp nat_cmp) (notice (identifier i) j) (notice r class) ≡ false
    another i j lt_j other = go (eq_by_cmp (slice_cmp nat_cmp) (notice (identifier i) j) (notice r class)) refl
      where
        go : (b : Bool) → eq_by_cmp (slice_cmp nat_cmp) (notice (identifier i) j) (notice r class) ≡ b → eq_by_cmp (slice_cmp nat_cmp) (notice (identifier i) j) (notice r class) ≡ false
        go true is =
            let same = same_elements (notice (identifier i) j) (notice r class) is in
            let receiver : identifier i ≡ r = cc (same) in
            let which : j ≡ class = cc (same) in
            absurd (other (λ t. 3 * (sym (place-identifier i) ∙ ap place receiver) t + which t))
        go false is = is

    same : (i j : ℕ) → i < n → j < 3 → get_or (set notices at true) (3 * i + j) false ≡ finite_set.contains more (notice (identifier i) j)
    same i j lt_i lt_j = elim (cases_eq (3 * i + j) at) [
      | inl e ↦ (
          let here : i ≡ place r = omega arith in
          let which : j ≡ class = omega arith in
          let lt_r = known-place n r some known_r in
          ap (λ p. get_or (set notices at true) p false) e
          ∙ get_or-set_same notices at true false (omega arith)
          ∙ ap (λ b. b || finite_set.contains (notices_in n notices) (notice r class)) (sym (same-itself (notice r class)))
          ∙ sym (has-more (notice r class))
          ∙ (λ t. finite_set.contains more (notice (sym (ap identifier here ∙ known-named n r known_r) t) (sym which t))))
      | inr other ↦ (
          get_or-set_other notices at (3 * i + j) true false other
          ∙ sym (contains-notice n notices i j lt_i lt_j)
          ∙ ap (λ b. b || finite_set.contains (notices_in n notices) (notice (identifier i) j)) (sym (another i j lt_j other))
          ∙ sym (has-more (notice (identifier i) j)))
    ]

    pub notice-more : notices_in n (set notices at true) ≡ more
    notice-more = notices-are n (set notices at true) more others same

-- the notices of the classes of a receiver that flags ask for
module _ (n : ℕ) (notices after : List Bool) (some : 1 ≤ n) (r flags : ℕ) (known_r : is_known_among n r ≡ true)
    (cleared : (k : ℕ) → get_or after k false ≡ (if is_asked (3 * place r) 3 flags k then false else get_or notices k false)) where
  abbrev remains : List ℕ → Bool
  remains x = not (is_got r flags x)

  of-receiver : (i j : ℕ) → i ≡ place r → j < 3 → get_or after (3 * i + j) false ≡ (get_or notices (3 * i + j) false && remains (notice (identifier i) j))
  of-receiver i j here lt =
      cleared (3 * i + j)
      ∙ ap (λ b. if b then false else get_or notices (3 * i + j) false) (ap (λ p. is_asked (3 * place r) 3 flags (3 * p + j)) here ∙ asked-at (3 * place r) 3 j flags lt)
      ∙ go (is_set j flags)
      ∙ ap (λ b. get_or notices (3 * i + j) false && not (b && is_set j flags)) (sym (eq-eqb (identifier i) r (ap identifier here ∙ known-named n r known_r)))
    where
      go : (b : Bool) → (if b then false else get_or notices (3 * i + j) false) ≡ (get_or notices (3 * i + j) false && not b)
      go true = sym (neither (get_or notices (3 * i + j) false))
      go false = sym (as-before (get_or notices (3 * i + j) false))

  of-another : (i j : ℕ) → (i ≡ place r → ⊥) → j < 3 → get_or after (3 * i + j) false ≡ (get_or notices (3 * i + j) false && remains (notice (identifier i) j))
  of-another i j other lt =
      cleared (3 * i + j)
      ∙ ap (λ b. if b then false else get_or notices (3 * i + j) false) unasked
      ∙ sym (as-before (get_or notices (3 * i + j) false))
      ∙ ap (λ b. get_or notices (3 * i + j) false && not (b && is_set j flags)) (sym (ne_eqb (identifier i) r (λ e. other (sym (place-identifier i) ∙ ap place e))))
    where
      unasked : is_asked (3 * place r) 3 flags (3 * i + j) ≡ false
      unasked = elim (cases_lt i (place r)) [
        | inl before ↦ asked-before (3 * place r) 3 flags (3 * i + j) (omega arith)
        | inr behind ↦ (elim (cases_eq i (place r)) [
          | inl same ↦ absurd (other same)
          | inr not_same ↦ asked-behind (3 * place r) 3 flags (3 * i + j) (omega arith)
        ])
      ]

  pub notices-asked : notices_in n after ≡ finite_set.retain (notices_in n notices) remains
  notices-asked =
      notices-are n after (finite_set.retain (notices_in n notices) remains)
      (λ x is. no-others n notices x (and_parts _ _ (sym (contains-retained (notices_in n notices) remains x) ∙ is)).0)
      (λ i j lt_i lt_j.
      kept i j lt_j
      ∙ ap (λ b. b && remains (notice (identifier i) j)) (sym (contains-notice n notices i j lt_i lt_j))
      ∙ sym (contains-retained (notices_in n notices) remains (notice (identifier i) j)))
    where
      kept : (i j : ℕ) → j < 3 → get_or after (3 * i + j) false ≡ (get_or notices (3 * i + j) false && remains (notice (identifier i) j))
      kept i j lt_j = elim (cases_eq i (place r)) [
        | inl here ↦ of-receiver i j here lt_j
        | inr other ↦ of-another i j other lt_j
      ]
