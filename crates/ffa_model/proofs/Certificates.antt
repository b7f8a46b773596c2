-- SPDX-License-Identifier: MIT OR Apache-2.0
-- The runs of a certificate are the longest, follow one another over all of RAM, and say the access to each of its pages.
use Rattle.std.proofs.Common.{◌≡◌, ◌⊎◌, ◌∙◌, ℕ, zero, suc, ◌+◌, ◌-◌, ◌<◌, ◌≤◌, Bool, true, false, List, [], ◌∷◌, length, get_or, Option, Some, None, refl, sym, ap, ap₂, arith, inl, inr, ◌==◌, ◌&&◌, if◌then◌else◌}
use Rattle.std.specs.List.{list_all}
use Rattle.std.proofs.lemmas.Bool.{and_parts, cases_lt, eq-eqb, eqb-true, le-leb, le-ltb, lt-leb, lt-ltb}
use Rattle.ffa_model.specs.declared.limits.TheConstants.{MOST_ENDPOINTS}
use Rattle.ffa_model.specs.declared.rights.Data.{Data}
use Rattle.ffa_model.specs.declared.rights.Rights.{Rights}
use Rattle.ffa_model.specs.Access.{access, handle_at}
use Rattle.ffa_model.specs.Alike.{is_alike, is_same, is_same_right}
use Rattle.ffa_model.specs.Certificate.{IsRun, access_by_place, are_as_one, certificate, is_same_handle, last_from, run_from, runs_from}
use Rattle.ffa_model.specs.Certified.{access_in, are_in_order}
use Rattle.ffa_model.specs.Codes.{data_from, data_from-may_write}
use Rattle.ffa_model.specs.Identifiers.{identifier}
use Rattle.ffa_model.specs.Lists.{listed}
use Rattle.ffa_model.specs.Rights.{may_write}
use Rattle.ffa_model.specs.State.{State, identifiers, owner_of}
use Rattle.ffa_model.proofs.Listed.{get_or-listed}

-- SAME RIGHTS

same-bool : (a b : Bool) → is_same a b ≡ true → a ≡ b
same-bool true true h = refl
same-bool true false h = sym h
same-bool false true h = h
same-bool false false h = refl

pub same-level : (a b : Data) → may_write a ≡ may_write b → a ≡ b
same-level a b e = sym (data_from-may_write a) ∙ ap data_from e ∙ data_from-may_write b

same-right : (a b : Option Rights) → is_same_right a b ≡ true → a ≡ b
same-right None None h = refl
same-right None (Some b) h = cc
same-right (Some a) None h = cc
same-right (Some a) (Some b) h =
    let parts = and_parts _ _ h in
    let level = same-level a.level b.level (same-bool _ _ parts.0) in
    let exec = same-bool a.exec b.exec parts.1 in
    λ i. Some (record { level = level i; exec = exec i })

bool-itself : (b : Bool) → is_same b b ≡ true
bool-itself true = refl
bool-itself false = refl

right-itself : (a : Option Rights) → is_same_right a a ≡ true
right-itself None = refl
right-itself (Some a) = ap₂ ◌&&◌ (bool-itself (may_write a.level)) (bool-itself a.exec)

pub same-handle : (a b : Option ℕ) → is_same_handle a b ≡ true → a ≡ b
same-handle None None h = refl
same-handle None (Some b) h = cc
same-handle (Some a) None h = cc
same-handle (Some a) (Some b) h = ap Some (eqb-true a b h)

handle-itself : (a : Option ℕ) → is_same_handle a a ≡ true
handle-itself None = refl
handle-itself (Some a) = eq-eqb a a refl

all-pass : (test : ℕ → Bool) (xs : List ℕ) → ((x : ℕ) → test x ≡ true) → list_all test xs ≡ true
all-pass test [] each = refl
all-pass test (x ∷ xs) each = ap₂ ◌&&◌ (each x) (all-pass test xs each)

same-tests : (n : ℕ) (test other : ℕ → Bool) (name : ℕ → ℕ) → ((i : ℕ) → i < n → test (name i) ≡ other (name i)) → list_all test (listed n name) ≡ list_all other (listed n name)
same-tests zero test other name each = refl
same-tests (suc n) test other name each = ap₂ ◌&&◌ (each 0 (omega arith)) (same-tests n test other (λ i. name (suc i)) (λ i lt. each (suc i) (omega arith)))

all-listed : (n : ℕ) (test : ℕ → Bool) (name : ℕ → ℕ) → list_all test (listed n name) ≡ true → (i : ℕ) → i < n → test (name i) ≡ true
all-listed zero test name h i lt = absurd (omega arith)
all-listed (suc n) test name h zero lt = (and_parts _ _ h).0
all-listed (suc n) test name h (suc i) lt = all-listed n test (λ j. name (suc j)) (and_parts _ _ h).1 i (omega arith)

module _ (s : State) where
  -- AS ONE

  as_one-itself : (p : ℕ) → are_as_one s p p ≡ true
  unfolding are_as_one is_alike
  as_one-itself p =
      ap₂ ◌&&◌
      (ap₂ ◌&&◌ (eq-eqb (owner_of s p) (owner_of s p) refl) (all-pass (λ e. is_same_right (access s e p) (access s e p)) (identifiers s) (λ e. right-itself (access s e p))))
      (handle-itself (handle_at s p))

  right-of : (p q i : ℕ) → are_as_one s p q ≡ true → i < length s.parties → access s (identifier i) p ≡ access s (identifier i) q
  unfolding are_as_one is_alike
  right-of p q i h lt =
      same-right _ _ (all-listed (length s.parties) (λ e. is_same_right (access s e p) (access s e q)) identifier
      (and_parts _ _ (and_parts _ _ h).0).1 i lt)

  -- the same pages are as one with both of two that are as one
  as_one-from : (p q r : ℕ) → are_as_one s p q ≡ true → are_as_one s q r ≡ are_as_one s p r
  unfolding are_as_one is_alike
  as_one-from p q r h =
      let owner = eqb-true _ _ (and_parts _ _ (and_parts _ _ h).0).0 in
      let handle = same-handle _ _ (and_parts _ _ h).1 in
      ap₂ ◌&&◌
      (ap₂ ◌&&◌ (ap (λ o. o == owner_of s r) (sym owner))
      (same-tests (length s.parties) (λ e. is_same_right (access s e q) (access s e r)) (λ e. is_same_right (access s e p) (access s e r)) identifier
      (λ i lt. ap (λ a. is_same_right a (access s (identifier i) r)) (sym (right-of p q i h lt)))))
      (ap (λ o. is_same_handle o (handle_at s r)) (sym handle))

  -- pages that are as one have one access of each endpoint
  one-access : (p q place : ℕ) → are_as_one s p q ≡ true → access_by_place s p place ≡ access_by_place s q place
  one-access p q place h = elim (cases_lt place (length s.parties)) [
    | inl lt ↦
        ap (λ b. if b then access s (identifier place) p else None) (lt-ltb place (length s.parties) lt)
        ∙ right-of p q place h lt
        ∙ sym (ap (λ b. if b then access s (identifier place) q else None) (lt-ltb place (length s.parties) lt))
    | inr past ↦
        ap (λ b. if b then access s (identifier place) p else None) (le-ltb place (length s.parties) past)
        ∙ sym (ap (λ b. if b then access s (identifier place) q else None) (le-ltb place (length s.parties) past))
  ]

  abbrev goes_on : ℕ → ℕ → Bool → ℕ
  goes_on p n b = if b then last_from s (p + 1) n else p

  -- a run ends where it begins or behind, and in RAM
  last-behind : (p n : ℕ) → p ≤ last_from s p n
  last-behind p zero = omega arith
  last-behind p (suc n) = by (are_as_one s p (p + 1)) (last-behind (p + 1) n)
    where
      by : (b : Bool) → p + 1 ≤ last_from s (p + 1) n → p ≤ goes_on p n b
      by true next = omega arith
      by false next = omega arith

  last-inside : (p n : ℕ) → last_from s p n ≤ p + n
  last-inside p zero = omega arith
  last-inside p (suc n) = by (are_as_one s p (p + 1)) (last-inside (p + 1) n)
    where
      by : (b : Bool) → last_from s (p + 1) n ≤ p + 1 + n → goes_on p n b ≤ p + suc n
      by true next = omega arith
      by false next = omega arith

  -- all pages of a run are as one with its first
  as_one-along : (p n q : ℕ) → p ≤ q → q ≤ last_from s p n → are_as_one s p q ≡ true
  as_one-along p zero q from to = let same : p ≡ q = omega arith in ap (are_as_one s p) (sym same) ∙ as_one-itself p
  as_one-along p (suc n) q from to = by (are_as_one s p (p + 1)) refl to (λ behind there. as_one-along (p + 1) n q behind there)
    where
      here : p ≡ q → are_as_one s p q ≡ true
      here same = ap (are_as_one s p) (sym same) ∙ as_one-itself p

      by : (b : Bool) → are_as_one s p (p + 1) ≡ b → q ≤ goes_on p n b
          → (p + 1 ≤ q → q ≤ last_from s (p + 1) n → are_as_one s (p + 1) q ≡ true)
          → are_as_one s p q ≡ true
      by false is there along = here (omega arith)
      by true is there along = elim (cases_lt p q) [
        | inl behind ↦ sym (as_one-from p (p + 1) q is) ∙ along (omega arith) there
        | inr within ↦ here (omega arith)
      ]

  -- a run ends where the pages do, or the page behind it isn't as one with its first
  as_one-ends : (p n : ℕ) → (last_from s p n ≡ p + n) ⊎ (are_as_one s p (last_from s p n + 1) ≡ false)
  as_one-ends p zero = inl (omega arith)
  as_one-ends p (suc n) = by (are_as_one s p (p + 1)) refl (as_one-ends (p + 1) n)
    where
      by : (b : Bool) → are_as_one s p (p + 1) ≡ b
          → (last_from s (p + 1) n ≡ p + 1 + n) ⊎ (are_as_one s (p + 1) (last_from s (p + 1) n + 1) ≡ false)
          → (goes_on p n b ≡ p + suc n) ⊎ (are_as_one s p (goes_on p n b + 1) ≡ false)
      by false is next = inr is
      by true is (inl all) = inl (omega arith)
      by true is (inr other) = inr (sym (as_one-from p (p + 1) (last_from s (p + 1) n + 1) is) ∙ other)

  -- the run that is computed is the longest
  pub run-is : (p : ℕ) → p < length s.pages → IsRun s p (run_from s p)
  unfolding run_from
  run-is p lt =
      let left = length s.pages - (p + 1) in
      record {
        first = refl;
        order = last-behind p left;
        inside = (let h = last-inside p left in omega arith);
        same = λ q from to. as_one-along p left q from to;
        longest = elim (as_one-ends p left) [
          | inl all ↦ inl (omega arith)
          | inr other ↦ inr other
        ];
        owner = refl;
        handle = refl;
        access = refl;
      }

  abbrev last : ℕ → ℕ
  last p = last_from s p (length s.pages - (p + 1))

  -- RUNS

  order-from : (p n : ℕ) → p ≤ length s.pages → length s.pages ≤ p + n → are_in_order p (length s.pages) (runs_from s p n) ≡ true
  unfolding run_from
  order-from p zero le fuel = eq-eqb p (length s.pages) (omega arith)
  order-from p (suc n) le fuel = elim (cases_lt p (length s.pages)) [
    | inl lt ↦
        (let behind = last-behind p (length s.pages - (p + 1)) in
        let inside = last-inside p (length s.pages - (p + 1)) in
        ap (λ b. are_in_order p (length s.pages) (if b then run_from s p ∷ runs_from s (last p + 1) n else [])) (lt-ltb p (length s.pages) lt)
        ∙ ap₂ ◌&&◌ (ap₂ ◌&&◌ (eq-eqb p p refl) (le-leb p (last p) behind)) (order-from (last p + 1) n (omega arith) (omega arith)))
    | inr past ↦
        (let same : p ≡ length s.pages = omega arith in
        ap (λ b. are_in_order p (length s.pages) (if b then run_from s p ∷ runs_from s (last p + 1) n else [])) (le-ltb p (length s.pages) past)
        ∙ eq-eqb p (length s.pages) same)
  ]

  access-from : (p n q place : ℕ) → place < MOST_ENDPOINTS → p ≤ q → q < length s.pages → length s.pages ≤ p + n → access_in (runs_from s p n) place q ≡ access_by_place s q place
  unfolding run_from
  access-from p zero q place few from lt fuel = absurd (omega arith)
  access-from p (suc n) q place few from lt fuel =
      ap (λ b. access_in (if b then run_from s p ∷ runs_from s (last p + 1) n else []) place q) (lt-ltb p (length s.pages) (omega arith))
      ∙ elim (cases_lt (last p) q) [
        | inl behind ↦
            (let inside = last-inside p (length s.pages - (p + 1)) in
            let after = last-behind p (length s.pages - (p + 1)) in
            ap (λ b. if b then get_or (listed 8 (access_by_place s p)) place None else access_in (runs_from s (last p + 1) n) place q) (lt-leb q (last p) behind)
            ∙ access-from (last p + 1) n q place few (omega arith) lt (omega arith))
        | inr within ↦
            ap (λ b. if b then get_or (listed 8 (access_by_place s p)) place None else access_in (runs_from s (last p + 1) n) place q) (le-leb q (last p) within)
            ∙ get_or-listed 8 (access_by_place s p) place None few
            ∙ one-access p q place (as_one-along p (length s.pages - (p + 1)) q from within)
      ]

  -- the certificate's runs are in order, and give the access to each page
  pub certificate-order : are_in_order 0 (length s.pages) (certificate s) ≡ true
  unfolding certificate
  certificate-order = order-from 0 (length s.pages) (omega arith) (omega arith)

  pub certificate-access : (q place : ℕ) → place < MOST_ENDPOINTS → q < length s.pages → access_in (certificate s) place q ≡ access_by_place s q place
  unfolding certificate
  certificate-access q place few lt = access-from 0 (length s.pages) q place few (omega arith) lt (omega arith)
