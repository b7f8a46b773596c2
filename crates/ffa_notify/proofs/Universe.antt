-- SPDX-License-Identifier: MIT OR Apache-2.0
-- All bindings and all bits that there may be, and the sets that words mean among them.
use Rattle.std.proofs.Common.{◌≡◌, ◌∙◌, ℕ, ◌<◌, Bool, true, false, List, map, sym, ap, subst, refl}
use Rattle.std.specs.Prelude.{◌&&◌}
use Rattle.std.specs.List.{flat_map, list_any}
use Rattle.std.specs.Ordering.{eq_by_cmp, nat_cmp}
use Rattle.std.specs.Cmp.Lexicographic.{slice_cmp}
use Rattle.std.specs.FinSet as finite_set
use Rattle.std.proofs.lemmas.Bool.{and_parts, false≢true}
use Rattle.ffa_model.specs.Lists.{listed}
use Rattle.ffa_model.proofs.Sets.{Bits, among, among-joined, among-mapped, any-found, any-listed, bits_from, contains-listed, contains-retained, same-itself, same_bits, same_elements}
use Rattle.ffa_notify.specs.Stored.{entries}

-- lists of lists, three indexes deep
module _ (f : ℕ → ℕ → ℕ → List ℕ) (l m n : ℕ) where
  abbrev pub all : List (List ℕ)
  all = entries f l m n

  -- the set of those of them that pass a test
  abbrev pub kept : (List ℕ → Bool) → Bits
  kept test = finite_set.retain (finite_set.from_list all) test

  abbrev within : ℕ → List ℕ → Bool
  within i x = list_any (λ j. among x (map (f i j) (listed n (λ k. k)))) (listed m (λ j. j))

  split : (x : List ℕ) → among x all ≡ list_any (λ i. within i x) (listed l (λ i. i))
  unfolding entries
  split x =
      among-joined x (λ i. flat_map (λ j. map (f i j) (listed n (λ k. k))) (listed m (λ j. j))) (listed l (λ i. i))
      ∙ ap (λ (t : ℕ → Bool). list_any t (listed l (λ i. i))) (λ e i. among-joined x (λ j. map (f i j) (listed n (λ k. k))) (listed m (λ j. j)) e)

  pub all-has : (i j k : ℕ) → i < l → j < m → k < n → among (f i j k) all ≡ true
  all-has i j k lt_i lt_j lt_k =
      split (f i j k)
      ∙ any-listed (λ i'. within i' (f i j k)) l (λ i. i) i lt_i
      (any-listed (λ j'. among (f i j k) (map (f i j') (listed n (λ k. k)))) m (λ j. j) j lt_j
      (among-mapped (f i j k) (f i j) (listed n (λ k. k)) ∙ any-listed (λ k'. eq_by_cmp (slice_cmp nat_cmp) (f i j k) (f i j k')) n (λ k. k) k lt_k (same-itself (f i j k))))

  pub all-is : (x : List ℕ) → among x all ≡ true → (i : ℕ) × (j : ℕ) × (k : ℕ) × (i < l) × (j < m) × (k < n) × (x ≡ f i j k)
  all-is x is =
      let at_i = any-found (λ i. within i x) l (λ i. i) (sym (split x) ∙ is) in
      let at_j = any-found (λ j. among x (map (f at_i.0 j) (listed n (λ k. k)))) m (λ j. j) at_i.2 in
      let at_k = any-found (λ k. eq_by_cmp (slice_cmp nat_cmp) x (f at_i.0 at_j.0 k)) n (λ k. k) (sym (among-mapped x (f at_i.0 at_j.0) (listed n (λ k. k))) ∙ at_j.2) in
      (at_i.0, at_j.0, at_k.0, at_i.1, at_j.1, at_k.1, same_elements x (f at_i.0 at_j.0 at_k.0) at_k.2)

  -- a set of those that pass a test is another set, if this has no others, and the same of those
  pub retained-is : (test : List ℕ → Bool) (b : Bits) → ((x : List ℕ) → finite_set.contains b x ≡ true → among x all ≡ true)
      → ((i j k : ℕ) → i < l → j < m → k < n → test (f i j k) ≡ finite_set.contains b (f i j k))
      → kept test ≡ b
  retained-is test b no_others same = same_bits _ b (λ x. contains-retained (bits_from all) test x ∙ ap (λ c. c && test x) (contains-listed all x) ∙ of x (among x all) refl)
    where
      outside : (x : List ℕ) (c : Bool) → finite_set.contains b x ≡ c → among x all ≡ false → false ≡ c
      outside x false is missing = refl
      outside x true is missing = absurd (false≢true (sym missing ∙ no_others x is))

      of : (x : List ℕ) (c : Bool) → among x all ≡ c → (c && test x) ≡ finite_set.contains b x
      of x false missing = outside x (finite_set.contains b x) refl missing
      of x true is =
          let at = all-is x is in
          subst (λ y. test y ≡ finite_set.contains b y) (sym at.6) (same at.0 at.1 at.2 at.3 at.4 at.5)

  pub contains-at : (test : List ℕ → Bool) (i j k : ℕ) → i < l → j < m → k < n → finite_set.contains (kept test) (f i j k) ≡ test (f i j k)
  contains-at test i j k lt_i lt_j lt_k =
      contains-retained (bits_from all) test (f i j k) ∙ ap (λ c. c && test (f i j k)) (contains-listed all (f i j k) ∙ all-has i j k lt_i lt_j lt_k)

  pub contains-none : (test : List ℕ → Bool) (x : List ℕ) → finite_set.contains (kept test) x ≡ true → among x all ≡ true
  contains-none test x is = sym (contains-listed all x) ∙ (and_parts _ _ (sym (contains-retained (bits_from all) test x) ∙ is)).0
