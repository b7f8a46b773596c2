-- SPDX-License-Identifier: MIT OR Apache-2.0
-- The first state of an accepted manifest is sound, whatever bytes the pages of its regions have.
use Rattle.std.proofs.Common.{◌≡◌, ◌≢◌, ◌∙◌, ℕ, zero, suc, ◌+◌, ◌*◌, ◌<◌, ◌≤◌, Bool, true, false, cond, List, [], ◌∷◌, length, get_or, map, replicate, Option, Some, None, refl, sym, ap, subst, arith, inl, inr, ◌==◌, find, filter, slice_get, is_some, not, ◌&&◌}
use Rattle.std.specs.List.{enumerate_from, list_all}
use Rattle.std.specs.Option.{option_map}
use Rattle.std.specs.Ordering.{nat_cmp}
use Rattle.std.specs.Cmp.Lexicographic.{slice_cmp}
use Rattle.std.specs.FinMap as finite
use Rattle.std.specs.FinSet as finite_set
use Rattle.std.proofs.lemmas.Bool.{and_parts, cases_lt, false≢true}
use Rattle.std.proofs.lemmas.Bool.Decides.{nat_tests}
use Rattle.std.proofs.lemmas.List.{length-map, length-replicate}
use Rattle.std.proofs.lemmas.List.FromFn.{length-enumerate_from}
use Rattle.std.proofs.lemmas.List.Folds.{list_all-append, list_all-map}
use Rattle.std.proofs.lemmas.Option.{none-some, same_Some}
use Rattle.ffa_model.specs.declared.limits.TheConstants.{MOST_ENDPOINTS, MOST_OPEN}
use Rattle.ffa_model.specs.declared.endpoint.Endpoint.{Endpoint}
use Rattle.ffa_model.specs.declared.endpoint.Region.{Region}
use Rattle.ffa_model.specs.declared.manifest.Ffa.{Ffa}
use Rattle.ffa_model.specs.declared.manifest.Ffa.TheVariants.{V1_1, V1_2}
use Rattle.ffa_model.specs.declared.schedule.Work.{Work}
use Rattle.ffa_model.specs.Identifiers.{identifier, manager, place}
use Rattle.ffa_model.specs.Manifest.{has_tables, is_accepted, is_ram_base}
use Rattle.ffa_model.specs.Regions.{has_page, is_normal, normal_of, owned_regions, owner_in, regions_at, right_in}
use Rattle.ffa_model.specs.Transactions.{most_sends}
use Rattle.ffa_model.specs.First.{first, first_held, has_first_bitmaps, page_with_bytes, party_of}
use Rattle.ffa_model.specs.State.{State, Page, Party, Transaction, Buffers, is_known_among, owner_of, page_at, transaction_of}
use Rattle.ffa_model.specs.RunStates.{first_schedule}
use Rattle.ffa_model.specs.Sound.{IsSound}
use Rattle.ffa_model.specs.Access.{is_naming}
use Rattle.ffa_model.specs.SoundState.{IsSized, IsSoundPage, IsSoundParty, IsSoundState, are_bytes, is_secure}
use Rattle.ffa_model.proofs.Accepted.{Accepted, accepted}
use Rattle.ffa_model.proofs.Listed.{get_or-listed, get_or-listed_past, length-listed}
use Rattle.ffa_model.proofs.Own.{owned_by}
use Rattle.ffa_model.proofs.Owners.{found-owner, found-right, owned_from}

-- each owner is an endpoint
pub identifier-known : (n k : ℕ) → k < n → is_known_among n (identifier k) ≡ true
identifier-known n zero lt = refl
identifier-known n (suc i) lt = grind (arith, nat_tests)

all-known : (n k : ℕ) (es : List Endpoint) → k + length es ≤ n → list_all (λ (x : ℕ × Region). is_known_among n x.0) (owned_from k es) ≡ true
all-known n k [] few = refl
all-known n k (e ∷ es) few =
    list_all-append (λ (x : ℕ × Region). is_known_among n x.0) (map (λ (r : Region). (identifier k, r)) e.regions.items) (owned_from (k + 1) es)
    ∙ rw (list_all-map (λ (x : ℕ × Region). is_known_among n x.0) (λ (r : Region). (identifier k, r)) e.regions.items, each e.regions.items) (all-known n (k + 1) es (omega arith))
  where
    each : (rs : List Region) → list_all (λ (r : Region). is_known_among n (identifier k)) rs ≡ true
    each [] = refl
    each (r ∷ rs) = rw (identifier-known n k (omega arith)) (each rs)

found-known : (test also : ℕ × Region → Bool) (xs : List (ℕ × Region)) (x : ℕ × Region) → list_all also xs ≡ true → find test xs ≡ Some x → also x ≡ true
found-known test also [] x all is = absurd (none-some x is)
found-known test also (y ∷ ys) x all is =
    let (here, rest) = and_parts (also y) (list_all also ys) all in
    elim (test y) as (λ b. cond b (Some y) (find test ys) ≡ Some x → also x ≡ true) [
      | true ↦ λ found. subst (λ z. also z ≡ true) (same_Some y x found) here
      | false ↦ λ found. found-known test also ys x rest found
    ] is

pub zeros-bytes : (n : ℕ) → are_bytes (replicate n 0)
zeros-bytes zero = refl
zeros-bytes (suc n) = zeros-bytes n

-- lists of one value, also past their end
same-all : {X : Type 0} (n i : ℕ) (x : X) → get_or (replicate n x) i x ≡ x
same-all zero i x = refl
same-all (suc n) zero x = refl
same-all (suc n) (suc i) x = same-all n i x

none-counted : {X : Type 0} (test : X → Bool) (xs : List X) → length xs ≡ 0 → length (filter test xs) ≤ MOST_OPEN
none-counted test [] none = omega arith
none-counted test (x ∷ xs) some = absurd (omega arith)

none-open : length (finite.values (finite.empty {X = Transaction} {R = nat_cmp})) ≡ 0
none-open =
    length-map (finite.entries (finite.empty {X = Transaction} {R = nat_cmp})) (λ e. e.1)
    ∙ sym (finite.len-entries (finite.empty {X = Transaction} {R = nat_cmp}))
    ∙ finite.len-empty nat_cmp Transaction

module _ (ffa : Ffa) (base tables blocks : ℕ) (es : List Endpoint) (held : ℕ → List ℕ) (good : is_accepted base tables blocks es ≡ true)
    (whole : (p : ℕ) → p < 512 * blocks → owner_in base es p ≢ manager → (length (held p) ≡ 4096) × are_bytes (held p)) where
  abbrev s : State
  s = first_held ffa base tables blocks es held

  facts : Accepted base tables blocks es
  facts = accepted base tables blocks es good

  placed : is_ram_base base ≡ true
  placed = (and_parts _ _ (and_parts _ _ (and_parts _ _ good).0).0).0

  has-tables : has_tables tables blocks (length es) ≡ true
  has-tables = (and_parts _ _ (and_parts _ _ (and_parts _ _ (and_parts _ _ good).0).1).0).1

  pub first-sized : IsSized s
  unfolding first
  first-sized =
      record {
        some = subst (λ n. 1 ≤ n) (sym (length-map es party_of)) facts.some_endpoints;
        few = subst (λ n. n ≤ MOST_ENDPOINTS) (sym (length-map es party_of)) facts.few_endpoints;
        base = placed;
        within = (let size = length-listed (512 * blocks) (λ p. page_with_bytes base es p (held p)) in let end = facts.within in omega (arith, size, end));
        one_table = (let size = length-listed (512 * blocks) (λ p. page_with_bytes base es p (held p)) in let end = facts.one_table in omega (arith, size, end));
        blocks = (blocks, length-listed (512 * blocks) (λ p. page_with_bytes base es p (held p)), facts.some_blocks, facts.few_blocks, subst (λ n. has_tables tables blocks n ≡ true) (sym (length-map es party_of)) has-tables);
        versions = length-map es (λ e. e.version) ∙ sym (length-map es party_of);
        sent = length-replicate {A = ℕ} (length es) 0 ∙ sym (length-map es party_of);
        buffers = length-replicate {A = Option Buffers} (length es) None ∙ sym (length-map es party_of);
        works = length-replicate {A = Option Work} (length es) None ∙ sym (length-map es party_of);
        bitmaps = length-map (enumerate_from 0 es) has_first_bitmaps ∙ length-enumerate_from 0 es ∙ sym (length-map es party_of);
      }

  page-first : (p : ℕ) (page : Page) → page_at s p ≡ Some page → (p < 512 * blocks) × (page_with_bytes base es p (held p) ≡ Some page)
  unfolding first
  page-first p page is = elim (cases_lt p (512 * blocks)) [
    | inl lt ↦ (lt, sym (get_or-listed (512 * blocks) (λ q. page_with_bytes base es q (held q)) p None lt) ∙ is)
    | inr past ↦ absurd (none-some page (sym (get_or-listed_past (512 * blocks) (λ q. page_with_bytes base es q (held q)) p None past) ∙ is))
  ]

  sound-page : (p : ℕ) (page : Page) → p < 512 * blocks → page_with_bytes base es p (held p) ≡ Some page → IsSoundPage s page
  unfolding first
  sound-page p page inside is = of (find (λ (x : ℕ × Region). has_page base p x.1) (owned_regions es)) refl is
    where
      of : (o : Option (ℕ × Region)) → find (λ (x : ℕ × Region). has_page base p x.1) (owned_regions es) ≡ o
          → option_map (λ (x : ℕ × Region). let q : Page = record { owner = x.0; own_right = x.1.rights; bytes = held p } in q) o ≡ Some page
          → IsSoundPage (first_held ffa base tables blocks es held) page
      of None found none = absurd (none-some page none)
      of (Some x) found some =
          let (size, bytes) = whole p inside (found-owner base p es x found) in
          subst (λ (q : Page). IsSoundPage (first_held ffa base tables blocks es held) q) (same_Some _ page some)
          (record {
            owner = subst (λ n. is_known_among n x.0 ≡ true) (sym (length-map es party_of))
                (found-known (λ (y : ℕ × Region). has_page base p y.1) (λ (y : ℕ × Region). is_known_among (length es) y.0) (owned_regions es) x (all-known (length es) 0 es (omega arith)) found);
            size = size;
            bytes = bytes;
          })

  -- what the normal world owns at first is non-secure, where worlds are told apart
  worlds-first : (p : ℕ) → is_secure s p ≡ true → owner_of s p ≢ 0
  unfolding first
  worlds-first p secure first = at ffa secure
    where
      normal-page : is_some (right_in base (regions_at es 0) p) ≡ true
      normal-page = elim (cases_lt p (512 * blocks)) [
        | inl lt ↦ of (find (λ (x : ℕ × Region). has_page base p x.1) (owned_regions es)) refl (sym (ap owned_by (get_or-listed (512 * blocks) (λ q. page_with_bytes base es q (held q)) p None lt)) ∙ first)
        | inr past ↦ absurd (managers-page (sym (ap owned_by (get_or-listed_past (512 * blocks) (λ q. page_with_bytes base es q (held q)) p None past)) ∙ first))
      ]
        where
          managers-page : manager ≡ 0 → ⊥
          managers-page is = omega (arith, is)

          of : (o : Option (ℕ × Region)) → find (λ (x : ℕ × Region). has_page base p x.1) (owned_regions es) ≡ o
              → owned_by (option_map (λ (x : ℕ × Region). let q : Page = record { owner = x.0; own_right = x.1.rights; bytes = held p } in q) o) ≡ 0
              → is_some (right_in base (regions_at es 0) p) ≡ true
          of None found is = absurd (managers-page is)
          of (Some x) found is =
              ap (λ i. is_some (right_in base (regions_at es (place i)) p)) (sym is) ∙ ap is_some (found-right base p es x facts.apart found)

      at : (w : Ffa) → (is_some (normal_of w (regions_at es 0)) && not (is_normal base (normal_of w (regions_at es 0)) p)) ≡ true → ⊥
      at V1_1 none = false≢true none
      at V1_2 some = false≢true (sym (ap not normal-page) ∙ some)

  none-at : (h : ℕ) (t : Transaction) → transaction_of s h ≡ Some t → ⊥
  unfolding first
  none-at h t is = none-some t (sym (finite.get-empty nat_cmp h) ∙ is)

  -- where the first run states are sound and the parties' fields in range
  pub first-sound : IsSound (first_schedule (length es)) → ((i : ℕ) (party : Party) → slice_get (map party_of es) i ≡ Some party → IsSoundParty party) → IsSoundState s
  unfolding first
  first-sound schedule parties =
      record {
        sized = first-sized;
        parties = parties;
        pages = λ p page is. let (inside, found) = page-first p page is in sound-page p page inside found;
        worlds = worlds-first;
        transactions = λ h t is. absurd (none-at h t is);
        one = λ p h k lt at_h at_k. absurd (false≢true (sym (ap (λ o. is_naming (first_held ffa base tables blocks es held) p o) (finite.get-empty nat_cmp h)) ∙ at_h));
        few = λ e known. none-counted (λ (t : Transaction). t.sender == e) _ none-open;
        sent = λ e known. subst (λ n. n ≤ most_sends ffa) (sym (same-all {X = ℕ} (length es) (place e) 0)) (omega arith);
        buffers = λ e b known is. absurd (none-some b (sym (same-all {X = Option Buffers} (length es) (place e) None) ∙ is));
        schedule = schedule;
        bound = λ entry is. absurd (false≢true (sym (finite_set.contains-empty (slice_cmp nat_cmp) entry) ∙ is));
        pending = λ entry is. absurd (false≢true (sym (finite_set.contains-empty (slice_cmp nat_cmp) entry) ∙ is));
      }
