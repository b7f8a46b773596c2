-- SPDX-License-Identifier: MIT OR Apache-2.0
-- Who owns a page of an accepted manifest: the endpoint with the one region that has it.
use Rattle.std.proofs.Common.{◌≡◌, ◌≢◌, ◌∙◌, ℕ, suc, zero, ◌+◌, ◌*◌, ◌<◌, ◌≤◌, Bool, true, false, cond, List, [], ◌∷◌, ◌++◌, length, get_or, map, Option, Some, None, refl, sym, ap, arith, inl, inr, ◌⊎◌, ◌==◌, ◌&&◌, ◌||◌, ◌%◌, nat_le, find, is_some}
use Rattle.std.specs.Option.{option_map, option_map_or, option_or}
use Rattle.std.specs.List.{All, list_all, flat_map, enumerate_from}
use Rattle.std.proofs.lemmas.Bool.{cases_eq, true≢false, false≢true, and_parts, eq-eqb, eqb-true, leb-true, or_cases}
use Rattle.std.proofs.lemmas.Bool.Decides.{nat_tests}
use Rattle.std.proofs.lemmas.Option.{none-some, same_Some}
use Rattle.std.proofs.lemmas.List.Elements.{All-append, All-head, All-map, All-nil, All-tail}
use Rattle.std.proofs.lemmas.List.Folds.{find-append, list_all-append, list_all-map}
use Rattle.ffa_model.specs.declared.endpoint.Region.{Region}
use Rattle.ffa_model.specs.declared.endpoint.Endpoint.{Endpoint}
use Rattle.ffa_model.specs.declared.rights.Rights.{Rights}
use Rattle.ffa_model.specs.Manifest.{is_apart, are_apart, is_placed, ram_end, regions_of, table_pages, tables_begin, tables_end}
use Rattle.ffa_model.specs.Identifiers.{manager, identifier, place}
use Rattle.ffa_model.specs.Regions.{has_page, right_in, regions_at, owned_regions, owner_in}
use Rattle.ffa_model.specs.State.{Page}
use Rattle.ffa_model.specs.First.{page_with_bytes}
use Rattle.ffa_model.specs.Access.{right_of}
use Rattle.ffa_model.proofs.Places.{place-identifier}

-- the regions of an endpoint that is there, and of none
pub regions_at-there : (es : List Endpoint) (i : ℕ) (e : Endpoint) → e ≡ get_or es i e → i < length es → regions_at es i ≡ e.regions.items
regions_at-there [] i e is lt = absurd (omega arith)
regions_at-there (x ∷ es) zero e is lt = ap (λ (e : Endpoint). e.regions.items) (sym is)
regions_at-there (x ∷ es) (suc i) e is lt = regions_at-there es i e is (omega arith)

pub regions_at-past : (es : List Endpoint) (i : ℕ) → length es ≤ i → regions_at es i ≡ []
regions_at-past [] i past = refl
regions_at-past (x ∷ es) zero past = absurd (omega arith)
regions_at-past (x ∷ es) (suc i) past = regions_at-past es i (omega arith)

-- of two regions that lie apart only one has a page
apart_one : (base p : ℕ) (r q : Region) → is_apart r q ≡ true → has_page base p r ≡ true → has_page base p q ≡ false
apart_one base p r q apart here = grind (arith, nat_tests)

none_apart : (base p : ℕ) (r : Region) (qs : List Region) → list_all (is_apart r) qs ≡ true → has_page base p r ≡ true → find (has_page base p) qs ≡ None
none_apart base p r [] apart here = refl
none_apart base p r (q ∷ qs) apart here =
    let (one, rest) = and_parts (is_apart r q) (list_all (is_apart r) qs) apart in
    ap (λ b. cond b (Some q) (find (has_page base p) qs)) (apart_one base p r q one here) ∙ none_apart base p r qs rest here

-- no list behind a region that has the page has it too
list_none : (base p : ℕ) (rs qs : List Region) (r : Region) → are_apart (rs ++ qs) ≡ true → find (has_page base p) rs ≡ Some r → find (has_page base p) qs ≡ None
list_none base p [] qs r apart is = absurd (none_some is)
  where
    none_some : None ≡ Some r → ⊥
    none_some e = cc
list_none base p (x ∷ rs) qs r apart is =
    let (here, rest) = and_parts (list_all (is_apart x) (rs ++ qs)) (are_apart (rs ++ qs)) apart in
    elim (has_page base p x) as (λ b. has_page base p x ≡ b → cond b (Some x) (find (has_page base p) rs) ≡ Some r → find (has_page base p) qs ≡ None) [
      | true ↦ λ has _. behind rs qs (none_apart base p x (rs ++ qs) here has)
      | false ↦ λ lacks found. list_none base p rs qs r rest found
    ] refl is
  where
    behind : (ms bs : List Region) → find (has_page base p) (ms ++ bs) ≡ None → find (has_page base p) bs ≡ None
    behind [] bs none = none
    behind (a ∷ ms) bs none =
        elim (has_page base p a) as (λ b. cond b (Some a) (find (has_page base p) (ms ++ bs)) ≡ None → find (has_page base p) bs ≡ None) [
          | true ↦ λ e. absurd (some_none e)
          | false ↦ λ e. behind ms bs e
        ] none
      where
        some_none : Some a ≡ None → ⊥
        some_none e = cc

-- the regions of endpoints whose first stands at place k, each with its owner
abbrev pub owned_from : ℕ → List Endpoint → List (ℕ × Region)
owned_from k es = flat_map (λ (x : ℕ × Endpoint). map (λ (r : Region). (identifier x.0, r)) x.1.regions.items) (enumerate_from k es)

abbrev pub has : ℕ → ℕ → ℕ × Region → Bool
has base p x = has_page base p x.1

-- the own right of a page that was found, where the owner is e
abbrev right_if : ℕ → Option (ℕ × Region) → Option Rights
right_if e None = None
right_if e (Some x) = cond (x.0 == e) (Some x.1.rights) None

-- what holds of each region of each endpoint
pub All-owned : (P : Region → Type 0) (k : ℕ) (es : List Endpoint) → All (λ (e : Endpoint). All P e.regions.items) es → All (λ (x : ℕ × Region). P x.1) (owned_from k es)
All-owned P k [] all = All-nil (λ (x : ℕ × Region). P x.1)
All-owned P k (e ∷ es) all =
    let each : Endpoint → Type 0 = λ (e : Endpoint). All P e.regions.items in
    let owned : ℕ × Region → Type 0 = λ (x : ℕ × Region). P x.1 in
    All-append owned (map (λ (r : Region). (identifier k, r)) e.regions.items) (owned_from (k + 1) es)
    (All-map owned (λ (r : Region). (identifier k, r)) e.regions.items (All-head each e es all))
    (All-owned P (k + 1) es (All-tail each e es all))

find-owned : (base p o : ℕ) (rs : List Region) → find (has base p) (map (λ (r : Region). (o, r)) rs) ≡ option_map (λ (r : Region). (o, r)) (find (has_page base p) rs)
find-owned base p o [] = refl
find-owned base p o (r ∷ rs) = elim (has_page base p r) as (λ b. cond b (Some (o, r)) (find (has base p) (map (λ (q : Region). (o, q)) rs)) ≡ option_map (λ (q : Region). (o, q)) (cond b (Some r) (find (has_page base p) rs))) [
  | true ↦ refl
  | false ↦ find-owned base p o rs
]

pub identifier-apart : (i j : ℕ) → (i ≡ j → ⊥) → (identifier i == identifier j) ≡ false
identifier-apart zero zero h = absurd (h refl)
identifier-apart zero (suc j) h = grind (arith, nat_tests)
identifier-apart (suc i) zero h = grind (arith, nat_tests)
identifier-apart (suc i) (suc j) h = grind (arith, nat_tests)

-- the first endpoint's regions, and then the others'
right-first : (base p k : ℕ) (e : Endpoint) (es : List Endpoint) (f : ℕ)
    → right_if f (find (has base p) (owned_from k (e ∷ es)))
    ≡ right_if f (option_or (option_map (λ (r : Region). (identifier k, r)) (find (has_page base p) e.regions.items)) (find (has base p) (owned_from (k + 1) es)))
right-first base p k e es f =
    ap (right_if f) (find-append (has base p) (map (λ (r : Region). (identifier k, r)) e.regions.items) (owned_from (k + 1) es)
    ∙ ap (λ o. option_or o (find (has base p) (owned_from (k + 1) es))) (find-owned base p (identifier k) e.regions.items))

-- an endpoint that stands before these has none of their pages
right-before : (base p k i : ℕ) (es : List Endpoint) → i < k → right_if (identifier i) (find (has base p) (owned_from k es)) ≡ None
right-before base p k i [] lt = refl
right-before base p k i (e ∷ es) lt =
    right-first base p k e es (identifier i)
    ∙ elim (find (has_page base p) e.regions.items) as (λ o. right_if (identifier i) (option_or (option_map (λ (r : Region). (identifier k, r)) o) (find (has base p) (owned_from (k + 1) es))) ≡ None) [
      | None ↦ right-before base p (k + 1) i es (omega arith)
      | Some r ↦ ap (λ b. cond b (Some r.rights) None) (identifier-apart k i (λ same. omega arith))
    ]

-- no region behind has it
regions-none : (base p i : ℕ) (es : List Endpoint) → find (has_page base p) (regions_of es) ≡ None → right_in base (regions_at es i) p ≡ None
regions-none base p i [] none = refl
regions-none base p zero (e ∷ es) none =
    ap (option_map (λ (r : Region). r.rights)) (or_none (find (has_page base p) e.regions.items) (sym (find-append (has_page base p) e.regions.items (regions_of es)) ∙ none))
  where
    or_none : (o : Option Region) → option_or o (find (has_page base p) (regions_of es)) ≡ None → o ≡ None
    or_none None h = refl
    or_none (Some r) h = h
regions-none base p (suc i) (e ∷ es) none =
    regions-none base p i es (or_none (find (has_page base p) e.regions.items) (sym (find-append (has_page base p) e.regions.items (regions_of es)) ∙ none))
  where
    or_none : (o : Option Region) → option_or o (find (has_page base p) (regions_of es)) ≡ None → find (has_page base p) (regions_of es) ≡ None
    or_none None h = h
    or_none (Some r) h = absurd (some_none h)
      where
        some_none : Some r ≡ None → ⊥
        some_none e = cc

apart-tail : (rs qs : List Region) → are_apart (rs ++ qs) ≡ true → are_apart qs ≡ true
apart-tail [] qs h = h
apart-tail (r ∷ rs) qs h = apart-tail rs qs (and_parts (list_all (is_apart r) (rs ++ qs)) (are_apart (rs ++ qs)) h).1

right-owned : (base p k i : ℕ) (es : List Endpoint) → are_apart (regions_of es) ≡ true
    → right_if (identifier (k + i)) (find (has base p) (owned_from k es)) ≡ right_in base (regions_at es i) p
right-owned base p k i [] apart = refl
right-owned base p k zero (e ∷ es) apart =
    right-first base p k e es (identifier (k + 0))
    ∙ elim (find (has_page base p) e.regions.items) as (λ o. right_if (identifier (k + 0)) (option_or (option_map (λ (r : Region). (identifier k, r)) o) (find (has base p) (owned_from (k + 1) es))) ≡ option_map (λ (r : Region). r.rights) o) [
      | None ↦ right-before base p (k + 1) (k + 0) es (omega arith)
      | Some r ↦ (let same : (identifier k == identifier (k + 0)) ≡ true = eq-eqb _ _ (ap identifier (omega arith)) in ap (λ b. cond b (Some r.rights) None) same)
    ]
right-owned base p k (suc i) (e ∷ es) apart =
    right-first base p k e es (identifier (k + suc i))
    ∙ elim (find (has_page base p) e.regions.items) as (λ o. find (has_page base p) e.regions.items ≡ o → right_if (identifier (k + suc i)) (option_or (option_map (λ (r : Region). (identifier k, r)) o) (find (has base p) (owned_from (k + 1) es))) ≡ right_in base (regions_at es i) p) [
      | None ↦ λ is. (let next : k + suc i ≡ (k + 1) + i = omega arith in
          ap (λ j. right_if (identifier j) (find (has base p) (owned_from (k + 1) es))) next
          ∙ right-owned base p (k + 1) i es (apart-tail e.regions.items (regions_of es) apart))
      | Some r ↦ λ is.
          ap (λ b. cond b (Some r.rights) None) (identifier-apart k (k + suc i) (λ same. omega arith))
          ∙ sym (regions-none base p i es (list_none base p e.regions.items (regions_of es) r apart is))
    ] refl

-- the right of an endpoint to a page that stands in no transaction is that of the endpoint's own regions
pub right-own : (base : ℕ) (es : List Endpoint) (p i : ℕ) (bytes : List ℕ) → are_apart (regions_of es) ≡ true
    → right_of (identifier i) (page_with_bytes base es p bytes) None ≡ right_in base (regions_at es i) p
right-own base es p i bytes apart =
    of (find (has base p) (owned_regions es))
    ∙ ap (λ j. right_if (identifier j) (find (has base p) (owned_from 0 es))) (omega arith)
    ∙ right-owned base p 0 i es apart
  where
    of : (o : Option (ℕ × Region)) → right_of (identifier i) (option_map (λ (x : ℕ × Region). record { owner = x.0; own_right = x.1.rights; bytes = bytes }) o) None ≡ right_if (identifier i) o
    of None = refl
    of (Some x) = refl

-- the owner of a page among endpoints whose first stands at place k
abbrev pub owner_from : ℕ → ℕ → ℕ → List Endpoint → ℕ
owner_from base p k es = option_map_or (λ (x : ℕ × Region). x.0) (find (has base p) (owned_from k es)) manager

owner-first : (base p k : ℕ) (e : Endpoint) (es : List Endpoint)
    → owner_from base p k (e ∷ es) ≡ option_map_or (λ (r : Region). identifier k) (find (has_page base p) e.regions.items) (owner_from base p (k + 1) es)
owner-first base p k e es =
    ap (λ o. option_map_or (λ (x : ℕ × Region). x.0) o manager)
    (find-append (has base p) (map (λ (r : Region). (identifier k, r)) e.regions.items) (owned_from (k + 1) es)
    ∙ ap (λ o. option_or o (find (has base p) (owned_from (k + 1) es))) (find-owned base p (identifier k) e.regions.items))
    ∙ of (find (has_page base p) e.regions.items)
  where
    of : (o : Option Region)
        → option_map_or (λ (x : ℕ × Region). x.0) (option_or (option_map (λ (r : Region). (identifier k, r)) o) (find (has base p) (owned_from (k + 1) es))) manager
        ≡ option_map_or (λ (r : Region). identifier k) o (owner_from base p (k + 1) es)
    of None = refl
    of (Some r) = refl

-- the first endpoint has the page, or the owner stands behind it
pub owner-here : (base p k : ℕ) (e : Endpoint) (es : List Endpoint) → is_some (right_in base e.regions.items p) ≡ true → owner_from base p k (e ∷ es) ≡ identifier k
owner-here base p k e es some = owner-first base p k e es ∙ of (find (has_page base p) e.regions.items) some
  where
    of : (o : Option Region) → is_some (option_map (λ (r : Region). r.rights) o) ≡ true → option_map_or (λ (r : Region). identifier k) o (owner_from base p (k + 1) es) ≡ identifier k
    of None e = absurd (false≢true e)
    of (Some r) e = refl

pub owner-behind : (base p k : ℕ) (e : Endpoint) (es : List Endpoint) → is_some (right_in base e.regions.items p) ≡ false → owner_from base p k (e ∷ es) ≡ owner_from base p (k + 1) es
owner-behind base p k e es none = owner-first base p k e es ∙ of (find (has_page base p) e.regions.items) none
  where
    of : (o : Option Region) → is_some (option_map (λ (r : Region). r.rights) o) ≡ false → option_map_or (λ (r : Region). identifier k) o (owner_from base p (k + 1) es) ≡ owner_from base p (k + 1) es
    of None e = refl
    of (Some r) e = absurd (true≢false e)

-- what is found passes the test, and each test that all pass
find-passes : {X : Type 0} (test also : X → Bool) (xs : List X) (x : X) → list_all also xs ≡ true → find test xs ≡ Some x → (test x ≡ true) × (also x ≡ true)
find-passes test also [] x all is = absurd (none_some is)
  where
    none_some : None ≡ Some x → ⊥
    none_some e = cc
find-passes test also (y ∷ ys) x all is =
    let (here, rest) = and_parts (also y) (list_all also ys) all in
    elim (test y) as (λ b. test y ≡ b → cond b (Some y) (find test ys) ≡ Some x → (test x ≡ true) × (also x ≡ true)) [
      | true ↦ λ passed found. (let same : y ≡ x = cc in (rw same at passed, rw same at here))
      | false ↦ λ _ found. find-passes test also ys x rest found
    ] refl is

all-owned : (test : Region → Bool) (k : ℕ) (es : List Endpoint) → list_all test (regions_of es) ≡ true → list_all (λ (x : ℕ × Region). test x.1) (owned_from k es) ≡ true
all-owned test k [] h = refl
all-owned test k (e ∷ es) h =
    let (here, rest) = and_parts (list_all test e.regions.items) (list_all test (regions_of es)) (sym (list_all-append test e.regions.items (regions_of es)) ∙ h) in
    list_all-append (λ (x : ℕ × Region). test x.1) (map (λ (r : Region). (identifier k, r)) e.regions.items) (owned_from (k + 1) es)
    ∙ rw (list_all-map (λ (x : ℕ × Region). test x.1) (λ (r : Region). (identifier k, r)) e.regions.items, here) (all-owned test (k + 1) es rest)

-- a page that an endpoint owns is none of the table pages
pub owned-aside : (base tables blocks n : ℕ) (es : List Endpoint) (p : ℕ) (bytes : List ℕ) (page : Page)
    → list_all (is_placed base tables blocks n) (regions_of es) ≡ true → page_with_bytes base es p bytes ≡ Some page → (p < tables) ⊎ (tables + n * table_pages blocks ≤ p)
owned-aside base tables blocks n es p bytes page placed is = of (find (has base p) (owned_regions es)) refl is
  where
    of : (o : Option (ℕ × Region)) → find (has base p) (owned_regions es) ≡ o
        → option_map (λ (x : ℕ × Region). let q : Page = record { owner = x.0; own_right = x.1.rights; bytes = bytes } in q) o ≡ Some page → (p < tables) ⊎ (tables + n * table_pages blocks ≤ p)
    of None _ none = absurd (none_some none)
      where
        none_some : None ≡ Some page → ⊥
        none_some e = cc
    of (Some x) found _ =
        let (there, placed_x) = find-passes (has base p) (λ (y : ℕ × Region). is_placed base tables blocks n y.1) (owned_regions es) x (all-owned (is_placed base tables blocks n) 0 es placed) found in
        let end : ℕ = x.1.base + 4096 * x.1.pages in
        let inside : Bool = (x.1.base % 4096 == 0 && nat_le 1 x.1.pages) && (nat_le base x.1.base && nat_le end (ram_end base blocks)) in
        let before : Bool = nat_le end (tables_begin base tables blocks) in
        let behind : Bool = nat_le (tables_end base tables blocks n) x.1.base in
        let aside : (before || behind) ≡ true = (and_parts inside (before || behind) placed_x).1 in
        let low : x.1.base ≤ base + 4096 * p = grind (arith, nat_tests, there) in
        let high : base + 4096 * p < x.1.base + 4096 * x.1.pages = grind (arith, nat_tests, there) in
        elim (or_cases before behind aside) [
          | inl is ↦ inl (let last = leb-true end (tables_begin base tables blocks) is in omega (arith, last))
          | inr is ↦ inr (let first = leb-true (tables_end base tables blocks n) x.1.base is in omega (arith, first))
        ]

-- each owner is the endpoint at its place
all-named : (k : ℕ) (es : List Endpoint) → list_all (λ (x : ℕ × Region). identifier (place x.0) == x.0) (owned_from k es) ≡ true
all-named k [] = refl
all-named k (e ∷ es) =
    list_all-append (λ (x : ℕ × Region). identifier (place x.0) == x.0) (map (λ (r : Region). (identifier k, r)) e.regions.items) (owned_from (k + 1) es)
    ∙ rw (list_all-map (λ (x : ℕ × Region). identifier (place x.0) == x.0) (λ (r : Region). (identifier k, r)) e.regions.items, each e.regions.items) (all-named (k + 1) es)
  where
    each : (rs : List Region) → list_all (λ (r : Region). identifier (place (identifier k)) == identifier k) rs ≡ true
    each [] = refl
    each (r ∷ rs) = rw (eq-eqb (identifier (place (identifier k))) (identifier k) (ap identifier (place-identifier k))) (each rs)

-- the owner of a page is the endpoint at its place
pub found-named : (base p : ℕ) (es : List Endpoint) (x : ℕ × Region) → find (has base p) (owned_regions es) ≡ Some x → identifier (place x.0) ≡ x.0
found-named base p es x is =
    eqb-true (identifier (place x.0)) x.0
    (find-passes (has base p) (λ (y : ℕ × Region). identifier (place y.0) == y.0) (owned_regions es) x (all-named 0 es) is).1

-- its regions give it the right of the one that has the page
pub found-right : (base p : ℕ) (es : List Endpoint) (x : ℕ × Region) → are_apart (regions_of es) ≡ true
    → find (has base p) (owned_regions es) ≡ Some x → right_in base (regions_at es (place x.0)) p ≡ Some x.1.rights
found-right base p es x apart is =
    sym (right-owned base p 0 (place x.0) es apart)
    ∙ ap (λ j. right_if (identifier j) (find (has base p) (owned_regions es))) (omega arith)
    ∙ ap (right_if (identifier (place x.0))) is
    ∙ ap (λ b. cond b (Some x.1.rights) None) (eq-eqb x.0 (identifier (place x.0)) (sym (found-named base p es x is)))

-- no endpoint is the manager
pub identifier-manager : (i : ℕ) → identifier i ≡ manager → ⊥
identifier-manager zero h = omega (arith, h)
identifier-manager (suc i) h = omega (arith, h)

-- a page that a region has is no page of the manager
pub found-owner : (base p : ℕ) (es : List Endpoint) (x : ℕ × Region) → find (has base p) (owned_regions es) ≡ Some x → owner_in base es p ≢ manager
found-owner base p es x found is =
    identifier-manager (place x.0)
    (found-named base p es x found ∙ sym (ap (λ (o : Option (ℕ × Region)). option_map_or (λ (y : ℕ × Region). y.0) o manager) found) ∙ is)

-- no endpoint has a page of the manager at first, and a page that none has is the manager's
pub managers-none : (base p : ℕ) (es : List Endpoint) (bytes : List ℕ) → owner_in base es p ≡ manager → page_with_bytes base es p bytes ≡ None
managers-none base p es bytes is = of (find (has base p) (owned_regions es)) refl
  where
    of : (o : Option (ℕ × Region)) → find (has base p) (owned_regions es) ≡ o
        → option_map (λ (x : ℕ × Region). let q : Page = record { owner = x.0; own_right = x.1.rights; bytes = bytes } in q) o ≡ None
    of None found = refl
    of (Some x) found = absurd (found-owner base p es x found is)

pub none-managers : (base p : ℕ) (es : List Endpoint) (bytes : List ℕ) → page_with_bytes base es p bytes ≡ None → owner_in base es p ≡ manager
none-managers base p es bytes none = of (find (has base p) (owned_regions es)) none
  where
    of : (o : Option (ℕ × Region)) → option_map (λ (x : ℕ × Region). let q : Page = record { owner = x.0; own_right = x.1.rights; bytes = bytes } in q) o ≡ None
        → option_map_or (λ (x : ℕ × Region). x.0) o manager ≡ manager
    of None is = refl
    of (Some x) is = absurd (none-some _ (sym is))

-- a page of a region has the bytes that are given for it
pub given-bytes : (base p : ℕ) (es : List Endpoint) (bytes : List ℕ) (page : Page) → page_with_bytes base es p bytes ≡ Some page → page.bytes ≡ bytes
given-bytes base p es bytes page is = of (find (has base p) (owned_regions es)) is
  where
    of : (o : Option (ℕ × Region)) → option_map (λ (x : ℕ × Region). let q : Page = record { owner = x.0; own_right = x.1.rights; bytes = bytes } in q) o ≡ Some page → page.bytes ≡ bytes
    of None none = absurd (none-some page none)
    of (Some x) some = ap (λ (q : Page). q.bytes) (sym (same_Some _ page some))

-- and no others count
pub given-same : (base p : ℕ) (es : List Endpoint) (a b : List ℕ) → (owner_in base es p ≢ manager → a ≡ b) → page_with_bytes base es p a ≡ page_with_bytes base es p b
given-same base p es a b same = elim (cases_eq (owner_in base es p) manager) [
  | inl is ↦ managers-none base p es a is ∙ sym (managers-none base p es b is)
  | inr other ↦ ap (page_with_bytes base es p) (same other)
]
