-- SPDX-License-Identifier: MIT OR Apache-2.0
-- A machine in its first state.
use Rattle.std.specs.Prelude.{◌==◌, find, nat_lt, slice_get, true}
use Rattle.std.specs.Option.{option_and_then, option_map}
use Rattle.std.specs.FinMap as finite
use Rattle.std.specs.FinSet as finite_set
use Rattle.std.specs.List.{enumerate_from, list_all}
use Rattle.std.proofs.Common.{◌≡◌, ◌≢◌, ◌∙◌, ◌⊎◌, ℕ, suc, zero, ◌*◌, ◌<◌, ◌≤◌, List, [], ◌∷◌, length, map, get_or, replicate, Option, Some, None, refl, sym, ap, subst, arith, inl, inr}
use Rattle.std.proofs.lemmas.Bool.{and_parts, cases_lt, eqb-true, false≢true}
use Rattle.std.proofs.lemmas.List.{get_or-replicate, length-map, length-replicate}
use Rattle.std.proofs.lemmas.Option.{none-some, same_Some}
use Rattle.arrayvec.specs.ArrayVec.{array_vec_len}
use Rattle.ffa_model.specs.declared.limits.TheConstants.{MOST_OPEN}
use Rattle.ffa_model.specs.declared.endpoint.Endpoint.{Endpoint}
use Rattle.ffa_model.specs.declared.endpoint.Region.{Region}
use Rattle.ffa_model.specs.declared.rights.Rights.{Rights}
use Rattle.ffa_model.specs.declared.manifest.Manifest.{Manifest}
use Rattle.ffa_model.specs.Lists.{listed}
use Rattle.ffa_model.specs.Ram.{Ram, page_of, zero_ram}
use Rattle.ffa_model.specs.Regions.{normal_of, has_page, owned_regions, regions_at, regions_of_each, right_in as right_among}
use Rattle.ffa_model.specs.State.{State, Page, page_at}
use Rattle.ffa_model.specs.First.{first, first_held, has_first_bitmaps, page_with_bytes}
use Rattle.ffa_model.specs.RunStates.{first_schedule}
use Rattle.ffa_model.proofs.Accepted.{accepted}
use Rattle.ffa_model.proofs.Listed.{get_or-listed, get_or-listed_past, length-listed, listed-same}
use Rattle.ffa_model.proofs.Owners.{given-bytes, given-same, none-managers, owned-aside}
use Rattle.ffa_model.proofs.FirstSound.{zeros-bytes}
use Rattle.ffa_model.proofs.Slots.{entries_in}
use Rattle.ffa_stage2.specs.declared.layout.Layout.{Layout}
use Rattle.ffa_stage2.specs.declared.layout.Regions.{Regions}
use Rattle.ffa_stage2.specs.Layout.{normal_in, regions_in, layout_right}
use Rattle.ffa_stage2.specs.Tables.{IsAside, IsBuilt, KeepsRest, TableLaws, table_page}
use Rattle.ffa_stage2.proofs.Rights.{built-same}
use Rattle.ffa_pages.specs.Entry.{Entry, entry_at, first_entry, slot_at}
use Rattle.ffa_memshare.specs.Stored.{map_in, pool_slot}
use Rattle.ffa_spmc.specs.Owners.{first_owners}
use Rattle.ffa_model.specs.Endpoints.{have_uuids}
use Rattle.ffa_model.specs.SoundState.{IsSoundState, are_bytes}
use Rattle.ffa_model.specs.Uuid.{is_uuid}
use Rattle.ffa_laws.proofs.Firsts.{first-held-sound}
use Rattle.ffa_spmc.specs.declared.fill.Fill.{Fill}
use Rattle.ffa_spmc.specs.declared.fill.Fill.TheVariants.{AlreadyZero, Clear, KeepRegions}
use Rattle.ffa_spmc.specs.Booted.{IsBooted, IsBootedBy, IsBootedHeld}
use Rattle.ffa_spmc.specs.Readied.{IsFilled, IsReadyFor, first_owner}
use Rattle.ffa_spmc.specs.Unowned.{IsNoTable}
use Rattle.ffa_model.specs.Identifiers.{manager}
use Rattle.ffa_spmc.specs.Meaning.{AreOpenTransactions, AreOwners, HasTables, IsManager, Parts, access_by_place, held_page, slot_names, state_of}
use Rattle.ffa_spmc.proofs.Held.{access-first, by-manifest, page-at, page-held}

regions-each : (es : List Endpoint) (i : ℕ) → get_or (regions_of_each es) i [] ≡ regions_at es i
regions-each [] i = refl
regions-each (e ∷ es) zero = refl
regions-each (e ∷ es) (suc i) = regions-each es i

-- no endpoint owns a page of the tables
pub unowned : (m : Manifest) (p : ℕ) (bytes : List ℕ) → m.tables.0 ≤ p → p < table_page m.tables.0 m.ram_blocks (length m.endpoints.items) 0 → page_with_bytes m.ram_base.0 m.endpoints.items p bytes ≡ None
unowned m p bytes from low = of (page_with_bytes m.ram_base.0 m.endpoints.items p bytes) refl
  where
    of : (o : Option Page) → page_with_bytes m.ram_base.0 m.endpoints.items p bytes ≡ o → page_with_bytes m.ram_base.0 m.endpoints.items p bytes ≡ None
    of None is = is
    of (Some page) is =
        let placed = (accepted m.ram_base.0 m.tables.0 m.ram_blocks m.endpoints.items m.accepted).placed in
        elim (owned-aside m.ram_base.0 m.tables.0 m.ram_blocks (length m.endpoints.items) m.endpoints.items p bytes page placed is) [
          | inl before ↦ absurd (omega (arith, from, before))
          | inr behind ↦ absurd (omega (arith, low, behind))
        ]

-- nobody owns a page of the tables at first
unentered : (m : Manifest) (p : ℕ) → m.tables.0 ≤ p → p < table_page m.tables.0 m.ram_blocks (length m.endpoints.items) 0 → first_entry m.ram_base.0 m.endpoints.items p ≡ None
unentered m p from low = of (find (λ (x : ℕ × Region). has_page m.ram_base.0 p x.1) (owned_regions m.endpoints.items)) (unowned m p [] from low)
  where
    of : (o : Option (ℕ × Region)) → option_map (λ (x : ℕ × Region). let q : Page = record { owner = x.0; own_right = x.1.rights; bytes = [] } in q) o ≡ None
        → option_map (λ (x : ℕ × Region). let e : Entry = record { owner = x.0; own_right = x.1.rights; slot = None } in e) o ≡ None
    of None none = refl
    of (Some x) some = absurd (none-some _ (sym some))

-- no transaction names a page at first
unnamed : (m : Manifest) (p : ℕ) → slot_at (first_owners m) p ≡ None
unnamed m p = elim (cases_lt p (512 * m.ram_blocks)) [
  | inl lt ↦
      ap (option_and_then (λ (e : Entry). e.slot)) (get_or-listed (512 * m.ram_blocks) (first_entry m.ram_base.0 m.endpoints.items) p None lt)
      ∙ of (find (λ (x : ℕ × Region). has_page m.ram_base.0 p x.1) (owned_regions m.endpoints.items))
  | inr past ↦ ap (option_and_then (λ (e : Entry). e.slot)) (get_or-listed_past (512 * m.ram_blocks) (first_entry m.ram_base.0 m.endpoints.items) p None past)
]
  where
    of : (o : Option (ℕ × Region)) → option_and_then (λ (e : Entry). e.slot) (option_map (λ (x : ℕ × Region). let e : Entry = record { owner = x.0; own_right = x.1.rights; slot = None } in e) o) ≡ None
    of None = refl
    of (Some x) = refl

owners-first : (m : Manifest) → AreOwners m (first_owners m)
owners-first m =
    record {
      size = length-listed (512 * m.ram_blocks) (first_entry m.ram_base.0 m.endpoints.items);
      tables = λ p from low. of p from low (cases_lt p (512 * m.ram_blocks));
    }
  where
    of : (p : ℕ) → m.tables.0 ≤ p → p < table_page m.tables.0 m.ram_blocks (length m.endpoints.items) 0 → (p < 512 * m.ram_blocks) ⊎ (512 * m.ram_blocks ≤ p) → entry_at (first_owners m) p ≡ None
    of p from low (inl lt) = get_or-listed (512 * m.ram_blocks) (first_entry m.ram_base.0 m.endpoints.items) p None lt ∙ unentered m p from low
    of p from low (inr past) = get_or-listed_past (512 * m.ram_blocks) (first_entry m.ram_base.0 m.endpoints.items) p None past

-- nothing is open where all slots are free
free : (n k : ℕ) → pool_slot (replicate n None) k ≡ None
free zero k = refl
free (suc n) zero = refl
free (suc n) (suc k) = free n k

none-open : (n : ℕ) → map_in (replicate n None) ≡ finite.empty
none-open n = ap finite.from_entries (of n)
  where
    of : (n : ℕ) → entries_in (replicate n None) ≡ []
    of zero = refl
    of (suc n) = of n

open-first : (m : Manifest) (n : ℕ) → AreOpenTransactions m (first_owners m) (replicate n None)
open-first m n =
    record {
      apart = λ i j y z at_i at_j same. absurd (none-some y (sym (free n i) ∙ at_i));
      offered = λ k h t at. absurd (none-some (h, t) (sym (free n k) ∙ at));
      marks = λ p k lt. (
        λ is. absurd (none-some k (sym (unnamed m p) ∙ is)),
        λ names. absurd (false≢true (sym (ap (slot_names m.ram_base.0 p) (free n k)) ∙ names)),
      );
    }

-- a page of RAM of zeros
zero-page : (m : Manifest) (p : ℕ) → p < 512 * m.ram_blocks → page_of (zero_ram m.ram_base.0 (512 * m.ram_blocks)) p ≡ replicate 4096 0
zero-page m p lt = get_or-replicate (512 * m.ram_blocks) p (replicate 4096 0) [] lt

-- a page of the first state
page-there : (m : Manifest) (given : Ram) (p : ℕ) (page : Page) → page_at (first_held m.ffa m.ram_base.0 m.tables.0 m.ram_blocks m.endpoints.items (page_of given)) p ≡ Some page
    → (p < 512 * m.ram_blocks) × (page_with_bytes m.ram_base.0 m.endpoints.items p (page_of given p) ≡ Some page)
page-there m given p page is = elim (cases_lt p (512 * m.ram_blocks)) [
  | inl lt ↦ (lt, sym (get_or-listed (512 * m.ram_blocks) (λ q. page_with_bytes m.ram_base.0 m.endpoints.items q (page_of given q)) p None lt) ∙ is)
  | inr past ↦ absurd (none-some page (sym (get_or-listed_past (512 * m.ram_blocks) (λ q. page_with_bytes m.ram_base.0 m.endpoints.items q (page_of given q)) p None past) ∙ is))
]

-- the right that an endpoint's regions give it, by its place in the manifest
abbrev own_right : Manifest → ℕ → ℕ → Option Rights
own_right m i p = right_among m.ram_base.0 (regions_at m.endpoints.items i) p

module _ (given : Ram) (x : Parts) (ready : IsReadyFor x.manifest given)
    (base : x.kept.layout.base.0 ≡ x.manifest.ram_base.0) (blocks : x.kept.layout.blocks ≡ x.manifest.ram_blocks) (place : x.kept.layout.tables.0 ≡ x.manifest.tables.0) (regions : regions_in x.kept.layout ≡ regions_of_each x.manifest.endpoints.items)
    (normal : normal_in x.kept.layout ≡ normal_of x.manifest.ffa (regions_at x.manifest.endpoints.items 0))
    (built : IsBuilt x.ram (array_vec_len x.kept.layout.regions) x.kept.layout.tables.0 x.kept.layout.blocks (layout_right x.kept.layout))
    (rest : KeepsRest given x.ram (array_vec_len x.kept.layout.regions) x.kept.layout.tables.0 x.kept.layout.blocks)
    (owners : x.kept.pages ≡ first_owners x.manifest) (slots : x.kept.pool.slots ≡ replicate (MOST_OPEN * length x.manifest.endpoints.items) None)
    (sent : x.kept.pool.sent ≡ replicate (length x.manifest.endpoints.items) 0) (none : x.kept.buffers ≡ replicate (length x.manifest.endpoints.items) None) (schedule : x.kept.chain ≡ first_schedule (length x.manifest.endpoints.items))
    (versions : x.kept.versions ≡ map (λ (e : Endpoint). e.version) x.manifest.endpoints.items)
    (bitmaps : x.kept.bitmaps.bitmaps ≡ map has_first_bitmaps (enumerate_from 0 x.manifest.endpoints.items)) (bound : x.kept.bitmaps.bound ≡ finite_set.empty) (pending : x.kept.bitmaps.pending ≡ finite_set.empty)
    (notices : x.kept.bitmaps.notices ≡ finite_set.empty)
    (uuids : have_uuids x.manifest.endpoints.items ≡ true) (laws : TableLaws) where
  abbrev es : List Endpoint
  es = x.manifest.endpoints.items

  abbrev layout : Layout
  layout = x.kept.layout

  many : array_vec_len layout.regions ≡ length es
  many =
      sym (length-map layout.regions.items (λ (r : Regions). r.list.items)) ∙ ap length regions
      ∙ length-map es (λ (e : Endpoint). e.regions.items)

  base-is : x.ram.base ≡ x.manifest.ram_base.0
  base-is = rest.base ∙ ready.base

  size-is : length x.ram.pages ≡ 512 * x.manifest.ram_blocks
  size-is = rest.size ∙ ready.size

  right-is : (e p : ℕ) → layout_right layout e p ≡ own_right x.manifest e p
  right-is e p =
      ap (λ (b : ℕ). right_among b (get_or (regions_in layout) e []) p) base
      ∙ ap (λ (rs : List Region). right_among x.manifest.ram_base.0 rs p) (ap (λ (rss : List (List Region)). get_or rss e []) regions ∙ regions-each es e)

  access-is : (i p : ℕ) → p < 512 * x.manifest.ram_blocks → own_right x.manifest i p ≡ access_by_place (state_of x) i p
  access-is i p lt = sym (access-first x size-is owners (ap map_in slots ∙ none-open (MOST_OPEN * length es)) i p (omega (arith, lt, size-is)))

  built-is : IsBuilt x.ram (length es) x.manifest.tables.0 x.manifest.ram_blocks (access_by_place (state_of x))
  built-is =
      built-same x.ram (length es) x.manifest.tables.0 x.manifest.ram_blocks (own_right x.manifest) (access_by_place (state_of x))
      (subst (λ (n : ℕ). IsBuilt x.ram n x.manifest.tables.0 x.manifest.ram_blocks (own_right x.manifest)) many
      (subst (λ (t : ℕ). IsBuilt x.ram (array_vec_len layout.regions) t x.manifest.ram_blocks (own_right x.manifest)) place
      (subst (λ (b : ℕ). IsBuilt x.ram (array_vec_len layout.regions) layout.tables.0 b (own_right x.manifest)) blocks
      (subst (IsBuilt x.ram (array_vec_len layout.regions) layout.tables.0 layout.blocks) (λ i e p. right-is e p i) built))))
      (λ i p known lt. access-is i p lt)

  tables-first : HasTables x.ram x.manifest (access_by_place (state_of x))
  tables-first = record { base = base-is; size = size-is; built = built-is }

  -- a page that is none of the tables' has the bytes that were given
  aside-given : (p : ℕ) → IsAside (length es) x.manifest.tables.0 x.manifest.ram_blocks p → page_of x.ram p ≡ page_of given p
  aside-given p aside = rest.pages p (subst (λ z. z) (λ i. IsAside (sym many i) (sym place i) (sym blocks i) p) aside)

  -- and nobody owns one before
  page-given : (p : ℕ) → p < length x.ram.pages → held_page x.ram x.kept.pages p ≡ page_with_bytes x.manifest.ram_base.0 es p (page_of given p)
  page-given p inside =
      sym (page-held x p inside) ∙ page-at x size-is owners p inside
      ∙ elim (cases_lt p x.manifest.tables.0) [
        | inl before ↦ ap (page_with_bytes x.manifest.ram_base.0 es p) (aside-given p (inl before))
        | inr from ↦ elim (cases_lt p (table_page x.manifest.tables.0 x.manifest.ram_blocks (length es) 0)) [
          | inl low ↦ unowned x.manifest p (page_of x.ram p) from low ∙ sym (unowned x.manifest p (page_of given p) from low)
          | inr behind ↦ ap (page_with_bytes x.manifest.ram_base.0 es p) (aside-given p (inr behind))
        ]
      ]

  pages-first : listed (length x.ram.pages) (held_page x.ram x.kept.pages) ≡ listed (512 * x.manifest.ram_blocks) (λ p. page_with_bytes x.manifest.ram_base.0 es p (page_of given p))
  pages-first =
      listed-same (length x.ram.pages) (held_page x.ram x.kept.pages) (λ p. page_with_bytes x.manifest.ram_base.0 es p (page_of given p)) page-given
      ∙ ap (λ (n : ℕ). listed n (λ p. page_with_bytes x.manifest.ram_base.0 es p (page_of given p))) size-is

  pub state-first : state_of x ≡ first_held x.manifest.ffa x.manifest.ram_base.0 x.manifest.tables.0 x.manifest.ram_blocks es (page_of given)
  unfolding first
  state-first = λ i. record (first x.manifest.ffa x.manifest.ram_base.0 x.manifest.tables.0 x.manifest.ram_blocks es) {
    pages = pages-first i;
    transactions = (ap map_in slots ∙ none-open (MOST_OPEN * length es)) i;
    sent = sent i;
    buffers = none i;
    runner = (schedule i).runner;
    statuses = (schedule i).statuses;
    works = (schedule i).works;
    versions = versions i;
    bitmaps = bitmaps i;
    bound = bound i;
    pending = pending i;
    notices = notices i;
  }

  -- the UUIDs, one by one
  uuid-at : (es : List Endpoint) → have_uuids es ≡ true → (i : ℕ) (e : Endpoint) → slice_get es i ≡ Some e → (length e.uuid ≡ 16) × are_bytes e.uuid
  uuid-at [] all i e is = absurd (none-some e is)
  uuid-at (f ∷ fs) all zero e is =
      let (sixteen, bytes) = and_parts (length f.uuid == 16) (list_all (λ b. nat_lt b 256) f.uuid) (and_parts (is_uuid f.uuid) (have_uuids fs) all).0 in
      let same : f ≡ e = same_Some f e is in
      subst (λ (g : Endpoint). (length g.uuid ≡ 16) × are_bytes g.uuid) same (eqb-true (length f.uuid) 16 sixteen, bytes)
  uuid-at (f ∷ fs) all (suc i) e is = uuid-at fs (and_parts (is_uuid f.uuid) (have_uuids fs) all).1 i e is

  pub machine-first : IsManager x
  machine-first =
      record {
        laws = laws;
        tables = tables-first;
        layout = record { base = base; blocks = blocks; tables = place; endpoints = many; normal = normal };
        owners = subst (AreOwners x.manifest) (sym owners) (owners-first x.manifest);
        open_transactions =
            subst (λ (list : List (Option Entry)). AreOpenTransactions x.manifest list x.kept.pool.slots) (sym owners)
            (subst (AreOpenTransactions x.manifest (first_owners x.manifest)) (sym slots) (open-first x.manifest (MOST_OPEN * length es)));
        sound =
            subst IsSoundState (sym state-first)
            (first-held-sound x.manifest.ffa x.manifest.ram_base.0 x.manifest.tables.0 x.manifest.ram_blocks es (page_of given) x.manifest.accepted (uuid-at es uuids)
            (λ p inside. ready.whole p (omega (arith, inside, ready.size))));
      }

  -- the pages that nobody owns, but for the tables'
  pub cleared-aside : (p : ℕ) → IsNoTable (state_of x) p → p < length x.ram.pages → page_at (state_of x) p ≡ None
      → page_of x.ram p ≡ replicate 4096 0
  cleared-aside p aside inside none =
      aside-given p (by-manifest x machine-first p aside)
      ∙ ready.cleared p (omega (arith, inside, rest.size))
      (none-managers x.manifest.ram_base.0 p es (page_of x.ram p) (sym (page-at x size-is owners p inside) ∙ none))

-- RAM of zeros is ready
pub zeros-ready : (m : Manifest) (ram : Ram) → ram ≡ zero_ram m.ram_base.0 (512 * m.ram_blocks) → IsReadyFor m ram
zeros-ready m ram zeros =
    subst (IsReadyFor m) (sym zeros)
    (record {
      base = refl;
      size = many;
      whole = λ p inside other.
          subst (λ (bytes : List ℕ). (length bytes ≡ 4096) × are_bytes bytes) (sym (zero-page m p (omega (arith, inside, many))))
          (length-replicate {A = ℕ} 4096 0, zeros-bytes 4096);
      cleared = λ p inside its. zero-page m p (omega (arith, inside, many));
    })
  where
    many : length (replicate (512 * m.ram_blocks) (replicate {A = ℕ} 4096 0)) ≡ 512 * m.ram_blocks
    many = length-replicate (512 * m.ram_blocks) (replicate {A = ℕ} 4096 0)

-- the machine of RAM of zeros is booted
pub booted-zeros : (m : Manifest) (given : Ram) (s : State) (ram : Ram) → given ≡ zero_ram m.ram_base.0 (512 * m.ram_blocks) → IsBootedHeld m given s ram → IsBooted m s ram
unfolding first
booted-zeros m given s ram zeros booted =
    record {
      state = booted.state ∙ (λ i. record (first m.ffa m.ram_base.0 m.tables.0 m.ram_blocks m.endpoints.items) { pages = same i });
      agrees = booted.agrees;
      words = booted.words;
      cleared = λ p aside inside. of p aside inside (page_at s p) refl;
      sound = booted.sound;
    }
  where
    bytes-at : (p : ℕ) → p < 512 * m.ram_blocks → page_of given p ≡ replicate 4096 0
    bytes-at p lt = ap (λ (r : Ram). page_of r p) zeros ∙ zero-page m p lt

    same : listed (512 * m.ram_blocks) (λ p. page_with_bytes m.ram_base.0 m.endpoints.items p (page_of given p)) ≡ listed (512 * m.ram_blocks) (λ p. page_with_bytes m.ram_base.0 m.endpoints.items p (replicate 4096 0))
    same =
        listed-same (512 * m.ram_blocks) (λ p. page_with_bytes m.ram_base.0 m.endpoints.items p (page_of given p)) (λ p. page_with_bytes m.ram_base.0 m.endpoints.items p (replicate 4096 0))
        (λ p lt. ap (page_with_bytes m.ram_base.0 m.endpoints.items p) (bytes-at p lt))

    of : (p : ℕ) → IsNoTable s p → p < length ram.pages → (o : Option Page) → page_at s p ≡ o → page_of ram p ≡ replicate 4096 0
    of p aside inside None none = booted.cleared p aside inside none
    of p aside inside (Some page) some =
        let (lt, there) = page-there m given p page (sym (ap (λ (t : State). page_at t p) booted.state) ∙ some) in
        booted.agrees.bytes p page some ∙ given-bytes m.ram_base.0 p m.endpoints.items (page_of given p) page there ∙ bytes-at p lt

-- no bytes count but those of regions
pub booted-kept : (m : Manifest) (given cleared : Ram) (s : State) (ram : Ram) → ((p : ℕ) → first_owner m p ≢ manager → page_of cleared p ≡ page_of given p)
    → IsBootedHeld m cleared s ram → IsBootedHeld m given s ram
booted-kept m given cleared s ram kept booted =
    record {
      state =
          booted.state
          ∙ (λ i. record (first m.ffa m.ram_base.0 m.tables.0 m.ram_blocks m.endpoints.items) {
            pages =
                listed-same (512 * m.ram_blocks) (λ p. page_with_bytes m.ram_base.0 m.endpoints.items p (page_of cleared p)) (λ p. page_with_bytes m.ram_base.0 m.endpoints.items p (page_of given p))
                (λ p lt. given-same m.ram_base.0 p m.endpoints.items (page_of cleared p) (page_of given p) (kept p)) i;
          });
      agrees = booted.agrees;
      words = booted.words;
      cleared = booted.cleared;
      sound = booted.sound;
    }

-- a machine may begin in RAM that a boot filled
pub filled-ready : (fill : Fill) (m : Manifest) (given filled : Ram) → IsFilled fill m given filled → IsReadyFor m filled
filled-ready Clear m given filled is = zeros-ready m filled is
filled-ready AlreadyZero m given filled is = zeros-ready m filled is
filled-ready KeepRegions m given filled is = is.0

-- and what it begins with there is what the boot promises of the RAM that was given
pub filled-booted : (fill : Fill) (m : Manifest) (given filled : Ram) (s : State) (ram : Ram) → IsFilled fill m given filled → IsBootedHeld m filled s ram
    → IsBootedBy fill m given s ram
filled-booted Clear m given filled s ram is booted = booted-zeros m filled s ram is booted
filled-booted AlreadyZero m given filled s ram is booted = booted-zeros m filled s ram is booted
filled-booted KeepRegions m given filled s ram is booted = booted-kept m given filled s ram is.1 booted
