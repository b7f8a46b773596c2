-- SPDX-License-Identifier: MIT OR Apache-2.0
-- The machine that an operation leaves while others write.
use Rattle.std.proofs.Common.{◌≡◌, ◌∙◌, ℕ, ◌-◌, ◌/◌, ◌^◌, ◌<◌, Bool, true, false, cond, refl, ap, sym, subst, List, length, Option, Some, None, Ok, Err, inl, inr, [], ◌∷◌}
use Rattle.std.specs.Prelude.{nat_le, nat_lt, ◌&&◌}
use Rattle.std.specs.Option.{option_and_then, option_map}
use Rattle.std.proofs.lemmas.Bool.{cases_Bool, false≢true}
use Rattle.std.proofs.lemmas.Option.{none-some, same_Some}
use Rattle.ffa_model.specs.declared.leaf.Leaf.{Leaf}
use Rattle.ffa_model.specs.declared.operation.Op.{Op}
use Rattle.ffa_model.specs.declared.rights.Rights.{Rights}
use Rattle.ffa_model.specs.declared.operation.Outcome.{Outcome}
use Rattle.ffa_model.specs.Access.{Ownership, access}
use Rattle.ffa_model.specs.Agreement.{Agrees, blocks_of}
use Rattle.ffa_model.specs.Identifiers.{identifier}
use Rattle.ffa_model.specs.Lists.{map_at}
use Rattle.ffa_model.specs.Manifest.{root_of}
use Rattle.ffa_model.specs.Memory.{access_at, page_of_address}
use Rattle.ffa_model.specs.Ram.{Ram, page_of}
use Rattle.ffa_model.specs.Rights.{is_within, may_store}
use Rattle.ffa_model.specs.SoundState.{IsSoundPage, IsSoundState, are_bytes}
use Rattle.ffa_model.specs.State.{Page, Party, State, own_right_of, page_at}
use Rattle.ffa_model.specs.Walk.{Answer, mapped_answer, walk}
use Rattle.ffa_model.proofs.Accesses.{length-map_at}
use Rattle.ffa_laws.specs.Isolation.{NeverGrow}
use Rattle.ffa_laws.specs.Readable.{blank, blank_where}
use Rattle.ffa_laws.specs.Reads.{AreBeside}
use Rattle.ffa_laws.proofs.Blanks.{blank-none, ownership-b, page-b}
use Rattle.ffa_laws.proofs.Changes.{AreRewritten, standing}
use Rattle.ffa_laws.proofs.Growth.{never_grow, step_never_grows}
use Rattle.ffa_laws.proofs.Kept.{step-fixed}
use Rattle.ffa_laws.proofs.Maps.{at-map_at, map_at-alike, map_at-twice}
use Rattle.ffa_laws.proofs.NoMore.{whole-beside}
use Rattle.ffa_laws.proofs.SoundKept.{pages-sound}
use Rattle.ffa_laws.proofs.SoundOperations.{step-sound}
use Rattle.ffa_laws.proofs.SoundSteady.{sound-steady}
use Rattle.ffa_laws.proofs.Within.{within-through}
use Rattle.ffa_physmem.specs.Moments.{Step}
use Rattle.ffa_stage2.specs.Amid.{CouldWrite, Moment, is_one_of}
use Rattle.ffa_stage2.specs.Moments.{walk_at}
use Rattle.ffa_stage2.specs.Rest.{AreAtRest}
use Rattle.ffa_spmc.specs.Amid.{EndsAmid, StandsAmid}
use Rattle.ffa_spmc.specs.Cached.{AreWalks}
use Rattle.ffa_spmc.specs.Meanwhile.{AreDoneAmid, IsLeft, LeavesAmid, MayStore}
use Rattle.ffa_spmc.specs.Mixtures.{StayMixed, TablesRest}
use Rattle.ffa_spmc.specs.Operated.{IsOperated}
use Rattle.ffa_spmc.specs.Snapshot.{Snapshot}
use Rattle.ffa_spmc.proofs.Amid.{seen}
use Rattle.ffa_spmc.proofs.Besides.{beside-access, placement}
use Rattle.ffa_spmc.proofs.HeldWalks.{walks-after}
use Rattle.ffa_spmc.proofs.Sizes.{pages-step}

-- a state, with the bytes that RAM has
abbrev in_ram : Ram → ℕ → Option Page → Option Page
in_ram ram p page = option_map (λ (q : Page). record q { bytes = page_of ram p }) page

abbrev held_in : Ram → State → State
held_in ram s = record s { pages = map_at (λ p page. in_ram ram p page) s.pages }

write_of : Answer → Bool
write_of (Ok leaf) = leaf.write
write_of (Err fault) = false

phys_of : Answer → ℕ
phys_of (Ok leaf) = leaf.phys
phys_of (Err fault) = 0

-- what a leaf that lets write tells of a right
may-of : (r : Option Rights) (a : ℕ) (leaf : Leaf) → mapped_answer r a ≡ Ok leaf → leaf.write ≡ true → (may_store r ≡ true) × (leaf.phys ≡ a)
unfolding mapped_answer phys_of write_of
may-of None a leaf is write = absurd (false≢true (ap write_of is ∙ write))
may-of (Some r) a leaf is write = (ap write_of is ∙ write, sym (ap phys_of is))

may-at : (x : State) (e a q : ℕ) → may_store (access_at x e a) ≡ true → (a - x.ram_base) / 4096 ≡ q → may_store (access x e q) ≡ true
may-at x e a q may at =
    subst (λ (k : ℕ). may_store (access x e k) ≡ true) at
    (elim (nat_le x.ram_base a && nat_lt a (2 ^ 32)) as (λ c. may_store (option_and_then (access x e) (cond c (Some ((a - x.ram_base) / 4096)) None)) ≡ true
    → may_store (access x e ((a - x.ram_base) / 4096)) ≡ true) [
      | true ↦ λ is. is
      | false ↦ λ no. absurd (false≢true no)
    ] may)

module _ (old new : Snapshot) (was : Agrees old.ram old.state) (is : Agrees new.ram new.state) (sound : IsSoundState new.state) (parties : length new.state.parties ≡ length old.state.parties)
    (placed : placement new.state ≡ placement old.state) (size : length new.state.pages ≡ length old.state.pages) (memory : Moment) (written : List ℕ)
    (stands : StandsAmid old.ram new.ram (length old.state.parties) old.state.tables (blocks_of old.state) (record { history = memory.history; ram = new.ram }) memory written)
    (ends : EndsAmid new.ram (length old.state.parties) old.state.tables (blocks_of old.state) memory) where
  abbrev t : State
  t = held_in memory.ram new.state

  base : new.state.ram_base ≡ old.state.ram_base
  base = ap (λ (at : ℕ × ℕ). at.0) placed

  place : new.state.tables ≡ old.state.tables
  place = ap (λ (at : ℕ × ℕ). at.1) placed

  at-page : (p : ℕ) → page_at t p ≡ in_ram memory.ram p (page_at new.state p)
  at-page p = at-map_at (λ q page. in_ram memory.ram q page) new.state.pages p (λ q. refl)

  each : length t.pages ≡ length new.state.pages
  each = length-map_at (λ p page. in_ram memory.ram p page) new.state.pages

  -- the bytes of a page that others didn't write
  same-bytes : (c : Bool) (p : ℕ) (o : Option Page) → page_at new.state p ≡ o → is_one_of written p ≡ c → blank_where c o ≡ blank_where c (in_ram memory.ram p o)
  same-bytes c p None at its = refl
  same-bytes true p (Some q) at its = refl
  same-bytes false p (Some q) at its = λ i. Some (record q { bytes = (sym (is.bytes p q at) ∙ sym (stands.beside.pages p its)) i })

  blank-same : blank (is_one_of written) new.state ≡ blank (is_one_of written) t
  blank-same =
      (λ i. record new.state { pages = (map_at-each ∙ sym (map_at-twice (λ p page. blank_where (is_one_of written p) page) (λ p page. in_ram memory.ram p page) new.state.pages)) i })
    where
      map_at-each : map_at (λ p page. blank_where (is_one_of written p) page) new.state.pages ≡ map_at (λ p page. blank_where (is_one_of written p) (in_ram memory.ram p page)) new.state.pages
      map_at-each = map_at-alike (λ p page. blank_where (is_one_of written p) page) (λ p page. blank_where (is_one_of written p) (in_ram memory.ram p page)) new.state.pages new.state.pages None None refl
          (λ p. same-bytes (is_one_of written p) p (page_at new.state p) refl refl)

  rewritten : AreRewritten new.state.pages t.pages
  rewritten = record { each = each; same = λ p. ap standing (at-page p) ∙ stands-as p (page_at new.state p) }
    where
      stands-as : (p : ℕ) (o : Option Page) → standing (in_ram memory.ram p o) ≡ standing o
      stands-as p None = refl
      stands-as p (Some q) = refl

  sound-page : (p : ℕ) (o : Option Page) → page_at new.state p ≡ o → (page : Page) → in_ram memory.ram p o ≡ Some page → IsSoundPage new.state page
  sound-page p None at page there = absurd (none-some page there)
  sound-page p (Some q) at page there =
      let good = sound.pages p q at in
      subst (IsSoundPage new.state) (same_Some (record q { bytes = page_of memory.ram p }) page there)
      (elim (cases_Bool (is_one_of written p)) [
        | inl its ↦ record { owner = good.owner; size = (stands.bytes p its).0; bytes = (stands.bytes p its).1 }
        | inr off ↦
            let bytes : page_of memory.ram p ≡ q.bytes = stands.beside.pages p off ∙ is.bytes p q at in
            record { owner = good.owner; size = ap (λ (xs : List ℕ). length xs) bytes ∙ good.size; bytes = subst are_bytes (sym bytes) good.bytes }
      ])

  sound-left : IsSoundState t
  sound-left =
      pages-sound new.state sound t.pages rewritten
      (λ p page there. sound-page p (page_at new.state p) refl page (sym (at-page p) ∙ there))

  beside : AreBeside new.state t (is_one_of written)
  beside = whole-beside new.state t sound sound-left (is_one_of written) blank-same

  -- access is what it is without these bytes
  same-access : (e p : ℕ) → access t e p ≡ access new.state e p
  same-access e p = beside-access new.state t (is_one_of written) beside e p

  access-same : (e a : ℕ) → access_at t e a ≡ access_at new.state e a
  access-same e a = elim (page_of_address new.state a) as (λ o. option_and_then (access t e) o ≡ option_and_then (access new.state e) o) [ None ↦ refl | Some p ↦ same-access e p ]

  blocks : blocks_of new.state ≡ blocks_of old.state
  blocks = ap (λ (n : ℕ). n / 512) size

  bytes-left : (p : ℕ) (page : Page) → page_at t p ≡ Some page → page_of memory.ram p ≡ page.bytes
  bytes-left p page there = of (page_at new.state p) (sym (at-page p) ∙ there)
    where
      of : (o : Option Page) → in_ram memory.ram p o ≡ Some page → page_of memory.ram p ≡ page.bytes
      of None none = absurd (none-some page none)
      of (Some q) same = ap (λ (x : Page). x.bytes) (same_Some (record q { bytes = page_of memory.ram p }) page same)

  agrees-left : Agrees memory.ram t
  agrees-left = record {
    place = stands.beside.base ∙ is.place;
    size = stands.beside.size ∙ is.size ∙ sym each;
    walks = λ e a he ha.
        let he' : e < length old.state.parties = subst (λ (k : ℕ). e < k) parties he in
        ap (λ (k : ℕ). walk memory.ram (root_of new.state.ram_base new.state.tables (k / 512) e) a) each
        ∙ ap (λ (c : ℕ). walk memory.ram (root_of c new.state.tables (blocks_of new.state) e) a) (sym (stands.beside.base ∙ is.place))
        ∙ (λ i. walk_at memory.ram (place i) (blocks i) e a)
        ∙ ends.walks e a he' ha
        ∙ (λ i. walk_at new.ram (sym place i) (sym blocks i) e a)
        ∙ seen new.state new.ram new.state.tables (blocks_of new.state) e a is refl refl he ha
        ∙ sym (ap (λ (r : Option Rights). mapped_answer r a) (access-same (identifier e) a));
    bytes = bytes-left;
  }

  could : (p : ℕ) → CouldWrite old.ram new.ram (length old.state.parties) old.state.tables (blocks_of old.state) p → MayStore old.state new.state p
  could p w = record {
    index = w.endpoint;
    there = w.one;
    right = elim w.walk [
      | inl led ↦
          let (may, at) = may-of (access_at old.state (identifier w.endpoint) w.address) w.address w.leaf
          (sym (seen old.state old.ram old.state.tables (blocks_of old.state) w.endpoint w.address was refl refl w.one w.low) ∙ led) w.lets.write in
          inl (may-at old.state (identifier w.endpoint) w.address p may
          (ap (λ (x : ℕ). (x - old.state.ram_base) / 4096) (sym at) ∙ ap (λ (c : ℕ). (w.leaf.phys - c) / 4096) (sym was.place) ∙ w.lets.page))
      | inr led ↦
          let (may, at) = may-of (access_at new.state (identifier w.endpoint) w.address) w.address w.leaf
          (sym (seen new.state new.ram old.state.tables (blocks_of old.state) w.endpoint w.address is place blocks (subst (λ (k : ℕ). w.endpoint < k) (sym parties) w.one) w.low) ∙ led) w.lets.write in
          inr (may-at new.state (identifier w.endpoint) w.address p may
          (ap (λ (x : ℕ). (x - new.state.ram_base) / 4096) (sym at) ∙ ap (λ (c : ℕ). (w.leaf.phys - c) / 4096) (base ∙ sym was.place) ∙ w.lets.page))
    ];
  }

  abbrev left : Snapshot
  left = record new { state = t; ram = memory.ram; past = record new.past { steps = Some memory.history } }

  rest-left : TablesRest t memory.ram left.past
  unfolding TablesRest
  rest-left = λ h there.
      subst (λ (g : List Step). AreAtRest memory.ram (length new.state.parties) t.tables (blocks_of t) g) (same_Some memory.history h there)
      (subst (λ (n : ℕ). AreAtRest memory.ram n t.tables (blocks_of t) memory.history) (sym parties)
      (subst (λ z. z) (λ i. AreAtRest memory.ram (length old.state.parties) (sym place i) (sym (ap (λ (n : ℕ). n / 512) (each ∙ size)) i) memory.history) ends.rest))

  pub is-left : AreWalks new → IsLeft old new left memory written
  is-left walks = record {
    state = beside;
    theirs = λ p its. could p (stands.theirs.could p its);
    ram = refl;
    past = refl;
    site = refl;
    held = refl;
    told = refl;
    agrees = agrees-left;
    sound = sound-left;
    walks = walks-after new.ram memory.ram new.state t is agrees-left sound sound-left refl (λ e known. known) new.held new.held (λ e p leaf there. (there, same-access e p)) walks;
    rest = rest-left;
  }

leaves-amid : (old new : Snapshot) → Agrees old.ram old.state → Agrees new.ram new.state → IsSoundState new.state → length new.state.parties ≡ length old.state.parties
    → placement new.state ≡ placement old.state → length new.state.pages ≡ length old.state.pages → AreWalks new → StayMixed old.state old.ram new.ram old.past new.past → LeavesAmid old new
unfolding StayMixed
leaves-amid old new was is sound parties placed size walks mixed begun ended there last memory written amid =
    let (stands, ends) = mixed.amid.ended ended last begun there memory written amid in
    let beside : StandsAmid old.ram new.ram (length old.state.parties) old.state.tables (blocks_of old.state) (record { history = memory.history; ram = new.ram }) memory written =
    record { theirs = stands.theirs; beside = stands.beside; bytes = stands.bytes; held = stands.held } in
    (_, is-left old new was is sound parties placed size memory written beside ends walks)

pub left-operated : (old new : Snapshot) (op : Op) → IsOperated old op new → Agrees old.ram old.state → IsSoundState old.state → LeavesAmid old new
left-operated old new op done was sound =
    leaves-amid old new was done.agrees (subst IsSoundState (sym done.state) (step-sound old.state sound op))
    (ap (λ (s : State). length s.parties) done.state ∙ ap (λ (f : List Party × (ℕ × ℕ)). length f.0) (step-fixed old.state op))
    (ap placement done.state ∙ ap (λ (f : List Party × (ℕ × ℕ)). f.1) (step-fixed old.state op))
    (ap (λ (s : State). length s.pages) done.state ∙ pages-step old.state op) done.walks done.mixtures

-- ---- one after another

-- other bytes change no own right, and give the manager's pages to nobody
same-own : (s t : State) (named : ℕ → Bool) → AreBeside s t named → (p : ℕ) → own_right_of t p ≡ own_right_of s p
same-own s t named beside p =
    sym (ap (λ (o : Ownership). o.own_right p) (ownership-b t named)) ∙ ap (λ (u : State). own_right_of u p) (sym beside.same)
    ∙ ap (λ (o : Ownership). o.own_right p) (ownership-b s named)

same-none : (s t : State) (named : ℕ → Bool) → AreBeside s t named → (p : ℕ) → page_at s p ≡ None → page_at t p ≡ None
same-none s t named beside p none =
    of (named p) (page_at t p)
    (sym (page-b t named p) ∙ ap (λ (u : State). page_at u p) (sym beside.same) ∙ page-b s named p ∙ ap (blank_where (named p)) none ∙ blank-none (named p))
  where
    of : (c : Bool) (o : Option Page) → blank_where c o ≡ None → o ≡ None
    of c None is = refl
    of true (Some q) is = absurd (none-some (record q { bytes = [] }) (sym is))
    of false (Some q) is = absurd (none-some q (sym is))

pub safe-amid : (old : Snapshot) (ops : List Op) (told : List Outcome) (new : Snapshot) → IsSoundState old.state → AreDoneAmid old ops told new
    → IsSoundState new.state × NeverGrow old.state new.state
safe-amid old [] told new sound (none, same) =
    subst (λ (x : Snapshot). IsSoundState x.state × NeverGrow old.state x.state) (sym same) (sound, never_grow old.state [] (sound-steady old.state sound))
safe-amid old (op ∷ ops) told new sound (done, next, memory, written, rest, is, operated, its, more) =
    let (safe, grown) = safe-amid next ops rest new its.sound more in
    let first : NeverGrow old.state done.state = subst (NeverGrow old.state) (sym operated.state) (step_never_grows old.state op (sound-steady old.state sound)) in (
      safe,
      record {
        own_right = λ p.
            within-through (own_right_of new.state p) (own_right_of done.state p) (own_right_of old.state p)
            (subst (λ (r : Option Rights). is_within (own_right_of new.state p) r ≡ true) (same-own done.state next.state (is_one_of written) its.state p) (grown.own_right p))
            (first.own_right p);
        within = grown.within;
        manager = λ p none. grown.manager p (same-none done.state next.state (is_one_of written) its.state p (first.manager p none));
        alone = grown.alone;
      },
    )
