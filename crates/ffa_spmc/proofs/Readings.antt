-- SPDX-License-Identifier: MIT OR Apache-2.0
-- Pages that are none of the tables' with other bytes: a machine is one still, and its state is the same but for these bytes.
use Rattle.std.proofs.Common.{◌≡◌, ◌∙◌, ℕ, suc, ◌+◌, ◌-◌, ◌*◌, ◌<◌, ◌≤◌, Bool, true, false, List, [], ◌∷◌, length, get_or, take, Option, Some, None, refl, sym, ap, subst, arith, inl, inr}
use Rattle.std.specs.Option.{option_map, option_map_or}
use Rattle.std.specs.Prelude.{IsSome, nat_le, nat_lt}
use Rattle.std.proofs.lemmas.Bool.{and_from, and_parts, cases_Bool, cases_lt, false_from_ne_true, leb-true, lt-ltb}
use Rattle.std.proofs.lemmas.Bool.Decides.{nat_tests}
use Rattle.std.proofs.lemmas.Option.{none-some, same_Some}
use Rattle.ffa_model.specs.declared.limits.TheConstants.{MOST_BUFFER_PAGES}
use Rattle.ffa_model.specs.Access.{access}
use Rattle.ffa_model.specs.Buffers.{buffers_in}
use Rattle.ffa_model.specs.Identifiers.{identifier}
use Rattle.ffa_model.specs.Lists.{is_in_run}
use Rattle.ffa_model.specs.Memory.{page_bytes}
use Rattle.ffa_model.specs.Ram.{Ram, page_of}
use Rattle.ffa_model.specs.SoundState.{IsSoundPage, are_bytes}
use Rattle.ffa_model.specs.State.{State, Buffers, Page, page_at}
use Rattle.ffa_laws.specs.Readable.{blank, blank_where}
use Rattle.ffa_laws.specs.Reads.{AreBeside, pages_holding}
use Rattle.ffa_laws.proofs.Blanks.{access-b}
use Rattle.ffa_laws.proofs.Changes.{AreRewritten, standing}
use Rattle.ffa_laws.proofs.Maps.{map_at-alike}
use Rattle.ffa_laws.proofs.SoundKept.{pages-sound}
use Rattle.ffa_model.proofs.Runs.{in-run, to-run}
use Rattle.ffa_pages.specs.Entry.{Entry, entry_at}
use Rattle.ffa_physmem.specs.Moments.{AgreeInFirst, IsBeside}
use Rattle.ffa_stage2.specs.Tables.{IsAside, IsBuilt}
use Rattle.ffa_stage2.proofs.Kept.{built-kept}
use Rattle.ffa_stage2.proofs.Places.{not-both}
use Rattle.ffa_spmc.specs.declared.run.Run.{Run}
use Rattle.ffa_spmc.specs.Among.{is_in}
use Rattle.ffa_spmc.specs.Meaning.{HasTables, IsManager, Parts, access_by_place, state_of}
use Rattle.ffa_spmc.specs.Unowned.{IsNoTable}
use Rattle.ffa_spmc.proofs.Fills.{buffers-there, in-ram, runner-there}
use Rattle.ffa_spmc.proofs.Held.{by-state, owned-aside, page-held, page-past, size_is}

-- numbers each of which is a byte
pub all-bytes : (xs : List ℕ) → ((k : ℕ) → k < length xs → get_or xs k 0 < 256) → are_bytes xs
all-bytes [] each = refl
all-bytes (x ∷ xs) each = and_from (nat_lt x 256) _ (lt-ltb x 256 (each 0 (omega arith))) (all-bytes xs (λ k lt. each (suc k) (omega arith)))

-- what is of an endpoint's page, with these bytes
abbrev page_by : Option Entry → List ℕ → Option Page
page_by o bytes = option_map (λ (e : Entry). let q : Page = record { owner = e.owner; own_right = e.own_right; bytes = bytes } in q) o

blank-by : (b : Bool) (o : Option Entry) (old new : List ℕ) → (b ≡ false → old ≡ new) → blank_where b (page_by o old) ≡ blank_where b (page_by o new)
blank-by true None old new same = refl
blank-by true (Some e) old new same = refl
blank-by false o old new same = ap (page_by o) (same refl)

standing-by : (o : Option Entry) (old new : List ℕ) → standing (page_by o new) ≡ standing (page_by o old)
standing-by None old new = refl
standing-by (Some e) old new = refl

module _ (x : Parts) (new : Ram) (named : ℕ → Bool) (beside : IsBeside x.ram new named) where
  abbrev pub read : Parts
  read = record x { ram = new }

  inside : (p : ℕ) → p < length x.ram.pages → p < length new.pages
  inside p lt = subst (λ (n : ℕ). p < n) (sym beside.size) lt

  outside : (p : ℕ) → length x.ram.pages ≤ p → length new.pages ≤ p
  outside p past = subst (λ (n : ℕ). n ≤ p) (sym beside.size) past

  each : length (state_of read).pages ≡ length (state_of x).pages
  each = size_is read ∙ beside.size ∙ sym (size_is x)

  page-blank : (p : ℕ) → blank_where (named p) (page_at (state_of x) p) ≡ blank_where (named p) (page_at (state_of read) p)
  page-blank p = elim (cases_lt p (length x.ram.pages)) [
    | inl lt ↦
        ap (blank_where (named p)) (page-held x p lt)
        ∙ blank-by (named p) (entry_at x.kept.pages p) (page_of x.ram p) (page_of new p) (λ off. sym (beside.pages p off))
        ∙ sym (ap (blank_where (named p)) (page-held read p (inside p lt)))
    | inr past ↦ ap (blank_where (named p)) (page-past x p past ∙ sym (page-past read p (outside p past)))
  ]

  -- the state has the first bytes of a page as RAM has them
  pub first-same : (bytes first p : ℕ) → AgreeInFirst bytes first p (page_of new p) (page_of x.ram p)
      → AgreeInFirst bytes first p (page_bytes (state_of read) p) (page_bytes (state_of x) p)
  first-same bytes first p same = elim (cases_lt p (length x.ram.pages)) [
    | inl lt ↦ ap cut (page-held read p (inside p lt)) ∙ of (entry_at x.kept.pages p) ∙ sym (ap cut (page-held x p lt))
    | inr past ↦ ap cut (page-past read p (outside p past) ∙ sym (page-past x p past))
  ]
    where
      cut : Option Page → List ℕ
      cut o = take (bytes - 4096 * (p - first)) (option_map_or (λ (q : Page). q.bytes) o [])

      of : (o : Option Entry) → cut (page_by o (page_of new p)) ≡ cut (page_by o (page_of x.ram p))
      of None = refl
      of (Some e) = same

  -- the state is the same but for these bytes
  pub blank-same : blank named (state_of x) ≡ blank named (state_of read)
  blank-same = λ i. record (state_of x) {
    pages =
        map_at-alike (λ p page. blank_where (named p) page) (λ p page. blank_where (named p) page) (state_of x).pages (state_of read).pages None None (sym each) page-blank i;
  }

  same-access : (e p : ℕ) → access (state_of x) e p ≡ access (state_of read) e p
  same-access e p =
      sym (access-b (state_of x) named e p) ∙ ap (λ (s : State). access s e p) blank-same ∙ access-b (state_of read) named e p

  module _ (whole : (p : ℕ) → length (page_of new p) ≡ length (page_of x.ram p)) where
    bytes-by : (o : Option Entry) (old new : List ℕ) → length new ≡ length old
        → length (option_map_or (λ (q : Page). q.bytes) (page_by o new) []) ≡ length (option_map_or (λ (q : Page). q.bytes) (page_by o old) [])
    bytes-by None old new same = refl
    bytes-by (Some e) old new same = same

    pub whole-pages : (p : ℕ) → length (page_bytes (state_of read) p) ≡ length (page_bytes (state_of x) p)
    whole-pages p = elim (cases_lt p (length x.ram.pages)) [
      | inl lt ↦
          ap (λ (o : Option Page). length (option_map_or (λ (q : Page). q.bytes) o [])) (page-held read p (inside p lt))
          ∙ bytes-by (entry_at x.kept.pages p) (page_of x.ram p) (page_of new p) (whole p)
          ∙ sym (ap (λ (o : Option Page). length (option_map_or (λ (q : Page). q.bytes) o [])) (page-held x p lt))
      | inr past ↦
          ap (λ (o : Option Page). length (option_map_or (λ (q : Page). q.bytes) o [])) (page-past read p (outside p past) ∙ sym (page-past x p past))
    ]

    pub states-beside : AreBeside (state_of x) (state_of read) named
    states-beside = record { same = blank-same; whole = whole-pages }

    module _ (machine : IsManager x) (bytes : (p : ℕ) → named p ≡ true → are_bytes (page_of new p))
        (aside : (p : ℕ) → named p ≡ true → IsAside (length x.manifest.endpoints.items) x.manifest.tables.0 x.manifest.ram_blocks p) where
      tables-read : HasTables new x.manifest (access_by_place (state_of read))
      tables-read =
          record {
            base = beside.base ∙ machine.tables.base;
            size = beside.size ∙ machine.tables.size;
            built =
                subst (IsBuilt new (length x.manifest.endpoints.items) x.manifest.tables.0 x.manifest.ram_blocks) (λ k i q. same-access (identifier i) q k)
                (built-kept x.ram new (length x.manifest.endpoints.items) x.manifest.tables.0 x.manifest.ram_blocks (access_by_place (state_of x)) machine.tables.built beside.base beside.size
                (λ p from below. beside.pages p (false_from_ne_true (named p) (λ at. not-both (length x.manifest.endpoints.items) x.manifest.tables.0 x.manifest.ram_blocks p (from, below) (aside p at)))));
          }

      rewritten : AreRewritten (state_of x).pages (state_of read).pages
      rewritten = record {
        each = each;
        same = λ p. elim (cases_lt p (length x.ram.pages)) [
          | inl lt ↦
              ap standing (page-held read p (inside p lt)) ∙ standing-by (entry_at x.kept.pages p) (page_of x.ram p) (page_of new p)
              ∙ sym (ap standing (page-held x p lt))
          | inr past ↦ ap standing (page-past read p (outside p past) ∙ sym (page-past x p past))
        ];
      }

      are-bytes : (p : ℕ) → are_bytes (page_of x.ram p) → are_bytes (page_of new p)
      are-bytes p were = elim (cases_Bool (named p)) [
        | inl at ↦ bytes p at
        | inr off ↦ subst are_bytes (sym (beside.pages p off)) were
      ]

      -- a page that an endpoint owns
      sound-by : (p : ℕ) (o : Option Entry) → page_at (state_of x) p ≡ page_by o (page_of x.ram p) → (page : Page) → page_by o (page_of new p) ≡ Some page → IsSoundPage (state_of x) page
      sound-by p None is page there = absurd (none-some page there)
      sound-by p (Some e) is page there =
          let was = machine.sound.pages p _ is in
          subst (IsSoundPage (state_of x)) (same_Some _ page there)
          (record { owner = was.owner; size = whole p ∙ was.size; bytes = are-bytes p was.bytes })

      sound-pages : (p : ℕ) (page : Page) → page_at (state_of read) p ≡ Some page → IsSoundPage (state_of x) page
      sound-pages p page there = elim (cases_lt p (length x.ram.pages)) [
        | inl lt ↦ sound-by p (entry_at x.kept.pages p) (page-held x p lt) page (sym (page-held read p (inside p lt)) ∙ there)
        | inr past ↦ absurd (none-some page (sym (page-past read p (outside p past)) ∙ there))
      ]

      -- a machine is one still
      pub machine-read : IsManager read
      machine-read =
          record {
            laws = machine.laws;
            tables = tables-read;
            layout = machine.layout;
            owners = machine.owners;
            open_transactions = machine.open_transactions;
            sound = pages-sound (state_of x) machine.sound (state_of read).pages rewritten sound-pages;
          }

-- no more pages are read than there are
pub holding-few : (pages bytes : ℕ) → pages_holding pages bytes ≤ pages
holding-few pages bytes = grind (arith, nat_tests)

-- those of an endpoint's TX: they are in RAM, no more than a TX may have, none of them a table's, and its own
module _ (x : Parts) (machine : IsManager x) (e bytes : ℕ) (at : e ≡ x.kept.chain.runner) (b : Buffers) (is : buffers_in x.kept.buffers e ≡ Some b) where
  few : (run : Run) → run.first.0 ≡ b.tx → run.count ≡ pages_holding b.pages bytes → (p : ℕ) → is_in run p ≡ true → is_in_run b.tx b.pages p ≡ true
  few run first count p its =
      let (low, high) = in-run run.first.0 run.count p its in
      let most = holding-few b.pages bytes in
      to-run b.tx b.pages p (omega (arith, low, first)) (omega (arith, high, first, count, most))

  pub front-within : b.tx + pages_holding b.pages bytes ≤ length x.ram.pages
  front-within =
      let there = in-ram x machine e (runner-there x machine e at) b is in
      let most = holding-few b.pages bytes in
      omega (arith, there.tx, most)

  pub front-few : pages_holding b.pages bytes ≤ MOST_BUFFER_PAGES
  front-few =
      let sound = machine.sound.buffers e b (runner-there x machine e at) is in
      let most : b.pages ≤ MOST_BUFFER_PAGES = leb-true b.pages MOST_BUFFER_PAGES (and_parts (nat_le 1 b.pages) _ sound.count).1 in
      let fewer = holding-few b.pages bytes in
      omega (arith, most, fewer)

  pub front-owned : (run : Run) → run.first.0 ≡ b.tx → run.count ≡ pages_holding b.pages bytes → (p : ℕ) → is_in run p ≡ true → IsSome (page_at (state_of x) p)
  front-owned run first count p its =
      let (page, there) = (buffers-there x machine e (runner-there x machine e at) b is).tx p (few run first count p its) in
      subst IsSome (sym there) refl

  pub front-aside : (run : Run) → run.first.0 ≡ b.tx → run.count ≡ pages_holding b.pages bytes → (p : ℕ) → is_in run p ≡ true → IsNoTable (state_of x) p
  front-aside run first count p its =
      let (page, there) = (buffers-there x machine e (runner-there x machine e at) b is).tx p (few run first count p its) in
      by-state x machine p (owned-aside x machine p page there)
