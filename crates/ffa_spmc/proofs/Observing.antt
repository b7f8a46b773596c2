-- SPDX-License-Identifier: MIT OR Apache-2.0
-- The reading of pages of TX, and an operation for which they were read.
use Rattle.std.proofs.Common.{◌≡◌, ◌∙◌, arith, ℕ, suc, Bool, true, false, List, [], ◌∷◌, length, Option, None, Some, refl, sym, ap, subst, inl, inr, get_or-set_same, get_or-set_other, length-set}
use Rattle.std.specs.Option.{option_map_or}
use Rattle.std.specs.Prelude.{IfSome}
use Rattle.std.proofs.lemmas.Bool.{cases_eq, cases_lt}
use Rattle.std.proofs.lemmas.List.{get_or_past}
use Rattle.ffa_model.specs.declared.operation.Op.{Op}
use Rattle.ffa_model.specs.declared.operation.Op.TheVariants.{Call}
use Rattle.ffa_model.specs.declared.operation.Outcome.{Outcome}
use Rattle.ffa_model.specs.Agreement.{Agrees}
use Rattle.ffa_model.specs.Memory.{page_bytes}
use Rattle.ffa_model.specs.Ram.{Ram, page_of, with_page}
use Rattle.ffa_model.specs.SoundState.{IsSoundState}
use Rattle.ffa_model.specs.State.{State, Page, page_at}
use Rattle.ffa_model.specs.Step.{step}
use Rattle.ffa_laws.specs.Reads.{AreBeside, AreReadSame}
use Rattle.ffa_laws.proofs.NoMore.{reads_no_more}
use Rattle.ffa_laws.proofs.Stores.{same-beside}
use Rattle.ffa_memshare.specs.declared.changed.Changed.{Changed}
use Rattle.ffa_physmem.specs.Moments.{HasNoCopies, IsBeside, IsReading, OneMore, Past, Site, is_copied, on_site_of, with_beneath}
use Rattle.ffa_physmem.proofs.Moments.{memory-seen}
use Rattle.ffa_tlb.specs.declared.translations.Entry.{Entry}
use Rattle.ffa_spmc.specs.declared.run.Run.{Run}
use Rattle.ffa_spmc.specs.Among.{AreRead, HaveInFront, IsDoneAlone, IsRead, bytes_read_by, is_in, pages_read}
use Rattle.ffa_spmc.specs.Cached.{AreWalks}
use Rattle.ffa_spmc.specs.Clustered.{pages_observed}
use Rattle.ffa_spmc.specs.Machines.{IsManaged}
use Rattle.ffa_spmc.specs.Managed.{Managed}
use Rattle.ffa_spmc.specs.Mixtures.{StayMixed, TablesRest}
use Rattle.ffa_spmc.specs.Moments.{AreMoments}
use Rattle.ffa_spmc.specs.Operated.{IsDone}
use Rattle.ffa_spmc.specs.Snapshot.{Snapshot, memory_in, snapshot_of}
use Rattle.ffa_spmc.proofs.Amongs.{reading-done}
use Rattle.ffa_spmc.proofs.Besides.{beside-access, beside-base, beside-both, beside-known, beside-placed, beside-size}
use Rattle.ffa_spmc.proofs.HeldWalks.{walks-after}
use Rattle.ffa_spmc.proofs.TxPages.{front-kept, front-whole, read-in-front}
use Rattle.ffa_spmc.proofs.Mixtures.{mixed-alike}
use Rattle.ffa_spmc.proofs.Sizes.{pages-step}

-- tables at rest are so whichever pages are in copies
rest-on : (s : State) (ram : Ram) (past later : Past) → TablesRest s ram (on_site_of past later) → TablesRest s ram later
unfolding TablesRest
rest-on s ram past later rest = rest

-- pages that a machine's manager reads, or no longer reads, are read by the machine
module _ (run : Run) (begins : Bool) (old new : Managed) (held : List Entry) (told : Option Changed) (was : IsManaged old) (is : IsManaged new)
    (beside : AreBeside old.state new.state (is_in run)) (ram : IsBeside old.ram new.ram (is_in run))
    (moments : AreMoments old.state old.ram new.ram old.past (on_site_of old.past new.past))
    (holds : AreWalks (snapshot_of old held told) × TablesRest old.state old.ram old.past) where
  -- the same manager, as if no page had come into a copy or out of it
  abbrev settled : Managed
  settled = record new { past = on_site_of old.past new.past }

  mixed : StayMixed old.state old.ram new.ram old.past settled.past × TablesRest new.state new.ram settled.past
  mixed = mixed-alike old settled was (record { agrees = is.agrees; sound = is.sound; apart = is.apart; turn = is.turn; tables = is.tables }) (ap (λ (u : State). length u.parties) (sym beside.same)) (beside-placed old.state new.state (is_in run) beside)
      (beside-size old.state new.state (is_in run) beside) (beside-access old.state new.state (is_in run) beside) moments holds.1

  -- what the cache holds is no more stale than it was, and the tables are at rest
  pub holds-still : AreWalks (snapshot_of new held told) × TablesRest new.state new.ram new.past
  holds-still = (
    walks-after old.ram new.ram old.state new.state was.agrees is.agrees was.sound is.sound
        (beside-base old.state new.state (is_in run) beside) (beside-known old.state new.state (is_in run) beside) held held
        (λ e p leaf there. (there, beside-access old.state new.state (is_in run) beside e p)) holds.0,
    rest-on new.state new.ram old.past new.past mixed.1,
  )

  pub is-read : OneMore old.past.steps new.past.steps (λ s. IsReading old.ram new.ram run.first.0 run.count begins s)
      → new.past.site.places ≡ old.past.site.places → ((p : ℕ) → is_copied new.past p ≡ true → is_in run p ≡ true) → (begins ≡ false → HasNoCopies new.past)
      → IsRead run begins (snapshot_of old held told) (snapshot_of new held told)
  is-read step places only free = record {
    places = places;
    only = only;
    free = free;
    state = beside;
    ram = ram;
    step = step;
    mixtures = mixed.0;
    held = refl;
    told = refl;
    agrees = is.agrees;
    sound = is.sound;
    walks = holds-still.0;
  }

-- what is done without a reading is done by what stands in memory
pub alone-plain : (old new : Snapshot) (op : Op) (outcome : Outcome) → IsDone old op outcome new → IsDoneAlone old.state op outcome new.state
alone-plain old new op outcome done = record { outcome = done.outcome; state = done.operated.state }

-- a page that a state has whole has the same bytes in RAM
held-whole : (ram : Ram) (s : State) → Agrees ram s → (p : ℕ) → length (page_bytes s p) ≡ 4096 → page_of ram p ≡ page_bytes s p
held-whole ram s agrees p whole = of (page_at s p) refl whole
  where
    of : (o : Option Page) → page_at s p ≡ o → length (option_map_or (λ (q : Page). q.bytes) o []) ≡ 4096 → page_of ram p ≡ option_map_or (λ (q : Page). q.bytes) o []
    of None at whole = absurd (omega (arith, whole))
    of (Some q) at whole = agrees.bytes p q at

-- memory has the same bytes of a page where RAM has, beneath the same copies
beneath-same : (copies : List (List ℕ)) (first p : ℕ) (ram other : Ram) → length ram.pages ≡ length other.pages → page_of ram p ≡ page_of other p
    → page_of (with_beneath ram first copies) p ≡ page_of (with_beneath other first copies) p
beneath-same [] first p ram other size same = same
beneath-same (bytes ∷ copies) first p ram other size same =
    beneath-same copies (suc first) p (with_page ram first bytes) (with_page other first bytes)
    (length-set ram.pages first bytes ∙ size ∙ sym (length-set other.pages first bytes)) (elim (cases_eq p first) [
      | inl is ↦ subst (λ (q : ℕ). page_of (with_page ram first bytes) q ≡ page_of (with_page other first bytes) q) (sym is) here
      | inr off ↦ get_or-set_other ram.pages first p bytes [] off ∙ same ∙ sym (get_or-set_other other.pages first p bytes [] off)
    ])
  where
    here : page_of (with_page ram first bytes) first ≡ page_of (with_page other first bytes) first
    here = elim (cases_lt first (length ram.pages)) [
      | inl lt ↦ get_or-set_same ram.pages first bytes [] lt ∙ sym (get_or-set_same other.pages first bytes [] (omega (arith, lt, size)))
      | inr past ↦ (let each = length-set ram.pages first bytes in
          let others = length-set other.pages first bytes in
          get_or_past (with_page ram first bytes).pages first [] (omega (arith, past, each))
          ∙ sym (get_or_past (with_page other first bytes).pages first [] (omega (arith, past, size, others))))
    ]

-- the same pages are read from a state that differs in bytes alone
read-beside : (s t : State) (named : ℕ → Bool) (op : Op) → AreBeside s t named → pages_read t op ≡ pages_read s op
read-beside s t named (Call x) beside = ap (λ (u : State). pages_read u (Call x)) (sym beside.same)
read-beside s t named op beside = refl

-- an operation for which pages were read, where nobody wrote between
module _ (old seen left new : Snapshot) (op : Op) (outcome : Outcome) (run : Run) (sound : IsSoundState old.state) (agrees : Agrees old.ram old.state)
    (free : HasNoCopies old.past) (pages : pages_read old.state op ≡ Some run) (read : IsRead run true old seen) (done : IsDone seen op outcome left)
    (ended : IsRead run false left new) (begun : memory_in seen ≡ memory_in old) (behind : memory_in new ≡ memory_in left) where
  again : pages_read seen.state op ≡ Some run
  again = read-beside old.state seen.state (is_in run) op read.state ∙ pages

  -- it leaves them as they were, in RAM and so in memory
  left-same : (p : ℕ) → is_in run p ≡ true → page_of left.ram p ≡ page_of seen.ram p
  left-same p its =
      let whole = front-whole seen.state read.sound op run again p its in
      let kept : page_bytes left.state p ≡ page_bytes seen.state p =
      ap (λ (s : State). page_bytes s p) done.operated.state ∙ front-kept seen.state read.sound op run again p its in
      held-whole left.ram left.state done.operated.agrees p (ap length kept ∙ whole) ∙ kept ∙ sym (held-whole seen.ram seen.state read.agrees p whole)

  memory-same : (p : ℕ) → is_in run p ≡ true → page_of new.ram p ≡ page_of old.ram p
  memory-same p its =
      ap (λ (ram : Ram). page_of ram p) (
      sym (memory-seen new.ram new.past (ended.free refl)) ∙ behind
      ∙ ap (λ (site : Site). with_beneath left.ram site.copies.first site.copies.beneath) done.operated.order.site
      )
      ∙ beneath-same seen.past.site.copies.beneath seen.past.site.copies.first p left.ram seen.ram
      (done.operated.agrees.size ∙ ap (λ (s : State). length s.pages) done.operated.state ∙ pages-step seen.state op ∙ sym read.agrees.size) (left-same p its)
      ∙ ap (λ (ram : Ram). page_of ram p) (begun ∙ memory-seen old.ram old.past free)

  -- so what is done by a reading that gave what stood in memory is done by what stands there
  alone-observed : HaveInFront run (bytes_read_by old.state op) old.state seen.state → IsDoneAlone old.state op outcome new.state
  alone-observed alike =
      let law = reads_no_more old.state op sound in
      let same : AreReadSame old.state seen.state op = read-in-front old.state seen.state op run (bytes_read_by old.state op) sound read.state pages refl alike in
      let middle : AreBeside (step old.state op).state left.state (is_in run) =
      subst (λ (t : State). AreBeside (step old.state op).state t (is_in run)) (sym done.operated.state) (law.state seen.state (is_in run) read.sound read.state same)
      in
      let beside = beside-both (step old.state op).state left.state new.state (is_in run) middle ended.state in
      record {
        outcome = done.outcome ∙ law.outcome seen.state (is_in run) read.sound read.state same;
        state = same-beside (step old.state op).state new.state (is_in run) beside (λ p its.
            let kept = front-kept old.state sound op run pages p its in
            let whole = front-whole old.state sound op run pages p its in
            sym (held-whole new.ram new.state ended.agrees p (beside.whole p ∙ ap length kept ∙ whole)) ∙ memory-same p its
            ∙ held-whole old.ram old.state agrees p whole ∙ sym kept);
      }

-- pages that are observed are those that are read
observed-read : (shared : Bool) (s : State) (op : Op) (run : Run) → pages_observed shared s op ≡ Some run → pages_read s op ≡ Some run
observed-read true s op run is = is
observed-read false s op run is = absurd (none≢some run is)
  where
    none≢some : (r : Run) → None ≡ Some r → ⊥
    none≢some r h = cc

-- so is each operation
pub alone-done : (shared : Bool) (old seen left new : Snapshot) (op : Op) (outcome : Outcome) (o : Option Run) → IsSoundState old.state → Agrees old.ram old.state
    → HasNoCopies old.past → pages_observed shared old.state op ≡ o → IfSome o (λ run. HaveInFront run (bytes_read_by old.state op) old.state seen.state)
    → memory_in seen ≡ memory_in old → memory_in new ≡ memory_in left → AreRead o true old seen → IsDone seen op outcome left → AreRead o false left new
    → IsDoneAlone old.state op outcome new.state
alone-done shared old seen left new op outcome None sound agrees free pages alike begun behind read done ended =
    alone-plain old new op outcome (reading-done old seen left op outcome done new None read ended)
alone-done shared old seen left new op outcome (Some run) sound agrees free pages alike begun behind read done ended =
    alone-observed old seen left new op outcome run sound agrees free (observed-read shared old.state op run pages) read done ended begun behind alike
