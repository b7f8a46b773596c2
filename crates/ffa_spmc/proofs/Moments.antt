-- SPDX-License-Identifier: MIT OR Apache-2.0
-- Between the writes of an operation.
use Rattle.std.proofs.Common.{◌≡◌, ◌∙◌, ℕ, ◌*◌, ◌<◌, ◌≤◌, Bool, true, List, length, Some, refl, sym, ap, subst, arith}
use Rattle.std.specs.Prelude.{is_some}
use Rattle.std.proofs.lemmas.Bool.{false≢true, false_from_ne_true}
use Rattle.arrayvec.specs.ArrayVec.{array_vec_len}
use Rattle.ffa_model.specs.Agreement.{blocks_of}
use Rattle.ffa_model.specs.Buffers.{buffers_in}
use Rattle.ffa_model.specs.Lists.{is_in_run}
use Rattle.ffa_model.specs.Ram.{Ram}
use Rattle.ffa_model.specs.State.{Buffers, State, is_known}
use Rattle.ffa_model.proofs.Accepted.{accepted}
use Rattle.ffa_memshare.specs.Callers.{IsRxApartOfOpen}
use Rattle.ffa_memshare.specs.Ranges.{in_ranges}
use Rattle.ffa_memshare.specs.Stored.{pool_slot}
use Rattle.ffa_memshare.proofs.Moments.{stays-same, written-moment}
use Rattle.ffa_physmem.specs.Moments.{IsBeside, IsReading, IsWriting, One, Only, Past, Step, TurnsIn}
use Rattle.ffa_physmem.proofs.Moments.{Only-map, Only-none, Only-one, beside-same}
use Rattle.ffa_rxtx.specs.Parts.{IsRxWriting}
use Rattle.ffa_stage2.specs.Mixed.{AreMixed}
use Rattle.ffa_stage2.specs.Moments.{EndsSettled, IsInOrder, IsMoment, WalksBetween, WalksSameIn, WritesUnreached}
use Rattle.ffa_stage2.specs.Rest.{RestIn}
use Rattle.ffa_stage2.specs.Tables.{IsAside}
use Rattle.ffa_stage2.proofs.Places.{not-both}
use Rattle.ffa_stage2.proofs.Kept.{built-kept}
use Rattle.ffa_stage2.proofs.Moments.{between-first, moment-order, moment-unreached, moment-walks, no-right-ends, nothing-ends}
use Rattle.ffa_stage2.proofs.Rest.{mixed-of, mixed-still}
use Rattle.ffa_spmc.specs.Meaning.{HasTables, IsManager, Parts, access_by_place, slot_names, state_of}
use Rattle.ffa_spmc.specs.Mixtures.{TablesRest}
use Rattle.ffa_spmc.specs.Moments.{AreMoments, IsMixed, IsSafeStep}
use Rattle.ffa_spmc.proofs.Fills.{buffers-there, rx-unnamed, there-inside}
use Rattle.ffa_spmc.proofs.Held.{owned-aside, parties_are, size_is}
use Rattle.ffa_spmc.proofs.Moves.{of-manifest}
use Rattle.ffa_spmc.proofs.Pools.{named-kept}
use Rattle.ffa_spmc.proofs.MemoryParts.{memory_parts_in}

-- where nothing was written
pub still-moments : (s : State) (old new : Ram) (past later : Past) → new ≡ old → later ≡ past → AreMoments s old new past later
unfolding IsMixed
still-moments s old new past later same same_past = record {
  steps = subst (λ (l : Past). Only past l (λ h step. IsSafeStep s old new h step)) (sym same_past) Only-none;
  ended = nothing-ends old new (length s.parties) s.tables (blocks_of s) later same;
  mixtures = mixed-still old new (length s.parties) s.tables (blocks_of s) past later same same_past;
}

pub no-moments : (s : State) (ram : Ram) (past : Past) → AreMoments s ram ram past past
no-moments s ram past = still-moments s ram ram past past refl refl

module _ (x : Parts) (machine : IsManager x) where
  abbrev n : ℕ
  n = length x.manifest.endpoints.items

  abbrev tables : ℕ
  tables = x.manifest.tables.0

  abbrev b : ℕ
  b = x.manifest.ram_blocks

  blocks-are : blocks_of (state_of x) ≡ b
  blocks-are =
      let size : length (state_of x).pages ≡ 512 * b = size_is x ∙ machine.tables.size in
      omega (arith, size)

  -- by the numbers of the state
  of-state : (P : ℕ → ℕ → ℕ → Type 0) → P n tables b → P (length (state_of x).parties) (state_of x).tables (blocks_of (state_of x))
  of-state P its = subst (λ (k : ℕ). P k tables (blocks_of (state_of x))) (sym (parties_are x)) (subst (λ (k : ℕ). P n tables k) (sym blocks-are) its)

  by-state : (old new : Ram) (h : List Step) (step : Step) → WalksBetween old new n tables b step.after → IsInOrder old n tables b (WalksSameIn old new tables b) h step → WritesUnreached old new n tables b h step
      → IsSafeStep (state_of x) old new h step
  by-state old new h step walks order unreached = record {
    walks = of-state (λ k f j. WalksBetween old new k f j step.after) walks;
    order = of-state (λ k f j. IsInOrder old k f j (WalksSameIn old new f j) h step) order;
    unreached = of-state (λ k f j. WritesUnreached old new k f j h step) unreached;
  }

  -- tables at rest, by the numbers of the layout
  pub rest-of : (past : Past)
      → (0 < array_vec_len x.kept.layout.regions → RestIn x.ram (array_vec_len x.kept.layout.regions) x.kept.layout.tables.0 x.kept.layout.blocks past)
      → TablesRest (state_of x) x.ram past
  unfolding TablesRest
  rest-of past at_rest =
      let some = (accepted x.manifest.ram_base.0 x.manifest.tables.0 x.manifest.ram_blocks x.manifest.endpoints.items x.manifest.accepted).some_endpoints in
      of-state (λ k f j. RestIn x.ram k f j past)
      (of-manifest x machine (λ base endpoints tables blocks. RestIn x.ram endpoints tables blocks past) (at_rest (subst (λ (k : ℕ). 1 ≤ k) (sym machine.layout.endpoints) some)))

  -- rights that change
  pub moments-of : (new : Ram) (past later : Past) → TurnsIn new later
      → Only past later (λ h s. IsMoment x.ram new (array_vec_len x.kept.layout.regions) x.kept.layout.tables.0 x.kept.layout.blocks past h s)
      → EndsSettled x.ram new (array_vec_len x.kept.layout.regions) x.kept.layout.tables.0 x.kept.layout.blocks later → AreMoments (state_of x) x.ram new past later
  unfolding IsMixed
  moments-of new past later turns only ended = record {
    steps =
        Only-map (of-manifest x machine (λ base endpoints tables blocks. Only past later (λ h s. IsMoment x.ram new endpoints tables blocks past h s)) only)
        (λ h s m. by-state x.ram new h s (moment-walks x.ram new n tables b past h s m) (moment-order x.ram new n tables b past h s m) (moment-unreached x.ram new n tables b past h s m));
    ended = of-state (λ k f j. EndsSettled x.ram new k f j later) (of-manifest x machine (λ base endpoints tables blocks. EndsSettled x.ram new endpoints tables blocks later) ended);
    mixtures = of-state (λ k f j. AreMixed x.ram new k f j past later) (mixed-of x.ram new n tables b past later turns
        (of-manifest x machine (λ base endpoints tables blocks. Only past later (λ h s. IsMoment x.ram new endpoints tables blocks past h s)) only)
        (of-manifest x machine (λ base endpoints tables blocks. EndsSettled x.ram new endpoints tables blocks later) ended));
  }

  -- pages that are none of the tables' are written while these stay
  pub beside-moments : (new : Ram) → HasTables new x.manifest (access_by_place (state_of x)) → {past later : Past} {P : List Step → Step → Type 0} → TurnsIn new later → Only past later P
      → ((h : List Step) (s : Step) → P h s → (named : ℕ → Bool) × ((p : ℕ) → named p ≡ true → IsAside n tables b p) × IsWriting x.ram named s)
      → AreMoments (state_of x) x.ram new past later
  unfolding IsMixed
  beside-moments new still {past = past} {later = later} turns only its =
      let old = machine.tables.built in
      let rights = access_by_place (state_of x) in
      let moments : Only past later (λ h s. IsMoment x.ram new n tables b past h s) =
      Only-map only (λ h s holds.
      let (named, aside, writing) = its h s holds in
      written-moment x.ram new n tables b rights rights old still.built (still.base ∙ sym machine.tables.base) x.ram named rights aside old
      (between-first x.ram n tables b rights rights old) refl past h s writing
      (λ p at e he. stays-same (rights e p) (rights e p) (rights e p) _ _ refl refl))
      in
      let ends : EndsSettled x.ram new n tables b later = no-right-ends x.ram new n tables b rights rights old still.built later (λ e p was. was) in
      record {
        steps = Only-map moments (λ h s m. by-state x.ram new h s (moment-walks x.ram new n tables b past h s m) (moment-order x.ram new n tables b past h s m) (moment-unreached x.ram new n tables b past h s m));
        ended = of-state (λ k f j. EndsSettled x.ram new k f j later) ends;
        mixtures = of-state (λ k f j. AreMixed x.ram new k f j past later) (mixed-of x.ram new n tables b past later turns moments ends);
      }

  -- pages that are none of the tables' are read at once
  pub reading-moments : (new : Ram) (named : ℕ → Bool) → IsBeside x.ram new named → ((p : ℕ) → named p ≡ true → IsAside n tables b p) → (past later : Past) (first count : ℕ) (begins : Bool)
      → TurnsIn new later → One past later (λ s. IsReading x.ram new first count begins s) → AreMoments (state_of x) x.ram new past later
  reading-moments new named beside aside past later first count begins turns steps =
      let still : HasTables new x.manifest (access_by_place (state_of x)) = record {
        base = beside.base ∙ machine.tables.base;
        size = beside.size ∙ machine.tables.size;
        built =
            built-kept x.ram new n tables b (access_by_place (state_of x)) machine.tables.built beside.base beside.size
            (λ p from below. beside.pages p (false_from_ne_true (named p) (λ at. not-both n tables b p (from, below) (aside p at))));
      } in
      beside-moments new still turns (Only-one steps) (λ _ s its. (
        named,
        aside,
        record {
          before = subst (λ (r : Ram). IsBeside x.ram r named) (sym its.before) (beside-same x.ram named);
          after = subst (λ (r : Ram). IsBeside x.ram r named) (sym its.after) beside;
        },
      ))

  -- RX of an endpoint is none of the tables'
  rx-pages : (f : ℕ) → is_known (state_of x) f ≡ true → (buffers : Buffers) → buffers_in x.kept.buffers f ≡ Some buffers
      → (p : ℕ) → is_in_run buffers.rx buffers.pages p ≡ true → IsAside n tables b p
  rx-pages f known buffers are p its = let (page, there) = (buffers-there x machine f known buffers are).rx p its in owned-aside x machine p page there

  -- and no open transaction names its pages
  pub rx-apart : (f : ℕ) → is_known (state_of x) f ≡ true → IsRxApartOfOpen (memory_parts_in x) f
  rx-apart f known k h t is = record {
    aside = λ buffers are p its.
        subst (λ z. z) (λ i. IsAside (sym machine.layout.endpoints i) (sym machine.layout.tables i) (sym machine.layout.blocks i) p) (rx-pages f known buffers are p its);
    apart = λ buffers are p its. false_from_ne_true (in_ranges x.kept.layout.base.0 t.ranges p) (named buffers are p its);
  }
    where
      named : (buffers : Buffers) → buffers_in x.kept.buffers f ≡ Some buffers → (p : ℕ) → is_in_run buffers.rx buffers.pages p ≡ true
          → in_ranges x.kept.layout.base.0 t.ranges p ≡ true → ⊥
      named buffers are p its at =
          let there = (buffers-there x machine f known buffers are).rx p its in
          let inside : p < length x.ram.pages = there-inside x machine p there in
          let listed : p < length x.kept.pages = omega (arith, inside, machine.tables.size, machine.owners.size) in
          let here : slot_names x.manifest.ram_base.0 p (pool_slot x.kept.pool.slots k) ≡ true =
          ap (slot_names x.manifest.ram_base.0 p) is ∙ ap (λ base. in_ranges base t.ranges p) (sym machine.layout.base) ∙ at in
          let slot = (machine.open_transactions.marks p k listed).1 here in
          false≢true (sym (rx-unnamed x machine f known buffers are p its) ∙ named-kept x machine p inside ∙ ap is_some slot)

  pub rx-moments : (f : ℕ) → is_known (state_of x) f ≡ true → (new : Ram) → HasTables new x.manifest (access_by_place (state_of x)) → (past later : Past)
      → TurnsIn new later → Only past later (λ _ s. IsRxWriting x.ram (buffers_in x.kept.buffers f) s) → AreMoments (state_of x) x.ram new past later
  rx-moments f known new still past later turns only =
      beside-moments new still turns only (λ _ s its. (is_in_run its.buffers.rx its.buffers.pages, rx-pages f known its.buffers its.are, its.writing))
