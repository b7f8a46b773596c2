-- SPDX-License-Identifier: MIT OR Apache-2.0
-- What a load, a store or a fetch leaves of a machine.
use Rattle.std.proofs.Common.{◌≡◌, ◌∙◌, ℕ, ◌-◌, ◌/◌, ◌%◌, true, false, List, Option, Some, None, refl, sym, ap, subst}
use Rattle.std.specs.Prelude.{is_some}
use Rattle.std.specs.Option.{option_and_then, option_map_or}
use Rattle.std.proofs.lemmas.Bool.{true≢false}
use Rattle.std.proofs.lemmas.Option.{none-some}
use Rattle.byteorder.specs.Endian.{little_bytes}
use Rattle.ffa_model.specs.declared.operation.Op.{Op}
use Rattle.ffa_model.specs.declared.operation.Op.TheVariants.{Call, Load, Store, Fetch}
use Rattle.ffa_model.specs.declared.operation.Outcome.{Outcome}
use Rattle.ffa_model.specs.declared.operation.Outcome.TheVariants.{Data, Done}
use Rattle.ffa_model.specs.declared.operation.Size.{Size}
use Rattle.ffa_model.specs.Access.{access}
use Rattle.ffa_model.specs.Memory.{fetch, fetch_fault, load, number_at, read_fault, size_of, store_fault, stored, written}
use Rattle.ffa_model.specs.Ram.{Ram}
use Rattle.ffa_model.specs.Refusals.{is_refusal}
use Rattle.ffa_model.specs.State.{State}
use Rattle.ffa_model.specs.Step.{step}
use Rattle.ffa_model.proofs.CallAccesses.{access-written}
use Rattle.ffa_laws.proofs.Form.{accessed-kept}
use Rattle.ffa_laws.proofs.SoundSteady.{runner-known}
use Rattle.ffa_physmem.specs.Moments.{Past}
use Rattle.ffa_tlb.specs.Lookups.{lookup}
use Rattle.ffa_tlb.specs.declared.translations.Entry.{Entry}
use Rattle.ffa_spmc.specs.Cached.{AreKept, AreSameOrGone, AreWalks, address_in, is_accessed, is_miss, is_runners, missed_page}
use Rattle.ffa_spmc.specs.Caching.{IsCached}
use Rattle.ffa_spmc.specs.Machines.{IsMachine, IsManaged, managed_in}
use Rattle.ffa_spmc.specs.Mixtures.{TablesRest}
use Rattle.ffa_spmc.specs.Moments.{AreMoments}
use Rattle.ffa_spmc.specs.Operated.{IsDone}
use Rattle.ffa_spmc.specs.Snapshot.{Snapshot}
use Rattle.ffa_spmc.specs.Unowned.{KeepsUnowned}
use Rattle.ffa_spmc.specs.Work.{most_work}
use Rattle.ffa_physmem.specs.Work.{AddsAtMost}
use Rattle.ffa_physmem.proofs.Work.{adds-none}
use Rattle.ffa_spmc.specs.Walks.{walk_of}
use Rattle.ffa_spmc.proofs.AccessChanges.{nothing-told}
use Rattle.ffa_spmc.proofs.Done.{base-after, done, known-after, machine-after}
use Rattle.ffa_spmc.proofs.HeldWalks.{answer-after}
use Rattle.ffa_spmc.proofs.Moments.{no-moments}

-- A load leaves the state.
pub load-state : (s : State) (address : ℕ) (size : Size) → (load s address size).state ≡ s
load-state s address size =
    accessed-kept (λ t. t ≡ s) s s (Data (number_at s address (size_of size))) (read_fault s address (size_of size)) refl (λ none. refl)

-- A FETCH leaves the state.
pub fetch-state : (s : State) (address : ℕ) → (fetch s address).state ≡ s
fetch-state s address = accessed-kept (λ t. t ≡ s) s s (Data (number_at s address 4)) (fetch_fault s address) refl (λ none. refl)

-- What holds of a state, with whatever bytes in a page, holds after an access.
access-kept : (P : State → Type 0) (s : State) (op : Op) (address : ℕ) → address_in op ≡ Some address → P s
    → ((p at : ℕ) (bytes : List ℕ) → P (written s p at bytes)) → P (step s op).state
access-kept P s (Call x) address none same other = absurd (none-some address none)
access-kept P s (Load a size) address _ same other = accessed-kept P s s (Data (number_at s a (size_of size))) (read_fault s a (size_of size)) same (λ _. same)
access-kept P s (Store a size value) address _ same other =
    accessed-kept P s (stored s a (little_bytes (size_of size) value)) Done (store_fault s a (size_of size)) same
    (λ _. other ((a - s.ram_base) / 4096) (a % 4096) (little_bytes (size_of size) value))
access-kept P s (Fetch a) address _ same other = accessed-kept P s s (Data (number_at s a 4)) (fetch_fault s a) same (λ _. same)

-- AN ACCESS, which left this state, RAM and history
module _ (old : Snapshot) (s : State) (ram : Ram) (past : Past) (op : Op) (address : ℕ) (accesses : address_in op ≡ Some address)
    (was : IsMachine old) (state : s ≡ (step old.state op).state) where
  abbrev pub left : Snapshot
  left = record old { state = s; ram = ram; past = past }

  after : (P : State → Type 0) → P old.state → ((p at : ℕ) (bytes : List ℕ) → P (written old.state p at bytes)) → P s
  after P same other = subst P (sym state) (access-kept P old.state op address accesses same other)

  pub access-same : (e p : ℕ) → access s e p ≡ access old.state e p
  access-same e p = after (λ t. access t e p ≡ access old.state e p) refl (λ q at bytes. access-written old.state q at bytes e p)

  pub missed-same : missed_page old address ≡ missed_page left address
  missed-same = after (λ t. missed_page old address ≡ missed_page (record old { state = t; ram = ram; past = past }) address) refl (λ q at bytes. refl)

  accessed-same : (e p : ℕ) → is_runners s address e p ≡ is_runners old.state address e p
  accessed-same e p = after (λ t. is_runners t address e p ≡ is_runners old.state address e p) refl (λ q at bytes. refl)

  module _ (is : IsManaged (managed_in left)) (moments : AreMoments old.state old.ram ram old.past past) where
    pub answer-same : walk_of old.ram old.state old.state.runner address ≡ walk_of ram s s.runner address
    answer-same =
        answer-after old.ram ram old.state s was.managed.agrees is.agrees was.managed.sound is.sound (base-after old left op was is state moments)
        (known-after old left op was is state moments) access-same old.state.runner (runner-known old.state was.managed.sound) address
        ∙ ap (λ (e : ℕ). walk_of ram s e address) (after (λ t. old.state.runner ≡ t.runner) refl (λ q at bytes. refl))

    pub machine-left : AreWalks left × TablesRest s ram past
    machine-left = machine-after old left op was is state moments (λ e p leaf there. (there, access-same e p))

  -- and then the cache was filled
  module _ (new : Snapshot) (is : IsMachine new) (told : Outcome) (cached : IsCached left new address told) where
    held-all : new.held ≡ old.held → AreKept old new
    held-all same e p _ = ap (λ (list : List Entry). lookup list e p) same

    kept : is_miss old op ≡ false → AreKept old new
    kept hit = of (missed_page old address) refl (sym missed ∙ hit)
      where
        missed : is_miss old op ≡ is_some (missed_page old address)
        missed = ap (λ (o : Option ℕ). is_some (option_and_then (missed_page old) o)) accesses

        of : (o : Option ℕ) → missed_page old address ≡ o → is_some (missed_page old address) ≡ false → AreKept old new
        of None none _ = held-all (cached.hit (sym missed-same ∙ none))
        of (Some p) some not = absurd (true≢false (sym (ap is_some some) ∙ not))

    others : AreSameOrGone old new (is_accessed old.state op)
    others e p not = cached.miss e p
        (accessed-same e p ∙ sym (ap (λ (o : Option ℕ). option_map_or (λ a. is_runners old.state a e p) o false) accesses) ∙ not)

    pub access-done : told ≡ (step old.state op).outcome → (is_refusal told ≡ true → left ≡ old) → KeepsUnowned old.state old.ram ram
        → AreMoments old.state old.ram ram old.past past → AddsAtMost old.past past (most_work old.state op) → IsDone old op told new
    access-done outcome refused unowned moments few =
        done old new op was is.managed (ap (λ (x : Snapshot). x.state) cached.rest ∙ state)
        (subst (λ (x : Snapshot). AreMoments old.state old.ram x.ram old.past x.past) (sym cached.rest) moments) told outcome
        (λ its. cached.rest ∙ ap (λ (list : List Entry). record left { held = list }) (cached.refused its) ∙ refused its)
        (subst (λ (x : Snapshot). KeepsUnowned old.state old.ram x.ram) (sym cached.rest) unowned) is.walks
        (λ e p changed. absurd (changed (same-in e p))) kept others
        (nothing-told op old.state new.state old.told new.told same-in (ap (λ (x : Snapshot). x.told) cached.rest))
        (subst (λ (x : Snapshot). AddsAtMost old.past x.past (most_work old.state op)) (sym cached.rest) few)
      where
        same-in : (e p : ℕ) → access new.state e p ≡ access old.state e p
        same-in e p = ap (λ (x : Snapshot). access x.state e p) cached.rest ∙ access-same e p

-- A LOAD or a fetch, which leaves the state
pub read-done : (old new : Snapshot) (op : Op) (address : ℕ) → address_in op ≡ Some address → IsMachine old → IsMachine new → (step old.state op).state ≡ old.state
    → (told : Outcome) → told ≡ (step old.state op).outcome → IsCached old new address told → IsDone old op told new
read-done old new op address accesses was is state told outcome cached =
    access-done old old.state old.ram old.past op address accesses was (sym state) new is told cached outcome
    (λ _. refl) (λ p _ _. refl) (no-moments old.state old.ram old.past) (adds-none (most_work old.state op))
