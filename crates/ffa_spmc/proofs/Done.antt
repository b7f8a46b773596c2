-- SPDX-License-Identifier: MIT OR Apache-2.0
-- What an operation leaves of a machine: a machine again, of which all holds that is promised of an operation.
use Rattle.std.proofs.Common.{◌≡◌, ◌∙◌, ℕ, List, true, false, Option, Some, None, sym, ap, subst}
use Rattle.ffa_model.specs.declared.leaf.Leaf.{Leaf}
use Rattle.ffa_model.specs.declared.operation.Op.{Op}
use Rattle.ffa_model.specs.declared.operation.Op.TheVariants.{Call}
use Rattle.ffa_model.specs.declared.operation.Outcome.{Outcome}
use Rattle.ffa_model.specs.Access.{access}
use Rattle.ffa_model.specs.OneChain.{IsSimple}
use Rattle.ffa_model.specs.Refusals.{is_refusal}
use Rattle.ffa_model.specs.RunStates.{schedule_of}
use Rattle.ffa_model.specs.State.{State, is_known}
use Rattle.ffa_model.specs.Step.{step}
use Rattle.ffa_laws.specs.OwnAccess.{is_call, is_memory_call}
use Rattle.ffa_laws.proofs.Kept.{base-step, known-step}
use Rattle.ffa_laws.proofs.OwnAccesses.{own_access}
use Rattle.ffa_laws.proofs.Simple.{stays_simple}
use Rattle.ffa_laws.proofs.SoundSteady.{sound-steady}
use Rattle.ffa_laws.proofs.Worlds.{worlds_apart}
use Rattle.ffa_memshare.specs.declared.changed.Changed.{Changed}
use Rattle.ffa_tlb.specs.Lookups.{lookup}
use Rattle.std.specs.Option.{option_or}
use Rattle.ffa_spmc.specs.AccessChange.{IsTelling}
use Rattle.ffa_spmc.specs.Cached.{AreForgotten, AreKept, AreSameOrGone, AreWalks, is_accessed, is_miss}
use Rattle.ffa_spmc.specs.Caching.{IsForgotten}
use Rattle.ffa_spmc.specs.Machines.{IsMachine, IsManaged, managed_in}
use Rattle.ffa_spmc.specs.Mixtures.{StayMixed, TablesRest}
use Rattle.ffa_spmc.specs.Moments.{AreMoments}
use Rattle.ffa_spmc.specs.Operated.{IsDone}
use Rattle.ffa_spmc.specs.Snapshot.{Snapshot}
use Rattle.ffa_spmc.specs.Unowned.{KeepsUnowned}
use Rattle.ffa_spmc.specs.Work.{most_work}
use Rattle.ffa_physmem.specs.Work.{AddsAtMost}
use Rattle.ffa_physmem.proofs.Moments.{Only-map}
use Rattle.ffa_spmc.proofs.Forgotten.{gone, gone-or-held, same-held, still-held}
use Rattle.ffa_spmc.proofs.HeldWalks.{walks-after}
use Rattle.ffa_spmc.proofs.Mixtures.{op-mixed}

module _ (old new : Snapshot) (op : Op) (was : IsMachine old) (is : IsManaged (managed_in new))
    (state : new.state ≡ (step old.state op).state) (moments : AreMoments old.state old.ram new.ram old.past new.past) where
  mixed : StayMixed old.state old.ram new.ram old.past new.past × TablesRest new.state new.ram new.past
  mixed = op-mixed (managed_in old) (managed_in new) op was.managed is state
      (own_access old.state op (sound-steady old.state was.managed.sound) was.managed.apart) moments was.rest

  pub known-after : (e : ℕ) → is_known old.state e ≡ true → is_known new.state e ≡ true
  known-after e known = subst (λ (s : State). is_known s e ≡ true) (sym state) (known-step old.state op e known)

  pub base-after : new.state.ram_base ≡ old.state.ram_base
  base-after = ap (λ (s : State). s.ram_base) state ∙ base-step old.state op

  -- It is a machine again, where all that is held was held before, of pages to which access is as it was.
  pub machine-after : ((e p : ℕ) (leaf : Leaf) → lookup new.held e p ≡ Some leaf → (lookup old.held e p ≡ Some leaf) × (access new.state e p ≡ access old.state e p))
      → AreWalks new × TablesRest new.state new.ram new.past
  machine-after stays = (
    walks-after old.ram new.ram old.state new.state was.managed.agrees is.agrees was.managed.sound is.sound base-after known-after old.held new.held stays was.walks,
    mixed.1,
  )

  pub done : (told : Outcome) → told ≡ (step old.state op).outcome → (is_refusal told ≡ true → new ≡ old) → KeepsUnowned old.state old.ram new.ram
      → AreWalks new → AreForgotten old new → (is_miss old op ≡ false → AreKept old new) → AreSameOrGone old new (is_accessed old.state op)
      → IsTelling op old.state new.state old.told new.told → AddsAtMost old.past new.past (most_work old.state op) → IsDone old op told new
  done told outcome refused unowned walks forgotten kept others telling few = record {
    outcome = outcome;
    operated = record {
      state = state;
      agrees = is.agrees;
      refused = λ its. refused (ap is_refusal outcome ∙ its);
      unowned = unowned;
      order = Only-map moments.steps (λ h s its. its.order);
      mixtures = mixed.0;
      few = few;
      walks = walks;
      forgotten = forgotten;
      kept = kept;
      others = others;
      telling = telling;
    };
    was_sound = was.managed.sound;
    was_apart = was.managed.apart;
    sound = is.sound;
    apart = is.apart;
    worlds = worlds_apart new.state is.sound;
    one_chain = λ simple. subst (λ (s : State). IsSimple (schedule_of s)) (sym state) (stays_simple old.state op simple);
  }

-- A CALL, after which the cache forgot the pages to which access changed
module _ (old new : Snapshot) (x : List ℕ) (was : IsMachine old) (is : IsManaged (managed_in new))
    (state : new.state ≡ (step old.state (Call x)).state) (moments : AreMoments old.state old.ram new.ram old.past new.past)
    (changed : Option Changed) (forgot : IsForgotten old.state new.state old.held new.held changed) where
  pub machine-after-call : AreWalks new × TablesRest new.state new.ram new.past
  machine-after-call = machine-after old new (Call x) was is state moments (still-held old.state new.state changed forgot.access old.held new.held forgot.rest)

  pub called : (told : Outcome) → told ≡ (step old.state (Call x)).outcome → (is_refusal told ≡ true → new ≡ old) → KeepsUnowned old.state old.ram new.ram
      → new.told ≡ option_or changed old.told → (is_call is_memory_call (Call x) ≡ false → changed ≡ None)
      → AddsAtMost old.past new.past (most_work old.state (Call x)) → IsDone old (Call x) told new
  called told outcome refused unowned news silent few =
      done old new (Call x) was is state moments told outcome refused unowned machine-after-call.0
      (gone old.state new.state changed forgot.access old.held new.held forgot.rest)
      (λ _. same-held old.state new.state changed forgot.access old.held new.held forgot.rest old.ram was.managed.agrees was.managed.sound was.walks)
      (λ e p _. gone-or-held old.state new.state changed forgot.access old.held new.held forgot.rest e p)
      (record { changed = changed; access = forgot.access; told = news; silent = silent }) few
