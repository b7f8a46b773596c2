-- SPDX-License-Identifier: MIT OR Apache-2.0
-- What holds of each operation that a machine does, and what a list of operations leaves.
use Rattle.std.specs.Prelude.{◌≡◌, true, false, List, [], ◌∷◌, length}
use Rattle.ffa_model.specs.declared.operation.Op.{Op}
use Rattle.ffa_model.specs.declared.operation.Outcome.{Outcome}
use Rattle.ffa_model.specs.Agreement.{Agrees, blocks_of}
use Rattle.ffa_model.specs.OneChain.{IsSimple}
use Rattle.ffa_model.specs.Refusals.{is_refusal}
use Rattle.ffa_model.specs.RunStates.{schedule_of}
use Rattle.ffa_model.specs.SoundState.{IsSoundState}
use Rattle.ffa_model.specs.Step.{step}
use Rattle.ffa_laws.specs.OwnAccess.{AreApart, AreWorldsApart}
use Rattle.ffa_physmem.specs.Moments.{Only}
use Rattle.ffa_physmem.specs.Work.{AddsAtMost}
use Rattle.ffa_stage2.specs.Moments.{IsInOrder, WalksSameIn}
use Rattle.ffa_spmc.specs.AccessChange.{IsTelling}
use Rattle.ffa_spmc.specs.Cached.{AreForgotten, AreKept, AreSameOrGone, AreWalks, is_accessed, is_miss}
use Rattle.ffa_spmc.specs.Mixtures.{StayMixed}
use Rattle.ffa_spmc.specs.Snapshot.{Snapshot}
use Rattle.ffa_spmc.specs.Unowned.{KeepsUnowned}
use Rattle.ffa_spmc.specs.Work.{most_work}

-- what an operation leaves of a machine
pub record IsOperated (old : Snapshot) (op : Op) (new : Snapshot) : Type 0 where
  -- The next state is that of the small machine.
  pub state : new.state ≡ (step old.state op).state
  -- Every walk of the new RAM gives exactly the access of the new state, whose bytes it holds.
  pub agrees : Agrees new.ram new.state
  pub refused : is_refusal (step old.state op).outcome ≡ true → new ≡ old
  -- Pages behind the tables that nobody owns keep their bytes.
  pub unowned : KeepsUnowned old.state old.ram new.ram
  -- A descriptor goes by way of nothing where it has to. Where an endpoint's walks to the pages of a block give the same before and
  -- after, each word of its tables for that block stays.
  pub order :
      let stays = WalksSameIn old.ram new.ram old.state.tables (blocks_of old.state) in
      Only old.past new.past (λ h s. IsInOrder old.ram (length old.state.parties) old.state.tables (blocks_of old.state) stays h s)
  -- At each step, and at every address, the walks of all endpoints give what they gave before it or nothing, or all give what they
  -- give after it or nothing, also where their words are of different moments, are kept until the page is settled, or are seen out
  -- of order. So no step disturbs an endpoint in a block to which its accesses stay. A page changes only while nobody may reach it but
  -- who does both before and after. After it the tables are at rest.
  pub mixtures : StayMixed old.state old.ram new.ram old.past new.past
  -- Its steps do at most what the call names: a number for each range and page, and for each block that is joined or split.
  pub few : AddsAtMost old.past new.past (most_work old.state op)
  -- What the cache answers is the walk's answer over the bytes of the new RAM. It holds nothing for a page to which an endpoint's
  -- access has changed. All else stays, except for an access that misses: it may take the place of others, and only the runner's
  -- page is new.
  pub walks : AreWalks new
  pub forgotten : AreForgotten old new
  pub kept : is_miss old op ≡ false → AreKept old new
  pub others : AreSameOrGone old new (is_accessed old.state op)
  -- Whose access to which pages it changed is told from then on; or nobody's has changed, and what was told stays, as it does of
  -- all but calls on memory.
  pub telling : IsTelling op old.state new.state old.told new.told

-- An operation was done, with this outcome, which is that of the small machine. The laws of `ffa_laws` hold of it, and of the next one.
pub record IsDone (old : Snapshot) (op : Op) (told : Outcome) (new : Snapshot) : Type 0 where
  pub outcome : told ≡ (step old.state op).outcome
  pub operated : IsOperated old op new
  -- The state was sound and stays so, and nobody is offered what it has sent itself.
  pub was_sound : IsSoundState old.state
  pub was_apart : AreApart old.state
  pub sound : IsSoundState new.state
  pub apart : AreApart new.state
  -- Where worlds are told apart, the normal world reaches no page after it that is not of non-secure memory.
  pub worlds : AreWorldsApart new.state
  -- Where no partition was preempted or runs elsewhere, none is so after it: the run states stay one chain.
  pub one_chain : IsSimple (schedule_of old.state) → IsSimple (schedule_of new.state)

-- operations that are done one after another, and nothing between them
abbrev pub AreOperated : Snapshot → List Op → Snapshot → Type 0
AreOperated old [] new = new ≡ old
AreOperated old (op ∷ ops) new = (next : Snapshot) × (IsOperated old op next × AreOperated next ops new)
