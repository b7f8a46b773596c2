-- SPDX-License-Identifier: MIT OR Apache-2.0
-- The machine that an operation leaves where others wrote to memory while it was done, and so of lists of operations.
use Rattle.std.specs.Prelude.{◌≡◌, ◌⊎◌, ◌<◌, true, ℕ, List, length, Some, [], ◌∷◌}
use Rattle.ffa_model.specs.declared.operation.Op.{Op}
use Rattle.ffa_model.specs.declared.operation.Outcome.{Outcome}
use Rattle.ffa_model.specs.Access.{access}
use Rattle.ffa_model.specs.Agreement.{Agrees, blocks_of}
use Rattle.ffa_model.specs.Identifiers.{identifier}
use Rattle.ffa_model.specs.Rights.{may_store}
use Rattle.ffa_model.specs.SoundState.{IsSoundState}
use Rattle.ffa_model.specs.State.{State}
use Rattle.ffa_model.specs.Step.{step}
use Rattle.ffa_laws.specs.Reads.{AreBeside}
use Rattle.ffa_physmem.specs.Moments.{Step}
use Rattle.ffa_stage2.specs.Amid.{Amid, Moment, is_one_of}
use Rattle.ffa_spmc.specs.Cached.{AreWalks}
use Rattle.ffa_spmc.specs.Mixtures.{TablesRest}
use Rattle.ffa_spmc.specs.Operated.{IsOperated}
use Rattle.ffa_spmc.specs.Snapshot.{Snapshot}

-- some endpoint has the right to write to page p in the one state, or in the other
pub record MayStore (s t : State) (p : ℕ) : Type 0 where
  pub index : ℕ
  pub there : index < length s.parties
  pub right : (may_store (access s (identifier index) p) ≡ true) ⊎ (may_store (access t (identifier index) p) ≡ true)

-- Others wrote to pages of memory while an operation led from one machine to another: what is left is a machine still, which
-- differs from that other in the bytes of these pages alone, and to each some endpoint may write before the operation or
-- behind it. Its walks, its cache and its tables at rest are as the operation promises them.
pub record IsLeft (old new left : Snapshot) (memory : Moment) (written : List ℕ) : Type 0 where
  pub state : AreBeside new.state left.state (is_one_of written)
  pub theirs : (p : ℕ) → is_one_of written p ≡ true → MayStore old.state new.state p
  pub ram : left.ram ≡ memory.ram
  pub past : left.past.steps ≡ Some memory.history
  pub site : left.past.site ≡ new.past.site
  pub held : left.held ≡ new.held
  pub told : left.told ≡ new.told
  pub agrees : Agrees left.ram left.state
  pub sound : IsSoundState left.state
  pub walks : AreWalks left
  pub rest : TablesRest left.state left.ram left.past

-- whatever memory others may leave, such a machine is left
abbrev pub LeavesAmid : Snapshot → Snapshot → Type 0
LeavesAmid old new =
    (begun ended : List Step) → old.past.steps ≡ Some begun → new.past.steps ≡ Some ended → (memory : Moment) (written : List ℕ)
    → Amid (length old.state.parties) old.state.tables (blocks_of old.state) (record { history = begun; ram = old.ram })
    (record { history = ended; ram = new.ram }) memory written
    → (left : Snapshot) × IsLeft old new left memory written

-- Operations are done one after another while others write, and between which they write: each as promised of the machine that
-- was left before it, with the small machine's outcome.
abbrev pub AreDoneAmid : Snapshot → List Op → List Outcome → Snapshot → Type 0
AreDoneAmid old [] told new = (told ≡ []) × (new ≡ old)
AreDoneAmid old (op ∷ ops) told new =
    (done : Snapshot) × (left : Snapshot) × (memory : Moment) × (written : List ℕ) × (rest : List Outcome)
    × (told ≡ (step old.state op).outcome ∷ rest) × IsOperated old op done × IsLeft old done left memory written
    × AreDoneAmid left ops rest new
