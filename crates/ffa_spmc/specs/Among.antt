-- SPDX-License-Identifier: MIT OR Apache-2.0
-- An operation while other processors of its runner write to the runner's TX: which of its first bytes it reads, and that it
-- does what an operation does that finds there what one reading of these gave.
use Rattle.std.specs.Prelude.{◌≡◌, ℕ, ◌==◌, ◌||◌, Bool, true, false, [], ◌∷◌, Option, Some, None, if◌then◌else◌}
use Rattle.std.specs.List.{list_any}
use Rattle.std.specs.Option.{option_and_then}
use Rattle.ffa_model.specs.declared.function.TheConstants.{FFA_MEM_DONATE, FFA_MEM_LEND, FFA_MEM_RELINQUISH, FFA_MEM_RETRIEVE_REQ, FFA_MEM_SHARE, FFA_MSG_SEND2}
use Rattle.ffa_model.specs.declared.operation.Op.{Op}
use Rattle.ffa_model.specs.declared.operation.Op.TheVariants.{Call}
use Rattle.ffa_model.specs.declared.operation.Outcome.{Outcome}
use Rattle.ffa_model.specs.Agreement.{Agrees}
use Rattle.ffa_model.specs.Lists.{is_in_run}
use Rattle.ffa_model.specs.Memory.{page_bytes}
use Rattle.ffa_model.specs.Registers.{decode, wide_of}
use Rattle.ffa_model.specs.SoundState.{IsSoundState}
use Rattle.ffa_model.specs.State.{State, Buffers, buffers_of}
use Rattle.ffa_model.specs.Step.{step}
use Rattle.ffa_laws.specs.Reads.{AreBeside, tx_bytes_read, tx_pages_read}
use Rattle.ffa_physmem.specs.Moments.{AgreeInFirst, HasNoCopies, IsBeside, IsReading, OneMore, is_copied, on_site_of}
use Rattle.ffa_spmc.specs.declared.run.Run.{Run}
use Rattle.ffa_spmc.specs.Cached.{AreWalks}
use Rattle.ffa_spmc.specs.Mixtures.{StayMixed}
use Rattle.ffa_spmc.specs.Operated.{IsDone}
use Rattle.ffa_spmc.specs.Snapshot.{Snapshot}

-- the first pages of a TX, if it is some
abbrev pub front_of : Buffers → ℕ → Option Run
front_of b count = if count == 0 then None else Some (record { first = record { 0 = b.tx }; count = count })

-- the pages of its TX that an operation of the runner reads, if it reads any
abbrev pub pages_read : State → Op → Option Run
pages_read s (Call x) =
    option_and_then (λ (b : Buffers). front_of b (tx_pages_read b (decode x))) (buffers_of s s.runner)
pages_read s op = None

-- how many bytes of it, its first ones
abbrev pub bytes_read_by : State → Op → ℕ
bytes_read_by s (Call x) = tx_bytes_read s (decode x)
bytes_read_by s op = 0

-- whether a number is that of a call that reads TX, in either form
abbrev pub reads_tx : ℕ → Bool
reads_tx w0 =
    list_any (λ function. w0 == function)
    (FFA_MSG_SEND2 ∷ FFA_MEM_DONATE ∷ FFA_MEM_LEND ∷ FFA_MEM_SHARE ∷ FFA_MEM_RETRIEVE_REQ ∷ FFA_MEM_RELINQUISH ∷ [])
    || list_any (λ function. w0 == wide_of function) (FFA_MEM_DONATE ∷ FFA_MEM_LEND ∷ FFA_MEM_SHARE ∷ FFA_MEM_RETRIEVE_REQ ∷ [])

abbrev pub is_in : Run → ℕ → Bool
is_in run p = is_in_run run.first.0 run.count p

-- of so many bytes that pages of a run begin with, two states have the same
abbrev pub HaveInFront : Run → ℕ → State → State → Type 0
HaveInFront run bytes s t =
    (p : ℕ) → is_in run p ≡ true → AgreeInFirst bytes run.first.0 p (page_bytes t p) (page_bytes s p)

-- Pages are read at once, or are no longer as they were read. They alone may have other bytes then, in RAM and in the state
-- alike, and they alone are in copies, until they are no longer as they were read. The cache holds what it held, which no walk
-- contradicts. Walks in mixtures stay what they are.
pub record IsRead (run : Run) (begins : Bool) (old new : Snapshot) : Type 0 where
  pub state : AreBeside old.state new.state (is_in run)
  pub ram : IsBeside old.ram new.ram (is_in run)
  pub step : OneMore old.past.steps new.past.steps (λ s. IsReading old.ram new.ram run.first.0 run.count begins s)
  pub mixtures : StayMixed old.state old.ram new.ram old.past (on_site_of old.past new.past)
  pub places : new.past.site.places ≡ old.past.site.places
  pub only : (p : ℕ) → is_copied new.past p ≡ true → is_in run p ≡ true
  pub free : begins ≡ false → HasNoCopies new.past
  pub held : new.held ≡ old.held
  pub told : new.told ≡ old.told
  pub agrees : Agrees new.ram new.state
  pub sound : IsSoundState new.state
  pub walks : AreWalks new

-- Pages of a run are read so, if there is a run. Else the machine stays as it is.
abbrev pub AreRead : Option Run → Bool → Snapshot → Snapshot → Type 0
AreRead None begins old new = new ≡ old
AreRead (Some run) begins old new = IsRead run begins old new

-- An operation was done that reads pages to which others may write: they were read at once, the operation was done in what was
-- seen then, and only after it they are what others wrote.
pub record IsDoneAmong (run : Run) (old : Snapshot) (op : Op) (told : Outcome) (new : Snapshot) : Type 0 where
  pub seen : Snapshot
  pub left : Snapshot
  pub read : IsRead run true old seen
  pub done : IsDone seen op told left
  pub ended : IsRead run false left new

abbrev pub IsDoneReading : Option Run → Snapshot → Op → Outcome → Snapshot → Type 0
IsDoneReading None old op told new = IsDone old op told new
IsDoneReading (Some run) old op told new = IsDoneAmong run old op told new

-- An operation was done while nobody else wrote: it had the outcome of the small machine, and left exactly its state.
pub record IsDoneAlone (old : State) (op : Op) (told : Outcome) (new : State) : Type 0 where
  pub outcome : told ≡ (step old op).outcome
  pub state : new ≡ (step old op).state
