-- SPDX-License-Identifier: MIT OR Apache-2.0
-- What C sees of a machine.
use Rattle.std.specs.Prelude.{◌≡◌, ℕ, ◌+◌, Bool, true, false, replicate, Option, None, Some, ◌==◌, nat_lt, length, if◌then◌else◌}
use Rattle.ffa_model.specs.Agreement.{Agrees, root}
use Rattle.ffa_model.specs.Identifiers.{place}
use Rattle.ffa_model.specs.Notices.{has_notices}
use Rattle.ffa_model.specs.Notifications.{has_pending, notifications_of}
use Rattle.ffa_model.specs.SoundState.{IsSoundState}
use Rattle.ffa_model.specs.State.{State, is_known, owner_of}
use Rattle.ffa_model.specs.declared.operation.Effect.{Effect}
use Rattle.ffa_model.specs.declared.operation.Effect.TheVariants as effects
use Rattle.ffa_model.specs.declared.operation.FaultKind.{FaultKind}
use Rattle.ffa_model.specs.declared.operation.FaultKind.TheVariants.{Translation, Permission, Alignment, AccessFlag, OutsideRam}
use Rattle.ffa_model.specs.declared.operation.Op.{Op}
use Rattle.ffa_model.specs.declared.operation.Outcome.{Outcome}
use Rattle.ffa_model.specs.declared.operation.Outcome.TheVariants.{Regs, Data, Done, Fault}
use Rattle.ffa_model.specs.declared.operation.Size.{Size}
use Rattle.ffa_model.specs.declared.operation.Size.TheVariants.{B1, B2, B4, B8}
use Rattle.ffa_model.specs.declared.rights.Rights.{Rights}
use Rattle.ffa_model.specs.declared.rights.Data as rights
use Rattle.ffa_model.specs.declared.rights.Data.TheVariants.{Ro, Rw}
use Rattle.ffa_spmc.specs.Clustered.{Clustered, IsEffected, IsEffectedAlone}
use Rattle.ffa_spmc.specs.Snapshot.{Snapshot, memory_in}
use Rattle.ffa_spmc.specs.Unowned.{KeepsUnowned}
use Rattle.ffa_c.specs.declared.outcome.COutcome.{COutcome}
use Rattle.ffa_c.specs.Boarded.{Boarded, boarded_by, cluster_of}

abbrev pub fault_number : FaultKind → ℕ
fault_number Translation = 1
fault_number Permission = 2
fault_number Alignment = 3
fault_number AccessFlag = 4
fault_number OutsideRam = 5

-- an outcome without registers
abbrev pub plain_outcome : ℕ → ℕ → COutcome
plain_outcome kind value = record { kind = kind; runner = 0; value = value; x = replicate 8 0 }

abbrev pub packed : Outcome → COutcome
packed (Regs runner x) = record { kind = 0; runner = runner.0; value = 0; x = x }
packed (Data value) = plain_outcome 1 value
packed Done = plain_outcome 2 0
packed (Fault fault) = plain_outcome 3 (fault_number fault)

abbrev pub nothing_done : ℕ → COutcome
nothing_done kind = plain_outcome kind 0

-- 1 to read, 3 to read and write, and 4 more to execute
abbrev pub level_code : rights.Data → ℕ
level_code Ro = 1
level_code Rw = 3

abbrev pub exec_code : Bool → ℕ
exec_code false = 0
exec_code true = 4

abbrev pub access_code : Option Rights → ℕ
access_code None = 0
access_code (Some rights) = level_code rights.level + exec_code rights.exec

-- what C is told of an operation: of a partition that goes on where it was only which it is
abbrev pub packed_effect : Effect → COutcome
packed_effect (effects.Outcome outcome) = packed outcome
packed_effect (effects.Resumed e) = record (plain_outcome 7 0) { runner = e.0 }

-- An operation of whoever runs on the selected processor was done as the machine's own call promises it, and C was told the
-- effect. If the RAM is lent, others may write to the runner's TX meanwhile.
pub record HasDone (is_lent : Bool) (old new : Clustered) (op : Op) (told : COutcome) : Type 0 where
  pub effect : Effect
  pub is_told : told ≡ packed_effect effect
  pub done : IsEffected is_lent old.machine op effect new.machine
  -- As far as contracts see, nobody else wrote at the same time. So the state is exactly the one that the definitions give.
  pub alone : IsEffectedAlone old.machine.state op effect new.machine.state
  pub processors : new.processors ≡ old.processors
  -- no page is in a copy any more, so memory is RAM, and each page lies where it lay
  pub memory : memory_in new.machine ≡ new.machine.ram
  pub places : new.machine.past.site.places ≡ old.machine.past.site.places
  pub agrees : Agrees new.machine.ram new.machine.state
  pub unowned : KeepsUnowned old.machine.state old.machine.ram new.machine.ram
  pub sound : IsSoundState new.machine.state

-- the same of what C holds, which may be no machine
abbrev pub Operated : Option Boarded → Option Boarded → Op → COutcome → Type 0
Operated None new op told = (new ≡ None) × (told ≡ nothing_done 4)
Operated (Some old) new op told =
    (c : Clustered) × (new ≡ Some (boarded_by c old.is_lent)) × HasDone old.is_lent (cluster_of old) c op told

-- the size of so many bytes
abbrev pub size_at : ℕ → Option Size
size_at bytes =
    if bytes == 1 then Some B1
    else if bytes == 2 then Some B2
    else if bytes == 4 then Some B4
    else if bytes == 8 then Some B8
    else None

-- the same of an access of so many bytes, where those are a size
abbrev pub OperatedAt : Option Size → Option Boarded → Option Boarded → (Size → Op) → COutcome → Type 0
OperatedAt None old new op told = (new ≡ old) × (told ≡ nothing_done 5)
OperatedAt (Some size) old new op told = Operated old new (op size) told

abbrev pub OperatedSized : Option Boarded → Option Boarded → ℕ → (Size → Op) → COutcome → Type 0
OperatedSized old new bytes op told = OperatedAt (size_at bytes) old new op told

-- what a question answers, of the machine if there is one
abbrev pub asked : (Snapshot → ℕ) → Option Boarded → ℕ
asked f None = 0xFFFFFFFF
asked f (Some b) = f b.machine

-- the owner of a page, where there is such a page
abbrev pub owner_number : Snapshot → ℕ → ℕ
owner_number s page = if nat_lt page (length s.state.pages) then owner_of s.state page else 0xFFFFFFFF

-- the address of an endpoint's level 1 table, where there is such an endpoint
abbrev pub root_number : State → ℕ → ℕ
root_number s e = if is_known s e then root s (place e) else 0xFFFFFFFF

-- whether there is a machine with such a page
abbrev pub has_page : Option Boarded → ℕ → Bool
has_page None page = false
has_page (Some b) page = nat_lt page (length b.machine.ram.pages)

-- whether there is a machine that has a notification of this endpoint pending
abbrev pub is_pending_for : ℕ → Option Boarded → Bool
is_pending_for endpoint None = false
is_pending_for endpoint (Some b) = has_pending (notifications_of b.machine.state) endpoint

-- whether there is a machine that would tell the normal world of an endpoint with notifications pending
abbrev pub is_due_in : Option Boarded → Bool
is_due_in None = false
is_due_in (Some b) = has_notices b.machine.state
