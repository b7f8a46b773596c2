-- SPDX-License-Identifier: MIT OR Apache-2.0
-- What C is told of why an operation is refused.
use Rattle.std.specs.Prelude.{ℕ, ◌+◌, ◌&&◌, pos, Bool, false, not, Option, None, Some, is_some, if◌then◌else◌}
use Rattle.std.specs.Int.{cast_signed, w32}
use Rattle.std.specs.Option.{option_and_then, option_map}
use denote.Enum.Declared.{tag_of}
use Rattle.ffa_model.specs.Calls.{code_number}
use Rattle.ffa_model.specs.RefusalCodes.{code_of}
use Rattle.ffa_model.specs.Processors.{resumed_by, step_resuming}
use Rattle.ffa_model.specs.State.{State}
use Rattle.ffa_model.specs.Why.{why}
use Rattle.ffa_model.specs.contracts.flaw.AccessFlaw as access_flaw
use Rattle.ffa_model.specs.contracts.flaw.CompositeFlaw as composite_flaw
use Rattle.ffa_model.specs.contracts.flaw.HeaderFlaw as header_flaw
use Rattle.ffa_model.specs.contracts.flaw.RangeFlaw as range_flaw
use Rattle.ffa_model.specs.contracts.flaw.RelinquishFlaw as relinquish_flaw
use Rattle.ffa_model.specs.contracts.flaw.RetrieveFlaw as retrieve_flaw
use Rattle.ffa_model.specs.contracts.flaw.SendFlaw as send_flaw
use Rattle.ffa_model.specs.contracts.refusal.Refusal as refusals
use Rattle.ffa_model.specs.declared.endpoint.EndpointId.{EndpointId}
use Rattle.ffa_model.specs.declared.flaw.FieldPlace.{FieldPlace}
use Rattle.ffa_model.specs.declared.flaw.Flaw.{Flaw}
use Rattle.ffa_model.specs.declared.flaw.Flaw.TheVariants.{Header, Send, Access, Composite, Range, Retrieve, Relinquish}
use Rattle.ffa_model.specs.declared.limits.TheConstants.{MOST_PROCESSORS}
use Rattle.ffa_model.specs.declared.operation.Op.{Op}
use Rattle.ffa_model.specs.declared.operation.Size.{Size}
use Rattle.ffa_model.specs.declared.refusal.Refusal.{Refusal}
use Rattle.ffa_model.specs.declared.schedule.Status.{Status}
use Rattle.ffa_model.specs.declared.schedule.Status.TheVariants.{Running, Waiting, Yielded, Blocked, Preempted, RunsElsewhere}
use Rattle.ffa_model.specs.declared.why.About.{About}
use Rattle.ffa_model.specs.declared.why.About.TheVariants.{Page, Endpoint, Handle, Register, Bit, Field}
use Rattle.ffa_model.specs.declared.why.Obstacle.{Obstacle}
use Rattle.ffa_model.specs.declared.why.Obstacle.TheVariants.{OutsideRam, ManagersPage, OwnedBy, InTransaction}
use Rattle.ffa_model.specs.declared.why.Why.{Why}
use Rattle.ffa_model.specs.declared.why.Why.TheVariants.{Refused, Fault}
use Rattle.ffa_playable.specs.Bench.{is_refused as does_refuse}
use Rattle.ffa_playable.specs.declared.detail.Detail.{Detail}
use Rattle.ffa_playable.specs.declared.detail.Detail.TheVariants.{Standing, Allowed, Mend}
use Rattle.ffa_playable.specs.declared.detail.Standing.TheVariants.{RunState}
use Rattle.ffa_playable.specs.Standing.{detail}
use Rattle.ffa_c.specs.Boarded.{Boarded}
use Rattle.ffa_c.specs.Border.{fault_number, size_at}
use Rattle.ffa_c.specs.Hints.{hint_told, no_hint}
use Rattle.ffa_c.specs.declared.reason.CReason.{CReason}

-- an operation of so many bytes, where those are a size
abbrev pub sized : ℕ → (Size → Op) → Option Op
sized bytes op = option_map op (size_at bytes)

-- whether a machine would refuse an operation to its runner, and why: not where that lets a preempted partition go on
abbrev pub refuses : State → Op → Bool
refuses s op = does_refuse (step_resuming s op).effect

abbrev pub why_here : State → Op → Option Why
why_here s op = if is_some (resumed_by s op) then None else why s op

-- whether there are a machine and an operation, which that would refuse
abbrev pub is_refused : Option Boarded → Option Op → Bool
is_refused None op = false
is_refused (Some b) None = false
is_refused (Some b) (Some op) = refuses b.machine.state op

-- why it would
abbrev pub why_held : Option Boarded → Option Op → Option Why
why_held None op = None
why_held (Some b) None = None
why_held (Some b) (Some op) = why_here b.machine.state op

abbrev pub no_reason : CReason
no_reason =
    record {
      fault = 0;
      check = 0;
      error = pos 0;
      about = 0;
      obstacle = 0;
      page = 0;
      endpoint = 0;
      owner = 0;
      number = 0;
      flaw = 0;
      index = 0;
      has_value = 0;
      state = 0;
      awaits = 0;
      handle = 0;
      transaction = 0;
      value = 0;
      first = 0;
      size = 0;
      least = 0;
      most = 0;
      step = 0;
      hint = no_hint;
    }

-- what stands in the way
abbrev pub obstacle_told : Option Obstacle → CReason → CReason
obstacle_told None r = r
obstacle_told (Some OutsideRam) r = record r { obstacle = 1 }
obstacle_told (Some ManagersPage) r = record r { obstacle = 2 }
obstacle_told (Some (OwnedBy owner)) r = record r { obstacle = 3; owner = owner.0 }
obstacle_told (Some (InTransaction handle)) r = record r { obstacle = 4; transaction = handle }

-- a number in a register or in a field, if it is told
abbrev pub value_told : Option ℕ → CReason → CReason
value_told None r = r
value_told (Some value) r = record r { has_value = 1; value = value }

-- The number of a condition of a descriptor: those of all parts are counted through from 1, part behind part in the
-- order of `Flaw`, and each part's in the order of its variants.
abbrev pub flaw_number : Flaw → ℕ
flaw_number (Header flaw) = 1 + tag_of header_flaw.the_type flaw
flaw_number (Send flaw) = 7 + tag_of send_flaw.the_type flaw
flaw_number (Access index flaw) = 12 + tag_of access_flaw.the_type flaw
flaw_number (Composite flaw) = 18 + tag_of composite_flaw.the_type flaw
flaw_number (Range index flaw) = 26 + tag_of range_flaw.the_type flaw
flaw_number (Retrieve index flaw) = 31 + tag_of retrieve_flaw.the_type flaw
flaw_number (Relinquish flaw) = 42 + tag_of relinquish_flaw.the_type flaw

-- the index of the access descriptor or of the range that breaks it
abbrev pub index_in : Flaw → ℕ
index_in (Access index flaw) = index
index_in (Range index flaw) = index
index_in (Retrieve index flaw) = index
index_in flaw = 0

-- the condition, and where its field stands
abbrev pub field_told : Flaw → FieldPlace → CReason → CReason
field_told flaw place r =
    record r { flaw = flaw_number flaw; index = index_in flaw; first = place.first; size = place.size }

-- what a check is about, if anything
abbrev pub about_told : Option About → CReason → CReason
about_told None r = r
about_told (Some (Page page obstacle)) r = obstacle_told obstacle (record r { about = 1; page = page.0 })
about_told (Some (Endpoint endpoint)) r = record r { about = 2; endpoint = endpoint.0 }
about_told (Some (Handle handle)) r = record r { about = 3; handle = handle }
about_told (Some (Register number value)) r = value_told (Some value) (record r { about = 4; number = number })
about_told (Some (Bit number)) r = record r { about = 5; number = number }
about_told (Some (Field flaw place value)) r = value_told value (field_told flaw place (record r { about = 6 }))

-- the number of a check, counted from 1 in the order of the variants of `Refusal`
abbrev pub check_number : Refusal → ℕ
check_number refusal = tag_of refusals.the_type refusal + 1

-- a check that fails is told with the code that its call answers in w2, as a signed number
abbrev pub check_told : Refusal → CReason
check_told refusal =
    record no_reason { check = check_number refusal; error = cast_signed w32 (code_number (code_of refusal)) }

-- why an operation is refused: what is not told is 0
abbrev pub refused_told : Why → CReason
refused_told (Refused refusal about) = about_told about (check_told refusal)
refused_told (Fault kind obstacle) = obstacle_told obstacle (record no_reason { fault = fault_number kind })

-- the number of a run state
abbrev pub state_number : Status → ℕ
state_number Running = 1
state_number Waiting = 2
state_number Yielded = 3
state_number Blocked = 4
state_number Preempted = 5
state_number RunsElsewhere = 6

-- whose answer an endpoint awaits: the normal world's never, since it gets no requests
abbrev pub awaited_told : Option EndpointId → CReason → CReason
awaited_told None r = r
awaited_told (Some e) r = record r { awaits = e.0 }

-- how that stands which a check is about, or which values may be there instead, whose step is never 0, or what to change
abbrev pub detail_told : Option Detail → CReason → CReason
detail_told (Some (Standing (RunState status awaits))) r = awaited_told awaits (record r { state = state_number status })
detail_told (Some (Allowed its)) r = record r { least = its.least; most = its.most; step = its.step }
detail_told (Some (Mend mend)) r = record r { hint = hint_told mend }
detail_told None r = r

abbrev pub reason_told : Why → Option Detail → CReason
reason_told why its = detail_told its (refused_told why)

-- in the state of the machine, if there is one
abbrev pub detail_held : Option Boarded → Option Op → Why → Option Detail
detail_held held None why = None
detail_held held (Some op) why = option_and_then (λ (b : Boarded). detail b.machine.state op why) held

abbrev pub reason_held : Option Boarded → Option Op → Why → CReason
reason_held held op why = reason_told why (detail_held held op why)
