-- SPDX-License-Identifier: MIT OR Apache-2.0
-- How that stands which a check is about: the run state of an endpoint that is to wait (DEN0077A, 8.2). And what else a machine tells
-- of a refusal.
use Rattle.std.specs.Prelude.{ℕ, Bool, length, find, Option, Some, None}
use Rattle.std.specs.Option.{option_map}
use Rattle.ffa_mend.specs.declared.allowed.Allowed.{Allowed}
use Rattle.ffa_mend.specs.declared.Mend.{Mend}
use Rattle.ffa_mend.specs.Allowed.{allowed_check, receivers_of}
use Rattle.ffa_mend.specs.Mend.{address_of, call_of, mend_check, mend_fault}
use Rattle.ffa_model.specs.declared.call.Call.{Call}
use Rattle.ffa_model.specs.declared.endpoint.EndpointId.{EndpointId}
use Rattle.ffa_model.specs.declared.operation.Op.{Op}
use Rattle.ffa_model.specs.declared.refusal.Refusal.{Refusal}
use Rattle.ffa_model.specs.declared.refusal.Refusal.TheVariants.{ReceiverNotWaiting, TargetNotReady}
use Rattle.ffa_model.specs.declared.why.About.{About}
use Rattle.ffa_model.specs.declared.why.About.TheVariants.{Endpoint}
use Rattle.ffa_model.specs.declared.why.Why.{Why}
use Rattle.ffa_model.specs.declared.why.Why.TheVariants.{Refused, Fault}
use Rattle.ffa_model.specs.Identifiers.{identifier}
use Rattle.ffa_model.specs.Lists.{listed}
use Rattle.ffa_model.specs.Numbers.{Identifier}
use Rattle.ffa_model.specs.RunStates.{Schedule, is_endpoint, requester, schedule_of, status_in, work_in}
use Rattle.ffa_model.specs.State.{State, version_of}
use Rattle.ffa_playable.specs.declared.detail.Detail.{Detail}
use Rattle.ffa_playable.specs.declared.detail.Detail.TheVariants as details
use Rattle.ffa_playable.specs.declared.detail.Standing.{Standing}
use Rattle.ffa_playable.specs.declared.detail.Standing.TheVariants.{RunState}

-- whether the work of f is a direct request of e, which isn't answered yet
abbrev pub is_asked_by : Schedule → Identifier → Identifier → Bool
is_asked_by schedule e f = is_endpoint e (requester (work_in schedule f))

abbrev pub endpoint_of : Identifier → EndpointId
endpoint_of e = record { 0 = e }

-- the one of these endpoints of which that is so, if it is of one
abbrev pub awaited : ℕ → Schedule → Identifier → Option EndpointId
awaited endpoints schedule e = option_map endpoint_of (find (is_asked_by schedule e) (listed endpoints identifier))

abbrev pub run_state : ℕ → Schedule → Identifier → Standing
run_state endpoints schedule e = RunState (status_in schedule e) (awaited endpoints schedule e)

-- of an endpoint that a check wants to wait
abbrev pub standing_of_endpoint : State → Refusal → Identifier → Option Standing
standing_of_endpoint s ReceiverNotWaiting e = Some (run_state (length s.parties) (schedule_of s) e)
standing_of_endpoint s TargetNotReady e = Some (run_state (length s.parties) (schedule_of s) e)
standing_of_endpoint s refusal e = None

abbrev pub standing_of_check : State → Refusal → Option About → Option Standing
standing_of_check s refusal (Some (Endpoint e)) = standing_of_endpoint s refusal e.0
standing_of_check s refusal about = None

-- that, or what is to be mended, or which values may be there
abbrev pub detail_by : Option Standing → Option Mend → Option Allowed → Option Detail
detail_by (Some its) mend values = Some (details.Standing its)
detail_by None (Some mend) values = Some (details.Mend mend)
detail_by None None values = option_map details.Allowed values

-- of a check of a call
abbrev pub check_detail : State → Call → Refusal → Option About → Option Detail
check_detail s call refusal about =
    detail_by (standing_of_check s refusal about) (mend_check s call refusal about)
    (allowed_check s.ffa (version_of s s.runner) (receivers_of s call) call refusal about)

-- of what an operation is refused for
abbrev pub detail : State → Op → Why → Option Detail
detail s op (Refused refusal about) = check_detail s (call_of op) refusal about
detail s op (Fault kind obstacle) = detail_by None (mend_fault s (address_of op) kind) None
