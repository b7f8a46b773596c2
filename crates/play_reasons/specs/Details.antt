-- SPDX-License-Identifier: MIT OR Apache-2.0
-- What stands in the line of a reason behind what the check is about: what is to be mended, how that stands, or which values may be
-- there, each in so many digits.
use Rattle.std.specs.Prelude.{ℕ, List, [], ◌++◌, codes, Option, Some, None}
use Rattle.std.specs.Option.{option_map_or}
use Rattle.ffa_model.specs.declared.endpoint.EndpointId.{EndpointId}
use Rattle.ffa_model.specs.declared.schedule.Status.{Status}
use Rattle.ffa_model.specs.declared.schedule.Status.TheVariants.{Running, Waiting, Yielded, Blocked, Preempted, RunsElsewhere}
use Rattle.ffa_playable.specs.declared.detail.Detail.{Detail}
use Rattle.ffa_playable.specs.declared.detail.Detail.TheVariants.{Mend, Standing as Stands, Allowed}
use Rattle.ffa_playable.specs.declared.detail.Standing.{Standing}
use Rattle.ffa_playable.specs.declared.detail.Standing.TheVariants.{RunState}
use Rattle.play_trace.specs.TraceText.{hex}
use Rattle.play_reasons.specs.Mends.{allowed_text, mend_text}

-- a run state by the standard's words, and the machine's own for the two that the standard lacks
abbrev pub status_text : Status → List ℕ
status_text Running = codes ", which is running"
status_text Waiting = codes ", which is waiting"
status_text Yielded = codes ", which has yielded"
status_text Blocked = codes ", which is blocked"
status_text Preempted = codes ", which is preempted"
status_text RunsElsewhere = codes ", which is running on another processor"

-- whose answer it awaits
abbrev pub awaited_text : Option EndpointId → List ℕ
awaited_text None = []
awaited_text (Some e) = codes " by its direct request to " ++ hex 4 e.0

unfoldable pub run_state_text : Status → Option EndpointId → List ℕ
run_state_text status awaits = status_text status ++ awaited_text awaits

abbrev pub standing_text : Standing → List ℕ
standing_text (RunState status awaits) = run_state_text status awaits

abbrev pub detail_text : ℕ → Detail → List ℕ
detail_text digits (Mend mend) = mend_text mend
detail_text digits (Stands standing) = standing_text standing
detail_text digits (Allowed values) = allowed_text digits values

abbrev pub detailed_text : ℕ → Option Detail → List ℕ
detailed_text digits detail = option_map_or (detail_text digits) detail []
