-- SPDX-License-Identifier: MIT OR Apache-2.0
-- One operation of any endpoint, whoever runs.
use Rattle.std.specs.Prelude.{◌==◌, ◌&&◌, List, [], if◌then◌else◌}
use Rattle.ffa_model.specs.declared.operation.Op.{Op}
use Rattle.ffa_model.specs.declared.operation.Op.TheVariants.{Call}
use Rattle.ffa_model.specs.declared.operation.Outcome.{Outcome}
use Rattle.ffa_model.specs.Numbers.{Identifier}
use Rattle.ffa_model.specs.State.{State}
use Rattle.ffa_model.specs.Elsewhere.{as_run_by, step_as}
use Rattle.ffa_laws.specs.Events.{Event, events}
use Rattle.ffa_laws.specs.Move.{Move}
use Rattle.ffa_laws.specs.OwnAccess.{is_call}

-- what an operation of e, which doesn't run, tells f: a call nothing, and an access what it tells where e runs
abbrev pub events_elsewhere : Identifier → State → Identifier → Op → List Event
events_elsewhere f s e (Call x) = []
events_elsewhere f s e op = events f (as_run_by e s) op

-- what an operation of e tells f
abbrev pub events_as : Identifier → State → Identifier → Op → List Event
events_as f s e op = if s.runner == e then events f s op else events_elsewhere f s e op

-- One operation of e, who is served a call only where it runs.
abbrev pub by : Identifier → Op → State → Move Outcome
by e op s =
    record {
      from = as_run_by e s;
      asks = λ test. s.runner == e && is_call test op;
      after = (step_as s e op).state;
      result = (step_as s e op).outcome;
      told = λ f. events_as f s e op;
    }
