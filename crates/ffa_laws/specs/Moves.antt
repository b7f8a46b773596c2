-- SPDX-License-Identifier: MIT OR Apache-2.0
-- The moves of the runner: a call, and an operation, which is a step.
use Rattle.ffa_model.specs.declared.call.Call as calls
use Rattle.ffa_model.specs.declared.operation.Op.{Op}
use Rattle.ffa_model.specs.declared.operation.Outcome.{Outcome}
use Rattle.ffa_model.specs.State.{State}
use Rattle.ffa_model.specs.Step.{serve, step}
use Rattle.ffa_laws.specs.Events.{call_events, events}
use Rattle.ffa_laws.specs.Move.{Move}
use Rattle.ffa_laws.specs.OwnAccess.{is_call}

abbrev pub by_call : calls.Call → State → Move Outcome
by_call call s =
    record {
      from = s;
      asks = λ test. test call;
      after = (serve s call).state;
      result = (serve s call).outcome;
      told = λ e. call_events e s call;
    }

abbrev pub by_runner : Op → State → Move Outcome
by_runner op s =
    record {
      from = s;
      asks = λ test. is_call test op;
      after = (step s op).state;
      result = (step s op).outcome;
      told = λ e. events e s op;
    }
