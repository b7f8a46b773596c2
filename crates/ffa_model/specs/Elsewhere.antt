-- SPDX-License-Identifier: MIT OR Apache-2.0
-- One operation of any endpoint, whoever runs: while one processor runs the runner, another may run another endpoint.
use Rattle.std.specs.Prelude.{ℕ, ◌==◌, List, [], ◌∷◌, if◌then◌else◌}
use Rattle.ffa_model.specs.declared.operation.Op.{Op}
use Rattle.ffa_model.specs.declared.operation.Op.TheVariants.{Call}
use Rattle.ffa_model.specs.declared.operation.ErrorCode.TheVariants.{Busy}
use Rattle.ffa_model.specs.declared.operation.Outcome.TheVariants.{Regs}
use Rattle.ffa_model.specs.declared.call.Reply.TheVariants.{Error}
use Rattle.ffa_model.specs.Numbers.{Identifier}
use Rattle.ffa_model.specs.State.{State}
use Rattle.ffa_model.specs.Calls.{Stepped, encode}
use Rattle.ffa_model.specs.Step.{step}

-- the state in which e runs in place of the runner
abbrev pub as_run_by : Identifier → State → State
as_run_by e s = record s { runner = e }

-- who doesn't run is answered BUSY, and nothing changes
abbrev pub busy : Identifier → State → Stepped
busy e s = record { state = s; outcome = Regs (record { 0 = e }) (encode (Error Busy)) }

-- what was done where another runs, with the runner put back
abbrev pub with_runner : ℕ → Stepped → Stepped
with_runner runner done = record done { state = as_run_by runner done.state }

-- an operation of an endpoint that doesn't run: no call is served, and it has access where it would have it if it ran.
-- Its accesses are accesses of the state in which it runs. Loads and stores with the endpoint as an argument would be
-- a second definition, which a proof must compare with the first.
abbrev pub step_elsewhere : State → Identifier → Op → Stepped
step_elsewhere s e (Call x) = busy e s
step_elsewhere s e op = with_runner s.runner (step (as_run_by e s) op)

-- one operation of e
abbrev pub step_as : State → Identifier → Op → Stepped
step_as s e op = if s.runner == e then step s op else step_elsewhere s e op

abbrev pub state_after_as : State → List (ℕ × Op) → State
state_after_as s [] = s
state_after_as s (x ∷ xs) = state_after_as (step_as s x.0 x.1).state xs
