-- SPDX-License-Identifier: MIT OR Apache-2.0
-- The laws of interrupts, and the moves where partitions may be preempted and where several processors run a machine.
use Rattle.std.specs.Prelude.{◌≡◌, ◌≢◌, ℕ, ◌==◌, true, List, [], ◌++◌, Option, Some, None, if◌then◌else◌}
use Rattle.ffa_model.specs.declared.function.TheConstants.{FFA_INTERRUPT}
use Rattle.ffa_model.specs.declared.operation.Effect.{Effect}
use Rattle.ffa_model.specs.declared.operation.Op.{Op}
use Rattle.ffa_model.specs.declared.schedule.Status.TheVariants.{Blocked, Preempted}
use Rattle.ffa_model.specs.Calls.{Service}
use Rattle.ffa_model.specs.Numbers.{Identifier}
use Rattle.ffa_model.specs.Processors.{Processors, interrupt, interrupt_on, on, resumed_by, runner_on, step_resuming, with_switch}
use Rattle.ffa_model.specs.RunStates.{scheduled}
use Rattle.ffa_model.specs.State.{State, is_known}
use Rattle.ffa_laws.specs.View.{view}
use Rattle.ffa_laws.specs.Events.{Event, apply_all, events, public_change, switches}
use Rattle.ffa_laws.specs.Move.{Move}
use Rattle.ffa_laws.specs.OwnAccess.{is_call}
use Rattle.ffa_laws.specs.Readable.{all_readably, readable}

-- INTERRUPTS

-- an interrupt of a partition, as a call that nothing refuses
abbrev pub interruption : State → Service
interruption s = record { guards = []; state = with_switch s Preempted 0; reply = scheduled FFA_INTERRUPT s.runner }

-- what an interrupt tells e: the normal world sees it, and everyone who runs then
abbrev pub interrupt_events : Identifier → State → List Event
interrupt_events e s = if s.runner == 0 then [] else switches e (interruption s) ++ public_change s (interruption s).state

-- what an operation of another endpoint tells e, where partitions may be preempted: that one goes on is public, and nothing else
abbrev pub effect_events : Identifier → State → Op → Option ℕ → List Event
effect_events e s op None = events e s op
effect_events e s op (Some f) = public_change s (with_switch s Blocked f)

abbrev pub events_resuming : Identifier → State → Op → List Event
events_resuming e s op = effect_events e s op (resumed_by s op)

-- An interrupt: what an endpoint learns is in its events, those of whoever is preempted too, and what is seen of it depends on
-- the view of whoever runs alone.
pub record OneInterrupt (s : State) : Type 0 where
  pub others : (e : ℕ) → view e (interrupt s).state ≡ apply_all e (view e s) (interrupt_events e s)
  pub outcome : (t : State) → view s.runner t ≡ view s.runner s → (interrupt t).outcome ≡ (interrupt s).outcome

-- one operation of the runner where partitions may be preempted
abbrev pub resuming : Op → State → Move Effect
resuming op s =
    record {
      from = s;
      asks = λ test. is_call test op;
      after = (step_resuming s op).state;
      result = (step_resuming s op).effect;
      told = λ e. events_resuming e s op;
    }

-- PROCESSORS

-- what an interrupt that processor p takes tells e: who runs as that processor sees it, and what the interrupt tells
abbrev pub interrupt_events_on : Identifier → Processors → ℕ → State → List Event
interrupt_events_on e processors p s = public_change s (on processors p s) ++ interrupt_events e (on processors p s)

-- on another processor than the current one an endpoint of the machine runs
abbrev pub HasRunner : Processors → ℕ → State → Type 0
HasRunner processors p s = processors.current ≢ p → is_known s (runner_on processors p) ≡ true

-- One operation of processor p: from the state as p sees it, and who runs there is told first.
abbrev pub on_processor : Processors → ℕ → Op → State → Move Effect
on_processor processors p op s =
    record (resuming op (on processors p s)) { told = λ e. public_change s (on processors p s) ++ events_resuming e (on processors p s) op }

-- An interrupt that p takes: what anyone can read changes by what is told, and the outcome depends on what whoever p runs
-- can read.
pub record ConfidentialInterrupt (processors : Processors) (p : ℕ) (s : State) : Type 0 where
  pub outcome : (t : State) → readable (on processors p s).runner t ≡ readable (on processors p s).runner s
      → (interrupt_on processors p t).outcome ≡ (interrupt_on processors p s).outcome
  pub others :
      (e : ℕ) → readable e (interrupt_on processors p s).state
      ≡ apply_all e (readable e s) (all_readably e s (interrupt_events_on e processors p s))
