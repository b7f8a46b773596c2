-- SPDX-License-Identifier: MIT OR Apache-2.0
-- What a trace is played on: a machine that one processor runs alone, where each operation is a step, or one that several
-- processors run, of which one is on turn.
use Rattle.std.specs.Prelude.{ℕ, Bool, false, nat_lt, List, Option, Some, None, is_some, refl, if◌then◌else◌}
use Rattle.std.specs.Option.{option_map}
use Rattle.std.specs.Coded.{Coded, code_by, coded×, coded_ℕ, coded_list, coded_option}
use Rattle.ffa_model.specs.declared.operation.Effect.{Effect}
use Rattle.ffa_model.specs.declared.operation.Effect.TheVariants as effects
use Rattle.ffa_model.specs.declared.operation.Op.{Op}
use Rattle.ffa_model.specs.declared.operation.Outcome.{Outcome}
use Rattle.ffa_model.specs.declared.operation.Outcome.TheVariants.{Done}
use Rattle.ffa_model.specs.declared.why.Why.{Why}
use Rattle.ffa_model.specs.Calls.{Stepped}
use Rattle.ffa_model.specs.Codes.{coded_state}
use Rattle.ffa_model.specs.Processors.{Effected, Processors, first_processors, interrupt, on, resumed_by, step_resuming, turned}
use Rattle.ffa_model.specs.Refusals.{is_refusal}
use Rattle.ffa_model.specs.State.{State}
use Rattle.ffa_model.specs.Step.{step}
use Rattle.ffa_model.specs.Why.{why}

-- the processors that run a machine, of which a trace names so many, from 0 on
pub record Several : Type 0 where
  pub count : ℕ
  pub processors : Processors

-- the machine's state as the processor on turn sees it, and the processors, where there are several
pub record Bench : Type 0 where
  pub state : State
  pub several : Option Several

abbrev pub coded_processors : Coded Processors
coded_processors =
    code_by (ℕ × List ℕ) (coded× coded_ℕ (coded_list coded_ℕ)) (λ c. (c.current, c.runners))
    (λ p. record { current = p.0; runners = p.1 }) (λ _. refl)

abbrev pub coded_several : Coded Several
coded_several =
    code_by (ℕ × Processors) (coded× coded_ℕ coded_processors) (λ x. (x.count, x.processors))
    (λ p. record { count = p.0; processors = p.1 }) (λ _. refl)

abbrev pub coded_bench : Coded Bench
coded_bench =
    code_by (State × Option Several) (coded× coded_state (coded_option coded_several)) (λ b. (b.state, b.several))
    (λ p. record { state = p.0; several = p.1 }) (λ _. refl)

-- a machine in this state that one processor runs alone
abbrev pub alone : State → Bench
alone s = record { state = s; several = None }

-- and one that so many run, of which the first is on turn, and on all others the normal world runs
abbrev pub run_by : ℕ → State → Bench
run_by count s = record { state = s; several = Some (record { count = count; processors = first_processors }) }

-- how many processors a trace may name
abbrev pub processors_of : Bench → Option ℕ
processors_of b = option_map (λ (x : Several). x.count) b.several

-- AN OPERATION of whoever runs on the processor on turn

abbrev pub operated_by : Option Several → State → Op → Effected
operated_by None s op = record { state = (step s op).state; effect = effects.Outcome (step s op).outcome }
operated_by (Some x) s op = step_resuming s op

abbrev pub operated : Bench → Op → Effected
operated b op = operated_by b.several b.state op

abbrev pub effect_of : Bench → Op → Effect
effect_of b op = (operated b op).effect

abbrev pub after_op : Bench → Op → Bench
after_op b op = record b { state = (operated b op).state }

-- why it is refused, if it is: not where it lets a preempted partition go on
abbrev pub resumes_by : Option Several → State → Op → Bool
resumes_by None s op = false
resumes_by (Some x) s op = is_some (resumed_by s op)

abbrev pub why_of : Bench → Op → Option Why
why_of b op = if resumes_by b.several b.state op then None else why b.state op

abbrev pub is_refused : Effect → Bool
is_refused (effects.Outcome outcome) = is_refusal outcome
is_refused (effects.Resumed e) = false

-- whether a check or a fault refuses it
abbrev pub refuses : Bench → Op → Bool
refuses b op = is_refused (effect_of b op)

-- A TURN, AND AN INTERRUPT, where several processors run the machine

-- another of them is on turn
abbrev pub turned_by : Option Several → State → ℕ → Bench
turned_by None s p = alone s
turned_by (Some x) s p =
    if nat_lt p x.count
    then record { state = on x.processors p s; several = Some (record x { processors = turned x.processors p s }) }
    else record { state = s; several = Some x }

abbrev pub turned_to : Bench → ℕ → Bench
turned_to b p = turned_by b.several b.state p

-- the one on turn takes an interrupt
abbrev pub interrupted_by : Option Several → State → Stepped
interrupted_by None s = record { state = s; outcome = Done }
interrupted_by (Some several) s = interrupt s

abbrev pub outcome_of_interrupt : Bench → Outcome
outcome_of_interrupt b = (interrupted_by b.several b.state).outcome

abbrev pub after_interrupt : Bench → Bench
after_interrupt b = record b { state = (interrupted_by b.several b.state).state }
