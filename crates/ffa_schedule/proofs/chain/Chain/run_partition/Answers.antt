-- SPDX-License-Identifier: MIT OR Apache-2.0
use Rattle.std.proofs.Common.{◌≡◌, ◌∙◌, None, ap, inr, length, sym, eqb-true}
use Rattle.ffa_model.specs.declared.schedule.Status.TheVariants.{Yielded}
use Rattle.ffa_model.specs.Calls.{first_failure}
use Rattle.ffa_model.specs.RunStates.{given_cycles, is_stopped, run_guards, run_reply, status_in}
use Rattle.ffa_model.proofs.Guards.{answers-pass, guard-passes}
use Rattle.ffa_schedule.proofs.Steps.{has-yielded}
use Rattle.ffa_schedule.proofs.chain.Chain.run_partition.Goals as goal

pub switch-requires : goal.switch-requires
switch-requires c =
    let guards = run_guards (length c.args.self.now.works) c.args.self.now c.args.target.0 c.args.context in
    let passes : None ≡ first_failure guards = answers-pass guards c.in_ok-check_run.ensures.refusal in
    let yields : status_in c.args.self.now c.args.target.0 ≡ Yielded =
    has-yielded (status_in c.args.self.now c.args.target.0) (guard-passes guards 3 passes) (λ waiting. c.in_default.not-Waiting (c.status.ensures ∙ waiting)) in
    record {
      stops = eqb-true c.args.self.now.runner 0 (guard-passes guards 0 passes);
      goes = inr (record { partition = guard-passes guards 1 passes; stopped = ap is_stopped yields });
    }

pub returns-in_default : goal.returns-in_default
returns-in_default c =
    let guards = run_guards (length c.args.self.now.works) c.args.self.now c.args.target.0 c.args.context in
    let passes : None ≡ first_failure guards = answers-pass guards c.in_ok-check_run.ensures.refusal in
    let yields : status_in c.args.self.now c.args.target.0 ≡ Yielded =
    has-yielded (status_in c.args.self.now c.args.target.0) (guard-passes guards 3 passes) (λ waiting. c.in_default.not-Waiting (c.status.ensures ∙ waiting)) in
    record {
      refusal = passes;
      reply = sym (ap (run_reply c.args.target.0) yields);
      kept = tt;
      changed = c.switch.ensures.changed ∙ sym (ap (given_cycles c.args.self.now c.args.target.0) yields);
      sound = c.switch.ensures.sound;
    }
