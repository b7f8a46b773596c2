-- SPDX-License-Identifier: MIT OR Apache-2.0
use Rattle.std.proofs.Common.{◌∙◌, ap, refl, sym}
use Rattle.ffa_model.specs.declared.call.Reply.{Reply}
use Rattle.ffa_model.specs.declared.call.Call.TheVariants.{Run}
use Rattle.ffa_model.specs.Calls.{Stepped, replied, first_failure}
use Rattle.ffa_spmc.specs.Meaning.{state_of}
use Rattle.ffa_spmc.proofs.Machines.{machine-called}
use Rattle.std.specs.Prelude.{ℕ}
use Rattle.ffa_model.specs.RunStates.{given_cycles, run_guards, run_partition, status_in, Schedule}
use Rattle.ffa_spmc.proofs.Held.{counted, parties_are}
use Rattle.ffa_spmc.proofs.Schedules.{run-plain, scheduled, with_chain}
use Rattle.ffa_model.specs.State.{State}
use Rattle.ffa_spmc.proofs.Answered.{refused-so}
use Rattle.ffa_spmc.proofs.Replied.{refused-replied, replied-beside}
use Rattle.ffa_spmc.proofs.Inside.{parts_of}
use Rattle.ffa_spmc.proofs.manager.Manager.run_partition.Goals as goal

pub invariant_of-self : goal.invariant_of-self
invariant_of-self g c =
    let x = parts_of g.M.PhysMem.ram c.self.inside in
    machine-called x x.ram x.kept.buffers c.run_partition.new.self c.self.invariant c.self.invariant.tables (Run c.args.target c.args.context)
    (ap (λ (st : Stepped). st.state) (scheduled x (run_partition (state_of x) c.args.target.0 c.args.context) (given_cycles x.kept.chain c.args.target.0 (status_in x.kept.chain c.args.target.0)) c.run_partition.new.self c.run_partition.result refl (c.run_partition.ensures.refusal ∙ ap (λ (n : ℕ). first_failure (run_guards n x.kept.chain c.args.target.0 c.args.context)) (counted x c.self.invariant ∙ sym (parties_are x))) c.run_partition.ensures.kept c.run_partition.ensures.changed c.run_partition.ensures.reply))

pub returns : goal.returns
returns g c =
    let x = parts_of g.M.PhysMem.ram c.self.inside in
    replied-beside x (record x { kept = record x.kept { chain = c.run_partition.new.self } }) c.args.self.now c.self.view_is (λ (s : State). run_partition s c.args.target.0 c.args.context) c.reply_or_error.result
    (ap (λ (reply : Reply). replied (with_chain x c.run_partition.new.self) reply) c.reply_or_error.ensures
    ∙ scheduled x (run_partition (state_of x) c.args.target.0 c.args.context) (given_cycles x.kept.chain c.args.target.0 (status_in x.kept.chain c.args.target.0)) c.run_partition.new.self c.run_partition.result refl (c.run_partition.ensures.refusal ∙ ap (λ (n : ℕ). first_failure (run_guards n x.kept.chain c.args.target.0 c.args.context)) (counted x c.self.invariant ∙ sym (parties_are x))) c.run_partition.ensures.kept c.run_partition.ensures.changed c.run_partition.ensures.reply)
    (refused-replied c.run_partition.result c.reply_or_error.result _ c.reply_or_error.ensures c.run_partition.ensures.reply (run-plain c.args.target.0 (status_in x.kept.chain c.args.target.0)) (refused-so c.run_partition.result (ap (λ (chain : Schedule). record x { kept = record x.kept { chain = chain } })) c.run_partition.ensures.kept))
    refl
