-- SPDX-License-Identifier: MIT OR Apache-2.0
use Rattle.std.proofs.Common.{◌∙◌, ap, refl}
use Rattle.ffa_model.specs.declared.call.Reply.{Reply}
use Rattle.ffa_model.specs.declared.call.Call.TheVariants.{Yield}
use Rattle.ffa_model.specs.Calls.{Stepped, replied}
use Rattle.ffa_spmc.specs.Meaning.{state_of}
use Rattle.ffa_spmc.proofs.Machines.{machine-called}
use Rattle.ffa_model.specs.declared.schedule.Status.TheVariants.{Yielded}
use Rattle.ffa_model.specs.RunStates.{switched, yield_now, Schedule}
use Rattle.ffa_spmc.proofs.Schedules.{scheduled, with_chain}
use Rattle.ffa_model.specs.State.{State}
use Rattle.ffa_spmc.proofs.Answered.{refused-so}
use Rattle.ffa_spmc.proofs.Replied.{refused-replied, replied-beside}
use Rattle.ffa_spmc.proofs.Inside.{parts_of}
use Rattle.ffa_spmc.proofs.manager.Manager.yield_now.Goals as goal

pub invariant_of-self : goal.invariant_of-self
invariant_of-self g c =
    let x = parts_of g.M.PhysMem.ram c.self.inside in
    machine-called x x.ram x.kept.buffers c.yield_now.new.self c.self.invariant c.self.invariant.tables Yield
    (ap (λ (st : Stepped). st.state) (scheduled x (yield_now (state_of x)) (switched x.kept.chain Yielded 0) c.yield_now.new.self c.yield_now.result refl c.yield_now.ensures.refusal c.yield_now.ensures.kept c.yield_now.ensures.changed c.yield_now.ensures.reply))

pub returns : goal.returns
returns g c =
    let x = parts_of g.M.PhysMem.ram c.self.inside in
    replied-beside x (record x { kept = record x.kept { chain = c.yield_now.new.self } }) c.args.self.now c.self.view_is (λ (s : State). yield_now s) c.reply_or_error.result
    (ap (λ (reply : Reply). replied (with_chain x c.yield_now.new.self) reply) c.reply_or_error.ensures
    ∙ scheduled x (yield_now (state_of x)) (switched x.kept.chain Yielded 0) c.yield_now.new.self c.yield_now.result refl c.yield_now.ensures.refusal c.yield_now.ensures.kept c.yield_now.ensures.changed c.yield_now.ensures.reply)
    (refused-replied c.yield_now.result c.reply_or_error.result _ c.reply_or_error.ensures c.yield_now.ensures.reply refl (refused-so c.yield_now.result (ap (λ (chain : Schedule). record x { kept = record x.kept { chain = chain } })) c.yield_now.ensures.kept))
    refl
