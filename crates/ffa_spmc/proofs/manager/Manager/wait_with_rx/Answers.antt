-- SPDX-License-Identifier: MIT OR Apache-2.0
use Rattle.std.proofs.Common.{◌≡◌, ◌∙◌, true, ap, refl}
use Rattle.ffa_model.specs.declared.call.Reply.{Reply}
use Rattle.ffa_model.specs.declared.call.Call.TheVariants.{MsgWait}
use Rattle.ffa_model.specs.Calls.{Stepped, replied}
use Rattle.ffa_model.specs.RunStates.{Schedule, finished, keeps_rx, msg_wait}
use Rattle.ffa_model.specs.State.{State, version_of}
use Rattle.ffa_spmc.specs.Managed.{Managed}
use Rattle.ffa_spmc.specs.Meaning.{state_of}
use Rattle.ffa_spmc.proofs.Answered.{refused-so}
use Rattle.ffa_spmc.proofs.Inside.{parts_of}
use Rattle.ffa_spmc.proofs.Machines.{machine-called}
use Rattle.ffa_spmc.proofs.Replied.{refused-replied, replied-beside}
use Rattle.ffa_spmc.proofs.Schedules.{scheduled, waits-keeping, with_chain}
use Rattle.ffa_spmc.proofs.manager.Manager.wait_with_rx.Goals as goal

pub invariant_of-self : goal.invariant_of-self
invariant_of-self g c =
    let x = parts_of g.M.PhysMem.ram c.self.inside in
    let keeps : keeps_rx (version_of (state_of x) (state_of x).runner) c.args._flags ≡ true = ap (λ (seen : Managed). keeps_rx (version_of seen.state seen.state.runner) c.args._flags) c.self.view_is ∙ c.requires in
    machine-called x x.ram x.kept.buffers c.wait.new.self c.self.invariant c.self.invariant.tables (MsgWait c.args._flags)
    (ap (λ (st : Stepped). st.state) (scheduled x (msg_wait (state_of x) c.args._flags) (finished x.kept.chain 0) c.wait.new.self c.wait.result (waits-keeping x c.args._flags keeps) c.wait.ensures.refusal c.wait.ensures.kept c.wait.ensures.changed c.wait.ensures.reply))

pub returns : goal.returns
returns g c =
    let x = parts_of g.M.PhysMem.ram c.self.inside in
    let keeps : keeps_rx (version_of (state_of x) (state_of x).runner) c.args._flags ≡ true = ap (λ (seen : Managed). keeps_rx (version_of seen.state seen.state.runner) c.args._flags) c.self.view_is ∙ c.requires in
    replied-beside x (record x { kept = record x.kept { chain = c.wait.new.self } }) c.args.self.now c.self.view_is (λ (s : State). msg_wait s c.args._flags) c.reply_or_error.result
    (ap (λ (reply : Reply). replied (with_chain x c.wait.new.self) reply) c.reply_or_error.ensures
    ∙ scheduled x (msg_wait (state_of x) c.args._flags) (finished x.kept.chain 0) c.wait.new.self c.wait.result (waits-keeping x c.args._flags keeps) c.wait.ensures.refusal c.wait.ensures.kept c.wait.ensures.changed c.wait.ensures.reply)
    (refused-replied c.wait.result c.reply_or_error.result _ c.reply_or_error.ensures c.wait.ensures.reply refl (refused-so c.wait.result (ap (λ (chain : Schedule). record x { kept = record x.kept { chain = chain } })) c.wait.ensures.kept))
    refl
