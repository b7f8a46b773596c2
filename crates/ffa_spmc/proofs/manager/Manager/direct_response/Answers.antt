-- SPDX-License-Identifier: MIT OR Apache-2.0
use Rattle.std.proofs.Common.{◌∙◌, ap, refl}
use Rattle.ffa_model.specs.declared.call.Reply.{Reply}
use Rattle.ffa_model.specs.declared.call.Call.TheVariants.{DirectResponse}
use Rattle.ffa_model.specs.Calls.{Stepped, replied}
use Rattle.ffa_spmc.specs.Meaning.{state_of}
use Rattle.ffa_spmc.proofs.Machines.{machine-called}
use Rattle.ffa_model.specs.RunStates.{direct_response, finished, Schedule}
use Rattle.ffa_spmc.proofs.Schedules.{scheduled-message, with_chain}
use Rattle.ffa_model.specs.State.{State}
use Rattle.ffa_spmc.proofs.Answered.{refused-so}
use Rattle.ffa_spmc.proofs.Replied.{refused-message, replied-beside}
use Rattle.ffa_spmc.proofs.Inside.{parts_of}
use Rattle.ffa_spmc.proofs.manager.Manager.direct_response.Goals as goal

pub invariant_of-self : goal.invariant_of-self
invariant_of-self g c =
    let x = parts_of g.M.PhysMem.ram c.self.inside in
    machine-called x x.ram x.kept.buffers c.direct_resp.new.chain c.self.invariant c.self.invariant.tables (DirectResponse c.args.message.now)
    (ap (λ (st : Stepped). st.state) (scheduled-message x c.args.message.now (direct_response (state_of x) c.args.message.now) (finished x.kept.chain c.args.message.now.receiver.0) c.direct_resp.new.chain c.direct_resp.result refl refl c.direct_resp.ensures.refusal c.direct_resp.ensures.kept c.direct_resp.ensures.changed))

pub returns : goal.returns
returns g c =
    let x = parts_of g.M.PhysMem.ram c.self.inside in
    replied-beside x (record x { kept = record x.kept { chain = c.direct_resp.new.chain } }) c.args.self.now c.self.view_is (λ (s : State). direct_response s c.args.message.now) c.message_or_error.result
    (ap (λ (reply : Reply). replied (with_chain x c.direct_resp.new.chain) reply) c.message_or_error.ensures
    ∙ scheduled-message x c.args.message.now (direct_response (state_of x) c.args.message.now) (finished x.kept.chain c.args.message.now.receiver.0) c.direct_resp.new.chain c.direct_resp.result refl refl c.direct_resp.ensures.refusal c.direct_resp.ensures.kept c.direct_resp.ensures.changed)
    (refused-message c.args.message.now c.direct_resp.result c.message_or_error.result c.message_or_error.ensures c.requires (refused-so c.direct_resp.result (ap (λ (chain : Schedule). record x { kept = record x.kept { chain = chain } })) c.direct_resp.ensures.kept))
    refl
