-- SPDX-License-Identifier: MIT OR Apache-2.0
use Rattle.std.proofs.Common.{◌∙◌, ap, refl}
use Rattle.ffa_model.specs.declared.call.Reply.{Reply}
use Rattle.ffa_model.specs.declared.call.Call.TheVariants.{DirectRequest}
use Rattle.ffa_model.specs.Calls.{Stepped, replied, first_failure}
use Rattle.ffa_spmc.specs.Meaning.{Parts, state_of}
use Rattle.ffa_spmc.proofs.Machines.{machine-called}
use Rattle.std.specs.Prelude.{List}
use Rattle.ffa_model.specs.RunStates.{direct_request, request_guards, requested, Schedule}
use Rattle.ffa_model.specs.State.{Party, State}
use Rattle.ffa_spmc.proofs.Held.{counted, parties-listed}
use Rattle.ffa_spmc.proofs.Schedules.{scheduled-message, with_chain}
use Rattle.ffa_spmc.proofs.Answered.{refused-so}
use Rattle.ffa_spmc.proofs.Replied.{refused-message, replied-beside}
use Rattle.ffa_spmc.proofs.Inside.{parts_of}
use Rattle.ffa_spmc.proofs.manager.Manager.direct_request.Goals as goal

pub invariant_of-self : goal.invariant_of-self
invariant_of-self g c =
    let x = parts_of g.M.PhysMem.ram c.self.inside in
    (machine-called x x.ram x.kept.buffers c.direct_req-answer.new.chain c.self.invariant c.self.invariant.tables (DirectRequest c.args.message.now)
    (ap (λ (st : Stepped). st.state) (scheduled-message x c.args.message.now (direct_request (state_of x) c.args.message.now) (requested x.kept.chain c.args.message.now.receiver.0) c.direct_req-answer.new.chain c.direct_req-answer.result refl refl (c.direct_req-answer.ensures.refusal ∙ ap (λ (parties : List Party). first_failure (request_guards parties x.kept.chain c.args.message.now)) (parties-listed x)) c.direct_req-answer.ensures.kept c.direct_req-answer.ensures.changed)))

pub returns : goal.returns
returns g c =
    let x = parts_of g.M.PhysMem.ram c.self.inside in
    let y : Parts = record x { kept = record x.kept { chain = c.direct_req-answer.new.chain } } in
    (replied-beside x y c.args.self.now c.self.view_is (λ (s : State). direct_request s c.args.message.now) c.message_or_error.result
    (ap (λ (reply : Reply). replied (with_chain x c.direct_req-answer.new.chain) reply) c.message_or_error.ensures
    ∙ scheduled-message x c.args.message.now (direct_request (state_of x) c.args.message.now) (requested x.kept.chain c.args.message.now.receiver.0) c.direct_req-answer.new.chain c.direct_req-answer.result refl refl (c.direct_req-answer.ensures.refusal ∙ ap (λ (parties : List Party). first_failure (request_guards parties x.kept.chain c.args.message.now)) (parties-listed x)) c.direct_req-answer.ensures.kept c.direct_req-answer.ensures.changed)
    (refused-message c.args.message.now c.direct_req-answer.result c.message_or_error.result c.message_or_error.ensures c.requires (refused-so c.direct_req-answer.result (ap (λ (chain : Schedule). record x { kept = record x.kept { chain = chain } })) c.direct_req-answer.ensures.kept))
    refl)

pub direct_req-answer-requires : goal.direct_req-answer-requires
direct_req-answer-requires g c =
    let x = parts_of g.M.PhysMem.ram c.self.inside in
    record { endpoints = counted x c.self.invariant }
