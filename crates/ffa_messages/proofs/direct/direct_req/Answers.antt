-- SPDX-License-Identifier: MIT OR Apache-2.0
use Rattle.std.proofs.Common.{map, rules}
use Rattle.ffa_model.specs.First.{party_of}
use Rattle.ffa_model.specs.RunStates.{request_guards}
use Rattle.ffa_model.proofs.Guards.{answers-code, answers-pass}
use Rattle.ffa_messages.proofs.direct.direct_req.Goals as goal

pub returns-in_err-receiver-clause-refusal : goal.returns-in_err-receiver-clause-refusal
returns-in_err-receiver-clause-refusal c =
    answers-code (request_guards (map party_of c.args.manifest.now.endpoints.items) c.args.chain.now c.args.message.now) c.in_err-receiver.field-0.0 c.from_residual.result c.in_err-receiver.ensures.refusal c.from_residual.ensures.1

pub returns-clause-refusal : goal.returns-clause-refusal
returns-clause-refusal c =
    answers-pass (request_guards (map party_of c.args.manifest.now.endpoints.items) c.args.chain.now c.args.message.now) c.in_ok-receiver.ensures.refusal

pub returns-clause-changed : goal.returns-clause-changed
returns-clause-changed c = search rules
