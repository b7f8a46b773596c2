-- SPDX-License-Identifier: MIT OR Apache-2.0
use Rattle.ffa_model.specs.RunStates.{response_guards}
use Rattle.ffa_model.proofs.Guards.{answers-code, answers-pass}
use Rattle.ffa_messages.proofs.direct.direct_resp.Goals as goal

pub returns-in_err-check_direct_resp-clause-refusal : goal.returns-in_err-check_direct_resp-clause-refusal
returns-in_err-check_direct_resp-clause-refusal c =
    answers-code (response_guards c.args.chain.now c.args.message.now) c.in_err-check_direct_resp.field-0.0 c.from_residual.result c.in_err-check_direct_resp.ensures.refusal c.from_residual.ensures.1

pub returns-clause-refusal : goal.returns-clause-refusal
returns-clause-refusal c = answers-pass (response_guards c.args.chain.now c.args.message.now) c.in_ok-check_direct_resp.ensures.refusal
