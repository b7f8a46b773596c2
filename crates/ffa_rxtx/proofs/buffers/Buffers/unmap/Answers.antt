-- SPDX-License-Identifier: MIT OR Apache-2.0
use Rattle.ffa_model.specs.Buffers.{buffers_in, unmap_guards}
use Rattle.ffa_model.proofs.Guards.{answers-code, answers-pass}
use Rattle.ffa_rxtx.proofs.buffers.Buffers.unmap.Goals as goal

pub returns-in_err-check_unmap-clause-refusal : goal.returns-in_err-check_unmap-clause-refusal
returns-in_err-check_unmap-clause-refusal c =
    answers-code (unmap_guards (buffers_in c.args.self.now c.args.caller.0) c.args.endpoint_word) c.in_err-check_unmap.field-0.0 c.from_residual.result c.in_err-check_unmap.ensures.refusal
    c.from_residual.ensures.1

pub returns-clause-refusal : goal.returns-clause-refusal
returns-clause-refusal c = answers-pass (unmap_guards (buffers_in c.args.self.now c.args.caller.0) c.args.endpoint_word) c.in_ok-check_unmap.ensures.refusal
