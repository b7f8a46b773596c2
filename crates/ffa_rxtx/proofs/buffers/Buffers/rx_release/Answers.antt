-- SPDX-License-Identifier: MIT OR Apache-2.0
use Rattle.std.proofs.Common.{rules}
use Rattle.ffa_model.specs.Buffers.{buffers_in, release_guards}
use Rattle.ffa_model.proofs.Guards.{answers-code, answers-pass}
use Rattle.ffa_rxtx.proofs.buffers.Buffers.rx_release.Goals as goal

pub returns-in_err-check_release-clause-refusal : goal.returns-in_err-check_release-clause-refusal
returns-in_err-check_release-clause-refusal c =
    answers-code (release_guards (buffers_in c.args.self.now c.args.caller.0)) c.in_err-check_release.field-0.0 c.from_residual.result c.in_err-check_release.ensures.refusal
    c.from_residual.ensures.1

pub returns-clause-refusal : goal.returns-clause-refusal
returns-clause-refusal c = answers-pass (release_guards (buffers_in c.args.self.now c.args.caller.0)) c.in_ok-check_release.ensures.refusal

pub returns-clause-emptied : goal.returns-clause-emptied
returns-clause-emptied c = search rules
