-- SPDX-License-Identifier: MIT OR Apache-2.0
use Rattle.std.proofs.Common.{length}
use Rattle.ffa_model.specs.Notifications.{bind_guards}
use Rattle.ffa_model.proofs.Guards.{answers-code, answers-pass}
use Rattle.ffa_notify.proofs.bitmaps.Bitmaps.bind.Goals as goal

pub returns-in_err-check_bind-clause-refusal : goal.returns-in_err-check_bind-clause-refusal
returns-in_err-check_bind-clause-refusal c =
    answers-code (bind_guards (length c.args.self.now.bitmaps) c.args.self.now c.args.caller.0 c.args.bits.now) c.in_err-check_bind.field-0.0 c.from_residual.result c.in_err-check_bind.ensures.refusal c.from_residual.ensures.1

pub returns-clause-refusal : goal.returns-clause-refusal
returns-clause-refusal c = answers-pass (bind_guards (length c.args.self.now.bitmaps) c.args.self.now c.args.caller.0 c.args.bits.now) c.in_ok-check_bind.ensures.refusal

pub returns-clause-bound : goal.returns-clause-bound
returns-clause-bound c = c.bind_bits.ensures
