-- SPDX-License-Identifier: MIT OR Apache-2.0
use Rattle.std.proofs.Common.{length}
use Rattle.ffa_model.specs.Notifications.{unbind_guards}
use Rattle.ffa_model.proofs.Guards.{answers-code, answers-pass}
use Rattle.ffa_notify.proofs.bitmaps.Bitmaps.unbind.Goals as goal

pub returns-in_err-check_unbind-clause-refusal : goal.returns-in_err-check_unbind-clause-refusal
returns-in_err-check_unbind-clause-refusal c =
    answers-code (unbind_guards (length c.args.self.now.bitmaps) c.args.self.now c.args.caller.0 c.args.bits.now) c.in_err-check_unbind.field-0.0 c.from_residual.result c.in_err-check_unbind.ensures.refusal c.from_residual.ensures.1

pub returns-clause-refusal : goal.returns-clause-refusal
returns-clause-refusal c = answers-pass (unbind_guards (length c.args.self.now.bitmaps) c.args.self.now c.args.caller.0 c.args.bits.now) c.in_ok-check_unbind.ensures.refusal

pub returns-clause-unbound : goal.returns-clause-unbound
returns-clause-unbound c = c.unbind_bits.ensures
