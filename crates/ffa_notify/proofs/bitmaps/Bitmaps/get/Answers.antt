-- SPDX-License-Identifier: MIT OR Apache-2.0
use Rattle.std.proofs.Common.{rules}
use Rattle.ffa_model.specs.Notifications.{get_guards}
use Rattle.ffa_model.proofs.Guards.{answers-code, answers-pass}
use Rattle.ffa_notify.proofs.bitmaps.Bitmaps.get.Goals as goal

pub returns-in_err-check_get-clause-refusal : goal.returns-in_err-check_get-clause-refusal
returns-in_err-check_get-clause-refusal c =
    answers-code (get_guards c.args.ffa c.args.self.now c.args.caller.0 c.args.receiver.0 c.args.context c.args.flags) c.in_err-check_get.field-0.0 c.from_residual.result c.in_err-check_get.ensures.refusal c.from_residual.ensures.1

pub returns-clause-refusal : goal.returns-clause-refusal
returns-clause-refusal c = answers-pass (get_guards c.args.ffa c.args.self.now c.args.caller.0 c.args.receiver.0 c.args.context c.args.flags) c.in_ok-check_get.ensures.refusal

pub returns-clause-cleared : goal.returns-clause-cleared
returns-clause-cleared c = search rules
