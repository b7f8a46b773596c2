-- SPDX-License-Identifier: MIT OR Apache-2.0
use Rattle.ffa_model.specs.Notifications.{create_guards}
use Rattle.ffa_model.proofs.Guards.{answers-code, answers-pass}
use Rattle.ffa_notify.proofs.bitmaps.Bitmaps.create.Goals as goal

pub returns-in_err-check_create-clause-refusal : goal.returns-in_err-check_create-clause-refusal
returns-in_err-check_create-clause-refusal c =
    answers-code (create_guards c.args.ffa c.args.self.now c.args.caller.0 c.args.endpoint c.args.contexts) c.in_err-check_create.field-0.0 c.from_residual.result c.in_err-check_create.ensures.refusal c.from_residual.ensures.1

pub returns-clause-refusal : goal.returns-clause-refusal
returns-clause-refusal c = answers-pass (create_guards c.args.ffa c.args.self.now c.args.caller.0 c.args.endpoint c.args.contexts) c.in_ok-check_create.ensures.refusal
