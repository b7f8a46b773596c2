-- SPDX-License-Identifier: MIT OR Apache-2.0
use Rattle.std.proofs.Common.{length}
use Rattle.ffa_model.specs.Notices.{notice_guards}
use Rattle.ffa_model.proofs.Guards.{answers-code, answers-pass}
use Rattle.ffa_notify.proofs.bitmaps.Bitmaps.info_get.Goals as goal

pub returns-in_err-check_info-clause-refusal : goal.returns-in_err-check_info-clause-refusal
returns-in_err-check_info-clause-refusal c =
    answers-code (notice_guards c.args.ffa (length c.args.self.now.bitmaps) c.args.self.now c.args.caller.0) c.in_err-check_info.field-0.0 c.from_residual.result c.in_err-check_info.ensures.refusal c.from_residual.ensures.1

pub returns-clause-refusal : goal.returns-clause-refusal
returns-clause-refusal c = answers-pass (notice_guards c.args.ffa (length c.args.self.now.bitmaps) c.args.self.now c.args.caller.0) c.in_ok-check_info.ensures.refusal
