-- SPDX-License-Identifier: MIT OR Apache-2.0
use Rattle.std.proofs.Common.{◌∙◌, length}
use Rattle.ffa_model.specs.Bits.{bits_of}
use Rattle.ffa_model.specs.Notifications.{set_guards, with_set}
use Rattle.ffa_model.proofs.Guards.{answers-code, answers-pass}
use Rattle.ffa_notify.proofs.bitmaps.Bitmaps.set.Goals as goal

pub returns-in_err-check_set-clause-refusal : goal.returns-in_err-check_set-clause-refusal
returns-in_err-check_set-clause-refusal c =
    answers-code (set_guards (length c.args.self.now.bitmaps) c.args.self.now c.args.caller.0 c.args.bits.now) c.in_err-check_set.field-0.0 c.from_residual.result c.in_err-check_set.ensures.refusal c.from_residual.ensures.1

pub returns-clause-refusal : goal.returns-clause-refusal
returns-clause-refusal c = answers-pass (set_guards (length c.args.self.now.bitmaps) c.args.self.now c.args.caller.0 c.args.bits.now) c.in_ok-check_set.ensures.refusal

pub returns-clause-pending : goal.returns-clause-pending
returns-clause-pending c =
    c.set_bits.ensures ∙ (λ t. with_set c.args.self.now c.args.bits.now.receiver.0 (c.of.ensures t) (bits_of c.args.bits.now.bitmap))
