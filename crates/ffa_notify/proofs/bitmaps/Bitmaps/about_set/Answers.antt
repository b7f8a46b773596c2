-- SPDX-License-Identifier: MIT OR Apache-2.0
use Rattle.std.proofs.Common.{◌∙◌, ap, length, sym}
use Rattle.ffa_model.specs.AboutContents.{about_set}
use Rattle.ffa_model.specs.Notifications.{class_of, is_bound}
use Rattle.ffa_model.specs.State.{is_known_among}
use Rattle.ffa_notify.proofs.Least.{least-failing}
use Rattle.ffa_notify.proofs.bitmaps.Bitmaps.about_set.Goals as goal

pub returns-then-is_among : goal.returns-then-is_among
returns-then-is_among c =
    let n = length c.args.self.now.bitmaps in
    let known = ap (λ m. is_known_among m c.args.receiver.0) (sym c.endpoints.ensures.number) ∙ sym c.if-is_among.ensures in
    c.first_of.ensures
    ∙ least-failing (is_known_among n c.args.receiver.0) known (λ k. is_bound c.args.self.now c.args.receiver.0 (class_of c.args.caller.0) k c.args.caller.0) c.args.bitmap c.not_settable.result c.not_settable.ensures
    ∙ ap (about_set n c.args.self.now c.args.caller.0 c.args.receiver.0 c.args.bitmap) (sym c.in-BitsNotTheCallers.is)
