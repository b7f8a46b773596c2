-- SPDX-License-Identifier: MIT OR Apache-2.0
use Rattle.std.proofs.Common.{◌∙◌, ap, length, sym}
use Rattle.ffa_model.specs.AboutContents.{about_bind}
use Rattle.ffa_model.specs.Notifications.{is_bindable}
use Rattle.ffa_model.specs.State.{is_known_among}
use Rattle.ffa_notify.proofs.Least.{least-failing}
use Rattle.ffa_notify.proofs.bitmaps.Bitmaps.about_bind.Goals as goal

pub returns-then-is_among : goal.returns-then-is_among
returns-then-is_among c =
    let n = length c.args.self.now.bitmaps in
    let known = ap (λ m. is_known_among m c.args.sender.0) (sym c.endpoints.ensures.number) ∙ sym c.if-is_among.ensures in
    c.first_of.ensures
    ∙ least-failing (is_known_among n c.args.sender.0) known (is_bindable (length c.args.self.now.bitmaps) c.args.self.now c.args.caller.0 c.args.sender.0) c.args.bitmap c.not_bindable.result c.not_bindable.ensures
    ∙ ap (about_bind n c.args.self.now c.args.caller.0 c.args.sender.0 c.args.bitmap) (sym c.in-BitsTaken.is)
