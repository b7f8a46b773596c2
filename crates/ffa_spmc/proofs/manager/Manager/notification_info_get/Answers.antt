-- SPDX-License-Identifier: MIT OR Apache-2.0
use Rattle.std.proofs.Common.{◌∙◌, ap, refl}
use Rattle.ffa_model.specs.declared.call.Call.TheVariants.{NotificationInfoGet}
use Rattle.ffa_model.specs.declared.call.Reply.{Reply}
use Rattle.ffa_model.specs.Calls.{replied}
use Rattle.ffa_model.specs.Notices.{notification_info_get}
use Rattle.ffa_model.specs.Notifications.{Notifications}
use Rattle.ffa_model.specs.State.{State}
use Rattle.ffa_model.proofs.Served.{notice-no-error}
use Rattle.ffa_spmc.proofs.Answered.{refused-so}
use Rattle.ffa_spmc.proofs.Replied.{refused-replied, replied-beside}
use Rattle.ffa_spmc.specs.Meaning.{Parts}
use Rattle.ffa_spmc.proofs.Inside.{parts_of}
use Rattle.ffa_spmc.proofs.Notified.{informed, machine-notified, with_bits}
use Rattle.ffa_spmc.proofs.manager.Manager.notification_info_get.Goals as goal

pub invariant_of-self : goal.invariant_of-self
invariant_of-self g c =
    let x = parts_of g.M.PhysMem.ram c.self.inside in
    (machine-notified x c.self.invariant c.info_get.new.self _ (NotificationInfoGet c.args.is_wide)
    (informed x c.self.invariant c.runner-runner.result.0 c.runner-runner.ensures.runner c.info_get.result c.info_get.new.self c.args.is_wide c.info_get.ensures.refusal c.info_get.ensures.reply c.info_get.ensures.kept c.info_get.ensures.told))

pub returns : goal.returns
returns g c =
    let x = parts_of g.M.PhysMem.ram c.self.inside in
    let y : Parts = record x { kept = record x.kept { bitmaps = c.info_get.new.self } } in
    (replied-beside x y c.args.self.now c.self.view_is (λ (s : State). notification_info_get s c.args.is_wide) c.reply_or_error.result
    (ap (λ (reply : Reply). replied (with_bits x c.info_get.new.self) reply) c.reply_or_error.ensures
    ∙ informed x c.self.invariant c.runner-runner.result.0 c.runner-runner.ensures.runner c.info_get.result c.info_get.new.self c.args.is_wide c.info_get.ensures.refusal c.info_get.ensures.reply c.info_get.ensures.kept c.info_get.ensures.told)
    (refused-replied c.info_get.result c.reply_or_error.result _ c.reply_or_error.ensures c.info_get.ensures.reply (notice-no-error _ c.args.is_wide) (refused-so c.info_get.result (ap (λ (bitmaps : Notifications). record x { kept = record x.kept { bitmaps = bitmaps } })) c.info_get.ensures.kept))
    refl)
