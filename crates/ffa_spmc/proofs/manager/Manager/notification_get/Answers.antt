-- SPDX-License-Identifier: MIT OR Apache-2.0
use Rattle.std.proofs.Common.{◌∙◌, ap, refl}
use Rattle.ffa_model.specs.declared.call.Call.TheVariants.{NotificationGet}
use Rattle.ffa_model.specs.declared.call.Reply.{Reply}
use Rattle.ffa_model.specs.Calls.{replied}
use Rattle.ffa_model.specs.Notifications.{notification_get, Notifications}
use Rattle.ffa_model.specs.State.{State}
use Rattle.ffa_spmc.proofs.Answered.{refused-so}
use Rattle.ffa_spmc.proofs.Replied.{refused-replied, replied-beside}
use Rattle.ffa_spmc.specs.Meaning.{Parts}
use Rattle.ffa_spmc.proofs.Inside.{parts_of}
use Rattle.ffa_spmc.proofs.Notified.{got, machine-notified, runner-notified, with_bits}
use Rattle.ffa_spmc.proofs.manager.Manager.notification_get.Goals as goal

pub get-requires : goal.get-requires
get-requires g c =
    let x = parts_of g.M.PhysMem.ram c.self.inside in
    runner-notified x c.self.invariant c.runner-runner.result.0 c.runner-runner.ensures.runner

pub invariant_of-self : goal.invariant_of-self
invariant_of-self g c =
    let x = parts_of g.M.PhysMem.ram c.self.inside in
    (machine-notified x c.self.invariant c.get.new.self _ (NotificationGet c.args.receiver c.args.context c.args.flags)
    (got x c.self.invariant c.runner-runner.result.0 c.runner-runner.ensures.runner c.get.result c.get.new.self c.args.receiver.0 c.args.context c.args.flags c.get.ensures.refusal c.get.ensures.reply c.get.ensures.kept c.get.ensures.cleared))

pub returns : goal.returns
returns g c =
    let x = parts_of g.M.PhysMem.ram c.self.inside in
    let y : Parts = record x { kept = record x.kept { bitmaps = c.get.new.self } } in
    (replied-beside x y c.args.self.now c.self.view_is (λ (s : State). notification_get s c.args.receiver.0 c.args.context c.args.flags) c.reply_or_error.result
    (ap (λ (reply : Reply). replied (with_bits x c.get.new.self) reply) c.reply_or_error.ensures
    ∙ got x c.self.invariant c.runner-runner.result.0 c.runner-runner.ensures.runner c.get.result c.get.new.self c.args.receiver.0 c.args.context c.args.flags c.get.ensures.refusal c.get.ensures.reply c.get.ensures.kept c.get.ensures.cleared)
    (refused-replied c.get.result c.reply_or_error.result _ c.reply_or_error.ensures c.get.ensures.reply refl (refused-so c.get.result (ap (λ (bitmaps : Notifications). record x { kept = record x.kept { bitmaps = bitmaps } })) c.get.ensures.kept))
    refl)
