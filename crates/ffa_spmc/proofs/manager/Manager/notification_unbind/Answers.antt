-- SPDX-License-Identifier: MIT OR Apache-2.0
use Rattle.std.proofs.Common.{◌∙◌, ap, refl}
use Rattle.ffa_model.specs.declared.call.Call.TheVariants.{NotificationUnbind}
use Rattle.ffa_model.specs.declared.call.Reply.{Reply}
use Rattle.ffa_model.specs.Calls.{replied}
use Rattle.ffa_model.specs.Notifications.{notification_unbind, Notifications}
use Rattle.ffa_model.specs.State.{State}
use Rattle.ffa_spmc.proofs.Answered.{refused-so}
use Rattle.ffa_spmc.proofs.Replied.{refused-done, replied-beside}
use Rattle.ffa_spmc.specs.Meaning.{Parts}
use Rattle.ffa_spmc.proofs.Inside.{parts_of}
use Rattle.ffa_spmc.proofs.Notified.{unbound, machine-notified, runner-notified, with_bits}
use Rattle.ffa_spmc.proofs.manager.Manager.notification_unbind.Goals as goal

pub unbind-requires : goal.unbind-requires
unbind-requires g c =
    let x = parts_of g.M.PhysMem.ram c.self.inside in
    runner-notified x c.self.invariant c.runner-runner.result.0 c.runner-runner.ensures.runner

pub invariant_of-self : goal.invariant_of-self
invariant_of-self g c =
    let x = parts_of g.M.PhysMem.ram c.self.inside in
    (machine-notified x c.self.invariant c.unbind.new.self _ (NotificationUnbind c.args.bits.now)
    (unbound x c.self.invariant c.runner-runner.result.0 c.runner-runner.ensures.runner c.unbind.result c.unbind.new.self c.args.bits.now c.unbind.ensures.kept c.unbind.ensures.refusal c.unbind.ensures.unbound))

pub returns : goal.returns
returns g c =
    let x = parts_of g.M.PhysMem.ram c.self.inside in
    let y : Parts = record x { kept = record x.kept { bitmaps = c.unbind.new.self } } in
    (replied-beside x y c.args.self.now c.self.view_is (λ (s : State). notification_unbind s c.args.bits.now) c.done_or_error.result
    (ap (λ (reply : Reply). replied (with_bits x c.unbind.new.self) reply) c.done_or_error.ensures
    ∙ unbound x c.self.invariant c.runner-runner.result.0 c.runner-runner.ensures.runner c.unbind.result c.unbind.new.self c.args.bits.now c.unbind.ensures.kept c.unbind.ensures.refusal c.unbind.ensures.unbound)
    (refused-done c.unbind.result c.done_or_error.result c.done_or_error.ensures (refused-so c.unbind.result (ap (λ (bitmaps : Notifications). record x { kept = record x.kept { bitmaps = bitmaps } })) c.unbind.ensures.kept))
    refl)
