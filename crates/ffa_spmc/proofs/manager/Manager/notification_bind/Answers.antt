-- SPDX-License-Identifier: MIT OR Apache-2.0
use Rattle.std.proofs.Common.{◌∙◌, ap, refl}
use Rattle.ffa_model.specs.declared.call.Call.TheVariants.{NotificationBind}
use Rattle.ffa_model.specs.declared.call.Reply.{Reply}
use Rattle.ffa_model.specs.Calls.{replied}
use Rattle.ffa_model.specs.Notifications.{notification_bind, Notifications}
use Rattle.ffa_model.specs.State.{State}
use Rattle.ffa_spmc.proofs.Answered.{refused-so}
use Rattle.ffa_spmc.proofs.Replied.{refused-done, replied-beside}
use Rattle.ffa_spmc.specs.Meaning.{Parts}
use Rattle.ffa_spmc.proofs.Inside.{parts_of}
use Rattle.ffa_spmc.proofs.Notified.{bound, machine-notified, runner-notified, with_bits}
use Rattle.ffa_spmc.proofs.manager.Manager.notification_bind.Goals as goal

pub bind-requires : goal.bind-requires
bind-requires g c =
    let x = parts_of g.M.PhysMem.ram c.self.inside in
    runner-notified x c.self.invariant c.runner-runner.result.0 c.runner-runner.ensures.runner

pub invariant_of-self : goal.invariant_of-self
invariant_of-self g c =
    let x = parts_of g.M.PhysMem.ram c.self.inside in
    (machine-notified x c.self.invariant c.bind.new.self _ (NotificationBind c.args.bits.now)
    (bound x c.self.invariant c.runner-runner.result.0 c.runner-runner.ensures.runner c.bind.result c.bind.new.self c.args.bits.now c.bind.ensures.kept c.bind.ensures.refusal c.bind.ensures.bound))

pub returns : goal.returns
returns g c =
    let x = parts_of g.M.PhysMem.ram c.self.inside in
    let y : Parts = record x { kept = record x.kept { bitmaps = c.bind.new.self } } in
    (replied-beside x y c.args.self.now c.self.view_is (λ (s : State). notification_bind s c.args.bits.now) c.done_or_error.result
    (ap (λ (reply : Reply). replied (with_bits x c.bind.new.self) reply) c.done_or_error.ensures
    ∙ bound x c.self.invariant c.runner-runner.result.0 c.runner-runner.ensures.runner c.bind.result c.bind.new.self c.args.bits.now c.bind.ensures.kept c.bind.ensures.refusal c.bind.ensures.bound)
    (refused-done c.bind.result c.done_or_error.result c.done_or_error.ensures (refused-so c.bind.result (ap (λ (bitmaps : Notifications). record x { kept = record x.kept { bitmaps = bitmaps } })) c.bind.ensures.kept))
    refl)
