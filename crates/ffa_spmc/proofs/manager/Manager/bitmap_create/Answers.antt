-- SPDX-License-Identifier: MIT OR Apache-2.0
use Rattle.std.proofs.Common.{◌∙◌, ap, refl}
use Rattle.ffa_model.specs.declared.call.Call.TheVariants.{BitmapCreate}
use Rattle.ffa_model.specs.declared.call.Reply.{Reply}
use Rattle.ffa_model.specs.Calls.{replied}
use Rattle.ffa_model.specs.Notifications.{bitmap_create, Notifications}
use Rattle.ffa_model.specs.State.{State}
use Rattle.ffa_spmc.proofs.Answered.{refused-so}
use Rattle.ffa_spmc.proofs.Replied.{refused-done, replied-beside}
use Rattle.ffa_spmc.specs.Meaning.{Parts}
use Rattle.ffa_spmc.proofs.Inside.{parts_of}
use Rattle.ffa_spmc.proofs.Notified.{created, machine-notified, with_bits}
use Rattle.ffa_spmc.proofs.manager.Manager.bitmap_create.Goals as goal

pub invariant_of-self : goal.invariant_of-self
invariant_of-self g c =
    let x = parts_of g.M.PhysMem.ram c.self.inside in
    (machine-notified x c.self.invariant c.create.new.self _ (BitmapCreate c.args.endpoint c.args.contexts)
    (created x c.self.invariant c.runner-runner.result.0 c.runner-runner.ensures.runner c.create.result c.create.new.self c.args.endpoint c.args.contexts c.create.ensures.refusal c.create.ensures.kept c.create.ensures.created))

pub returns : goal.returns
returns g c =
    let x = parts_of g.M.PhysMem.ram c.self.inside in
    let y : Parts = record x { kept = record x.kept { bitmaps = c.create.new.self } } in
    (replied-beside x y c.args.self.now c.self.view_is (λ (s : State). bitmap_create s c.args.endpoint c.args.contexts) c.done_or_error.result
    (ap (λ (reply : Reply). replied (with_bits x c.create.new.self) reply) c.done_or_error.ensures
    ∙ created x c.self.invariant c.runner-runner.result.0 c.runner-runner.ensures.runner c.create.result c.create.new.self c.args.endpoint c.args.contexts c.create.ensures.refusal c.create.ensures.kept c.create.ensures.created)
    (refused-done c.create.result c.done_or_error.result c.done_or_error.ensures (refused-so c.create.result (ap (λ (bitmaps : Notifications). record x { kept = record x.kept { bitmaps = bitmaps } })) c.create.ensures.kept))
    refl)
