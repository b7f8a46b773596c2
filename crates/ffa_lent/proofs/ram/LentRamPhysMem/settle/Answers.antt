-- SPDX-License-Identifier: MIT OR Apache-2.0
use Rattle.std.proofs.Common.{◌∙◌, ap, refl}
use Rattle.ffa_model.specs.Lists.{is_in_run}
use Rattle.ffa_physmem.proofs.Moments.{beside-same}
use Rattle.ffa_lent.specs.Beneath.{went-back}
use Rattle.ffa_lent.specs.LentRam.{ram_of}
use Rattle.ffa_lent.specs.Memory.{with_event}
use Rattle.ffa_lent.specs.Settling.{request_of}
use Rattle.ffa_lent.proofs.Doings.{noted-beside, noted-ram}
use Rattle.ffa_lent.proofs.ram.LentRamPhysMem.settle.Goals as goal

pub doing-done-requires : goal.doing-done-requires
doing-done-requires c = c.ask.ensures ∙ c.request-request.ensures ∙ ap (λ base. request_of c.args.endpoint base c.args.first.0 c.args.count) c.base.ensures.value

pub returns-clause-ram : goal.returns-clause-ram
returns-clause-ram c = noted-ram c.args.self.now c.note.new.self c.note.ensures

pub returns-clause-steps : goal.returns-clause-steps
returns-clause-steps c =
    let m = c.args.self.now in
    noted-beside m c.note.new.self (c.note.ensures ∙ ap (with_event m.memory) c.doing-done.ensures)
    (went-back (ram_of m) (ram_of m) c.args.first.0 c.args.count (beside-same (ram_of m) (is_in_run c.args.first.0 c.args.count)))
    (record { before = refl; after = refl; settled = refl; unread = refl; words = refl; loans = refl })
