-- SPDX-License-Identifier: MIT OR Apache-2.0
use Rattle.std.proofs.Common.{◌∙◌, sym, ap}
use Rattle.std.specs.Prelude.{◌==◌}
use Rattle.std.proofs.lemmas.Nat.Bits.{shr_and_one}
use Rattle.ffa_model.specs.Notifications.{is_pending}
use Rattle.ffa_notify.proofs.Bits.{is_set-at}
use Rattle.ffa_notify.proofs.bitmaps.Bitmaps.is_pending.Goals as goal

pub returns : goal.returns
returns c =
    ap (λ n. n == 1) (shr_and_one c.pending.result c.args.bit)
    ∙ sym (is_set-at c.args.bit c.pending.result)
    ∙ c.pending.ensures c.args.bit c.requires.bit
    ∙ ap (λ class. is_pending c.args.self.now c.args.receiver.0 class c.args.bit) c.of.ensures
