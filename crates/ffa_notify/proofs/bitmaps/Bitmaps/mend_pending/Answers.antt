-- SPDX-License-Identifier: MIT OR Apache-2.0
use Rattle.std.proofs.Common.{◌∙◌, ℕ, ap}
use Rattle.std.specs.Option.{option_map}
use Rattle.ffa_mend.specs.declared.Mend.TheVariants.{Pending}
use Rattle.ffa_mend.specs.Mend.{is_pending_in_any}
use Rattle.ffa_model.specs.Bits.{is_set}
use Rattle.ffa_model.proofs.Finds.{find-same}
use Rattle.ffa_notify.proofs.bitmaps.Bitmaps.mend_pending.Goals as goal

pub returns : goal.returns
returns c =
    c.least_of.ensures
    ∙ ap (option_map (λ (k : ℕ). Pending k))
    (find-same (λ k. is_set k c.pending_in_any.result) (is_pending_in_any c.args.self.now c.args.receiver.0) 64 (λ k. k) c.pending_in_any.ensures)
