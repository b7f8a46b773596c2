-- SPDX-License-Identifier: MIT OR Apache-2.0
use Rattle.std.proofs.Common.{◌∙◌, ◌+◌, ◌<◌, length, get_or, ap, arith}
use Rattle.ffa_notify.proofs.Asked.{asked-cleared, asked-kept, flag-set, flag-unset}
use Rattle.ffa_notify.proofs.words.clear_asked.Goals as goal
use Rattle.ffa_notify.proofs.words.clear_asked.Goals.{then-flags-class-eq1, else-flags-class-eq1}

pub loop-class-preserved : goal.loop-class-preserved
loop-class-preserved g c =
    elim c.if-flags-class-eq1.branch [
      | then-flags-class-eq1 w ↦ λ k.
          (let within : c.args.first + c.loop-class.class < length c.loop-class.items = omega arith in
          ap (λ list. get_or list k c.args.empty) w.items-is
          ∙ asked-cleared c.args.first c.loop-class.class c.args.flags c.args.empty c.args.items.now c.loop-class.items c.loop-class.invariant within
          (flag-set c.loop-class.class c.args.flags w.if-flags-class-eq1.true) k)
      | else-flags-class-eq1 w ↦ λ k.
          ap (λ list. get_or list k c.args.empty) w.items-is
          ∙ asked-kept c.args.first c.loop-class.class c.args.flags c.args.empty c.args.items.now c.loop-class.items c.loop-class.invariant
          (flag-unset c.loop-class.class c.args.flags w.if-flags-class-eq1.false) k
    ]
