-- SPDX-License-Identifier: MIT OR Apache-2.0
use Rattle.std.proofs.Common.{arith}
use Rattle.std.proofs.lemmas.Nat.Bits.{and_high}
use Rattle.ffa_model.specs.Descriptor.{page_word}
use Rattle.ffa_stage2.proofs.tables.leaf.Goals as goal
use Rattle.ffa_stage2.proofs.tables.leaf.Goals.{in-Ro, in-Rw, then-rights, else-rights}

pub returns-in-None : goal.returns-in-None
unfolding page_word
returns-in-None c = rw c.in-None.is

pub returns-after-rights : goal.returns-after-rights
unfolding page_word
returns-after-rights c =
    rw (and_high c.args.address 36 12, c.in-Some.is) (elim c.match-rights.branch [
      | in-Ro w ↦ elim c.if-rights.branch [
        | then-rights x ↦ rw (w.write-is, x.never-is, w.in-Ro.is, x.if-rights.true) (omega arith)
        | else-rights x ↦ rw (w.write-is, x.never-is, w.in-Ro.is, x.if-rights.false) (omega arith)
      ]
      | in-Rw w ↦ elim c.if-rights.branch [
        | then-rights x ↦ rw (w.write-is, x.never-is, w.in-Rw.is, x.if-rights.true) (omega arith)
        | else-rights x ↦ rw (w.write-is, x.never-is, w.in-Rw.is, x.if-rights.false) (omega arith)
      ]
    ])
