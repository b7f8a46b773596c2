-- SPDX-License-Identifier: MIT OR Apache-2.0
use Rattle.std.proofs.Common.{arith, inl, inr}
use Rattle.std.proofs.lemmas.Bool.{cases_lt}
use Rattle.std.proofs.lemmas.Bool.Decides.{nat_tests}
use Rattle.ffa_rxtx.proofs.buffers.has_page_in.Goals as goal

-- a run that begins before the first page has that one, and else its own first one is one of them
pub returns-then-run-end : goal.returns-then-run-end
returns-then-run-end c =
    let its = c.if-run-end.true in (
      λ meets. elim (cases_lt c.args.run.0 c.args.first.0) [
        | inl before ↦ (c.args.first.0, omega arith, its.1, grind (arith, meets, before, c.from-then-run-end.ensures, c.from.ensures, c.from-2.ensures, nat_tests))
        | inr after ↦ (c.args.run.0, after, its.2, grind (arith, its.0, nat_tests))
      ],
      λ found. (let (p, low, high, is) = found in grind (arith, low, is, c.from-then-run-end.ensures, c.from.ensures, c.from-2.ensures, nat_tests)),
    )
