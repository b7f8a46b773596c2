-- SPDX-License-Identifier: MIT OR Apache-2.0
use Rattle.std.proofs.Common.{arith}
use Rattle.std.proofs.lemmas.Bool.Decides.{nat_tests}
use Rattle.ffa_model.proofs.endpoint.Region.alike_until.Goals as goal
use Rattle.ffa_model.proofs.endpoint.Region.alike_until.Goals.{then-page-from, else-page-from+then-page-to, else-page-from+else-page-to}

pub returns-clause-alike : goal.returns-clause-alike
returns-clause-alike c = λ p low high.
    let from = c.pages_below-from.ensures in
    let to = c.pages_below-to.ensures in
    elim c.if-page-from.branch [
      | then-page-from w ↦ grind (arith, nat_tests, from p, from c.args.first.0)
      | else-page-from+then-page-to w ↦ grind (arith, nat_tests, from p, from c.args.first.0, to p, to c.args.first.0)
      | else-page-from+else-page-to w ↦ grind (arith, nat_tests, to p, to c.args.first.0)
    ]
