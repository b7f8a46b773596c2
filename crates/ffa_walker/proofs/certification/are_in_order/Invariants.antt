-- SPDX-License-Identifier: MIT OR Apache-2.0
use Rattle.std.proofs.Common.{◌≡◌, drop}
use Rattle.ffa_model.specs.Certified.{are_in_order}
use Rattle.ffa_walker.proofs.certification.are_in_order.Given as goal

-- what is left decides
abbrev pub invariant-loop-run : goal.invariant-loop-run
invariant-loop-run l = are_in_order 0 l.pages l.runs ≡ are_in_order l.next l.pages (drop l.run-index l.runs)
