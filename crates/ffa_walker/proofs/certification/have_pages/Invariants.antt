-- SPDX-License-Identifier: MIT OR Apache-2.0
use Rattle.std.proofs.Common.{◌≡◌, ℕ, ◌<◌, ◌≤◌, length}
use Rattle.ffa_model.specs.Certified.{access_in}
use Rattle.ffa_walker.proofs.certification.have_pages.Given as goal

-- all pages before the next have the access, and of the others the runs that are left decide
abbrev pub invariant-loop-next : goal.invariant-loop-next
invariant-loop-next l = record {
  begun : l.first ≤ l.next;
  passed : (p : ℕ) → l.first ≤ p → p < l.next → p < l.end → access_in l.runs l.place p ≡ l.access;
  rest : (p : ℕ) → l.next ≤ p → access_in l.runs l.place p ≡ access_in l.rest l.place p;
}

abbrev pub decreases-loop-next : goal.decreases-loop-next
decreases-loop-next l = length l.rest
