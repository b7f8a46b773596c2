-- SPDX-License-Identifier: MIT OR Apache-2.0
use Rattle.std.proofs.Common.{◌≡◌, ℕ, ◌-◌, ◌<◌, ◌≤◌, length}
use Rattle.ffa_pages.specs.Entry.{entry_at, first_entry}
use Rattle.ffa_pages.proofs.table.PageTable.fill.Given as goal

-- the pages so far
abbrev pub invariant-loop-next : goal.invariant-loop-next
invariant-loop-next g l = record {
  until : l.next ≤ l.end;
  size : length l.self ≡ l.end;
  like : (p : ℕ) → p < l.next → entry_at l.self p ≡ first_entry l.manifest.ram_base.0 l.manifest.endpoints.items p;
}

-- the pages that are left
abbrev pub decreases-loop-next : goal.decreases-loop-next
decreases-loop-next g l = l.end - l.next
