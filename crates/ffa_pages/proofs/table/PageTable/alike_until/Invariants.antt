-- SPDX-License-Identifier: MIT OR Apache-2.0
use Rattle.std.proofs.Common.{◌≡◌, ℕ, ◌<◌, ◌≤◌}
use Rattle.ffa_pages.specs.Entry.{entry_at}
use Rattle.ffa_pages.specs.Stored.{entry_of}
use Rattle.ffa_pages.proofs.table.PageTable.alike_until.Given as goal

-- the pages so far
abbrev pub invariant-loop-page : goal.invariant-loop-page
invariant-loop-page g l = record {
  some : l.fn.first.0 < l.page;
  alike : (p : ℕ) → l.fn.first.0 ≤ p → p < l.page → entry_at l.self p ≡ entry_at l.self l.fn.first.0;
  kept : entry_of l.kept ≡ entry_at l.self l.fn.first.0;
}
