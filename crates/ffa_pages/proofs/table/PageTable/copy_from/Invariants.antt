-- SPDX-License-Identifier: MIT OR Apache-2.0
use Rattle.std.proofs.Common.{◌≡◌, ℕ, ◌<◌, length}
use Rattle.ffa_pages.specs.Entry.{entry_at}
use Rattle.ffa_pages.proofs.table.PageTable.copy_from.Given as goal

-- the pages so far
abbrev pub invariant-loop-page : goal.invariant-loop-page
invariant-loop-page g l = record {
  size : length l.self ≡ length l.other;
  like : (p : ℕ) → p < l.page → entry_at l.self p ≡ entry_at l.other p;
}
