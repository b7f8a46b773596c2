-- SPDX-License-Identifier: MIT OR Apache-2.0
use Rattle.std.proofs.Common.{◌≡◌, ℕ, ◌<◌, ◌≤◌, ◌⊎◌, length}
use Rattle.ffa_pages.specs.Entry.{entry_at}
use Rattle.ffa_pages.specs.Stored.{entry_of}
use Rattle.ffa_pages.proofs.table.PageTable.put_run.Given as goal

-- the pages so far
abbrev pub invariant-loop-page : goal.invariant-loop-page
invariant-loop-page g l = record {
  size : length l.self ≡ length l.fn.self;
  like : (p : ℕ) → l.fn.first.0 ≤ p → p < l.page → entry_at l.self p ≡ entry_of l.kept;
  beside : (p : ℕ) → ((p < l.fn.first.0) ⊎ (l.page ≤ p)) → entry_at l.self p ≡ entry_at l.fn.self p;
}
