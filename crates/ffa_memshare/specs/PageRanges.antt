-- SPDX-License-Identifier: MIT OR Apache-2.0
-- FOR PROOFS ALONE
-- Ranges by the numbers of their pages.
use Rattle.std.specs.Prelude.{ℕ, ◌+◌, ◌*◌}
use Rattle.ffa_model.specs.declared.transaction.Range.{Range}
use Rattle.ffa_memshare.specs.declared.page_ranges.PageRange.{PageRange}

-- the range that is kept so of the RAM at an address
abbrev pub range_at : ℕ → PageRange → Range
range_at base r = record { address = base + 4096 * r.first; pages = r.pages }
