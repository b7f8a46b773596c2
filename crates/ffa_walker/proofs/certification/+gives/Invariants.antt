-- SPDX-License-Identifier: MIT OR Apache-2.0
use Rattle.std.proofs.Common.{◌≡◌, ℕ, ◌+◌, ◌-◌, ◌*◌, ◌/◌, ◌^◌, ◌≤◌}
use Rattle.ffa_model.specs.Certified.{access_in}
use Rattle.ffa_physmem.specs.Levels.{shift}
use Rattle.ffa_walker.specs.Spans.{AreCertified, from_table}
use Rattle.ffa_walker.proofs.certification.+gives.Given as goal

-- a word's table is of a lower level
abbrev pub decreases-gives_table : goal.decreases-gives_table
decreases-gives_table g l = 2 * shift l.level + 1

abbrev pub decreases-gives_word : goal.decreases-gives_word
decreases-gives_word g l = 2 * shift l.level

-- the addresses of the words so far, and the runs that are left for the pages of the others
abbrev pub invariant-gives_table-loop-index : goal.invariant-gives_table-loop-index
invariant-gives_table-loop-index g l =
    let ram = g.M.PhysMem.ram l.memory in
    record {
      so_far : AreCertified ram l.runs l.place l.start (2 ^ shift l.level * l.index) (from_table ram l.level l.table);
      left : (place p : ℕ) → ((l.start + 2 ^ shift l.level * l.index) - ram.base) / 4096 ≤ p → access_in l.rest place p ≡ access_in l.runs place p;
    }
