-- SPDX-License-Identifier: MIT OR Apache-2.0
use Rattle.std.proofs.Common.{◌≡◌, ◌-◌, ◌≤◌, length, not}
use Rattle.std.specs.Prelude.{◌&&◌}
use Rattle.ffa_model.specs.Regions.{is_normal}
use Rattle.ffa_stage2.specs.Layout.{normal_in}
use Rattle.ffa_memshare.specs.Named.{all_named}
use Rattle.ffa_memshare.specs.Ranges.{first_page}
use Rattle.ffa_memshare.proofs.Places.{between}
use Rattle.ffa_memshare.proofs.checks.worlds.worlds_with.Given as goal

-- the pages so far
abbrev pub invariant-loop-next : goal.invariant-loop-next
invariant-loop-next g l = record {
  from : first_page l.layout.base.0 l.range ≤ l.next;
  until : l.next ≤ l.end;
  normal : l.worlds.are_normal ≡ (l.fn.before.are_normal && all_named (length l.pages) (between (first_page l.layout.base.0 l.range) l.next) (is_normal l.layout.base.0 (normal_in l.layout)));
  secure : l.worlds.are_secure ≡ (l.fn.before.are_secure && all_named (length l.pages) (between (first_page l.layout.base.0 l.range) l.next) (λ p. not (is_normal l.layout.base.0 (normal_in l.layout) p)));
}

-- the pages that are left
abbrev pub decreases-loop-next : goal.decreases-loop-next
decreases-loop-next g l = l.end - l.next
