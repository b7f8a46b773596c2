-- SPDX-License-Identifier: MIT OR Apache-2.0
use Rattle.std.proofs.Common.{◌≡◌, ℕ, ◌<◌, ◌≤◌}
use Rattle.std.specs.List.{AllWithin}
use Rattle.ffa_model.specs.declared.endpoint.Region.{Region}
use Rattle.ffa_model.specs.Regions.{has_page}
use Rattle.ffa_model.proofs.endpoint.regions_until.Given as goal

-- the regions so far
abbrev pub invariant-loop-region : goal.invariant-loop-region
invariant-loop-region l = record {
  some : l.first.0 < l.until;
  end : l.until ≤ l.end;
  alike : (p : ℕ) → l.first.0 ≤ p → p < l.until → AllWithin (λ (r : Region). has_page l.ram_base.0 p r ≡ has_page l.ram_base.0 l.first.0 r) l.regions 0 l.region-index;
}
