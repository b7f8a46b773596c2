-- SPDX-License-Identifier: MIT OR Apache-2.0
use Rattle.std.proofs.Common.{◌≡◌, ℕ, ◌<◌, ◌≤◌, All}
use Rattle.std.specs.List.{AllWithin}
use Rattle.ffa_model.specs.declared.endpoint.Endpoint.{Endpoint}
use Rattle.ffa_model.specs.declared.endpoint.Region.{Region}
use Rattle.ffa_model.specs.Regions.{has_page}
use Rattle.ffa_model.proofs.manifest.Manifest.alike_until.Given as goal

-- the endpoints so far
abbrev pub invariant-loop-endpoint : goal.invariant-loop-endpoint
invariant-loop-endpoint l = record {
  some : l.first.0 < l.until;
  end : l.until ≤ l.end;
  alike : (p : ℕ) → l.first.0 ≤ p → p < l.until
      → AllWithin (λ (e : Endpoint). All (λ (r : Region). has_page l.self.ram_base.0 p r ≡ has_page l.self.ram_base.0 l.first.0 r) e.regions.items)
      l.endpoint-items 0 l.endpoint-index;
}
