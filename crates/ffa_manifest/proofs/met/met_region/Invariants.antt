-- SPDX-License-Identifier: MIT OR Apache-2.0
use Rattle.std.proofs.Common.{◌≡◌, true, take}
use Rattle.std.specs.List.{list_all}
use Rattle.ffa_model.specs.declared.endpoint.Endpoint.{Endpoint}
use Rattle.ffa_manifest.specs.Regions.{is_free}
use Rattle.ffa_manifest.proofs.met.met_region.Given as goal

-- no endpoint so far has a page of the region
abbrev pub invariant-loop-index : goal.invariant-loop-index
invariant-loop-index l = list_all (λ (e : Endpoint). is_free e.regions.items l.region) (take l.index l.endpoints) ≡ true
