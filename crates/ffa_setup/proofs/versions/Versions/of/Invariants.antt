-- SPDX-License-Identifier: MIT OR Apache-2.0
use Rattle.std.proofs.Common.{◌≡◌, map, take}
use Rattle.ffa_model.specs.declared.endpoint.Endpoint.{Endpoint}
use Rattle.ffa_setup.proofs.versions.Versions.of.Given as goal

-- the versions of the endpoints so far
abbrev pub invariant-loop-endpoint : goal.invariant-loop-endpoint
invariant-loop-endpoint l = l.entries.items ≡ map (λ (e : Endpoint). e.version) (take l.endpoint-index l.endpoint-items)
