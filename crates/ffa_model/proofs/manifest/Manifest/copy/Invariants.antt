-- SPDX-License-Identifier: MIT OR Apache-2.0
use Rattle.std.proofs.Common.{◌≡◌, true, take}
use Rattle.ffa_model.specs.Endpoints.{have_uuids}
use Rattle.ffa_model.proofs.manifest.Manifest.copy.Given as goal

-- the endpoints so far, each with its UUID
abbrev pub invariant-loop-endpoint : goal.invariant-loop-endpoint
invariant-loop-endpoint l = record {
  copied : l.endpoints.items ≡ take l.endpoint-index l.endpoint-items;
  uuids : have_uuids (take l.endpoint-index l.endpoint-items) ≡ true;
}
