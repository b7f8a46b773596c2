-- SPDX-License-Identifier: MIT OR Apache-2.0
use Rattle.std.proofs.Common.{◌≡◌, ◌≤◌, filter, length, map}
use Rattle.ffa_model.specs.declared.endpoint.EndpointId.{EndpointId}
use Rattle.ffa_model.specs.Identifiers.{identifier}
use Rattle.ffa_model.specs.Lists.{listed}
use Rattle.ffa_model.specs.Notices.{has_notice}
use Rattle.ffa_notify.proofs.bitmaps.Bitmaps.endpoints_to_tell.Given as goal

-- the endpoints so far
abbrev pub invariant-loop-place : goal.invariant-loop-place
invariant-loop-place l = record {
  count : length l.to_tell.items ≤ l.place;
  to_tell : map (λ (e : EndpointId). e.0) l.to_tell.items ≡ filter (has_notice l.self) (listed l.place identifier);
}
