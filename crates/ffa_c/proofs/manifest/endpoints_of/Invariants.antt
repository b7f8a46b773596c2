-- SPDX-License-Identifier: MIT OR Apache-2.0
use Rattle.std.proofs.Common.{◌≡◌, [], length, drop}
use Rattle.ffa_c.specs.Given.{each_given, endpoint_given}
use Rattle.ffa_c.proofs.manifest.endpoints_of.Given as goal

-- the endpoints that are left, told after those so far, give what all endpoints give
abbrev pub invariant-loop-endpoint : goal.invariant-loop-endpoint
invariant-loop-endpoint l = record {
  count : length l.endpoints.items ≡ l.endpoint-index;
  rest : each_given endpoint_given l.endpoints.items (drop l.endpoint-index l.given) ≡ each_given endpoint_given [] l.given;
}
