-- SPDX-License-Identifier: MIT OR Apache-2.0
use Rattle.std.proofs.Common.{◌≡◌, [], take, drop}
use Rattle.ffa_manifest.specs.RegionSpace.{is_in}
use Rattle.ffa_manifest.specs.Parts.{first_failure, tests_of_each, endpoint_tests}
use Rattle.ffa_manifest.proofs.parts.check_endpoints.Given as goal

-- the tests of the endpoints that are left, beside those so far, fail first where all tests do
abbrev pub invariant-loop-index : goal.invariant-loop-index
invariant-loop-index l =
    first_failure (tests_of_each (endpoint_tests l.ffa (is_in l.space)) (take l.index l.endpoints) (drop l.index l.endpoints)) ≡ first_failure (tests_of_each (endpoint_tests l.ffa (is_in l.space)) [] l.endpoints)
