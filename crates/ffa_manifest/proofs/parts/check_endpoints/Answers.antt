-- SPDX-License-Identifier: MIT OR Apache-2.0
use Rattle.std.proofs.Common.{◌∙◌, rules}
use Rattle.ffa_manifest.specs.RegionSpace.{is_in}
use Rattle.ffa_manifest.specs.Parts.{endpoint_tests}
use Rattle.ffa_manifest.proofs.FirstFailure.{passed-at, failed-at}
use Rattle.ffa_manifest.proofs.parts.check_endpoints.Goals as goal

pub returns-in_err-check_endpoint : goal.returns-in_err-check_endpoint
returns-in_err-check_endpoint c =
    let e = c.index-endpoints-index.result in
    let failed = failed-at (endpoint_tests c.args.ffa (is_in c.args.space.now)) c.args.endpoints.now c.loop-index.index e e c.in_err-check_endpoint.field-0.0
    c.loop-index-test.true c.index-endpoints-index.is c.in_err-check_endpoint.ensures in
    search rules

pub loop-index-preserved : goal.loop-index-preserved
loop-index-preserved c =
    let e = c.index-endpoints-index.result in
    passed-at (endpoint_tests c.args.ffa (is_in c.args.space.now)) c.args.endpoints.now c.loop-index.index e e
    c.loop-index-test.true c.index-endpoints-index.is c.in_ok-check_endpoint.ensures ∙ c.loop-index.invariant
