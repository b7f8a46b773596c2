-- SPDX-License-Identifier: MIT OR Apache-2.0
use Rattle.std.proofs.Common.{◌≡◌, true, length, rules}
use Rattle.ffa_model.specs.declared.limits.TheConstants.{MOST_REGIONS}
use Rattle.ffa_model.specs.Manifest.{is_from_to}
use Rattle.ffa_manifest.specs.Parts.{endpoint_tests}
use Rattle.ffa_manifest.proofs.parts.check_endpoint.Goals as goal

pub returns : goal.returns
unfolding endpoint_tests
returns c =
    let some : is_from_to 1 MOST_REGIONS (length c.args.endpoint.now.regions.items) ≡ true = search rules in
    let versioned : c.is_version.result ≡ true = search rules in
    let identified : c.is_uuid_after.result ≡ true = search rules in
    let bounded : c.are_properties_after.result ≡ true = search rules in
    rw (← c.is_version.ensures, ← c.is_uuid_after.ensures, ← c.are_properties_after.ensures, some, versioned, identified, bounded) (rw c.as_slice.ensures.value at c.check_regions.ensures)
