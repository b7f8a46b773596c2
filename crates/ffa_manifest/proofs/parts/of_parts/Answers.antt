-- SPDX-License-Identifier: MIT OR Apache-2.0
use Rattle.std.proofs.Common.{◌≡◌, true, [], None, Some, length, refl, sym, rules}
use Rattle.std.proofs.lemmas.Bool.{and_parts}
use Rattle.ffa_model.specs.declared.limits.TheConstants.{MOST_ENDPOINTS}
use Rattle.ffa_model.specs.Manifest.{has_tables, is_accepted, is_ram_base, is_ram_size, is_from_to, is_placed}
use Rattle.ffa_manifest.specs.Parts.{have_versions, first_failure, tests_of_each, endpoint_tests}
use Rattle.ffa_manifest.proofs.AcceptedParts.{accepted_tests, known_versions, passed_tests}
use Rattle.ffa_manifest.proofs.parts.of_parts.Goals as goal

pub of-manifest-requires : goal.of-manifest-requires
of-manifest-requires c =
    let base : is_ram_base c.args.ram_base ≡ true = search rules in
    let blocks : is_ram_size c.args.ram_base c.args.ram_blocks ≡ true = search rules in
    let few : is_from_to 1 MOST_ENDPOINTS (length c.args.endpoints.items) ≡ true = search rules in
    let room : has_tables c.args.tables.0 c.args.ram_blocks (length c.args.endpoints.items) ≡ true = search rules in
    accepted_tests c.args.ffa c.args.ram_base c.args.tables.0 c.args.ram_blocks c.args.endpoints.items base blocks few room
    (rw (← c.len-count.ensures.value) (rw c.as_slice.ensures.value at (sym c.in_ok-check_endpoints.ensures)))

pub returns-in_err-check_endpoints-clause-accepted_where : goal.returns-in_err-check_endpoints-clause-accepted_where
returns-in_err-check_endpoints-clause-accepted_where c =
    let base = c.args.ram_base in
    let tables = c.args.tables.0 in
    let blocks = c.args.ram_blocks in
    let es = c.args.endpoints.items in
    let failed : Some c.in_err-check_endpoints.field-0.0 ≡ first_failure (tests_of_each (endpoint_tests c.args.ffa (is_placed base tables blocks (length es))) [] es) =
    rw (← c.len-count.ensures.value) (rw c.as_slice.ensures.value at c.in_err-check_endpoints.ensures) in (
      search rules,
      λ h.
          let (accepted, versions) = and_parts (is_accepted base tables blocks es) (have_versions c.args.ffa es) h in
          let passed = passed_tests c.args.ffa base tables blocks es accepted versions in
          absurd (cc),
    )

pub returns-clause-accepted_where : goal.returns-clause-accepted_where
returns-clause-accepted_where c =
    let base = c.args.ram_base in
    let tables = c.args.tables.0 in
    let blocks = c.args.ram_blocks in
    let es = c.args.endpoints.items in
    let accepted : is_accepted base tables blocks es ≡ true = search rules in
    let passed : first_failure (tests_of_each (endpoint_tests c.args.ffa (is_placed base tables blocks (length es))) [] es) ≡ None =
    rw (← c.len-count.ensures.value) (rw c.as_slice.ensures.value at (sym c.in_ok-check_endpoints.ensures)) in
    let versions : have_versions c.args.ffa es ≡ true = known_versions c.args.ffa (is_placed base tables blocks (length es)) es passed in
    (λ ok. rw (accepted, versions) refl, λ h. search rules)
