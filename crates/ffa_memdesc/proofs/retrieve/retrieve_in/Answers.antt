-- SPDX-License-Identifier: MIT OR Apache-2.0
use Rattle.std.proofs.Common.{◌≡◌, ◌+◌, ap, length, Err, of_calls, sym, subst, ◌≤◌, ℕ}
use Rattle.ffa_model.specs.DescriptorPlaces.{accesses_size, in_version}
use Rattle.ffa_memdesc.proofs.RetrieveParts.{access_inside, access_is, own_index_is, names_fit, names_is, whole_retrieve, first_in_header, first_in_fields, first_in_access, first_in_names}
use Rattle.ffa_memdesc.proofs.retrieve.retrieve_in.Goals as goal

pub returns-in-Err-clause-first : goal.returns-in-Err-clause-first
returns-in-Err-clause-first g c =
    first_in_header c.args.ffa c.args.endpoint.0 (in_version c.args.version (g.B.Bytes.bytes c.args.bytes.now)) _ c.in-Err.ensures.first

pub returns-in-Err-check_header-clause-first : goal.returns-in-Err-check_header-clause-first
returns-in-Err-check_header-clause-first g c =
    let b = in_version c.args.version (g.B.Bytes.bytes c.args.bytes.now) in
    first_in_fields c.args.ffa c.args.endpoint.0 b _ c.in-Ok.ensures.first (c.in-Err-check_header.ensures.first b c.in-Ok.ensures.found)

pub read_access-access-requires : goal.read_access-access-requires
read_access-access-requires g c =
    let n = length (g.B.Bytes.bytes c.args.bytes.now) in
    let inside = access_inside c.args.version c.in-Ok.header.array c.in-Ok.header.count c.own_index-own.result n c.in-Ok.ensures.inside c.own_index-own.ensures.few in
    subst (λ (x : ℕ). c.in-Ok.header.array + x + accesses_size c.args.version 1 ≤ n) (sym c.accesses_size.ensures.value) inside

pub returns-in-Err-check_access-clause-first : goal.returns-in-Err-check_access-clause-first
returns-in-Err-check_access-clause-first g c =
    let b = in_version c.args.version (g.B.Bytes.bytes c.args.bytes.now) in
    let same = c.in-Ok.ensures.found in
    let access = access_is c.args.ffa c.args.endpoint.0 b c.in-Ok.header c.read_access-access.result c.own_index-own.result _ same c.own_index-own.ensures.value
    (ap (λ (x : ℕ). c.in-Ok.header.array + x) c.accesses_size.ensures.value) c.read_access-access.ensures in
    let index = own_index_is c.args.ffa c.args.endpoint.0 b c.in-Ok.header c.own_index-own.result same c.own_index-own.ensures.value in
    first_in_access c.args.ffa c.args.endpoint.0 b _ c.in-Ok.ensures.first (c.in_default.ensures.first b same)
    (rw index (c.in-Err-check_access.ensures.first c.args.ffa b access))

pub returns-in_err-check_names-clause-first : goal.returns-in_err-check_names-clause-first
returns-in_err-check_names-clause-first g c =
    let b = in_version c.args.version (g.B.Bytes.bytes c.args.bytes.now) in
    let same = c.in-Ok.ensures.found in
    let access = access_is c.args.ffa c.args.endpoint.0 b c.in-Ok.header c.read_access-access.result c.own_index-own.result _ same c.own_index-own.ensures.value
    (ap (λ (x : ℕ). c.in-Ok.header.array + x) c.accesses_size.ensures.value) c.read_access-access.ensures in
    let names = names_is c.args.ffa b c.in-Ok.header _ same c.in_err-check_names.ensures in
    let refused : c.from_residual.result ≡ Err c.in_err-check_names.field-0.0 = search of_calls in
    rw refused (first_in_names c.args.ffa c.args.endpoint.0 b _ c.in-Ok.ensures.first (c.in_default.ensures.first b same) (c.in_default-check_access.ensures.first c.args.ffa b access) names)

pub returns-clause-first : goal.returns-clause-first
returns-clause-first g c =
    let b = in_version c.args.version (g.B.Bytes.bytes c.args.bytes.now) in
    let same = c.in-Ok.ensures.found in
    let access = access_is c.args.ffa c.args.endpoint.0 b c.in-Ok.header c.read_access-access.result c.own_index-own.result _ same c.own_index-own.ensures.value
    (ap (λ (x : ℕ). c.in-Ok.header.array + x) c.accesses_size.ensures.value) c.read_access-access.ensures in
    let names = names_is c.args.ffa b c.in-Ok.header _ same c.in_ok-check_names.ensures in
    first_in_names c.args.ffa c.args.endpoint.0 b _ c.in-Ok.ensures.first (c.in_default.ensures.first b same) (c.in_default-check_access.ensures.first c.args.ffa b access) names

pub returns-clause-found : goal.returns-clause-found
returns-clause-found g c =
    let b = in_version c.args.version (g.B.Bytes.bytes c.args.bytes.now) in
    let same = c.in-Ok.ensures.found in
    let access = access_is c.args.ffa c.args.endpoint.0 b c.in-Ok.header c.read_access-access.result c.own_index-own.result _ same c.own_index-own.ensures.value
    (ap (λ (x : ℕ). c.in-Ok.header.array + x) c.accesses_size.ensures.value) c.read_access-access.ensures in
    let names = names_fit c.args.ffa b (names_is c.args.ffa b c.in-Ok.header _ same c.in_ok-check_names.ensures) in
    whole_retrieve c.args.ffa c.args.endpoint.0 b c.in-Ok.header c.read_access-access.result _ _ _ _
    c.in-Ok.ensures.whole same (c.in_default.ensures.fits b same) (c.in_default-check_access.ensures.fits c.args.ffa b access) names access
    c.kind_of.ensures c.data_code.ensures c.data_of.ensures c.instruction_code.ensures
