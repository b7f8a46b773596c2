-- SPDX-License-Identifier: MIT OR Apache-2.0
use Rattle.std.proofs.Common.{ℕ, ◌+◌, ◌++◌, ap, sym, arith}
use Rattle.ffa_model.specs.ResponseBytes.{header_bytes, access_bytes, response_record}
use Rattle.ffa_memdesc.proofs.Whole.{responds}
use Rattle.ffa_memdesc.proofs.Writes.{wrote_as, wrote_to}
use Rattle.ffa_memdesc.proofs.respond.write_in.Goals as goal

pub returns-clause-bytes : goal.returns-clause-bytes
returns-clause-bytes c =
    let version = c.args.version in
    let response = c.args.response.now in
    let header_is = c.header_size-header.ensures.value in
    let access_is = c.accesses_size.ensures.value in
    let header = wrote_to _ _ _ _ _ (sym header_is) c.write_header.ensures in
    let written = wrote_to _ _ _ _ (c.header_size-header.result + c.accesses_size.result) (omega arith) (c.write_access.ensures c.args.out.now _ header) in
    let access = wrote_as _ _ _ _ _ (ap (λ (x : ℕ). header_bytes version (response_record response) ++ access_bytes version 1 (response.endpoint.0, x)) c.permissions_of-permissions.ensures) written in
    let composite = c.write_composite.ensures c.args.out.now _ access in
    let ranges = wrote_to _ _ _ _ _ (omega arith) (c.write_ranges.ensures c.args.out.now _ composite) in
    responds version response c.args.out.now c.write_ranges.new.out c.as_slice-ranges.result.now c.as_slice-ranges.ensures.value ranges
