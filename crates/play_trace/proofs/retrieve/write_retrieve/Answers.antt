-- SPDX-License-Identifier: MIT OR Apache-2.0
use Rattle.std.proofs.Common.{ℕ, ◌+◌, ◌++◌, List, sym, subst, arith}
use Rattle.ffa_model.specs.DescriptorPlaces.{in_version, accesses_size, header_size}
use Rattle.ffa_model.specs.RetrieveDescriptor.{Retrieve}
use Rattle.ffa_memdesc.specs.Writing.{Wrote}
use Rattle.ffa_memdesc.proofs.Writes.{front_of, rest_of, wrote_to}
use Rattle.play_trace.specs.Composed.{heading_bytes, entry_bytes, retrieve_heading, asked_of}
use Rattle.play_trace.proofs.Retrieves.{retrieves, kind_few}
use Rattle.play_trace.proofs.retrieve.write_retrieve.Goals as goal

pub returns : goal.returns
returns c =
    let old = c.args.page.now in
    let d = c.args.desc.now in
    let version = c.args.version in
    let place = c.header_size-place.ensures.value in
    let size = c.accesses_size.ensures.value in
    let few = kind_few d.kind in
    let heading : Wrote old (heading_bytes version (retrieve_heading d)) c.header_size-place.result c.write_heading.new.page =
    wrote_to _ _ _ _ _ (sym place) (subst (λ (flags : ℕ). Wrote old (heading_bytes version (record (retrieve_heading d) { flags = flags })) (header_size version) c.write_heading.new.page) c.flags_of.ensures c.write_heading.ensures) in
    let all : Wrote old (heading_bytes version (retrieve_heading d) ++ entry_bytes version c.args.receiver.0 (asked_of d) 0) (c.header_size-place.result + c.accesses_size.result) c.write_access.new.page =
    wrote_to _ _ _ _ _ (omega arith) (subst (λ (p : ℕ). Wrote old (heading_bytes version (retrieve_heading d) ++ entry_bytes version c.args.receiver.0 p 0) (c.header_size-place.result + accesses_size version 1) c.write_access.new.page) c.permissions_of.ensures (c.write_access.ensures.bytes old _ heading)) in
    record {
      size = omega arith;
      read = λ ffa. subst (λ (l : List ℕ). Retrieve ffa c.args.receiver.0 (in_version version l) d) (sym (front_of _ _ _ _ all))
          (retrieves ffa version c.args.receiver.0 d (record { sender = omega arith; attributes = omega arith; flags = few; handle = omega arith; tag = omega arith; count = omega arith }) (omega arith));
      rest = rest_of _ _ _ _ all;
    }
