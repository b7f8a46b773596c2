-- SPDX-License-Identifier: MIT OR Apache-2.0
use Rattle.std.proofs.Common.{◌≡◌, ℕ, ◌∙◌, ap, length, map, sym, arith}
use Rattle.std.proofs.lemmas.List.{length-map}
use Rattle.ffa_model.specs.HypervisorRetrieve.{access_granted}
use Rattle.ffa_memdesc.specs.declared.respond.ResponseHeader.{ResponseHeader}
use Rattle.ffa_memdesc.specs.Writing.{header_bytes_with}
use Rattle.ffa_memdesc.proofs.Whole.{tells_sent}
use Rattle.ffa_memdesc.proofs.Writes.{wrote_as, wrote_to}
use Rattle.ffa_memdesc.proofs.respond.write_sent.Goals as goal

pub returns-clause-bytes : goal.returns-clause-bytes
returns-clause-bytes c =
    let header_is = c.header_size.ensures.value in
    let access_is = c.accesses_size.ensures.value in
    let sent = c.args.sent.now in
    let told : ResponseHeader = record { sender = sent.sender; kind = sent.kind; zero = sent.zero; normal = sent.normal; handle = sent.handle; tag = sent.tag } in
    let count : length c.as_slice-receivers.result.now ≡ length (map access_granted sent.receivers.items) =
    ap length c.as_slice-receivers.ensures.value ∙ sym (length-map sent.receivers.items access_granted) in
    let header = wrote_as _ _ _ _ _ (ap (λ (n : ℕ). header_bytes_with c.args.version told n) count) c.write_header.ensures in
    let receivers = c.write_receivers.ensures c.args.out.now _ header in
    let composite = c.write_composite.ensures c.args.out.now _ (wrote_to _ _ _ _ _ (omega arith) receivers) in
    let ranges = wrote_to _ _ _ _ _ (omega arith) (c.write_ranges.ensures c.args.out.now _ composite) in
    tells_sent c.args.version c.args.sent.now c.args.out.now c.write_ranges.new.out c.as_slice-receivers.result.now c.as_slice-ranges.result.now c.as_slice-receivers.ensures.value c.as_slice-ranges.ensures.value ranges
