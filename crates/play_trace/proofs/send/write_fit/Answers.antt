-- SPDX-License-Identifier: MIT OR Apache-2.0
use Rattle.std.proofs.Common.{◌≡◌, ℕ, ◌+◌, ◌*◌, List, length, take, drop, sym, ap, subst, ◌^◌, ◌<◌, ◌≤◌, get_or, arith}
use Rattle.ffa_model.specs.declared.transaction.Range.{Range}
use Rattle.ffa_model.specs.declared.transaction.Receiver.{Receiver}
use Rattle.ffa_model.specs.DescriptorPlaces.{in_version, accesses_size}
use Rattle.ffa_model.specs.SendDescriptor.{Send, send_record, page_total}
use Rattle.ffa_memdesc.specs.Writing.{Wrote}
use Rattle.ffa_memdesc.proofs.Writes.{front_of, rest_of, wrote_to}
use Rattle.play_trace.specs.Composed.{send_bytes, send_size}
use Rattle.play_trace.proofs.Fitness.{fitness}
use Rattle.play_trace.proofs.Sends.{sends}
use Rattle.play_trace.proofs.send.write_fit.Goals as goal

pub returns : goal.returns
returns c =
    let old = c.args.page.now in
    let d = c.args.desc.now in
    let version = c.args.version in
    let size = c.header_size-array.ensures.value in
    let xs : c.as_slice-receivers.result.now ≡ d.receivers.items = c.as_slice-receivers.ensures.value in
    let rs : c.as_slice-ranges.result.now ≡ d.ranges.items = c.as_slice-ranges.ensures.value in
    let many : length c.as_slice-receivers.result.now ≡ length d.receivers.items = ap (λ (l : List Receiver). length l) xs in
    let much : length c.as_slice-ranges.result.now ≡ length d.ranges.items = ap (λ (l : List Range). length l) rs in
    let accesses = c.accesses_size.ensures.value in
    let as_many = ap (accesses_size version) many in
    let long : c.header_size-array.result + c.accesses_size.result + 16 + 16 * length c.as_slice-ranges.result.now ≡ send_size version (send_record d) = omega arith in
    let w0 = wrote_to _ _ _ _ c.header_size-array.result (sym size) c.write_heading.ensures in
    let w1 = wrote_to _ _ _ _ (c.header_size-array.result + c.accesses_size.result) (omega arith) (c.write_receivers.ensures.bytes old _ w0) in
    let w2 = c.write_composite.ensures old _ w1 in
    let w3 = c.write_ranges.ensures old _ w2 in
    let all : Wrote old (send_bytes version c.args.kind (send_record d)) (send_size version (send_record d)) c.write_ranges.new.out =
    rw (c.heading_of-heading.ensures.exact, size, accesses, xs, rs) at w3 in
    let endpoints = subst (λ (l : List Receiver). (k : ℕ) → k < length l → (e : Receiver) → (get_or l k e).endpoint.0 < 2 ^ 16) xs c.write_receivers.ensures.fit in
    let few : length d.ranges.items ≤ 64 = omega arith in
    let fit = fitness c.args.kind (send_record d) c.requires few in
    record {
      size = long;
      read = λ ffa. subst (λ (n : ℕ). Send ffa c.args.kind (in_version version (take n c.write_ranges.new.out)) (send_record d)) (sym long)
          (subst (λ (l : List ℕ). Send ffa c.args.kind (in_version version l) (send_record d)) (sym (front_of _ _ _ _ all))
          (sends version c.args.kind (send_record d) fit (record { sender = c.heading_of-heading.ensures.sender_fits; tag = c.heading_of-heading.ensures.tag_fits; endpoints = endpoints }) ffa));
      rest = subst (λ (n : ℕ). drop n c.write_ranges.new.out ≡ drop n old) (sym long) (rest_of _ _ _ _ all);
    }

pub write_composite-requires-clause-total : goal.write_composite-requires-clause-total
write_composite-requires-clause-total c =
    let rs : c.as_slice-ranges.result.now ≡ c.args.desc.now.ranges.items = c.as_slice-ranges.ensures.value in
    let much : length c.as_slice-ranges.result.now ≡ length c.args.desc.now.ranges.items = ap (λ (l : List Range). length l) rs in
    let few : length c.args.desc.now.ranges.items ≤ 64 = omega arith in
    subst (λ (l : List Range). page_total l < 2 ^ 32) (sym rs) (fitness c.args.kind (send_record c.args.desc.now) c.requires few).total
