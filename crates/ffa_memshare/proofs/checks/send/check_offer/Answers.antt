-- SPDX-License-Identifier: MIT OR Apache-2.0
use Rattle.std.proofs.Common.{◌≡◌, ◌∙◌, of_calls, Bool, List, true, false, not, Err, refl, sym, ap, arith, rules}
use Rattle.std.specs.List.{list_all}
use Rattle.arrayvec.specs.ArrayVec.{array_vec_len}
use Rattle.ffa_model.specs.declared.transaction.Range.{Range}
use Rattle.ffa_model.specs.MemorySend.{are_known, is_inside, is_sendable}
use Rattle.ffa_model.specs.SendDescriptor.{send_record}
use Rattle.ffa_model.specs.Transactions.{are_writable, pages_in}
use Rattle.ffa_rxtx.specs.Parts.{ownership_in}
use Rattle.ffa_memshare.specs.Offers.{write_guards}
use Rattle.ffa_memshare.proofs.Firsts.{first-pass}
use Rattle.ffa_memshare.proofs.Offered.{checked-offered, of_sendable, sendable-pass}
use Rattle.ffa_memshare.proofs.checks.send.check_offer.Goals as goal

is-true : (b : Bool) → not b ≡ false → b ≡ true
is-true true e = refl
is-true false e = absurd cc

pub returns-clause-offered : goal.returns-clause-offered
returns-clause-offered g c =
    let o = c.args.offer.now in
    let l = c.args.layout.now in
    let table = c.args.pages.now in
    let sender : o.sender.0 ≡ c.args.caller.0 = search rules in
    let inside : list_all (is_inside (ownership_in table l.base.0)) o.ranges.items ≡ true =
    sym (ap (list_all (is_inside (ownership_in table l.base.0))) c.as_slice-2.ensures.value) ∙ sym c.are_inside.ensures ∙ c.if-not-are_inside.false in
    let sendable : list_all (is_sendable c.args.caller.0 (ownership_in table l.base.0) c.args.buffers.now) (pages_in (ownership_in table l.base.0) o.ranges.items) ≡ true =
    sym (ap (λ (rs : List Range). list_all (is_sendable c.args.caller.0 (ownership_in table l.base.0) c.args.buffers.now) (pages_in (ownership_in table l.base.0) rs)) c.place.ensures)
    ∙ sym c.look_at-looked.ensures.sendable ∙ is-true c.look_at-looked.result.is_sendable c.if-not-looked.false in
    checked-offered table l.base.0 c.args.caller.0 c.args.buffers.now (send_record o) (omega (arith, l.place)) c.requires.aligned sender inside sendable

pub returns-in_err-check_writes-clause-refusal : goal.returns-in_err-check_writes-clause-refusal
returns-in_err-check_writes-clause-refusal g c =
    let o = c.args.offer.now in
    let r = send_record o in
    let l = c.args.layout.now in
    let table = c.args.pages.now in
    let ram = ownership_in table l.base.0 in
    let before = of_sendable (array_vec_len l.regions) ram c.args.buffers.now c.args.caller.0 r in
    let sender : o.sender.0 ≡ c.args.caller.0 = search rules in
    let known : are_known (array_vec_len l.regions) o.receivers.items ≡ true = search rules in
    let inside : list_all (is_inside ram) o.ranges.items ≡ true =
    sym (ap (list_all (is_inside ram)) c.as_slice-2.ensures.value) ∙ sym c.are_inside.ensures ∙ c.if-not-are_inside.false in
    let sendable : list_all (is_sendable c.args.caller.0 (ownership_in table l.base.0) c.args.buffers.now) (pages_in ram o.ranges.items) ≡ true =
    sym (ap (λ (rs : List Range). list_all (is_sendable c.args.caller.0 (ownership_in table l.base.0) c.args.buffers.now) (pages_in ram rs)) c.place.ensures)
    ∙ sym c.look_at-looked.ensures.sendable ∙ is-true c.look_at-looked.result.is_sendable c.if-not-looked.false in
    let passed = sendable-pass (array_vec_len l.regions) ram c.args.buffers.now c.args.caller.0 r sender known inside sendable in
    let own = checked-offered table l.base.0 c.args.caller.0 c.args.buffers.now r (omega (arith, l.place)) c.requires.aligned sender inside sendable in
    let writable : c.look_at-looked.result.is_writable ≡ are_writable ram o.ranges.items = c.look_at-looked.ensures.writable ∙ ap (λ (rs : List Range). are_writable ram rs) c.place.ensures in
    let refused : c.from_residual.result ≡ Err c.in_err-check_writes.field-0.0 = search of_calls in
    rw refused (c.in_err-check_writes.ensures table l.base.0 c.args.caller.0 own writable ∙ first-pass before (write_guards ram r) passed)

pub returns-clause-refusal : goal.returns-clause-refusal
returns-clause-refusal g c =
    let o = c.args.offer.now in
    let r = send_record o in
    let l = c.args.layout.now in
    let table = c.args.pages.now in
    let ram = ownership_in table l.base.0 in
    let before = of_sendable (array_vec_len l.regions) ram c.args.buffers.now c.args.caller.0 r in
    let sender : o.sender.0 ≡ c.args.caller.0 = search rules in
    let known : are_known (array_vec_len l.regions) o.receivers.items ≡ true = search rules in
    let inside : list_all (is_inside ram) o.ranges.items ≡ true =
    sym (ap (list_all (is_inside ram)) c.as_slice-2.ensures.value) ∙ sym c.are_inside.ensures ∙ c.if-not-are_inside.false in
    let sendable : list_all (is_sendable c.args.caller.0 (ownership_in table l.base.0) c.args.buffers.now) (pages_in ram o.ranges.items) ≡ true =
    sym (ap (λ (rs : List Range). list_all (is_sendable c.args.caller.0 (ownership_in table l.base.0) c.args.buffers.now) (pages_in ram rs)) c.place.ensures)
    ∙ sym c.look_at-looked.ensures.sendable ∙ is-true c.look_at-looked.result.is_sendable c.if-not-looked.false in
    let passed = sendable-pass (array_vec_len l.regions) ram c.args.buffers.now c.args.caller.0 r sender known inside sendable in
    let own = checked-offered table l.base.0 c.args.caller.0 c.args.buffers.now r (omega (arith, l.place)) c.requires.aligned sender inside sendable in
    let writable : c.look_at-looked.result.is_writable ≡ are_writable ram o.ranges.items = c.look_at-looked.ensures.writable ∙ ap (λ (rs : List Range). are_writable ram rs) c.place.ensures in
    c.in_ok-check_writes.ensures table l.base.0 c.args.caller.0 own writable ∙ first-pass before (write_guards ram r) passed
