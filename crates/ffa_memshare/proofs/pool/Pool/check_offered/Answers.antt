-- SPDX-License-Identifier: MIT OR Apache-2.0
use Rattle.std.proofs.Common.{◌≡◌, ◌∙◌, ◌++◌, of_calls, Some, sym, ap}
use Rattle.std.specs.Result.{result_err}
use Rattle.arrayvec.specs.ArrayVec.{array_vec_len}
use Rattle.ffa_model.specs.MemorySend.{is_told_normal, record_guards, room_guards, transaction_from, world_guards}
use Rattle.ffa_model.specs.SendDescriptor.{SendRecord, send_record}
use Rattle.ffa_rxtx.specs.Parts.{ownership_in}
use Rattle.ffa_stage2.specs.Layout.{normal_in}
use Rattle.ffa_memshare.specs.Stored.{open_in}
use Rattle.ffa_memshare.proofs.Firsts.{first-fail, first-pass}
use Rattle.ffa_memshare.proofs.pool.Pool.check_offered.Goals as goal

pub returns-in_err-check_offer-clause-refusal : goal.returns-in_err-check_offer-clause-refusal
returns-in_err-check_offer-clause-refusal g c =
    let l = c.args.layout.now in
    let ram = ownership_in c.args.pages.now l.base.0 in
    let send = send_record c.args.offer.now in
    let refusal = c.in_err-check_offer.field-0.0 in
    let refused : result_err c.from_residual.result ≡ Some refusal = search of_calls in
    refused
    ∙ first-fail (record_guards (array_vec_len l.regions) ram c.args.buffers.now c.args.caller.0 send)
    (world_guards ram (normal_in l) send ++ room_guards c.args.ffa (open_in c.args.self.now) c.args.caller.0) refusal c.in_err-check_offer.ensures.refusal

pub returns-in_err-normal-clause-refusal : goal.returns-in_err-normal-clause-refusal
returns-in_err-normal-clause-refusal g c =
    let l = c.args.layout.now in
    let ram = ownership_in c.args.pages.now l.base.0 in
    let send = send_record c.args.offer.now in
    let worlds = world_guards ram (normal_in l) send in
    let rooms = room_guards c.args.ffa (open_in c.args.self.now) c.args.caller.0 in
    let refusal = c.in_err-normal.field-0.0 in
    let refused : result_err c.from_residual-in_err-normal.result ≡ Some refusal = search of_calls in
    refused
    ∙ first-fail worlds rooms refusal (c.in_err-normal.ensures.refusal send (sym c.in_ok-check_offer.ensures.ranges) (sym c.as_slice-receivers.ensures.value))
    ∙ first-pass (record_guards (array_vec_len l.regions) ram c.args.buffers.now c.args.caller.0 send) (worlds ++ rooms) c.in_ok-check_offer.ensures.refusal

pub returns-in_err-slot-clause-refusal : goal.returns-in_err-slot-clause-refusal
returns-in_err-slot-clause-refusal g c =
    let l = c.args.layout.now in
    let ram = ownership_in c.args.pages.now l.base.0 in
    let send = send_record c.args.offer.now in
    let worlds = world_guards ram (normal_in l) send in
    let rooms = room_guards c.args.ffa (open_in c.args.self.now) c.args.caller.0 in
    let refused : result_err c.from_residual-in_err-slot.result ≡ Some c.in_err-slot.field-0.0 = search of_calls in
    refused ∙ c.in_err-slot.ensures.refusal
    ∙ first-pass worlds rooms (c.in_ok-normal.ensures.refusal send (sym c.in_ok-check_offer.ensures.ranges) (sym c.as_slice-receivers.ensures.value))
    ∙ first-pass (record_guards (array_vec_len l.regions) ram c.args.buffers.now c.args.caller.0 send) (worlds ++ rooms) c.in_ok-check_offer.ensures.refusal

pub returns-clause-refusal : goal.returns-clause-refusal
returns-clause-refusal g c =
    let l = c.args.layout.now in
    let ram = ownership_in c.args.pages.now l.base.0 in
    let send = send_record c.args.offer.now in
    let worlds = world_guards ram (normal_in l) send in
    let rooms = room_guards c.args.ffa (open_in c.args.self.now) c.args.caller.0 in
    c.in_ok-slot.ensures.refusal
    ∙ first-pass worlds rooms (c.in_ok-normal.ensures.refusal send (sym c.in_ok-check_offer.ensures.ranges) (sym c.as_slice-receivers.ensures.value))
    ∙ first-pass (record_guards (array_vec_len l.regions) ram c.args.buffers.now c.args.caller.0 send) (worlds ++ rooms) c.in_ok-check_offer.ensures.refusal

pub returns-clause-offered : goal.returns-clause-offered
returns-clause-offered g c bytes described other =
    let send : SendRecord = send_record c.args.offer.now in
    record {
      offer = send;
      described = described;
      transaction =
          c.offer.ensures.offered c.in_ok-check_offer.ensures.ranges
          ∙ ap (λ normal. transaction_from c.args.kind normal send)
          (c.in_ok-normal.ensures.normal
          ∙ ap (is_told_normal (ownership_in c.args.pages.now c.args.layout.now.base.0) (normal_in c.args.layout.now)) c.in_ok-check_offer.ensures.ranges);
      own = c.in_ok-check_offer.ensures.offered;
      other = other;
    }
