-- SPDX-License-Identifier: MIT OR Apache-2.0
use Rattle.std.proofs.Common.{◌∙◌, ◌≤◌, ◌<◌, ◌^◌, ℕ, List, length, sym, ap, subst, arith}
use Rattle.arrayvec.specs.ArrayVec.{ArrayVec}
use Rattle.ffa_model.specs.declared.limits.TheConstants.{MOST_RANGES}
use Rattle.ffa_model.specs.declared.transaction.Range.{Range}
use Rattle.ffa_model.specs.declared.transaction.Receiver.{Receiver}
use Rattle.ffa_model.specs.Buffers.{buffers_in, is_full}
use Rattle.ffa_model.specs.HypervisorRetrieve.{back_guards, handle_alone}
use Rattle.ffa_model.specs.ResponseBytes.{ResponseRecord, response_bytes, response_size}
use Rattle.ffa_model.specs.SendDescriptor.{page_total}
use Rattle.ffa_model.proofs.Guards.{answers-code}
use Rattle.ffa_physmem.proofs.Moments.{Only-none}
use Rattle.ffa_physmem.specs.Work.{loans_of}
use Rattle.ffa_physmem.proofs.Work.{adds-none}
use Rattle.ffa_rxtx.specs.Parts.{with_rx_bytes}
use Rattle.ffa_memshare.specs.Retrieved.{IsToldBack}
use Rattle.ffa_memshare.specs.Scenes.{descriptor_in}
use Rattle.ffa_memshare.specs.Stored.{transaction_in, view_of}
use Rattle.ffa_memshare.proofs.Asks.{asked-open, same-handle}
use Rattle.ffa_memshare.proofs.Retrieves.{few-pages}
use Rattle.ffa_memshare.proofs.pool.Pool.read_back.Goals as goal

pub returns-in_err-found-clause-refusal : goal.returns-in_err-found-clause-refusal
returns-in_err-found-clause-refusal g c =
    answers-code
    (back_guards (is_full (buffers_in c.args.buffers.now c.args.caller.0)) c.args.caller.0 (transaction_in c.args.self.now.slots)
    (handle_alone (descriptor_in (g.M.PhysMem.ram c.args.ram.now) c.args.buffers.now c.args.caller.0 c.args.call.now)))
    c.in_err-found.field-0.0 c.from_residual.result c.in_err-found.ensures.refusal c.from_residual.ensures.1

pub returns-in_err-found-clause-steps : goal.returns-in_err-found-clause-steps
returns-in_err-found-clause-steps g c = Only-none

pub deliver_sent-requires-clause-total : goal.deliver_sent-requires-clause-total
deliver_sent-requires-clause-total g c =
    let l = c.args.layout.now in
    let it = c.at-open.result.now in
    let held = c.requires.shared.each c.in_ok-found.found.slot it.handle (view_of it) c.at-open.ensures.value in
    let (access, built) = held.room.built in
    let most : length it.ranges ≤ MOST_RANGES = omega (arith, c.len.ensures.count, c.len.ensures.few) in
    subst (λ (xs : List Range). page_total xs < 2 ^ 32) (sym c.sent-sent.ensures.ranges)
    (few-pages l.base.0 l.blocks it.ranges built.fits.few most held.placed)

pub returns-clause-done : goal.returns-clause-done
returns-clause-done g c =
    let slots = c.args.self.now.slots in
    let slot = c.in_ok-found.found.slot in
    let it = c.at-open.result.now in
    let (h, t, asked, at) = c.in_ok-found.ensures.slot in
    let version = c.args.call.now.version in
    let own = buffers_in c.args.buffers.now c.args.caller.0 in
    let old = g.M.PhysMem.ram c.args.ram.now in
    let new = g.M.PhysMem.ram c.deliver_sent.new.ram in
    let told : IsToldBack old new own version it.handle (view_of it) c.deliver_sent.result =
    record {
      answered = c.deliver_sent.ensures.ram ∙ ap (λ (r : ResponseRecord). with_rx_bytes old own (response_bytes version r)) c.sent-sent.ensures.told;
      bytes =
          c.deliver_sent.ensures.size
          ∙ ap (λ (n : ℕ). response_size version n c.sent-sent.result.ranges.items) (ap (λ (v : ArrayVec Receiver). length v.items) c.sent-sent.ensures.receivers)
          ∙ ap (λ (rs : List Range). response_size version (length it.receivers.items) rs) c.sent-sent.ensures.ranges;
    }
    in
    record {
      handle = h;
      transaction = view_of it;
      asked = asked;
      was = asked-open slots slot h it (t, at) c.at-open.ensures.value c.at-open.ensures.open;
      told = subst (λ (k : ℕ). IsToldBack old new own version k (view_of it) c.deliver_sent.result) (same-handle slots slot h it (t, at) c.at-open.ensures.value) told;
    }

pub returns-in_err-found-clause-few : goal.returns-in_err-found-clause-few
returns-in_err-found-clause-few g c = adds-none (loans_of 1)
