-- SPDX-License-Identifier: MIT OR Apache-2.0
use Rattle.std.proofs.Common.{◌≡◌, ◌∙◌, ◌<◌, ◌≤◌, ℕ, arith, rules, refl, sym, ap, subst}
use Rattle.std.proofs.lemmas.Option.{same_Some}
use Rattle.ffa_model.specs.declared.limits.TheConstants.{MOST_HANDLES}
use Rattle.ffa_model.specs.Identifiers.{place}
use Rattle.ffa_model.specs.State.{Transaction}
use Rattle.ffa_model.specs.Transactions.{most_sends, sends_of}
use Rattle.ffa_pages.specs.Entry.{own_right_at}
use Rattle.ffa_stage2.specs.Layout.{normal_in}
use Rattle.ffa_physmem.specs.Work.{AddsAtMost}
use Rattle.ffa_memshare.specs.Offers.{opened_by}
use Rattle.ffa_memshare.specs.Ranges.{in_ranges}
use Rattle.ffa_model.specs.MemorySend.{send_guards}
use Rattle.ffa_model.specs.SendDescriptor.{SendRecord, send_of}
use Rattle.ffa_model.proofs.CallAccesses.{handles-enough}
use Rattle.ffa_model.proofs.Guards.{answers-code, answers-pass}
use Rattle.ffa_memshare.specs.Memory.{memory_parts}
use Rattle.ffa_memshare.specs.Scenes.{descriptor_in, scene_in}
use Rattle.ffa_memshare.specs.Stored.{open_in, view_of}
use Rattle.ffa_physmem.proofs.Moments.{Only-none}
use Rattle.ffa_stage2.proofs.Moments.{nothing-ends}
use Rattle.ffa_physmem.proofs.Work.{adds-none}
use Rattle.ffa_memshare.specs.Work.{IsTakenFrom, sent_work}
use Rattle.ffa_memshare.proofs.pool.Pool.send.Goals as goal

pub returns-in_err-slot-clause-refusal : goal.returns-in_err-slot-clause-refusal
returns-in_err-slot-clause-refusal g c =
    let l = c.args.layout.now in
    answers-code
    (send_guards c.args.call.now.ffa (scene_in (memory_parts (g.M.PhysMem.ram c.args.ram.now) l c.args.pages.now c.args.buffers.now c.args.self.now)) c.args.caller.0 c.args.call.now.transfer
    (send_of c.args.call.now.ffa c.args.kind (descriptor_in (g.M.PhysMem.ram c.args.ram.now) c.args.buffers.now c.args.caller.0 c.args.call.now)))
    c.in_err-slot.field-0.0 c.from_residual.result c.in_err-slot.ensures.refusal c.from_residual.ensures.1

pub returns-clause-refusal : goal.returns-clause-refusal
returns-clause-refusal g c =
    let l = c.args.layout.now in
    answers-pass
    (send_guards c.args.call.now.ffa (scene_in (memory_parts (g.M.PhysMem.ram c.args.ram.now) l c.args.pages.now c.args.buffers.now c.args.self.now)) c.args.caller.0 c.args.call.now.transfer
    (send_of c.args.call.now.ffa c.args.kind (descriptor_in (g.M.PhysMem.ram c.args.ram.now) c.args.buffers.now c.args.caller.0 c.args.call.now)))
    c.in_ok-slot.ensures.refusal

pub take_pages-requires : goal.take_pages-requires
take_pages-requires g c = search rules

pub open-requires-clause-sender : goal.open-requires-clause-sender
open-requires-clause-sender g c = search rules

pub open-requires-clause-few : goal.open-requires-clause-few
open-requires-clause-few g c =
    let its = c.in_ok-slot.ensures.offered in
    let enough : most_sends c.args.call.now.ffa ≤ MOST_HANDLES = handles-enough c.args.call.now.ffa in
    let few : sends_of (open_in c.args.self.now) c.args.caller.0 < MOST_HANDLES = omega (arith, c.in_ok-slot.ensures.few, enough) in
    subst (λ (e : ℕ). sends_of (open_in c.args.self.now) e < MOST_HANDLES)
    (sym (ap (λ (t : Transaction). t.sender) (ap view_of c.clear_offer.ensures ∙ its.transaction) ∙ its.own.sender)) few

pub returns-clause-sent : goal.returns-clause-sent
returns-clause-sent g c = search rules

pub returns-in_err-slot-clause-steps : goal.returns-in_err-slot-clause-steps
returns-in_err-slot-clause-steps g c = Only-none

pub returns-in_err-slot-clause-ended : goal.returns-in_err-slot-clause-ended
returns-in_err-slot-clause-ended g c = nothing-ends _ _ _ _ _ (g.M.PhysMem.past c.args.ram.now) refl

pub returns-in_err-slot-clause-few : goal.returns-in_err-slot-clause-few
returns-in_err-slot-clause-few g c offer access split described built from = adds-none (sent_work c.args.kind c.args.layout.now.base.0 split offer.ranges offer.zero)

pub returns-clause-few : goal.returns-clause-few
returns-clause-few g c offer access split described built from =
    let base = c.args.layout.now.base.0 in
    let table = c.args.pages.now in
    let its = c.in_ok-slot.ensures.offered in
    let old = g.M.PhysMem.past c.args.ram.now in
    let new = g.M.PhysMem.past c.take_pages.new.ram in
    let same : its.offer ≡ offer = same_Some its.offer offer (sym its.described ∙ described) in
    let sender : offer.sender ≡ c.args.caller.0 = ap (λ (o : SendRecord). o.sender) (sym same) ∙ its.own.sender in
    subst (λ (t : Transaction). IsTakenFrom t.kind (access (place t.sender)) (in_ranges base t.ranges) (own_right_at table) split → AddsAtMost old new (sent_work t.kind base split t.ranges t.zero))
    (ap view_of c.clear_offer.ensures ∙ its.transaction ∙ ap (opened_by table base (normal_in c.args.layout.now) c.args.kind) same) (c.take_pages.ensures.few access split built)
    (subst (λ (e : ℕ). IsTakenFrom c.args.kind (access (place e)) (in_ranges base offer.ranges) (own_right_at table) split) (sym sender) from)
