-- SPDX-License-Identifier: MIT OR Apache-2.0
use Rattle.std.proofs.Common.{◌≡◌, ◌∙◌, ℕ, List, Some, refl, ap, sym, subst}
use Rattle.std.proofs.lemmas.Option.{same_Some}
use Rattle.std.specs.FinMap as finite
use Rattle.ffa_model.specs.Identifiers.{place}
use Rattle.ffa_model.specs.declared.descriptor.RetrieveDesc.{RetrieveDesc}
use Rattle.ffa_model.specs.declared.rights.Rights.{Rights}
use Rattle.ffa_model.specs.declared.transaction.Range.{Range}
use Rattle.ffa_physmem.specs.Work.{AddsAtMost}
use Rattle.ffa_physmem.proofs.Work.{adds-none}
use Rattle.ffa_memshare.specs.Ranges.{in_ranges}
use Rattle.ffa_memshare.specs.Work.{LosesNone, retrieved_work}
use Rattle.ffa_rxtx.specs.Parts.{ownership_in}
use Rattle.ffa_model.specs.Buffers.{buffers_in}
use Rattle.ffa_model.specs.MemoryRetrieve.{response_to, retrieve_guards, right_for}
use Rattle.ffa_model.specs.RetrieveDescriptor.{endpoints_named, retrieve_of}
use Rattle.ffa_model.specs.State.{Transaction}
use Rattle.ffa_model.proofs.Guards.{answers-code, answers-pass}
use Rattle.ffa_memshare.specs.Memory.{memory_of, memory_parts}
use Rattle.ffa_memshare.specs.Retrieved.{IsResponded}
use Rattle.ffa_memshare.specs.Scenes.{descriptor_in, scene_in}
use Rattle.ffa_memshare.specs.Stored.{map_in, view_of}
use Rattle.ffa_physmem.proofs.Moments.{Only-none}
use Rattle.ffa_stage2.proofs.Moments.{nothing-ends}
use Rattle.ffa_memshare.proofs.Asks.{asked-open, asked-slot, same-handle, same-open, shared-placed}
use Rattle.ffa_memshare.proofs.pool.Pool.retrieve.Goals as goal

pub check_retrieve-requires-clause-placed : goal.check_retrieve-requires-clause-placed
check_retrieve-requires-clause-placed g c = shared-placed c.requires.shared

pub hand_over-size-requires-clause-held : goal.hand_over-size-requires-clause-held
hand_over-size-requires-clause-held g c =
    let it = c.at-open.result.now in
    c.requires.shared.each c.in_ok-found.found.slot it.handle (view_of it) c.at-open.ensures.value

pub take-requires-clause-placed : goal.take-requires-clause-placed
take-requires-clause-placed g c = shared-placed c.requires.shared c.in_ok-found.found.slot

pub take-requires-clause-owned : goal.take-requires-clause-owned
take-requires-clause-owned g c h t at = (c.requires.shared.each c.in_ok-found.found.slot h t at).owned

pub returns-in_err-found-clause-refusal : goal.returns-in_err-found-clause-refusal
returns-in_err-found-clause-refusal g c =
    let l = c.args.layout.now in
    answers-code
    (retrieve_guards c.args.call.now.ffa (scene_in (memory_parts (g.M.PhysMem.ram c.args.ram.now) l c.args.pages.now c.args.buffers.now c.args.self.now)) c.args.caller.0 c.args.call.now.transfer
    (endpoints_named (descriptor_in (g.M.PhysMem.ram c.args.ram.now) c.args.buffers.now c.args.caller.0 c.args.call.now))
    (retrieve_of c.args.call.now.ffa c.args.caller.0 (descriptor_in (g.M.PhysMem.ram c.args.ram.now) c.args.buffers.now c.args.caller.0 c.args.call.now)))
    c.in_err-found.field-0.0 c.from_residual.result c.in_err-found.ensures.refusal c.from_residual.ensures.1

pub returns-clause-refusal : goal.returns-clause-refusal
returns-clause-refusal g c =
    let l = c.args.layout.now in
    answers-pass
    (retrieve_guards c.args.call.now.ffa (scene_in (memory_parts (g.M.PhysMem.ram c.args.ram.now) l c.args.pages.now c.args.buffers.now c.args.self.now)) c.args.caller.0 c.args.call.now.transfer
    (endpoints_named (descriptor_in (g.M.PhysMem.ram c.args.ram.now) c.args.buffers.now c.args.caller.0 c.args.call.now))
    (retrieve_of c.args.call.now.ffa c.args.caller.0 (descriptor_in (g.M.PhysMem.ram c.args.ram.now) c.args.buffers.now c.args.caller.0 c.args.call.now)))
    c.in_ok-found.ensures.refusal

pub returns-clause-done : goal.returns-clause-done
returns-clause-done g c =
    let l = c.args.layout.now in
    let slots = c.args.self.now.slots in
    let found = c.in_ok-found.found in
    let its = c.in_ok-found.ensures.found in
    let it = c.at-open.result.now in
    let same = same-open slots found.slot its.asked.handle its.transaction it its.slot c.at-open.ensures.value in
    let there = asked-slot slots found.slot its.asked.handle it (its.transaction, its.slot) c.at-open.ensures.value in
    record {
      asked = its.asked;
      transaction = view_of it;
      right = found.right;
      size = c.hand_over-size.result;
      described = its.described;
      was = asked-open slots found.slot its.asked.handle it (its.transaction, its.slot) c.at-open.ensures.value c.at-open.ensures.open;
      is = its.right ∙ ap (λ (t : Transaction). right_for (ownership_in c.args.pages.now l.base.0) t c.args.caller.0 its.asked) (sym same);
      slot = c.take.ensures.slot its.asked.handle (view_of it) there;
      open_transactions = c.take.ensures.open_transactions its.asked.handle (view_of it) there;
      pages = c.take.ensures.pages its.asked.handle (view_of it) there;
      answer =
          subst (λ (h : ℕ). IsResponded (memory_of (g.M.PhysMem.ram c.args.ram.now) l c.args.pages.now) (g.M.PhysMem.ram c.hand_over-size.new.ram)
          (buffers_in c.args.buffers.now c.args.caller.0) c.args.call.now.version c.args.caller.0 found.right (response_to h (view_of it) c.args.caller.0 found.right) c.hand_over-size.result)
          (same-handle slots found.slot its.asked.handle it (its.transaction, its.slot) c.at-open.ensures.value)
          c.hand_over-size.ensures.answered;
      value = refl;
      access = c.tell.ensures;
    }

pub returns-clause-steps : goal.returns-clause-steps
returns-clause-steps g c rx_apart =
    let it = c.at-open.result.now in
    c.hand_over-size.ensures.steps (rx_apart c.in_ok-found.found.slot it.handle (view_of it) c.at-open.ensures.value)

pub returns-in_err-found-clause-steps : goal.returns-in_err-found-clause-steps
returns-in_err-found-clause-steps g c rx_apart = Only-none

pub returns-clause-ended : goal.returns-clause-ended
returns-clause-ended g c rx_apart =
    let it = c.at-open.result.now in
    c.hand_over-size.ensures.ended (rx_apart c.in_ok-found.found.slot it.handle (view_of it) c.at-open.ensures.value)

pub returns-in_err-found-clause-ended : goal.returns-in_err-found-clause-ended
returns-in_err-found-clause-ended g c rx_apart = nothing-ends _ _ _ _ _ (g.M.PhysMem.past c.args.ram.now) refl

pub returns-in_err-found-clause-few : goal.returns-in_err-found-clause-few
returns-in_err-found-clause-few g c asked t access described was built loses =
    adds-none (retrieved_work c.args.layout.now.base.0 (right_for (ownership_in c.args.pages.now c.args.layout.now.base.0) t c.args.caller.0 asked) t.ranges)

pub returns-clause-few : goal.returns-clause-few
returns-clause-few g c asked t access described was built loses =
    let base = c.args.layout.now.base.0 in
    let slots = c.args.self.now.slots in
    let found = c.in_ok-found.found in
    let its = c.in_ok-found.ensures.found in
    let it = c.at-open.result.now in
    let owners = ownership_in c.args.pages.now base in
    let old = g.M.PhysMem.past c.args.ram.now in
    let new = g.M.PhysMem.past c.hand_over-size.new.ram in
    let same : its.asked ≡ asked = same_Some its.asked asked (sym its.described ∙ described) in
    let is : view_of it ≡ t = same_Some (view_of it) t
    (sym (asked-open slots found.slot its.asked.handle it (its.transaction, its.slot) c.at-open.ensures.value c.at-open.ensures.open)
    ∙ ap (λ (d : RetrieveDesc). finite.get (map_in slots) d.handle) same ∙ was) in
    let one : view_of it ≡ its.transaction = same-open slots found.slot its.asked.handle its.transaction it its.slot c.at-open.ensures.value in
    let right : found.right ≡ right_for owners t c.args.caller.0 asked =
    its.right ∙ (λ j. right_for owners ((sym one ∙ is) j) c.args.caller.0 (same j)) in
    let ranges : it.ranges ≡ t.ranges = ap (λ (x : Transaction). x.ranges) is in
    subst (λ (r : Rights). AddsAtMost old new (retrieved_work base r t.ranges)) right
    (subst (λ (rs : List Range). AddsAtMost old new (retrieved_work base found.right rs)) ranges
    (c.hand_over-size.ensures.few access built
    (subst (λ (rs : List Range). LosesNone (access (place c.args.caller.0)) (in_ranges base rs) (λ _. Some found.right)) (sym ranges)
    (subst (λ (r : Rights). LosesNone (access (place c.args.caller.0)) (in_ranges base t.ranges) (λ _. Some r)) (sym right) loses))))
