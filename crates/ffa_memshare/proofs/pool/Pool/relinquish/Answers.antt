-- SPDX-License-Identifier: MIT OR Apache-2.0
use Rattle.std.proofs.Common.{◌≡◌, ◌∙◌, ℕ, List, None, ap, sym, subst, refl}
use Rattle.std.proofs.lemmas.Option.{same_Some}
use Rattle.std.specs.FinMap as finite
use Rattle.ffa_model.specs.State.{Transaction}
use Rattle.ffa_model.specs.declared.transaction.Range.{Range}
use Rattle.ffa_model.specs.declared.descriptor.RelinquishDesc.{RelinquishDesc}
use Rattle.ffa_physmem.specs.Work.{AddsAtMost}
use Rattle.ffa_physmem.proofs.Work.{adds-none}
use Rattle.ffa_memshare.specs.Work.{AreSplitsIn, taken_work}
use Rattle.std.specs.Prelude.{Bool}
use Rattle.arrayvec.specs.ArrayVec.{array_vec_len}
use Rattle.ffa_model.specs.Buffers.{buffers_in}
use Rattle.ffa_model.specs.Identifiers.{place}
use Rattle.ffa_model.specs.MemoryReturn.{relinquish_guards}
use Rattle.ffa_model.specs.RelinquishDescriptor.{relinquish_of}
use Rattle.ffa_model.proofs.Guards.{answers-code, answers-pass}
use Rattle.ffa_rxtx.specs.Parts.{tx_in}
use Rattle.ffa_memshare.specs.Changes.{IsMoved}
use Rattle.ffa_memshare.specs.Ranges.{in_ranges}
use Rattle.ffa_memshare.specs.Stored.{map_in, open_in, view_of}
use Rattle.ffa_physmem.proofs.Moments.{Only-none}
use Rattle.ffa_stage2.proofs.Moments.{nothing-ends}
use Rattle.ffa_memshare.proofs.Asks.{asked-open, asked-slot}
use Rattle.ffa_memshare.proofs.pool.Pool.relinquish.Goals as goal

pub returns-in_err-found-clause-refusal : goal.returns-in_err-found-clause-refusal
returns-in_err-found-clause-refusal g c =
    let own = buffers_in c.args.buffers.now c.args.caller.0 in
    answers-code (relinquish_guards own (open_in c.args.self.now) c.args.caller.0 (relinquish_of (tx_in (g.M.PhysMem.ram c.args.ram.now) own)))
    c.in_err-found.field-0.0 c.from_residual.result c.in_err-found.ensures.refusal c.from_residual.ensures.1

pub returns-clause-refusal : goal.returns-clause-refusal
returns-clause-refusal g c =
    let own = buffers_in c.args.buffers.now c.args.caller.0 in
    answers-pass (relinquish_guards own (open_in c.args.self.now) c.args.caller.0 (relinquish_of (tx_in (g.M.PhysMem.ram c.args.ram.now) own)))
    c.in_ok-found.ensures.refusal

pub returns-clause-done : goal.returns-clause-done
returns-clause-done g c =
    let l = c.args.layout.now in
    let slots = c.args.self.now.slots in
    let found = c.in_ok-found.found in
    let its = c.in_ok-found.ensures.found in
    let it = c.at-open.result.now in
    let there = asked-slot slots found.slot its.asked.handle it (its.transaction, its.slot) c.at-open.ensures.value in
    let old = g.M.PhysMem.ram c.args.ram.now in
    let new = g.M.PhysMem.ram c.change_pages.new.ram in
    record {
      asked = its.asked;
      transaction = view_of it;
      described = its.described;
      was = asked-open slots found.slot its.asked.handle it (its.transaction, its.slot) c.at-open.ensures.value c.at-open.ensures.open;
      slot = record { slot = found.slot; transaction = view_of it; was = there; slots = c.set_held.ensures.slots its.asked.handle (view_of it) there };
      open_transactions = c.set_held.ensures.open_transactions its.asked.handle (view_of it) there;
      moved =
          subst (λ (zero : Bool). IsMoved old new (array_vec_len l.regions) l.tables.0 l.blocks (place c.args.caller.0) (in_ranges l.base.0 it.ranges) (λ p. None) zero) its.zero
          (subst (λ (i : ℕ). IsMoved old new (array_vec_len l.regions) l.tables.0 l.blocks i (in_ranges l.base.0 it.ranges) (λ p. None) found.zero) c.place-index.ensures
          c.change_pages.ensures.moved);
      access = c.tell.ensures;
    }

pub returns-in_err-found-clause-steps : goal.returns-in_err-found-clause-steps
returns-in_err-found-clause-steps g c = Only-none

pub returns-in_err-found-clause-ended : goal.returns-in_err-found-clause-ended
returns-in_err-found-clause-ended g c = nothing-ends _ _ _ _ _ (g.M.PhysMem.past c.args.ram.now) refl

pub change_pages-requires-clause-placed : goal.change_pages-requires-clause-placed
change_pages-requires-clause-placed g c =
    let it = c.at-open.result.now in
    (c.requires.shared.each c.in_ok-found.found.slot it.handle (view_of it) c.at-open.ensures.value).placed

pub returns-in_err-found-clause-few : goal.returns-in_err-found-clause-few
returns-in_err-found-clause-few g c asked t access split described was built splits = adds-none (taken_work c.args.layout.now.base.0 split t.ranges asked.zero)

pub returns-clause-few : goal.returns-clause-few
returns-clause-few g c asked t access split described was built splits =
    let base = c.args.layout.now.base.0 in
    let slots = c.args.self.now.slots in
    let found = c.in_ok-found.found in
    let its = c.in_ok-found.ensures.found in
    let it = c.at-open.result.now in
    let old = g.M.PhysMem.past c.args.ram.now in
    let new = g.M.PhysMem.past c.change_pages.new.ram in
    let same : its.asked ≡ asked = same_Some its.asked asked (sym its.described ∙ described) in
    let is : view_of it ≡ t = same_Some (view_of it) t
    (sym (asked-open slots found.slot its.asked.handle it (its.transaction, its.slot) c.at-open.ensures.value c.at-open.ensures.open)
    ∙ ap (λ (d : RelinquishDesc). finite.get (map_in slots) d.handle) same ∙ was) in
    let ranges : it.ranges ≡ t.ranges = ap (λ (x : Transaction). x.ranges) is in
    subst (λ (zero : Bool). AddsAtMost old new (taken_work base split t.ranges zero)) (its.zero ∙ ap (λ (d : RelinquishDesc). d.zero) same)
    (subst (λ (rs : List Range). AddsAtMost old new (taken_work base split rs found.zero)) ranges
    (c.change_pages.ensures.taken access split refl built
    (subst (λ (rs : List Range). AreSplitsIn (access c.place-index.result) (in_ranges base rs) None split) (sym ranges)
    (subst (λ (k : ℕ). AreSplitsIn (access k) (in_ranges base t.ranges) None split) (sym c.place-index.ensures) splits))))
