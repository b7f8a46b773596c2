-- SPDX-License-Identifier: MIT OR Apache-2.0
use Rattle.std.proofs.Common.{◌≡◌, ◌∙◌, ◌≤◌, ◌<◌, ◌^◌, ℕ, List, length, false, Some, refl, sym, ap, subst, arith}
use Rattle.std.proofs.lemmas.Bool.{false≢true}
use Rattle.arrayvec.specs.ArrayVec.{array_vec_len}
use Rattle.ffa_model.specs.declared.limits.TheConstants.{MOST_RANGES}
use Rattle.ffa_model.specs.declared.transaction.Range.{Range}
use Rattle.ffa_model.specs.Buffers.{buffers_in}
use Rattle.ffa_model.specs.MemoryRetrieve.{response_to}
use Rattle.ffa_model.specs.ResponseBytes.{ResponseRecord, response_bytes, response_size}
use Rattle.ffa_model.specs.SendDescriptor.{page_total}
use Rattle.ffa_rxtx.specs.Parts.{with_rx_bytes}
use Rattle.ffa_memshare.specs.Changes.{IsMoved}
use Rattle.ffa_memshare.specs.Memory.{memory_of}
use Rattle.ffa_memshare.specs.Ranges.{in_ranges}
use Rattle.ffa_memshare.specs.Stored.{view_of}
use Rattle.ffa_physmem.proofs.Work.{adds-then}
use Rattle.ffa_memshare.specs.Work.{LosesNone}
use Rattle.ffa_memshare.proofs.Moments.{responded-ends, then-responded}
use Rattle.ffa_memshare.proofs.Retrieves.{few-pages}
use Rattle.ffa_memshare.proofs.transaction.OpenTransaction.hand_over.Goals as goal

pub deliver-size-requires-clause-total : goal.deliver-size-requires-clause-total
deliver-size-requires-clause-total g c =
    let l = c.args.layout.now in
    let ranges = c.args.self.now.ranges in
    let (access, built) = c.requires.held.room.built in
    let most : length ranges ≤ MOST_RANGES = omega (arith, c.len.ensures.count, c.len.ensures.few) in
    subst (λ (xs : List Range). page_total xs < 2 ^ 32) (sym c.list_in.ensures)
    (few-pages l.base.0 l.blocks ranges built.fits.few most c.requires.held.placed)

pub returns-clause-answered : goal.returns-clause-answered
returns-clause-answered g c =
    let l = c.args.layout.now in
    let ranges = c.args.self.now.ranges in
    let old = g.M.PhysMem.ram c.args.ram.now in
    let granted = g.M.PhysMem.ram c.change_pages.new.ram in
    let told = response_to c.args.self.now.handle (view_of c.args.self.now) c.args.caller.0 c.args.found.now.right in
    let same : record told { ranges = c.list_in.new.ranges.items } ≡ told = ap (λ (rs : List Range). record told { ranges = rs }) c.list_in.ensures in
    record {
      granted = granted;
      moved =
          subst (λ (k : ℕ). IsMoved old granted (array_vec_len l.regions) l.tables.0 l.blocks k (in_ranges l.base.0 ranges) (λ p. Some c.args.found.now.right) false) c.place-index.ensures
          c.change_pages.ensures.moved;
      answered =
          c.deliver-size.ensures.ram
          ∙ ap (λ (r : ResponseRecord). with_rx_bytes granted (buffers_in c.args.buffers.now c.args.caller.0) (response_bytes c.args.version r)) same;
      bytes = c.deliver-size.ensures.size ∙ ap (λ (r : ResponseRecord). response_size c.args.version 1 r.ranges) same;
    }

pub returns-clause-steps : goal.returns-clause-steps
returns-clause-steps g c rx_apart =
    let l = c.args.layout.now in
    let memory = memory_of (g.M.PhysMem.ram c.args.ram.now) l c.args.pages.now in
    let granted = g.M.PhysMem.ram c.change_pages.new.ram in
    let new = g.M.PhysMem.ram c.deliver-size.new.ram in
    let moved = c.change_pages.ensures.moved in
    let (access, built) = c.requires.held.room.built in
    let index = c.place-index.result in
    then-responded memory granted new index (in_ranges l.base.0 c.args.self.now.ranges) (λ p. Some c.args.found.now.right) _ rx_apart access built moved.built moved.base c.deliver-size.ensures.beside
    (g.M.PhysMem.past c.args.ram.now) _ _ (c.change_pages.ensures.steps (λ p at zero. absurd (false≢true zero))) c.deliver-size.ensures.steps

pub returns-clause-ended : goal.returns-clause-ended
returns-clause-ended g c rx_apart =
    let l = c.args.layout.now in
    let moved = c.change_pages.ensures.moved in
    let (access, built) = c.requires.held.room.built in
    responded-ends (memory_of (g.M.PhysMem.ram c.args.ram.now) l c.args.pages.now) (g.M.PhysMem.ram c.change_pages.new.ram) (g.M.PhysMem.ram c.deliver-size.new.ram)
    c.place-index.result (in_ranges l.base.0 c.args.self.now.ranges) (λ p. Some c.args.found.now.right) _ rx_apart access built moved.built moved.base c.deliver-size.ensures.beside
    (λ p at. refl) (g.M.PhysMem.past c.deliver-size.new.ram)

pub returns-clause-few : goal.returns-clause-few
returns-clause-few g c access built loses =
    adds-then
    (c.change_pages.ensures.given access c.args.found.now.right refl built
    (subst (λ (k : ℕ). LosesNone (access k) (in_ranges c.args.layout.now.base.0 c.args.self.now.ranges) (λ _. Some c.args.found.now.right)) (sym c.place-index.ensures) loses))
    c.deliver-size.ensures.few
