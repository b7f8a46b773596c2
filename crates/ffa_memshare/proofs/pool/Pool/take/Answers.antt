-- SPDX-License-Identifier: MIT OR Apache-2.0
use Rattle.std.proofs.Common.{◌≡◌, ◌⊎◌, ◌∙◌, ℕ, Some, sym, ap, subst}
use Rattle.ffa_model.specs.declared.rights.Kind.{Kind}
use Rattle.ffa_model.specs.declared.rights.Kind.TheVariants.{Share, Lend}
use Rattle.ffa_model.specs.MemoryRetrieve.{taken_in}
use Rattle.ffa_model.specs.State.{Transaction}
use Rattle.ffa_memshare.specs.Changes.{IsMarked}
use Rattle.ffa_memshare.specs.Ranges.{in_ranges}
use Rattle.ffa_memshare.specs.Retrieved.{IsPassedOn, IsTaken}
use Rattle.ffa_memshare.specs.Stored.{open_in, pool_slot, view_of}
use Rattle.ffa_memshare.specs.declared.marks.Mark.TheVariants.{Given}
use Rattle.ffa_memshare.proofs.Asks.{same-open}
use Rattle.ffa_memshare.proofs.Retrieves.{held-taken, kept-passed, taken-open}
use Rattle.ffa_memshare.proofs.pool.Pool.take.Goals as goal

pub mark_all-requires-clause-placed : goal.mark_all-requires-clause-placed
mark_all-requires-clause-placed g c = c.requires.placed c.at-open.result.now.handle (view_of c.at-open.result.now) c.at-open.ensures.value

pub mark_all-requires-clause-owned : goal.mark_all-requires-clause-owned
mark_all-requires-clause-owned g c = c.requires.owned c.at-open.result.now.handle (view_of c.at-open.result.now) c.at-open.ensures.value

pub returns-in-Donate-clause-slot : goal.returns-in-Donate-clause-slot
returns-in-Donate-clause-slot g c h t at =
    let same = same-open c.args.self.now.slots c.args.slot h t c.at-open.result.now at c.at-open.ensures.value in
    subst (λ (kind : Kind). IsTaken kind c.args.self.now c.close.new.self h c.args.endpoint.0 c.args.right) (sym c.in-Donate.is ∙ ap (λ (u : Transaction). u.kind) same)
    (record { slot = c.args.slot; transaction = t; was = at; slots = c.close.ensures.slots })

pub returns-in-Donate-clause-open_transactions : goal.returns-in-Donate-clause-open_transactions
returns-in-Donate-clause-open_transactions g c h t at =
    let same = same-open c.args.self.now.slots c.args.slot h t c.at-open.result.now at c.at-open.ensures.value in
    subst (λ (kind : Kind). open_in c.close.new.self ≡ taken_in kind (open_in c.args.self.now) h t c.args.endpoint.0 c.args.right)
    (sym c.in-Donate.is ∙ ap (λ (u : Transaction). u.kind) same) (c.close.ensures.open_transactions h t at)

pub returns-in-Donate-clause-pages : goal.returns-in-Donate-clause-pages
returns-in-Donate-clause-pages g c h t at =
    let same = same-open c.args.self.now.slots c.args.slot h t c.at-open.result.now at c.at-open.ensures.value in
    subst (λ (kind : Kind). IsPassedOn kind c.args.pages.now c.mark_all.new.pages (in_ranges c.args.base.0 t.ranges) c.args.endpoint c.args.right)
    (sym c.in-Donate.is ∙ ap (λ (u : Transaction). u.kind) same)
    (subst (λ (u : Transaction). IsMarked c.args.pages.now c.mark_all.new.pages (in_ranges c.args.base.0 u.ranges) (Given c.args.endpoint c.args.right)) same c.mark_all.ensures)

pub returns-in-Share : goal.returns-in-Share
returns-in-Share g c =
    let kinds : (h : ℕ) (t : Transaction) → pool_slot c.args.self.now.slots c.args.slot ≡ Some (h, t) → (t.kind ≡ Share) ⊎ (t.kind ≡ Lend) = λ h t at. subst (λ (u : Transaction). (u.kind ≡ Share) ⊎ (u.kind ≡ Lend))
    (same-open c.args.self.now.slots c.args.slot h t c.at-open.result.now at c.at-open.ensures.value) c.in-Share.is in
    record {
      slot = λ h t at. held-taken t.kind (kinds h t at) c.args.self.now c.set_held.new.self h c.args.endpoint.0 c.args.right
          (record { slot = c.args.slot; transaction = t; was = at; slots = c.set_held.ensures.slots h t at });
      open_transactions = λ h t at. c.set_held.ensures.open_transactions h t at
          ∙ taken-open t.kind (kinds h t at) (open_in c.args.self.now) h t c.args.endpoint.0 c.args.right;
      pages = λ h t at. kept-passed t.kind (kinds h t at) c.args.pages.now (in_ranges c.args.base.0 t.ranges) c.args.endpoint c.args.right;
    }
