-- SPDX-License-Identifier: MIT OR Apache-2.0
-- An operation between the reading of its pages, if it reads any, and the end of that.
use Rattle.std.proofs.Common.{◌≡◌, ◌∙◌, ℕ, ◌+◌, ◌≤◌, Bool, true, false, length, Option, Some, None, refl, sym, ap, subst, arith}
use Rattle.std.specs.Prelude.{IfSome, IsSome}
use Rattle.std.proofs.lemmas.Bool.{false_from_ne_true, false≢true}
use Rattle.ffa_model.specs.declared.operation.Op.{Op}
use Rattle.ffa_model.specs.declared.operation.Outcome.{Outcome}
use Rattle.ffa_model.specs.State.{State, Page, page_at}
use Rattle.ffa_model.specs.Lists.{is_in_run}
use Rattle.ffa_physmem.specs.Moments.{Site, HasNoCopies, is_copied}
use Rattle.ffa_spmc.specs.declared.run.Run.{Run}
use Rattle.ffa_spmc.specs.Among.{AreRead, IsDoneReading, is_in}
use Rattle.ffa_spmc.specs.Operated.{IsDone}
use Rattle.ffa_spmc.specs.Snapshot.{Snapshot}
use Rattle.ffa_spmc.specs.Unowned.{IsNoTable, KeepsUnowned}
use Rattle.ffa_spmc.proofs.Besides.{beside-page, beside-tables}
use Rattle.ffa_spmc.proofs.Sizes.{pages-step, tables-kept}

places-kept : (o : Option Run) (begins : Bool) (old new : Snapshot) → AreRead o begins old new → new.past.site.places ≡ old.past.site.places
places-kept None begins old new same = ap (λ (x : Snapshot). x.past.site.places) same
places-kept (Some run) begins old new read = read.places

module _ (old seen left : Snapshot) (op : Op) (outcome : Outcome) (done : IsDone seen op outcome left) where
  -- the pages that were read are pages still, and none of the tables'
  pub left-within : (o : Option Run) → AreRead o true old seen → IfSome o (λ run. run.first.0 + run.count ≤ length old.ram.pages)
      → IfSome o (λ run. run.first.0 + run.count ≤ length left.ram.pages)
  left-within None same within = within
  left-within (Some run) read within =
      let same : length left.ram.pages ≡ length old.ram.pages =
      done.operated.agrees.size ∙ ap (λ (s : State). length s.pages) done.operated.state ∙ pages-step seen.state op ∙ sym read.agrees.size ∙ read.ram.size
      in
      omega (arith, within, same)

  pub left-aside : (o : Option Run) → AreRead o true old seen → IfSome o (λ run. (p : ℕ) → is_in run p ≡ true → IsNoTable old.state p)
      → IfSome o (λ run. (p : ℕ) → is_in run p ≡ true → IsNoTable left.state p)
  left-aside None same aside = aside
  left-aside (Some run) read aside = λ p at.
      subst (λ (s : State). IsNoTable s p) (sym done.operated.state)
      (tables-kept seen.state op p (beside-tables old.state seen.state (is_in run) read.state p (aside p at)))

  -- and no other page is in a copy
  pub left-only : HasNoCopies old.past → (o : Option Run) → AreRead o true old seen
      → IfSome o (λ run. (p : ℕ) → is_copied left.past p ≡ true → is_in run p ≡ true)
  left-only free None read = tt
  left-only free (Some run) read = λ p its.
      read.only p (sym (ap (λ (site : Site). is_in_run site.copies.first (length site.copies.beneath) p) done.operated.order.site) ∙ its)

  module _ (new : Snapshot) where
    -- behind it none is
    pub reading-free : HasNoCopies old.past → (o : Option Run) → AreRead o true old seen → AreRead o false left new → HasNoCopies new.past
    reading-free free None read ended =
        ap (λ (x : Snapshot). x.past.site.copies.beneath) ended ∙ ap (λ (site : Site). site.copies.beneath) done.operated.order.site
        ∙ ap (λ (x : Snapshot). x.past.site.copies.beneath) read ∙ free
    reading-free free (Some run) read ended = ended.free refl

    -- each page lies where it lay
    pub reading-places : (o : Option Run) → AreRead o true old seen → AreRead o false left new → new.past.site.places ≡ old.past.site.places
    reading-places o read ended =
        places-kept o false left new ended ∙ ap (λ (site : Site). site.places) done.operated.order.site ∙ places-kept o true old seen read

    -- the operation is done by what was read
    pub reading-done : (o : Option Run) → AreRead o true old seen → AreRead o false left new → IsDoneReading o old op outcome new
    reading-done None read ended = subst (λ (x : Snapshot). IsDone x op outcome new) read (subst (IsDone seen op outcome) (sym ended) done)
    reading-done (Some run) read ended = record { seen = seen; left = left; read = read; done = done; ended = ended }

    -- pages that nobody owns keep their bytes
    pub reading-unowned : (o : Option Run) → AreRead o true old seen → AreRead o false left new
        → IfSome o (λ run. (p : ℕ) → is_in run p ≡ true → IsSome (page_at old.state p)) → KeepsUnowned old.state old.ram new.ram
    reading-unowned None read ended owned = (reading-done None read ended).operated.unowned
    reading-unowned (Some run) read ended owned = λ p aside none.
        let off : is_in run p ≡ false = false_from_ne_true (is_in run p) (λ at. false≢true (subst (λ (o : Option Page). IsSome o) none (owned p at))) in
        ended.ram.pages p off
        ∙ done.operated.unowned p (beside-tables old.state seen.state (is_in run) read.state p aside) (beside-page old.state seen.state (is_in run) read.state p off ∙ none)
        ∙ read.ram.pages p off
