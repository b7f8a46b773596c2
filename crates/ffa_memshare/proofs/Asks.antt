-- SPDX-License-Identifier: MIT OR Apache-2.0
-- The transaction in the slot that was found for a handle.
use Rattle.std.proofs.Common.{◌≡◌, ◌∙◌, ℕ, List, length, Some, sym, ap, subst}
use Rattle.std.proofs.lemmas.Option.{same_Some}
use Rattle.std.specs.FinMap as finite
use Rattle.ffa_model.specs.State.{Transaction}
use Rattle.ffa_memshare.specs.declared.transaction.OpenTransaction.{OpenTransaction}
use Rattle.ffa_memshare.specs.Memory.{Memory}
use Rattle.ffa_memshare.specs.Ranges.{ArePlaced}
use Rattle.ffa_memshare.specs.Shared.{AreRangesInRam, IsShared}
use Rattle.ffa_memshare.specs.Stored.{Slot, map_in, pool_slot, view_of}
use Rattle.ffa_memshare.proofs.Reclaims.{one-handle}

-- two that are in one slot are one
pub same-open : (slots : List Slot) (k h : ℕ) (t : Transaction) (it : OpenTransaction) → pool_slot slots k ≡ Some (h, t) → pool_slot slots k ≡ Some (it.handle, view_of it)
    → view_of it ≡ t
same-open slots k h t it at is = ap (λ (x : ℕ × Transaction). x.1) (same_Some (it.handle, view_of it) (h, t) (sym is ∙ at))

module _ (slots : List Slot) (k h : ℕ) (it : OpenTransaction) (found : (t : Transaction) × (pool_slot slots k ≡ Some (h, t)))
    (is : pool_slot slots k ≡ Some (it.handle, view_of it)) where
  -- it has the handle that was asked for
  pub same-handle : it.handle ≡ h
  same-handle = let (t, at) = found in one-handle (pool_slot slots k) h it.handle t (view_of it) at is

  pub asked-slot : pool_slot slots k ≡ Some (h, view_of it)
  asked-slot = subst (λ (g : ℕ). pool_slot slots k ≡ Some (g, view_of it)) same-handle is

  pub asked-open : finite.get (map_in slots) it.handle ≡ Some (view_of it) → finite.get (map_in slots) h ≡ Some (view_of it)
  asked-open given = subst (λ (g : ℕ). finite.get (map_in slots) g ≡ Some (view_of it)) same-handle given

-- the pages of what is open are in RAM
pub shared-placed : {memory : Memory} {slots : List Slot} → IsShared memory slots → AreRangesInRam slots memory.base (length memory.entries)
shared-placed {memory = memory} shared k h t at =
    subst (λ (count : ℕ). ArePlaced memory.base count t.ranges) (sym shared.room.size) (shared.each k h t at).placed
