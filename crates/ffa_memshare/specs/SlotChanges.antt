-- SPDX-License-Identifier: MIT OR Apache-2.0
-- What becomes of one slot, while all others stay.
use Rattle.std.specs.Prelude.{◌≡◌, ◌<◌, ◌/◌, ℕ, List, length, slice_set, Option, Some, None}
use Rattle.ffa_model.specs.declared.limits.TheConstants.{MOST_OPEN}
use Rattle.ffa_model.specs.declared.rights.Rights.{Rights}
use Rattle.ffa_model.specs.Identifiers.{place}
use Rattle.ffa_model.specs.State.{Transaction}
use Rattle.ffa_memshare.specs.Held.{with_holder}
use Rattle.ffa_memshare.specs.Stored.{Pooled, Slot, pool_slot}

-- the slot of the transaction with this handle is free
pub record IsClosed (old new : Pooled) (h : ℕ) : Type 0 where
  pub slot : ℕ
  pub transaction : Transaction
  pub was : pool_slot old.slots slot ≡ Some (h, transaction)
  pub slots : new.slots ≡ slice_set old.slots slot None

-- a slot of the sender at a place has nothing
pub record IsFree (slots : List Slot) (sender k : ℕ) : Type 0 where
  pub within : k < length slots
  pub own : k / MOST_OPEN ≡ sender
  pub free : pool_slot slots k ≡ None

-- a slot of its sender, which was free, has this transaction with its handle
pub record IsOpened (old new : Pooled) (k h : ℕ) (t : Transaction) : Type 0 where
  pub free : IsFree old.slots (place t.sender) k
  pub slots : new.slots ≡ slice_set old.slots k (Some (h, t))

-- an endpoint holds the transaction with this handle with this right, or holds it no more
pub record IsHeldBy (old new : Pooled) (h e : ℕ) (right : Option Rights) : Type 0 where
  pub slot : ℕ
  pub transaction : Transaction
  pub was : pool_slot old.slots slot ≡ Some (h, transaction)
  pub slots : new.slots ≡ slice_set old.slots slot (Some (h, with_holder transaction e right))
