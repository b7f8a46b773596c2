-- SPDX-License-Identifier: MIT OR Apache-2.0
-- What a send leaves.
use Rattle.std.specs.Prelude.{◌≡◌, ℕ, false, Option, Some, None}
use Rattle.ffa_model.specs.declared.manifest.Ffa.{Ffa}
use Rattle.ffa_model.specs.declared.rights.Kind.{Kind}
use Rattle.ffa_model.specs.declared.rights.Kind.TheVariants.{Share, Lend, Donate}
use Rattle.ffa_model.specs.Access.{is_receiver}
use Rattle.ffa_model.specs.DescriptorPlaces.{Versioned}
use Rattle.ffa_model.specs.Identifiers.{place}
use Rattle.ffa_model.specs.MemorySend.{offered_in}
use Rattle.ffa_model.specs.SendDescriptor.{SendRecord, send_of}
use Rattle.ffa_model.specs.State.{Transaction}
use Rattle.ffa_model.specs.Transactions.{next_handle}
use Rattle.ffa_memshare.specs.declared.changed.Changed.{Changed}
use Rattle.ffa_memshare.specs.declared.grants.NewRight.{NewRight}
use Rattle.ffa_memshare.specs.declared.grants.NewRight.TheVariants.{Same, Own}
use Rattle.ffa_memshare.specs.declared.marks.Mark.TheVariants.{Named}
use Rattle.ffa_memshare.specs.Changed.{changed_sender}
use Rattle.ffa_memshare.specs.Changes.{IsMarked, IsMoved}
use Rattle.ffa_memshare.specs.Grants.{new_right}
use Rattle.ffa_memshare.specs.Memory.{Memory, MemoryParts}
use Rattle.ffa_memshare.specs.Offers.{IsOwnOffer, opened_by}
use Rattle.ffa_memshare.specs.Ranges.{in_ranges}
use Rattle.ffa_memshare.specs.SlotChanges.{IsOpened}
use Rattle.ffa_memshare.specs.Stored.{open_in}

-- what a sender keeps: of a share its own right, and else nothing
abbrev pub right_after : Kind → NewRight
right_after Share = Own
right_after Lend = Same None
right_after Donate = Same None

-- the transaction that a send of this kind opens
abbrev pub offered_by : Memory → Kind → SendRecord → Transaction
offered_by memory kind offer = opened_by memory.entries memory.base memory.normal kind offer

-- The parts after e has sent what these bytes describe: a free slot of e has it, e's pages are marked with that
-- slot, e has the right to them that it keeps, and they are zeros where that is asked; and the news say which access
-- changed.
pub record IsSent (old new : MemoryParts) (e : ℕ) (ffa : Ffa) (kind : Kind) (bytes : Versioned) (news : Option Changed) : Type 0 where
  pub offer : SendRecord
  pub slot : ℕ
  pub described : send_of ffa kind bytes ≡ Some offer
  pub own : IsOwnOffer old.memory.entries old.memory.base e offer
  pub other : is_receiver e (offered_by old.memory kind offer) ≡ false
  pub opened : IsOpened old.pool new.pool slot (next_handle (open_in old.pool) e) (offered_by old.memory kind offer)
  pub open_transactions :
      open_in new.pool ≡ offered_in (open_in old.pool) e kind (offered_by old.memory kind offer).normal offer
  pub marks :
      IsMarked old.memory.entries new.memory.entries (in_ranges old.memory.base offer.ranges) (Named (Some slot))
  pub moved :
      IsMoved old.memory.ram new.memory.ram old.memory.endpoints old.memory.tables old.memory.blocks (place e)
      (in_ranges old.memory.base offer.ranges) (new_right (right_after kind) old.memory.entries) offer.zero
  pub access : news ≡ Some (record { ranges = offer.ranges; endpoint = changed_sender kind e })
