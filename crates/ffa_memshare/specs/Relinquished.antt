-- SPDX-License-Identifier: MIT OR Apache-2.0
-- What a relinquish leaves.
use Rattle.std.specs.Prelude.{◌≡◌, ℕ, List, Option, Some, None}
use Rattle.ffa_model.specs.declared.descriptor.RelinquishDesc.{RelinquishDesc}
use Rattle.ffa_model.specs.Identifiers.{place}
use Rattle.ffa_model.specs.RelinquishDescriptor.{relinquish_of}
use Rattle.ffa_model.specs.State.{Transaction}
use Rattle.ffa_model.specs.Transactions.{not_holding, with_transaction}
use Rattle.ffa_memshare.specs.declared.changed.Changed.{Changed}
use Rattle.ffa_memshare.specs.Changes.{IsMoved}
use Rattle.ffa_memshare.specs.Memory.{MemoryParts}
use Rattle.ffa_memshare.specs.Ranges.{in_ranges}
use Rattle.ffa_memshare.specs.SlotChanges.{IsHeldBy}
use Rattle.ffa_memshare.specs.Stored.{open_in, transaction_in}

-- The parts after e has given up what these bytes describe: e holds the transaction no more and has no right to
-- its pages, which are zeros where that is asked; and the news say which access changed.
pub record IsRelinquished (old new : MemoryParts) (e : ℕ) (bytes : List ℕ) (news : Option Changed) : Type 0 where
  pub asked : RelinquishDesc
  pub transaction : Transaction
  pub described : relinquish_of bytes ≡ Some asked
  pub was : transaction_in old.pool.slots asked.handle ≡ Some transaction
  pub slot : IsHeldBy old.pool new.pool asked.handle e None
  pub open_transactions :
      open_in new.pool ≡ with_transaction (open_in old.pool) asked.handle (not_holding transaction e)
  pub moved :
      IsMoved old.memory.ram new.memory.ram old.memory.endpoints old.memory.tables old.memory.blocks (place e)
      (in_ranges old.memory.base transaction.ranges) (λ p. None) asked.zero
  pub access : news ≡ Some (record { ranges = transaction.ranges; endpoint = Some (record { 0 = e }) })
