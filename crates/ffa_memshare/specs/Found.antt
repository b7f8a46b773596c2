-- SPDX-License-Identifier: MIT OR Apache-2.0
-- FOR PROOFS ALONE
-- What the checks of a call whose descriptor stands in TX find, and what a send tells of one that fails.
use Rattle.std.specs.Prelude.{◌≡◌, ℕ, List, Some}
use Rattle.ffa_mend.specs.declared.explained.Explained.{Explained}
use Rattle.ffa_mend.specs.Allowed.{told_receivers}
use Rattle.ffa_mend.specs.Mend.{mend_send}
use Rattle.ffa_model.specs.declared.call.Transfer.{Transfer}
use Rattle.ffa_model.specs.declared.descriptor.RelinquishDesc.{RelinquishDesc}
use Rattle.ffa_model.specs.declared.descriptor.RetrieveDesc.{RetrieveDesc}
use Rattle.ffa_model.specs.declared.refusal.Refusal.{Refusal}
use Rattle.ffa_model.specs.declared.manifest.Ffa.{Ffa}
use Rattle.ffa_model.specs.declared.rights.Kind.{Kind}
use Rattle.ffa_model.specs.About.{failing_send}
use Rattle.ffa_model.specs.AboutContents.{about_send, where_whole}
use Rattle.ffa_model.specs.Access.{Ownership}
use Rattle.ffa_model.specs.DescriptorPlaces.{Versioned}
use Rattle.ffa_model.specs.MemoryRetrieve.{right_for}
use Rattle.ffa_model.specs.Numbers.{Identifier}
use Rattle.ffa_model.specs.RelinquishDescriptor.{relinquish_of}
use Rattle.ffa_model.specs.RetrieveDescriptor.{retrieve_of}
use Rattle.ffa_model.specs.SendDescriptor.{send_of}
use Rattle.ffa_model.specs.State.{Transaction}
use Rattle.ffa_model.specs.Transactions.{Scene}
use Rattle.ffa_memshare.specs.declared.found.FoundReturn.{FoundReturn}
use Rattle.ffa_memshare.specs.declared.found.FoundRight.{FoundRight}
use Rattle.ffa_memshare.specs.Stored.{Slot, pool_slot}

-- the slot of the transaction that these bytes of e ask for, and the right that they ask for
pub record IsAskedFor (ffa : Ffa) (slots : List Slot) (ram : Ownership) (e : ℕ) (bytes : Versioned) (found : FoundRight)
    : Type 0 where
  pub asked : RetrieveDesc
  pub transaction : Transaction
  pub described : retrieve_of ffa e bytes ≡ Some asked
  pub slot : pool_slot slots found.slot ≡ Some (asked.handle, transaction)
  pub right : found.right ≡ right_for ram transaction e asked

-- the slot of the transaction that these bytes give up, and whether they ask for zeros
pub record IsGivenUp (slots : List Slot) (bytes : List ℕ) (found : FoundReturn) : Type 0 where
  pub asked : RelinquishDesc
  pub transaction : Transaction
  pub described : relinquish_of bytes ≡ Some asked
  pub slot : pool_slot slots found.slot ≡ Some (asked.handle, transaction)
  pub zero : found.zero ≡ asked.zero

-- a check of a send of this kind by e, with what its bytes tell of it
abbrev pub sent_told : Scene → Identifier → Ffa → Kind → Transfer → Versioned → Refusal → Refusal × Explained
sent_told scene e ffa kind x bytes refusal = (
  refusal,
  record {
    about = where_whole scene.buffers e x (about_send ffa kind scene.endpoints bytes refusal);
    page = failing_send e scene.ram scene.buffers scene.normal x (send_of ffa kind bytes) refusal;
    mend = mend_send scene.buffers scene.ram scene.normal e x (send_of ffa kind bytes) refusal;
    receivers = told_receivers scene.buffers e x bytes;
  },
)
