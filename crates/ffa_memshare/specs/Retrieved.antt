-- SPDX-License-Identifier: MIT OR Apache-2.0
-- What a retrieve leaves.
use Rattle.std.specs.Prelude.{◌≡◌, ℕ, Bool, false, List, length, Option, Some}
use Rattle.ffa_model.specs.declared.descriptor.RetrieveDesc.{RetrieveDesc}
use Rattle.ffa_model.specs.declared.endpoint.EndpointId.{EndpointId}
use Rattle.ffa_model.specs.declared.endpoint.Version.{Version}
use Rattle.ffa_model.specs.declared.manifest.Ffa.{Ffa}
use Rattle.ffa_model.specs.declared.rights.Kind.{Kind}
use Rattle.ffa_model.specs.declared.rights.Kind.TheVariants.{Share, Lend, Donate}
use Rattle.ffa_model.specs.declared.rights.Rights.{Rights}
use Rattle.ffa_model.specs.Buffers.{buffers_in}
use Rattle.ffa_model.specs.DescriptorPlaces.{Versioned}
use Rattle.ffa_model.specs.HypervisorRetrieve.{handle_alone, sent_record}
use Rattle.ffa_model.specs.Identifiers.{place}
use Rattle.ffa_model.specs.MemoryRetrieve.{response_to, right_for, taken_in}
use Rattle.ffa_model.specs.Ram.{Ram}
use Rattle.ffa_model.specs.ResponseBytes.{ResponseRecord, response_bytes, response_size}
use Rattle.ffa_model.specs.RetrieveDescriptor.{retrieve_of}
use Rattle.ffa_model.specs.State.{Buffers, Transaction}
use Rattle.ffa_pages.specs.Entry.{Entry}
use Rattle.ffa_rxtx.specs.Parts.{with_rx_bytes, ownership_in}
use Rattle.ffa_memshare.specs.declared.changed.Changed.{Changed}
use Rattle.ffa_memshare.specs.declared.changed.Value.{Value}
use Rattle.ffa_memshare.specs.declared.changed.Value.TheVariants.{Size}
use Rattle.ffa_memshare.specs.declared.marks.Mark.TheVariants.{Given}
use Rattle.ffa_memshare.specs.Changes.{IsMarked, IsMoved}
use Rattle.ffa_memshare.specs.Memory.{Memory, MemoryParts}
use Rattle.ffa_memshare.specs.Ranges.{in_ranges}
use Rattle.ffa_memshare.specs.SlotChanges.{IsClosed, IsHeldBy}
use Rattle.ffa_memshare.specs.Stored.{Pooled, open_in, transaction_in}

-- the pages of a donate are the endpoint's own, with this right; others stay
abbrev pub IsPassedOn : Kind → List (Option Entry) → List (Option Entry) → (ℕ → Bool) → EndpointId → Rights → Type 0
IsPassedOn Donate old new named e right = IsMarked old new named (Given e right)
IsPassedOn Lend old new named e right = new ≡ old
IsPassedOn Share old new named e right = new ≡ old

-- a donate is open no more; another transaction is held by the endpoint
abbrev pub IsTaken : Kind → Pooled → Pooled → ℕ → ℕ → Rights → Type 0
IsTaken Donate old new h e right = IsClosed old new h
IsTaken Lend old new h e right = IsHeldBy old new h e (Some right)
IsTaken Share old new h e right = IsHeldBy old new h e (Some right)

-- What an endpoint of this version is told that gets this right to pages, how many bytes that takes, and what RAM
-- is then: its tables give the endpoint the right, and its RX holds the response.
pub record IsResponded (old : Memory) (after : Ram) (own : Option Buffers)
    (version : Version) (e : ℕ) (right : Rights) (told : ResponseRecord) (size : ℕ) : Type 0 where
  pub granted : Ram
  pub moved :
      IsMoved old.ram granted old.endpoints old.tables old.blocks (place e) (in_ranges old.base told.ranges)
      (λ p. Some right) false
  pub answered : after ≡ with_rx_bytes granted own (response_bytes version told)
  pub bytes : size ≡ response_size version 1 told.ranges

-- The parts after an endpoint has taken what these bytes ask for, with the size of the response; and the news say which
-- access changed.
pub record IsRetrieved (ffa : Ffa) (old new : MemoryParts) (e : EndpointId) (bytes : Versioned) (news : Option Changed) (returned : Value) : Type 0 where
  pub asked : RetrieveDesc
  pub transaction : Transaction
  pub right : Rights
  pub size : ℕ
  pub described : retrieve_of ffa e.0 bytes ≡ Some asked
  pub was : transaction_in old.pool.slots asked.handle ≡ Some transaction
  pub is : right ≡ right_for (ownership_in old.memory.entries old.memory.base) transaction e.0 asked
  pub slot : IsTaken transaction.kind old.pool new.pool asked.handle e.0 right
  pub open_transactions :
      open_in new.pool ≡ taken_in transaction.kind (open_in old.pool) asked.handle transaction e.0 right
  pub pages :
      IsPassedOn transaction.kind old.memory.entries new.memory.entries
      (in_ranges old.memory.base transaction.ranges) e right
  pub answer :
      IsResponded old.memory new.memory.ram (buffers_in old.buffers e.0) bytes.version e.0 right
      (response_to asked.handle transaction e.0 right) size
  pub value : returned ≡ Size size
  pub access : news ≡ Some (record { ranges = transaction.ranges; endpoint = Some e })

-- what RAM is after an endpoint has read back what it sent with this handle, which its RX holds in its version, and how many bytes
-- that takes
pub record IsToldBack (before after : Ram) (own : Option Buffers) (version : Version) (h : ℕ) (t : Transaction) (size : ℕ) : Type 0 where
  pub answered : after ≡ with_rx_bytes before own (response_bytes version (sent_record h t))
  pub bytes : size ≡ response_size version (length t.receivers) t.ranges

-- of the transaction that these bytes ask for
pub record IsReadBack (before after : Ram) (buffers : List (Option Buffers)) (pool : Pooled) (e : EndpointId) (bytes : Versioned) (size : ℕ) : Type 0 where
  pub handle : ℕ
  pub transaction : Transaction
  pub asked : handle_alone bytes ≡ Some handle
  pub was : transaction_in pool.slots handle ≡ Some transaction
  pub told : IsToldBack before after (buffers_in buffers e.0) bytes.version handle transaction size
