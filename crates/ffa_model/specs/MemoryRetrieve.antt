-- SPDX-License-Identifier: MIT OR Apache-2.0
-- FFA_MEM_RETRIEVE_REQ (DEN0077A, 5 and 16), of a receiver.
use Rattle.std.specs.Prelude.{ℕ, ◌==◌, Bool, true, false, not, is_none, List, [], ◌∷◌, ◌++◌, Option, Some, None, unwrap_or, if◌then◌else◌}
use Rattle.std.specs.Option.{option_map, option_map_or}
use Rattle.std.specs.FinMap as map
use Rattle.ffa_model.specs.declared.manifest.Ffa.{Ffa}
use Rattle.ffa_model.specs.declared.manifest.Ffa.TheVariants.{V1_1, V1_2}
use Rattle.ffa_model.specs.declared.refusal.Refusal.{Refusal}
use Rattle.ffa_model.specs.declared.refusal.Refusal.TheVariants.{HandleUnknown, NotReceiver, ReceiversDiffer, TransactionSenderDiffers, TagDiffers, KindDiffers, AlreadyRetrieved, RightTooMuch, RxFull, DescriptorMalformed}
use Rattle.ffa_model.specs.declared.call.Reply.TheVariants.{Retrieved}
use Rattle.ffa_model.specs.declared.descriptor.RetrieveDesc.{RetrieveDesc}
use Rattle.ffa_model.specs.declared.rights.Rights.{Rights}
use Rattle.ffa_model.specs.declared.rights.Kind.{Kind}
use Rattle.ffa_model.specs.declared.rights.Kind.TheVariants.{Donate}
use Rattle.ffa_model.specs.declared.transaction.Range.{Range}
use Rattle.ffa_model.specs.Numbers.{HandleNumber, Identifier}
use Rattle.ffa_model.specs.Rights.{is_at_most, is_donate, is_same_kind}
use Rattle.ffa_model.specs.State.{State, Page, Transaction, transaction_of, version_of}
use Rattle.ffa_model.specs.Access.{Ownership, held_by, is_receiver, ownership_of}
use Rattle.ffa_model.specs.Memory.{changed_pages}
use Rattle.ffa_model.specs.Buffers.{buffers_in, filled, is_full}
use Rattle.ffa_model.specs.MemorySend.{transfer_guards, descriptor_in}
use Rattle.ffa_model.specs.RetrieveDescriptor.{are_receivers, endpoints_named, retrieve_of}
use Rattle.ffa_model.specs.ResponseBytes.{ResponseRecord, permissions_of, response_bytes, response_size}
use Rattle.ffa_model.specs.declared.call.Transfer.{Transfer}
use Rattle.ffa_model.specs.Transactions.{OpenTransactions, Scene, ceiling, closed, holding, with_transaction, open_of, scene_of, with_open}
use Rattle.ffa_model.specs.Calls.{Service}

-- the right that is asked: data that aren't specified are the most, and instructions that aren't are not executed
abbrev pub asked_right : Rights → RetrieveDesc → Rights
asked_right most d = record { level = unwrap_or d.level most.level; exec = d.exec }

-- the right that e gets
abbrev pub right_for : Ownership → Transaction → Identifier → RetrieveDesc → Rights
right_for ram t e d = asked_right (ceiling ram t e) d

-- a kind that isn't specified is any
abbrev pub is_kind_right : Kind → Option Kind → Bool
is_kind_right kind None = true
is_kind_right kind (Some k) = is_same_kind kind k

-- on a machine of FF-A 1.2: whom a retrieve names is the caller alone, or exactly the receivers
abbrev pub names_receivers : Ffa → List ℕ → Transaction → Bool
names_receivers V1_1 named t = true
names_receivers V1_2 named t = are_receivers named t.receivers

-- the checks of the transaction that is asked for, in order, for an e whose RX is full or not, which names these
abbrev pub holding_guards : Ffa → Ownership → Bool → Identifier → List ℕ → RetrieveDesc → Option Transaction → List (Bool × Refusal)
holding_guards ffa ram full e named d None = (false, HandleUnknown) ∷ []
holding_guards ffa ram full e named d (Some t) =
    (is_receiver e t, NotReceiver)
    ∷ (names_receivers ffa named t, ReceiversDiffer)
    ∷ (d.sender.0 == t.sender, TransactionSenderDiffers)
    ∷ (d.tag == t.tag, TagDiffers)
    ∷ (is_kind_right t.kind d.kind, KindDiffers)
    ∷ (is_none (held_by t e), AlreadyRetrieved)
    ∷ (is_at_most (right_for ram t e d) (ceiling ram t e), RightTooMuch)
    ∷ (not full, RxFull)
    ∷ []

abbrev pub asking_guards : Ffa → Scene → Identifier → List ℕ → Option RetrieveDesc → List (Bool × Refusal)
asking_guards ffa scene e named None = (false, DescriptorMalformed) ∷ []
asking_guards ffa scene e named (Some d) =
    holding_guards ffa scene.ram (is_full (buffers_in scene.buffers e)) e named d (map.get scene.open_transactions.transactions d.handle)

-- the checks of a retrieve by e in order, with whom the descriptor names and what it says, or None where the bytes are none
abbrev pub retrieve_guards : Ffa → Scene → Identifier → Transfer → List ℕ → Option RetrieveDesc → List (Bool × Refusal)
retrieve_guards ffa scene e transfer named d = transfer_guards scene.buffers e transfer ++ asking_guards ffa scene e named d

-- what is open after e has retrieved the transaction of a handle: e holds the right, and of a donate nothing is open
abbrev pub taken_in : Kind → OpenTransactions → HandleNumber → Transaction → Identifier → Rights → OpenTransactions
taken_in Donate o h t e right = closed o h
taken_in kind o h t e right = with_transaction o h (holding t e right)

-- what e is told of what it now holds
abbrev pub response_to : HandleNumber → Transaction → Identifier → Rights → ResponseRecord
response_to h t e right =
    record {
      sender = t.sender;
      kind = t.kind;
      zero = t.zero;
      normal = t.normal;
      handle = h;
      tag = t.tag;
      accesses = (e, permissions_of right) ∷ [];
      ranges = t.ranges;
    }

-- ON A STATE
-- the pages of a donate are e's own, with this right
abbrev pub donated_page : Identifier → Rights → Option Page → Option Page
donated_page e right page = option_map (λ (q : Page). record q { owner = e; own_right = right }) page

abbrev pub donated_if : Bool → State → List Range → Identifier → Rights → State
donated_if donated s ranges e right =
    record s { pages = if donated then changed_pages s ranges (donated_page e right) else s.pages }

abbrev pub with_retrieved : State → HandleNumber → Transaction → Identifier → Rights → State
with_retrieved s h t e right =
    with_open (donated_if (is_donate t.kind) s t.ranges e right) (taken_in t.kind (open_of s) h t e right)

-- and RX holds the response
abbrev pub retrieved_right : State → HandleNumber → Transaction → Identifier → Rights → State
retrieved_right s h t e right =
    filled (with_retrieved s h t e right) e (response_bytes (version_of s e) (response_to h t e right))

abbrev pub retrieved_from : State → RetrieveDesc → Option Transaction → State
retrieved_from s d None = s
retrieved_from s d (Some t) = retrieved_right s d.handle t s.runner (right_for (ownership_of s) t s.runner d)

abbrev pub retrieved : State → Option RetrieveDesc → State
retrieved s None = s
retrieved s (Some d) = retrieved_from s d (transaction_of s d.handle)

-- the length of the response
abbrev pub response_length : State → Option RetrieveDesc → ℕ
response_length s None = 0
response_length s (Some d) =
    option_map_or (λ (t : Transaction). response_size (version_of s s.runner) 1 t.ranges) (transaction_of s d.handle) 0

-- what the first bytes of the runner's TX say, and whom they name
abbrev pub retrieve_read : State → ℕ → Option RetrieveDesc
retrieve_read s total = retrieve_of s.ffa s.runner (descriptor_in s total)

abbrev pub named_read : State → ℕ → List ℕ
named_read s total = endpoints_named (descriptor_in s total)

abbrev pub receiver_retrieve : State → Transfer → Service
receiver_retrieve s transfer =
    record {
      guards = retrieve_guards s.ffa (scene_of s) s.runner transfer (named_read s transfer.total) (retrieve_read s transfer.total);
      state = retrieved s (retrieve_read s transfer.total);
      reply = Retrieved (response_length s (retrieve_read s transfer.total));
    }
