-- SPDX-License-Identifier: MIT OR Apache-2.0
-- FFA_MEM_RETRIEVE_REQ of a hypervisor (DEN0077A, 16): on a machine of FF-A 1.2 the normal world reads back what it sent. It is told
-- all receivers with the data right that it granted to each, and nobody holds anything by it.
use Rattle.std.specs.Prelude.{ℕ, ◌==◌, Bool, true, false, not, ◌&&◌, nat_le, is_none, List, [], ◌∷◌, length, map, Option, Some, None, if◌then◌else◌}
use Rattle.std.specs.Option.{option_map_or}
use Rattle.ffa_model.specs.declared.call.Reply.TheVariants.{Retrieved}
use Rattle.ffa_model.specs.declared.call.Transfer.{Transfer}
use Rattle.ffa_model.specs.declared.descriptor.SentTransaction.{SentTransaction}
use Rattle.ffa_model.specs.declared.endpoint.Version.{Version}
use Rattle.ffa_model.specs.declared.endpoint.Version.TheVariants.{Compact}
use Rattle.ffa_model.specs.declared.manifest.Ffa.{Ffa}
use Rattle.ffa_model.specs.declared.manifest.Ffa.TheVariants.{V1_1, V1_2}
use Rattle.ffa_model.specs.declared.refusal.Refusal.{Refusal}
use Rattle.ffa_model.specs.declared.refusal.Refusal.TheVariants.{DescriptorMalformed, NotTheSenders, RxFull}
use Rattle.ffa_model.specs.declared.transaction.Receiver.{Receiver}
use Rattle.ffa_model.specs.Numbers.{HandleNumber, Identifier}
use Rattle.ffa_model.specs.Access.{is_from}
use Rattle.ffa_model.specs.Buffers.{filled, is_full}
use Rattle.ffa_model.specs.Calls.{Service, first_refusal}
use Rattle.ffa_model.specs.DescriptorPlaces.{Versioned, data_code, handle_field, header_size, receiver_count, u64_at}
use Rattle.ffa_model.specs.MemoryRetrieve.{receiver_retrieve}
use Rattle.ffa_model.specs.MemorySend.{descriptor_in, transfer_guards}
use Rattle.ffa_model.specs.ResponseBytes.{ResponseRecord, response_bytes, response_size}
use Rattle.ffa_model.specs.State.{State, Buffers, Transaction, buffers_of, transaction_of, version_of}

-- whether bytes of e are a hypervisor's: a header with no access descriptor
abbrev pub is_hypervisors : Ffa → Identifier → Versioned → Bool
is_hypervisors V1_1 e descriptor = false
is_hypervisors V1_2 e descriptor =
    e == 0 && (nat_le (header_size descriptor.version) (length descriptor.bytes) && receiver_count descriptor == 0)

-- and stand whole in TX
abbrev pub is_asked_back : Ffa → List (Option Buffers) → Identifier → Transfer → Versioned → Bool
is_asked_back ffa buffers e transfer descriptor =
    is_hypervisors ffa e descriptor && is_none (first_refusal (transfer_guards buffers e transfer))

-- the header's bytes behind the first 32
abbrev pub is_end_zero : Version → List ℕ → Bool
is_end_zero Compact bytes = true
is_end_zero version bytes = u64_at bytes 32 == 0 && u64_at bytes 40 == 0

-- the handle, where all else in the header is 0
abbrev pub handle_alone : Versioned → Option HandleNumber
handle_alone descriptor =
    if (u64_at descriptor.bytes 0 == 0 && u64_at descriptor.bytes 16 == 0)
    && (u64_at descriptor.bytes 24 == 0 && is_end_zero descriptor.version descriptor.bytes)
    then Some (handle_field descriptor)
    else None

-- the checks in order, for an e whose RX is full or not, with the handle, or None where something else isn't 0
abbrev pub back_guards : Bool → Identifier → (HandleNumber → Option Transaction) → Option HandleNumber → List (Bool × Refusal)
back_guards full e named None = (false, DescriptorMalformed) ∷ []
back_guards full e named (Some h) = (is_from e (named h), NotTheSenders) ∷ (not full, RxFull) ∷ []

-- what e is told: the transaction as it was sent
abbrev pub access_granted : Receiver → ℕ × ℕ
access_granted receiver = (receiver.endpoint.0, data_code receiver.grant)

abbrev pub sent_record : HandleNumber → Transaction → ResponseRecord
sent_record h t =
    record {
      sender = t.sender;
      kind = t.kind;
      zero = t.zero;
      normal = t.normal;
      handle = h;
      tag = t.tag;
      accesses = map access_granted t.receivers;
      ranges = t.ranges;
    }

abbrev pub sent_transaction_record : SentTransaction → ResponseRecord
sent_transaction_record sent =
    record {
      sender = sent.sender.0;
      kind = sent.kind;
      zero = sent.zero;
      normal = sent.normal;
      handle = sent.handle;
      tag = sent.tag;
      accesses = map access_granted sent.receivers.items;
      ranges = sent.ranges.items;
    }

-- ON A STATE
abbrev pub handle_read : State → ℕ → Option HandleNumber
handle_read s total = handle_alone (descriptor_in s total)

abbrev pub told_back : State → HandleNumber → Option Transaction → State
told_back s h None = s
told_back s h (Some t) = filled s s.runner (response_bytes (version_of s s.runner) (sent_record h t))

abbrev pub read_back : State → Option HandleNumber → State
read_back s None = s
read_back s (Some h) = told_back s h (transaction_of s h)

-- the length of the answer
abbrev pub back_length : State → Option HandleNumber → ℕ
back_length s None = 0
back_length s (Some h) =
    option_map_or (λ (t : Transaction). response_size (version_of s s.runner) (length t.receivers) t.ranges) (transaction_of s h) 0

abbrev pub hypervisor_retrieve : State → Transfer → Service
hypervisor_retrieve s transfer =
    record {
      guards = back_guards (is_full (buffers_of s s.runner)) s.runner (transaction_of s) (handle_read s transfer.total);
      state = read_back s (handle_read s transfer.total);
      reply = Retrieved (back_length s (handle_read s transfer.total));
    }

abbrev pub asks_back : State → Transfer → Bool
asks_back s transfer = is_asked_back s.ffa s.buffers s.runner transfer (descriptor_in s transfer.total)

-- FFA_MEM_RETRIEVE_REQ, of a hypervisor or of a receiver
abbrev pub retrieve_by : Bool → State → Transfer → Service
retrieve_by true s transfer = hypervisor_retrieve s transfer
retrieve_by false s transfer = receiver_retrieve s transfer

abbrev pub memory_retrieve : State → Transfer → Service
memory_retrieve s transfer = retrieve_by (asks_back s transfer) s transfer
