-- SPDX-License-Identifier: MIT OR Apache-2.0
-- Indirect messages (DEN0077A, 7.1 and 15): what stands in TX is copied to the receiver's RX, of which the manager
-- notifies it.
use Rattle.std.specs.Prelude.{ℕ, ◌+◌, ◌==◌, Bool, not, nat_le, List, [], ◌∷◌, length, take, is_some, Option}
use Rattle.std.specs.Option.{option_map_or}
use Rattle.ffa_model.specs.declared.refusal.Refusal.{Refusal}
use Rattle.ffa_model.specs.declared.refusal.Refusal.TheVariants.{BuffersMissing, FlagsReserved, HeaderReserved, SenderIsAnother, ReceiverUnknown, ReceiverIsCaller, MessageInHeader, MessageEmpty, MessageTooLong, MessagesUnsent, MessagesUnreceived, ReceiverBuffersMissing, ReceiverRxFull, ReceiverRxSmall}
use Rattle.ffa_model.specs.declared.endpoint.Version.{Version}
use Rattle.ffa_model.specs.declared.endpoint.Version.TheVariants.{V1_2}
use Rattle.ffa_model.specs.Numbers.{Identifier}
use Rattle.ffa_model.specs.State.{State, Party, Buffers, buffers_of, is_known_among, has_property, version_of}
use Rattle.ffa_model.specs.Ram.{number_in}
use Rattle.ffa_model.specs.Memory.{run_bytes}
use Rattle.ffa_model.specs.Buffers.{filled, is_full, buffers_in, room_of}
use Rattle.ffa_model.specs.Notifications.{manager_class, message_bits, notifications_of, with_notifications, with_set}
use Rattle.ffa_model.specs.Calls.{Service, success}

-- what is read of the header of a message, in its first 20 bytes
pub record MessageHeader : Type 0 where
  pub flags : ℕ
  pub reserved : ℕ
  pub offset : ℕ
  pub receiver : Identifier
  pub sender : Identifier
  pub size : ℕ

abbrev pub header_in : List ℕ → MessageHeader
header_in tx =
    record {
      flags = number_in tx 0 4;
      reserved = number_in tx 4 4;
      offset = number_in tx 8 4;
      receiver = number_in tx 12 2;
      sender = number_in tx 14 2;
      size = number_in tx 16 4;
    }

-- how many bytes the header has, by its sender's form: in FF-A 1.2 a reserved word and a UUID follow, which the manager doesn't
-- read
abbrev pub message_header_size : Version → ℕ
message_header_size V1_2 = 40
message_header_size version = 20

-- the checks of FFA_MSG_SEND2 in order, for a caller of this form among these endpoints and their buffers
abbrev pub send2_guards : List Party → List (Option Buffers) → Version → Identifier → MessageHeader → List (Bool × Refusal)
send2_guards parties buffers version caller m =
    (is_some (buffers_in buffers caller), BuffersMissing)
    ∷ (m.flags == 0, FlagsReserved)
    ∷ (m.reserved == 0, HeaderReserved)
    ∷ (m.sender == caller, SenderIsAnother)
    ∷ (is_known_among (length parties) m.receiver, ReceiverUnknown)
    ∷ (not (m.receiver == caller), ReceiverIsCaller)
    ∷ (nat_le (message_header_size version) m.offset, MessageInHeader)
    ∷ (not (m.size == 0), MessageEmpty)
    ∷ (nat_le (m.offset + m.size) (room_of (buffers_in buffers caller)), MessageTooLong)
    ∷ (has_property parties caller 2, MessagesUnsent)
    ∷ (has_property parties m.receiver 2, MessagesUnreceived)
    ∷ (is_some (buffers_in buffers m.receiver), ReceiverBuffersMissing)
    ∷ (not (is_full (buffers_in buffers m.receiver)), ReceiverRxFull)
    ∷ (nat_le (m.offset + m.size) (room_of (buffers_in buffers m.receiver)), ReceiverRxSmall)
    ∷ []

-- the message that begins these bytes, with its header
abbrev pub message_in : List ℕ → List ℕ
message_in tx = take ((header_in tx).offset + (header_in tx).size) tx

-- ON A STATE
abbrev pub tx_bytes : State → Identifier → List ℕ
tx_bytes s e = option_map_or (λ (b : Buffers). run_bytes s b.tx b.pages) (buffers_of s e) []

abbrev pub delivered : State → Identifier → List ℕ → State
delivered s receiver message =
    with_notifications (filled s receiver message) (with_set (notifications_of s) receiver manager_class message_bits)

abbrev pub msg_send2 : State → Service
msg_send2 s =
    record {
      guards = send2_guards s.parties s.buffers (version_of s s.runner) s.runner (header_in (tx_bytes s s.runner));
      state = delivered s (header_in (tx_bytes s s.runner)).receiver (message_in (tx_bytes s s.runner));
      reply = success 0 0;
    }
