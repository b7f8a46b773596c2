-- SPDX-License-Identifier: MIT OR Apache-2.0
-- What a message is read from, over the parts of the machine, and its checks by what they are about.
use Rattle.std.specs.Prelude.{◌≡◌, ℕ, ◌+◌, ◌==◌, Bool, true, false, not, nat_le, List, [], ◌∷◌, length, Option, Some, None, slice_index_or, is_some}
use Rattle.ffa_model.specs.declared.endpoint.Version.{Version}
use Rattle.ffa_model.specs.declared.refusal.Refusal.{Refusal}
use Rattle.ffa_model.specs.declared.refusal.Refusal.TheVariants.{FlagsReserved, HeaderReserved, SenderIsAnother, ReceiverUnknown, ReceiverIsCaller, MessageInHeader, MessageEmpty, MessageTooLong, MessagesUnsent, MessagesUnreceived, ReceiverBuffersMissing, ReceiverRxFull, ReceiverRxSmall}
use Rattle.ffa_model.specs.Buffers.{buffers_in, is_full, room_of}
use Rattle.ffa_model.specs.Calls.{first_failure}
use Rattle.ffa_model.specs.Lists.{is_in_run}
use Rattle.ffa_model.specs.Messages.{MessageHeader, header_in, message_header_size, send2_guards}
use Rattle.ffa_model.specs.Ram.{Ram}
use Rattle.ffa_model.specs.State.{Party, Buffers, is_known_among, has_property}
use Rattle.ffa_rxtx.specs.Parts.{IsInRam, tx_in}
use Rattle.ffa_messages.specs.declared.indirect.MessageHeader.{MessageHeader as Header}

-- TX and RX of each endpoint's buffers are among this many pages
abbrev pub AreInRam : ℕ → List (Option Buffers) → Type 0
AreInRam pages buffers = (place : ℕ) (b : Buffers) → slice_index_or buffers place None ≡ Some b → IsInRam pages b

-- no page of TX of these buffers is one of RX of the others
abbrev pub IsBeside : Buffers → Buffers → Type 0
IsBeside from to = (p : ℕ) → is_in_run from.tx from.pages p ≡ true → is_in_run to.rx to.pages p ≡ false

-- what e sends, which are the bytes of its TX, the endpoint that is to receive it, and how many bytes with the header
abbrev pub sent_in : Ram → List (Option Buffers) → ℕ → List ℕ
sent_in ram buffers e = tx_in ram (buffers_in buffers e)

abbrev pub receiver_in : Ram → List (Option Buffers) → ℕ → ℕ
receiver_in ram buffers e = (header_in (sent_in ram buffers e)).receiver

abbrev pub size_in : Ram → List (Option Buffers) → ℕ → ℕ
size_in ram buffers e = (header_in (sent_in ram buffers e)).offset + (header_in (sent_in ram buffers e)).size

-- where e's message, in this form, passes its checks, no page of e's TX is one of the receiver's RX
abbrev pub AreEndsApart : List Party → Ram → List (Option Buffers) → Version → ℕ → Type 0
AreEndsApart parties ram buffers version e =
    first_failure (send2_guards parties buffers version e (header_in (sent_in ram buffers e))) ≡ None
    → (from to : Buffers) → buffers_in buffers e ≡ Some from → buffers_in buffers (receiver_in ram buffers e) ≡ Some to
    → IsBeside from to

-- a header that the code has read
abbrev pub header_of : Header → MessageHeader
header_of m =
    record {
      flags = m.flags;
      reserved = m.reserved;
      offset = m.offset;
      receiver = m.receiver.0;
      sender = m.sender.0;
      size = m.size;
    }

-- the checks of a message by itself, in the TX of a caller of this form that has room for so many bytes there
abbrev pub header_guards : List Party → Version → ℕ → ℕ → MessageHeader → List (Bool × Refusal)
header_guards parties version caller room m =
    (m.flags == 0, FlagsReserved)
    ∷ (m.reserved == 0, HeaderReserved)
    ∷ (m.sender == caller, SenderIsAnother)
    ∷ (is_known_among (length parties) m.receiver, ReceiverUnknown)
    ∷ (not (m.receiver == caller), ReceiverIsCaller)
    ∷ (nat_le (message_header_size version) m.offset, MessageInHeader)
    ∷ (not (m.size == 0), MessageEmpty)
    ∷ (nat_le (m.offset + m.size) room, MessageTooLong)
    ∷ []

-- the checks of its ends, which are the caller and the receiver
abbrev pub ends_guards : List Party → List (Option Buffers) → ℕ → MessageHeader → List (Bool × Refusal)
ends_guards parties buffers caller m =
    (has_property parties caller 2, MessagesUnsent)
    ∷ (has_property parties m.receiver 2, MessagesUnreceived)
    ∷ (is_some (buffers_in buffers m.receiver), ReceiverBuffersMissing)
    ∷ (not (is_full (buffers_in buffers m.receiver)), ReceiverRxFull)
    ∷ (nat_le (m.offset + m.size) (room_of (buffers_in buffers m.receiver)), ReceiverRxSmall)
    ∷ []
