-- SPDX-License-Identifier: MIT OR Apache-2.0
-- What a check that fails is about, where a message's header or a descriptor tells it, and where it is a notification's bit
-- (DEN0077A, 5.11, 7.1, 10 and 16).
use Rattle.std.specs.Prelude.{ℕ, Bool, not, is_none, find, List, length, Option, Some, None, if◌then◌else◌}
use Rattle.std.specs.Option.{option_and_then, option_map}
use Rattle.ffa_model.specs.declared.call.Call.{Call}
use Rattle.ffa_model.specs.declared.call.Call.TheVariants.{MsgSend2, MemDonate, MemLend, MemShare, MemRetrieve, MemRelinquish, NotificationBind, NotificationUnbind, NotificationSet}
use Rattle.ffa_model.specs.declared.call.Transfer.{Transfer}
use Rattle.ffa_model.specs.declared.descriptor.RelinquishDesc.{RelinquishDesc}
use Rattle.ffa_model.specs.declared.descriptor.RetrieveDesc.{RetrieveDesc}
use Rattle.ffa_model.specs.declared.endpoint.Version.TheVariants.{V1_1}
use Rattle.ffa_model.specs.declared.flaw.Flaw.{Flaw}
use Rattle.ffa_model.specs.declared.flaw.Flaw.TheVariants.{Retrieve}
use Rattle.ffa_model.specs.declared.flaw.RetrieveFlaw.TheVariants.{NotZero}
use Rattle.ffa_model.specs.declared.refusal.Refusal.{Refusal}
use Rattle.ffa_model.specs.declared.refusal.Refusal.TheVariants.{SenderIsAnother, ReceiverUnknown, ReceiverIsCaller, MessagesUnreceived, ReceiverBuffersMissing, ReceiverRxFull, ReceiverRxSmall, DescriptorMalformed, HandleUnknown, NotReceiver, NotTheSenders, ReceiversDiffer, TransactionSenderDiffers, TagDiffers, KindDiffers, AlreadyRetrieved, RightTooMuch, EndpointIsAnother, NotOffered, NotHeld, ZerosNotAllowed, BitsTaken, BitsNotTheSenders, BitsNotTheCallers}
use Rattle.ffa_model.specs.declared.manifest.Ffa.{Ffa}
use Rattle.ffa_model.specs.declared.rights.Kind.{Kind}
use Rattle.ffa_model.specs.declared.rights.Kind.TheVariants.{Share, Lend, Donate}
use Rattle.ffa_model.specs.declared.transaction.Receiver.{Receiver}
use Rattle.ffa_model.specs.declared.why.About.{About}
use Rattle.ffa_model.specs.declared.why.About.TheVariants.{Endpoint, Handle, Bit, Field}
use Rattle.ffa_model.specs.Numbers.{Identifier}
use Rattle.ffa_model.specs.AboutRegisters.{at_endpoint}
use Rattle.ffa_model.specs.Bits.{bits_of}
use Rattle.ffa_model.specs.Calls.{first_refusal}
use Rattle.ffa_model.specs.DescriptorPlaces.{Versioned, handle_field, in_version}
use Rattle.ffa_model.specs.FirstFlaws.{relinquish_flaw, retrieve_flaw, send_flaw}
use Rattle.ffa_model.specs.FlawPlaces.{field_value, flaw_place}
use Rattle.ffa_model.specs.HypervisorRetrieve.{asks_back}
use Rattle.ffa_model.specs.MemorySend.{transfer_guards, descriptor_in}
use Rattle.ffa_model.specs.Messages.{MessageHeader, header_in, tx_bytes}
use Rattle.ffa_model.specs.Notifications.{Notifications, class_of, is_bindable, is_bound, is_unbindable, notifications_of}
use Rattle.ffa_model.specs.RelinquishDescriptor.{relinquish_of}
use Rattle.ffa_model.specs.RetrieveDescriptor.{retrieve_of}
use Rattle.ffa_model.specs.SendDescriptor.{SendRecord, send_of}
use Rattle.ffa_model.specs.State.{State, Buffers, buffers_of, is_known_among}

-- FFA_MSG_SEND2: the ends that the message's header names
abbrev pub about_ends : MessageHeader → Refusal → Option About
about_ends m SenderIsAnother = at_endpoint m.sender
about_ends m ReceiverUnknown = at_endpoint m.receiver
about_ends m ReceiverIsCaller = at_endpoint m.receiver
about_ends m MessagesUnreceived = at_endpoint m.receiver
about_ends m ReceiverBuffersMissing = at_endpoint m.receiver
about_ends m ReceiverRxFull = at_endpoint m.receiver
about_ends m ReceiverRxSmall = at_endpoint m.receiver
about_ends m refusal = None

-- where the caller has a TX in which one stands
abbrev pub about_message : Option Buffers → MessageHeader → Refusal → Option About
about_message None m refusal = None
about_message (Some own) m refusal = about_ends m refusal

-- A DESCRIPTOR: where the bytes are none, the first condition that they break, with its field
abbrev pub about_field : Versioned → Flaw → About
about_field descriptor flaw =
    Field flaw (flaw_place descriptor flaw) (field_value descriptor.bytes (flaw_place descriptor flaw))

abbrev pub if_malformed : Refusal → About → Option About
if_malformed DescriptorMalformed its = Some its
if_malformed refusal its = None

-- and where they are one, what it names. Of a send the sender, or the first receiver that isn't among so many endpoints
abbrev pub is_known_receiver : ℕ → Receiver → Bool
is_known_receiver endpoints receiver = is_known_among endpoints receiver.endpoint.0

abbrev pub unknown_receiver : ℕ → List Receiver → Option About
unknown_receiver endpoints receivers =
    option_map (λ (r : Receiver). Endpoint r.endpoint) (find (λ r. not (is_known_receiver endpoints r)) receivers)

abbrev pub named_by_send : ℕ → SendRecord → Refusal → Option About
named_by_send endpoints send SenderIsAnother = at_endpoint send.sender
named_by_send endpoints send ReceiverUnknown = unknown_receiver endpoints send.receivers
named_by_send endpoints send refusal = None

abbrev pub named_by_retrieve : RetrieveDesc → Refusal → Option About
named_by_retrieve d HandleUnknown = Some (Handle d.handle)
named_by_retrieve d NotReceiver = Some (Handle d.handle)
named_by_retrieve d ReceiversDiffer = Some (Handle d.handle)
named_by_retrieve d TransactionSenderDiffers = Some (Endpoint d.sender)
named_by_retrieve d TagDiffers = Some (Handle d.handle)
named_by_retrieve d KindDiffers = Some (Handle d.handle)
named_by_retrieve d AlreadyRetrieved = Some (Handle d.handle)
named_by_retrieve d RightTooMuch = Some (Handle d.handle)
named_by_retrieve d refusal = None

abbrev pub named_by_relinquish : RelinquishDesc → Refusal → Option About
named_by_relinquish d EndpointIsAnother = Some (Endpoint d.endpoint)
named_by_relinquish d NotOffered = Some (Handle d.handle)
named_by_relinquish d NotHeld = Some (Handle d.handle)
named_by_relinquish d ZerosNotAllowed = Some (Handle d.handle)
named_by_relinquish d refusal = None

-- either, by the first condition that the bytes break, if they do
abbrev pub about_bytes : Versioned → Option Flaw → Option About → Refusal → Option About
about_bytes descriptor (Some flaw) named refusal = if_malformed refusal (about_field descriptor flaw)
about_bytes descriptor None named refusal = named

abbrev pub about_send : Ffa → Kind → ℕ → Versioned → Refusal → Option About
about_send ffa kind endpoints descriptor refusal =
    about_bytes descriptor (send_flaw ffa kind descriptor) (option_and_then (λ r. named_by_send endpoints r refusal) (send_of ffa kind descriptor)) refusal

abbrev pub about_retrieve : Ffa → Identifier → Versioned → Refusal → Option About
about_retrieve ffa e descriptor refusal =
    about_bytes descriptor (retrieve_flaw ffa e descriptor) (option_and_then (λ d. named_by_retrieve d refusal) (retrieve_of ffa e descriptor)) refusal

-- of a hypervisor's retrieve
abbrev pub about_asked_back : Versioned → Refusal → Option About
about_asked_back descriptor DescriptorMalformed = Some (about_field descriptor (Retrieve 0 NotZero))
about_asked_back descriptor NotTheSenders = Some (Handle (handle_field descriptor))
about_asked_back descriptor refusal = None

-- a relinquish has one form in both versions
abbrev pub about_relinquish : List ℕ → Refusal → Option About
about_relinquish bytes refusal =
    about_bytes (in_version V1_1 bytes) (relinquish_flaw bytes) (option_and_then (λ d. named_by_relinquish d refusal) (relinquish_of bytes)) refusal

-- where a descriptor stands whole in the TX of e
abbrev pub where_whole : List (Option Buffers) → Identifier → Transfer → Option About → Option About
where_whole buffers e transfer its =
    if is_none (first_refusal (transfer_guards buffers e transfer)) then its else None

-- and a relinquish, where there is a TX
abbrev pub where_mapped : Option Buffers → Option About → Option About
where_mapped None its = None
where_mapped (Some own) its = its

-- NOTIFICATIONS: the least bit of a bitmap that fails a test
abbrev pub first_bit : (ℕ → Bool) → ℕ → Option About
first_bit test bitmap = option_map (λ k. Bit k) (find (λ k. not (test k)) (bits_of bitmap))

-- by a caller e among so many endpoints, where the other endpoint is one
abbrev pub about_bind : ℕ → Notifications → Identifier → Identifier → ℕ → Refusal → Option About
about_bind endpoints n e sender bitmap BitsTaken =
    if is_known_among endpoints sender then first_bit (is_bindable endpoints n e sender) bitmap else None
about_bind endpoints n e sender bitmap refusal = None

abbrev pub about_unbind : ℕ → Notifications → Identifier → Identifier → ℕ → Refusal → Option About
about_unbind endpoints n e sender bitmap BitsNotTheSenders =
    if is_known_among endpoints sender then first_bit (is_unbindable n e sender) bitmap else None
about_unbind endpoints n e sender bitmap refusal = None

abbrev pub about_set : ℕ → Notifications → Identifier → Identifier → ℕ → Refusal → Option About
about_set endpoints n e receiver bitmap BitsNotTheCallers =
    if is_known_among endpoints receiver then first_bit (λ k. is_bound n receiver (class_of e) k e) bitmap else None
about_set endpoints n e receiver bitmap refusal = None

abbrev pub about_bits : ℕ → Notifications → Identifier → Call → Refusal → Option About
about_bits endpoints n e (NotificationBind its) refusal = about_bind endpoints n e its.sender.0 its.bitmap refusal
about_bits endpoints n e (NotificationUnbind its) refusal = about_unbind endpoints n e its.sender.0 its.bitmap refusal
about_bits endpoints n e (NotificationSet its) refusal = about_set endpoints n e its.receiver.0 its.bitmap refusal
about_bits endpoints n e call refusal = None

-- ON A STATE
abbrev pub about_sent : State → Kind → Transfer → Refusal → Option About
about_sent s kind transfer refusal = where_whole s.buffers s.runner transfer (about_send s.ffa kind (length s.parties) (descriptor_in s transfer.total) refusal)

abbrev pub about_retrieved : State → Transfer → Refusal → Option About
about_retrieved s transfer refusal =
    if asks_back s transfer then about_asked_back (descriptor_in s transfer.total) refusal
    else where_whole s.buffers s.runner transfer (about_retrieve s.ffa s.runner (descriptor_in s transfer.total) refusal)

abbrev pub about_relinquished : State → Refusal → Option About
about_relinquished s refusal = where_mapped (buffers_of s s.runner) (about_relinquish (tx_bytes s s.runner) refusal)

abbrev pub about_contents : State → Call → Refusal → Option About
about_contents s MsgSend2 refusal = about_message (buffers_of s s.runner) (header_in (tx_bytes s s.runner)) refusal
about_contents s (MemDonate transfer) refusal = about_sent s Donate transfer refusal
about_contents s (MemLend transfer) refusal = about_sent s Lend transfer refusal
about_contents s (MemShare transfer) refusal = about_sent s Share transfer refusal
about_contents s (MemRetrieve transfer) refusal = about_retrieved s transfer refusal
about_contents s MemRelinquish refusal = about_relinquished s refusal
about_contents s call refusal = about_bits (length s.parties) (notifications_of s) s.runner call refusal
