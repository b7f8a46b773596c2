-- SPDX-License-Identifier: MIT OR Apache-2.0
-- What is to be mended where an operation is refused: a buffer, a right, a value that is wanted, what the caller
-- works on, or which of two causes it has.
use Rattle.std.specs.Prelude.{ℕ, ◌+◌, ◌*◌, ◌%◌, ◌==◌, ◌&&◌, ◌||◌, Bool, not, is_none, is_some, find, length, nat_le, nat_lt, List, Option, Some, None, if◌then◌else◌}
use Rattle.std.specs.Option.{option_and_then, option_map, option_or}
use Rattle.ffa_model.specs.declared.call.Call.{Call}
use Rattle.ffa_model.specs.declared.call.Call.TheVariants as calls
use Rattle.ffa_model.specs.declared.call.Transfer.{Transfer}
use Rattle.ffa_model.specs.declared.descriptor.RelinquishDesc.{RelinquishDesc}
use Rattle.ffa_model.specs.declared.descriptor.RetrieveDesc.{RetrieveDesc}
use Rattle.ffa_model.specs.declared.endpoint.Region.{Region}
use Rattle.ffa_model.specs.declared.flaw.Flaw.{Flaw}
use Rattle.ffa_model.specs.declared.flaw.Flaw.TheVariants.{Header}
use Rattle.ffa_model.specs.declared.flaw.HeaderFlaw.TheVariants.{AccessSize}
use Rattle.ffa_model.specs.declared.manifest.Ffa.{Ffa}
use Rattle.ffa_model.specs.declared.operation.FaultKind.{FaultKind}
use Rattle.ffa_model.specs.declared.operation.FaultKind.TheVariants.{Permission}
use Rattle.ffa_model.specs.declared.operation.Op.{Op}
use Rattle.ffa_model.specs.declared.operation.Op.TheVariants.{Call as Calls, Load, Store, Fetch}
use Rattle.ffa_model.specs.declared.refusal.Refusal.{Refusal}
use Rattle.ffa_model.specs.declared.refusal.Refusal.TheVariants.{SenderIsAnother, ReceiverIsAnother, BitmapsMissing, BitsPending, WorldsMixed, StillHeld, TxMisplaced, RxMisplaced, TxUnusable, RxUnusable, RxEmpty, FlagsReserved, HeaderReserved, MessageInHeader, MessageEmpty, MessageTooLong, AnswerMisdirected, NoRequest, NotRun, NobodyToYieldTo, ReceiverRxSmall, DescriptorTooLong, RangeOutside, PageUnsendable, GrantTooMuch, ZerosUnwritable, TransactionSenderDiffers, TagDiffers, KindDiffers, RightTooMuch, EndpointIsAnother, NotOffered, ZerosNotAllowed, NotTheSenders}
use Rattle.ffa_model.specs.declared.rights.Kind.{Kind as SendKind}
use Rattle.ffa_model.specs.declared.rights.Kind.TheVariants.{Share, Lend, Donate}
use Rattle.ffa_model.specs.declared.schedule.Work.{Work}
use Rattle.ffa_model.specs.declared.transaction.Range.{Range}
use Rattle.ffa_model.specs.declared.transaction.Receiver.{Receiver}
use Rattle.ffa_model.specs.declared.why.About.{About}
use Rattle.ffa_model.specs.declared.why.About.TheVariants as abouts
use Rattle.ffa_model.specs.declared.why.Obstacle.{Obstacle}
use Rattle.ffa_model.specs.Numbers.{Bit, HandleNumber, Identifier, PageIndex}
use Rattle.ffa_model.specs.AboutContents.{about_bits}
use Rattle.ffa_model.specs.Access.{Ownership, held_by, is_receiver, ownership_of}
use Rattle.ffa_model.specs.Bits.{word_of_two}
use Rattle.ffa_model.specs.Buffers.{room_of}
use Rattle.ffa_model.specs.Calls.{first_refusal}
use Rattle.ffa_model.specs.DescriptorPlaces.{Versioned, handle_field}
use Rattle.ffa_model.specs.HypervisorRetrieve.{asks_back}
use Rattle.ffa_model.specs.Lists.{is_in_run, listed}
use Rattle.ffa_model.specs.Memory.{access_at}
use Rattle.ffa_model.specs.MemoryRetrieve.{right_for}
use Rattle.ffa_model.specs.MemorySend.{are_secure, descriptor_in, is_inside, send_read, transfer_guards}
use Rattle.ffa_model.specs.Messages.{MessageHeader, header_in, tx_bytes}
use Rattle.ffa_model.specs.Notifications.{Notifications, class_of, is_pending, manager_class, normal_class, notifications_of, partition_class}
use Rattle.ffa_model.specs.Registers.{decode}
use Rattle.ffa_model.specs.RelinquishDescriptor.{relinquish_of}
use Rattle.ffa_model.specs.RetrieveDescriptor.{retrieve_of}
use Rattle.ffa_model.specs.Rights.{is_lend}
use Rattle.ffa_model.specs.RunStates.{requester, schedule_of, work_in}
use Rattle.ffa_model.specs.SendDescriptor.{SendRecord}
use Rattle.ffa_model.specs.State.{State, Buffers, Transaction, buffers_of, own_right_of, transaction_of, version_of}
use Rattle.ffa_model.specs.Transactions.{ceiling}
use Rattle.ffa_mend.specs.declared.Cause.{Cause}
use Rattle.ffa_mend.specs.declared.Cause.TheVariants.{BuffersMissing, RxNotFull, BitPending, BitTaken, BitUnbound, HandleUnknown, NotReceiver, NotLent, BitmapsUncreated, NotificationsUnreceived, SecureToNormal, PagesOfBothWorlds}
use Rattle.ffa_mend.specs.declared.Mend.{Mend}
use Rattle.ffa_mend.specs.declared.Mend.TheVariants.{Buffer, OwnRight, Granted, Access, Caller, Sender, Tag, Kind, Asked, Held, Room, Wanted, Form, Word, Message, Outside, Holder, Works, Pending, Cause as Because}
use Rattle.ffa_mend.specs.declared.Side.{Side}
use Rattle.ffa_mend.specs.declared.Side.TheVariants.{Tx, Rx}

-- PAGES
-- in which of its buffers e has a page, if it has it in one
abbrev pub side_of : PageIndex → Buffers → Option Side
side_of p b = if is_in_run b.tx b.pages p then Some Tx else if is_in_run b.rx b.pages p then Some Rx else None

abbrev pub in_buffer : Identifier → Option Buffers → PageIndex → Option Mend
in_buffer e own p = option_map (Buffer (record { 0 = e })) (option_and_then (side_of p) own)

-- OPEN TRANSACTIONS
-- what e may mend of a transaction with a handle, which is open or isn't
abbrev pub mend_offered : Option Transaction → Option Mend
mend_offered None = Some (Because HandleUnknown)
mend_offered (Some t) = Some (Because NotReceiver)

abbrev pub mend_sent : Option Transaction → Option Mend
mend_sent None = Some (Because HandleUnknown)
mend_sent (Some t) = Some (Sender (record { 0 = t.sender }))

abbrev pub mend_zeros : Identifier → Option Transaction → Option Mend
mend_zeros e None = None
mend_zeros e (Some t) = if is_lend t.kind then option_map Held (held_by t e) else Some (Because NotLent)

-- the first receiver that holds it
abbrev pub mend_held : Option Transaction → Option Mend
mend_held None = None
mend_held (Some t) =
    option_map (λ (r : Receiver). Holder r.endpoint) (find (λ (r : Receiver). is_some (held_by t r.endpoint.0)) t.receivers)

abbrev pub mend_return : Identifier → Refusal → Option Transaction → Option Mend
mend_return e NotOffered t = mend_offered t
mend_return e NotTheSenders t = mend_sent t
mend_return e ZerosNotAllowed t = mend_zeros e t
mend_return e StillHeld t = mend_held t
mend_return e refusal t = None

-- of the one that a relinquish names, which stands in TX of e
abbrev pub mend_given_back : (HandleNumber → Option Transaction) → Identifier → Option Buffers → List ℕ → Refusal → Option Mend
mend_given_back named e None bytes refusal = None
mend_given_back named e (Some own) bytes refusal =
    option_and_then (λ (d : RelinquishDesc). mend_return e refusal (named d.handle)) (relinquish_of bytes)

-- what e names of a transaction in a retrieve, and what the transaction has
abbrev pub mend_retrieve : Ownership → Identifier → RetrieveDesc → Refusal → Transaction → Option Mend
mend_retrieve ram e d TransactionSenderDiffers t = Some (Sender (record { 0 = t.sender }))
mend_retrieve ram e d TagDiffers t = Some (Tag d.tag t.tag)
mend_retrieve ram e d KindDiffers t = option_map (λ k. Kind k t.kind) d.kind
mend_retrieve ram e d RightTooMuch t =
    if is_receiver e t then Some (Asked (right_for ram t e d) (ceiling ram t e)) else None
mend_retrieve ram e d refusal t = None

-- of the descriptor that stands whole in TX of e
abbrev pub mend_asked : Ffa → List (Option Buffers) → Ownership → (HandleNumber → Option Transaction) → Identifier → Transfer
    → Versioned → Refusal → Option Mend
mend_asked ffa buffers ram named e transfer bytes refusal =
    if is_none (first_refusal (transfer_guards buffers e transfer))
    then option_and_then (λ d. option_and_then (mend_retrieve ram e d refusal) (named d.handle)) (retrieve_of ffa e bytes)
    else None

-- of a hypervisor's retrieve
abbrev pub mend_asked_back : (HandleNumber → Option Transaction) → Versioned → Refusal → Option Mend
mend_asked_back named bytes NotTheSenders = mend_sent (named (handle_field bytes))
mend_asked_back named bytes refusal = None

-- OFFERS
-- of a range that doesn't lie in RAM the first page that doesn't: its own first one, or, where that does, the one behind RAM
abbrev pub outside_of : Ownership → Range → ℕ
outside_of ram range =
    if nat_le ram.base range.address && nat_lt range.address (ram.base + 4096 * ram.count)
    then ram.base + 4096 * ram.count
    else range.address

-- of the first such range
abbrev pub first_outside : Ownership → List Range → Option ℕ
first_outside ram ranges = option_map (outside_of ram) (find (λ range. not (is_inside ram range)) ranges)

-- why pages are not of one world: all are secure, and go to the normal world; or only some are secure
abbrev pub mixed : Ownership → Option (List Region) → List Range → Cause
mixed ram normal ranges = if are_secure ram normal ranges then SecureToNormal else PagesOfBothWorlds

abbrev pub mend_offer : Ownership → Option (List Region) → Refusal → SendRecord → Option Mend
mend_offer ram normal RangeOutside send = option_map Outside (first_outside ram send.ranges)
mend_offer ram normal WorldsMixed send = Some (Because (mixed ram normal send.ranges))
mend_offer ram normal refusal send = None

-- of the descriptor that stands whole in TX of e
abbrev pub mend_send : List (Option Buffers) → Ownership → Option (List Region) → Identifier → Transfer → Option SendRecord
    → Refusal → Option Mend
mend_send buffers ram normal e transfer send refusal =
    if is_none (first_refusal (transfer_guards buffers e transfer))
    then option_and_then (mend_offer ram normal refusal) send
    else None

-- BUFFERS
-- of a buffer that begins at a page, and doesn't lie in RAM, the first page that doesn't
abbrev pub mend_buffer : Ownership → Range → Option Mend
mend_buffer ram buffer =
    if buffer.address % 4096 == 0 && not (is_inside ram buffer) then Some (Outside (outside_of ram buffer)) else None

abbrev pub mend_map : Ownership → ℕ → ℕ → ℕ → Refusal → Option Mend
mend_map ram tx rx pages TxMisplaced = mend_buffer ram (record { address = tx; pages = pages })
mend_map ram tx rx pages RxMisplaced = mend_buffer ram (record { address = rx; pages = pages })
mend_map ram tx rx pages refusal = None

-- RUN STATES
-- what e works on; nobody gives the normal world work
abbrev pub mend_work : Identifier → Option Work → Mend
mend_work e None = Caller (record { 0 = e })
mend_work e (Some work) = Works work

-- MESSAGES
-- a word of the header of a message, or where the message ends, in a buffer of so many bytes
abbrev pub mend_header : ℕ → MessageHeader → Refusal → Option Mend
mend_header room m FlagsReserved = Some (Word 0 m.flags)
mend_header room m HeaderReserved = Some (Word 4 m.reserved)
mend_header room m MessageInHeader = Some (Word 8 m.offset)
mend_header room m MessageEmpty = Some (Word 16 m.size)
mend_header room m MessageTooLong = Some (Message m.offset m.size room)
mend_header room m refusal = None

-- where the caller has a TX in which one stands
abbrev pub mend_message : Option Buffers → MessageHeader → Refusal → Option Mend
mend_message None m refusal = None
mend_message (Some own) m refusal = mend_header (room_of (Some own)) m refusal

-- the one w1 of a response of e, to the endpoint whose request it answers
abbrev pub mend_response : Identifier → Option Identifier → Option Mend
mend_response e by = option_map (λ its. Wanted (word_of_two e its)) by

-- NOTIFICATIONS
-- one of the 64 bits of e, which a sender gets or loses: it is pending, or else this is the cause
abbrev pub mend_bit : Notifications → Identifier → Identifier → Cause → Option About → Option Mend
mend_bit n e sender cause (Some (abouts.Bit k)) =
    if nat_lt k 64 then Some (Because (if is_pending n e (class_of sender) k then BitPending else cause)) else None
mend_bit n e sender cause about = None

abbrev pub mend_bits : Notifications → Identifier → Call → Option About → Option Mend
mend_bits n e (calls.NotificationBind its) about = mend_bit n e its.sender.0 BitTaken about
mend_bits n e (calls.NotificationUnbind its) about = mend_bit n e its.sender.0 BitUnbound about
mend_bits n e call about = None

-- the least bit of e that is pending, in whichever class
abbrev pub is_pending_in_any : Notifications → Identifier → Bit → Bool
is_pending_in_any n e k =
    (is_pending n e partition_class k || is_pending n e normal_class k) || is_pending n e manager_class k

abbrev pub mend_pending : Notifications → Identifier → Option Mend
mend_pending n e = option_map (λ (k : ℕ). Pending k) (find (is_pending_in_any n e) (listed 64 (λ k. k)))

-- how e, which has no bitmaps, gets them
abbrev pub mend_bitmaps : Identifier → Mend
mend_bitmaps e = Because (if e == 0 then BitmapsUncreated else NotificationsUnreceived)

-- ON A STATE
-- what the call names: a message, the ranges or the transaction of a descriptor, a handle, buffers, and bits
abbrev pub mend_offered_by : State → SendKind → Transfer → Refusal → Option Mend
mend_offered_by s kind transfer refusal =
    mend_send s.buffers (ownership_of s) s.normal s.runner transfer (send_read s kind transfer.total) refusal

abbrev pub mend_retrieved : State → Transfer → Refusal → Option Mend
mend_retrieved s transfer refusal =
    if asks_back s transfer then mend_asked_back (transaction_of s) (descriptor_in s transfer.total) refusal
    else mend_asked s.ffa s.buffers (ownership_of s) (transaction_of s) s.runner transfer (descriptor_in s transfer.total) refusal

abbrev pub mend_relinquished : State → Refusal → Option Mend
mend_relinquished s refusal =
    mend_given_back (transaction_of s) s.runner (buffers_of s s.runner) (tx_bytes s s.runner) refusal

abbrev pub mend_noticed : State → Call → Refusal → Option Mend
mend_noticed s call refusal =
    mend_bits (notifications_of s) s.runner call (about_bits (length s.parties) (notifications_of s) s.runner call refusal)

abbrev pub mend_contents : State → Call → Refusal → Option Mend
mend_contents s (calls.RxtxMap tx rx pages) refusal = mend_map (ownership_of s) tx rx pages refusal
mend_contents s calls.MsgSend2 refusal = mend_message (buffers_of s s.runner) (header_in (tx_bytes s s.runner)) refusal
mend_contents s (calls.MemDonate transfer) refusal = mend_offered_by s Donate transfer refusal
mend_contents s (calls.MemLend transfer) refusal = mend_offered_by s Lend transfer refusal
mend_contents s (calls.MemShare transfer) refusal = mend_offered_by s Share transfer refusal
mend_contents s (calls.MemRetrieve transfer) refusal = mend_retrieved s transfer refusal
mend_contents s calls.MemRelinquish refusal = mend_relinquished s refusal
mend_contents s (calls.MemReclaim handle flags) refusal = mend_return s.runner refusal (transaction_of s handle.0)
mend_contents s call refusal = mend_noticed s call refusal

-- a page of the runner's own that stands in no open transaction: its buffer or its own right; and of another page its own right where
-- that is too little for zeros. What is granted and is more than an own right is rw
abbrev pub mend_own_page : State → Refusal → PageIndex → Option Mend
mend_own_page s PageUnsendable p = in_buffer s.runner (buffers_of s s.runner) p
mend_own_page s TxUnusable p = option_map OwnRight (own_right_of s p)
mend_own_page s RxUnusable p = option_map OwnRight (own_right_of s p)
mend_own_page s GrantTooMuch p = option_map Granted (own_right_of s p)
mend_own_page s ZerosUnwritable p = option_map OwnRight (own_right_of s p)
mend_own_page s refusal p = None

abbrev pub mend_page : State → Refusal → PageIndex → Option Obstacle → Option Mend
mend_page s refusal p None = mend_own_page s refusal p
mend_page s ZerosUnwritable p (Some obstacle) = option_map OwnRight (own_right_of s p)
mend_page s refusal p (Some obstacle) = None

abbrev pub mend_endpoint : State → Refusal → Identifier → Option Mend
mend_endpoint s SenderIsAnother e = Some (Caller (record { 0 = s.runner }))
mend_endpoint s ReceiverIsAnother e = Some (Caller (record { 0 = s.runner }))
mend_endpoint s EndpointIsAnother e = Some (Caller (record { 0 = s.runner }))
mend_endpoint s ReceiverRxSmall e = Some (Room (room_of (buffers_of s e)))
mend_endpoint s refusal e = None

-- a header in another form than the runner's
abbrev pub mend_field : State → Flaw → Option Mend
mend_field s (Header AccessSize) = Some (Form (record { 0 = s.runner }) (version_of s s.runner))
mend_field s flaw = None

-- what the runner has and works on: a TX for the descriptor, an RX to release, a request to answer, bitmaps
abbrev pub mend_runner : State → Refusal → Option Mend
mend_runner s DescriptorTooLong = Some (Room (room_of (buffers_of s s.runner)))
mend_runner s AnswerMisdirected = mend_response s.runner (requester (work_in (schedule_of s) s.runner))
mend_runner s RxEmpty = Some (Because (if is_some (buffers_of s s.runner) then RxNotFull else BuffersMissing))
mend_runner s NoRequest = Some (mend_work s.runner (work_in (schedule_of s) s.runner))
mend_runner s NotRun = Some (mend_work s.runner (work_in (schedule_of s) s.runner))
mend_runner s NobodyToYieldTo = Some (mend_work s.runner (work_in (schedule_of s) s.runner))
mend_runner s BitmapsMissing = Some (mend_bitmaps s.runner)
mend_runner s BitsPending = mend_pending (notifications_of s) s.runner
mend_runner s refusal = None

-- by what the check is about
abbrev pub mend_about : State → Refusal → Option About → Option Mend
mend_about s refusal (Some (abouts.Page page obstacle)) = mend_page s refusal page.0 obstacle
mend_about s refusal (Some (abouts.Endpoint e)) = mend_endpoint s refusal e.0
mend_about s refusal (Some (abouts.Field flaw place value)) = mend_field s flaw
mend_about s refusal about = mend_runner s refusal

-- a check of a call that fails
abbrev pub mend_check : State → Call → Refusal → Option About → Option Mend
mend_check s call refusal about = option_or (mend_contents s call refusal) (mend_about s refusal about)

-- a fault at an address, where the runner reaches the page without the right
abbrev pub mend_access : State → ℕ → Option Mend
mend_access s address =
    option_map (Access (record { 0 = s.runner })) (access_at s s.runner address)

abbrev pub mend_fault : State → ℕ → FaultKind → Option Mend
mend_fault s address Permission = mend_access s address
mend_fault s address kind = None

abbrev pub address_of : Op → ℕ
address_of (Calls x) = 0
address_of (Load address size) = address
address_of (Store address size value) = address
address_of (Fetch address) = address

abbrev pub call_of : Op → Call
call_of (Calls x) = decode x
call_of op = calls.Unknown
