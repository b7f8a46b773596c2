-- SPDX-License-Identifier: MIT OR Apache-2.0
-- What a check that fails is about, where the call's registers tell it: a register and its value, an endpoint that one names,
-- or a handle (DEN0077A, 11 to 16). Of a check that compares two registers it is the later one; checks of a
-- UUID and of an empty bitmap, which stand in more than one, tell nothing.
use Rattle.std.specs.Prelude.{ℕ, Option, Some, None}
use Rattle.ffa_model.specs.declared.call.Call.{Call}
use Rattle.ffa_model.specs.declared.call.Call.TheVariants.{Features, RxtxMap, RxtxUnmap, Run, DirectRequest, DirectResponse, MemDonate, MemLend, MemShare, MemRetrieve, MemReclaim, BitmapCreate, BitmapDestroy, NotificationBind, NotificationUnbind, NotificationSet, NotificationGet, NotificationInfoGet, Unknown}
use Rattle.ffa_model.specs.declared.call.DirectMessage.{DirectMessage}
use Rattle.ffa_model.specs.declared.call.NotificationBits.{NotificationBits}
use Rattle.ffa_model.specs.declared.call.Transfer.{Transfer}
use Rattle.ffa_model.specs.declared.endpoint.EndpointId.{EndpointId}
use Rattle.ffa_model.specs.declared.refusal.Refusal.{Refusal}
use Rattle.ffa_model.specs.declared.refusal.Refusal.TheVariants.{FunctionUnknown, FlagsReserved, SenderIsAnother, ReceiverIsAnother, ReceiverUnknown, ReceiverIsCaller, ContextUnknown, BufferPageCount, TxMisplaced, RxMisplaced, BuffersOverlap, EndpointNotZero, ReceiverIsNormalWorld, RequestsUnreceived, ReceiverNotWaiting, AnswerMisdirected, TargetUnknown, TargetNotReady, EndpointNotNormalWorld, ContextCount, SenderUnknown, SenderIsCaller, ClassesUnknown, Fragmented, DescriptorTooLong, BufferAddressGiven, BufferPagesGiven, NotTheSenders, StillHeld}
use Rattle.ffa_model.specs.declared.transaction.Handle as handles
use Rattle.ffa_model.specs.declared.why.About.{About}
use Rattle.ffa_model.specs.declared.why.About.TheVariants.{Endpoint, Handle, Register}
use Rattle.ffa_model.specs.Numbers.{Identifier}
use Rattle.ffa_model.specs.Bits.{word_of_two}

-- the register with this number, which has this value; and an endpoint
abbrev pub in_register : ℕ → ℕ → Option About
in_register number value = Some (Register number value)

abbrev pub at_endpoint : Identifier → Option About
at_endpoint e = Some (Endpoint (record { 0 = e }))

-- FFA_RXTX_MAP
abbrev pub registers_of_map : ℕ → ℕ → ℕ → Refusal → Option About
registers_of_map tx rx pages BufferPageCount = in_register 3 pages
registers_of_map tx rx pages TxMisplaced = in_register 1 tx
registers_of_map tx rx pages RxMisplaced = in_register 2 rx
registers_of_map tx rx pages BuffersOverlap = in_register 2 rx
registers_of_map tx rx pages refusal = None

-- FFA_RXTX_UNMAP
abbrev pub registers_of_unmap : ℕ → Refusal → Option About
registers_of_unmap endpoint EndpointNotZero = in_register 1 endpoint
registers_of_unmap endpoint refusal = None

-- FFA_RUN
abbrev pub registers_of_run : EndpointId → ℕ → Refusal → Option About
registers_of_run target context TargetUnknown = Some (Endpoint target)
registers_of_run target context ContextUnknown = in_register 1 (word_of_two target.0 context)
registers_of_run target context TargetNotReady = Some (Endpoint target)
registers_of_run target context refusal = None

-- FFA_MSG_SEND_DIRECT_REQ
abbrev pub registers_of_request : DirectMessage → Refusal → Option About
registers_of_request message SenderIsAnother = Some (Endpoint message.sender)
registers_of_request message FlagsReserved = in_register 2 message.flags
registers_of_request message ReceiverUnknown = Some (Endpoint message.receiver)
registers_of_request message ReceiverIsCaller = Some (Endpoint message.receiver)
registers_of_request message ReceiverIsNormalWorld = Some (Endpoint message.receiver)
registers_of_request message RequestsUnreceived = Some (Endpoint message.receiver)
registers_of_request message ReceiverNotWaiting = Some (Endpoint message.receiver)
registers_of_request message refusal = None

-- FFA_MSG_SEND_DIRECT_RESP
abbrev pub registers_of_response : DirectMessage → Refusal → Option About
registers_of_response message AnswerMisdirected = in_register 1 (word_of_two message.sender.0 message.receiver.0)
registers_of_response message FlagsReserved = in_register 2 message.flags
registers_of_response message refusal = None

-- a call whose descriptor stands in TX
abbrev pub registers_of_transfer : Transfer → Refusal → Option About
registers_of_transfer transfer Fragmented = in_register 2 transfer.fragment
registers_of_transfer transfer DescriptorTooLong = in_register 1 transfer.total
registers_of_transfer transfer BufferAddressGiven = in_register 3 transfer.address
registers_of_transfer transfer BufferPagesGiven = in_register 4 transfer.pages
registers_of_transfer transfer refusal = None

-- FFA_MEM_RECLAIM
abbrev pub registers_of_reclaim : handles.Handle → ℕ → Refusal → Option About
registers_of_reclaim handle flags FlagsReserved = in_register 3 flags
registers_of_reclaim handle flags NotTheSenders = Some (Handle handle.0)
registers_of_reclaim handle flags StillHeld = Some (Handle handle.0)
registers_of_reclaim handle flags refusal = None

-- FFA_NOTIFICATION_BITMAP_CREATE
abbrev pub registers_of_create : ℕ → ℕ → Refusal → Option About
registers_of_create endpoint contexts EndpointNotNormalWorld = in_register 1 endpoint
registers_of_create endpoint contexts ContextCount = in_register 2 contexts
registers_of_create endpoint contexts refusal = None

-- FFA_NOTIFICATION_BITMAP_DESTROY
abbrev pub registers_of_destroy : ℕ → Refusal → Option About
registers_of_destroy endpoint EndpointNotNormalWorld = in_register 1 endpoint
registers_of_destroy endpoint refusal = None

-- FFA_NOTIFICATION_BIND and FFA_NOTIFICATION_UNBIND
abbrev pub registers_of_bind : NotificationBits → Refusal → Option About
registers_of_bind its ReceiverIsAnother = Some (Endpoint its.receiver)
registers_of_bind its SenderUnknown = Some (Endpoint its.sender)
registers_of_bind its SenderIsCaller = Some (Endpoint its.sender)
registers_of_bind its FlagsReserved = in_register 2 its.flags
registers_of_bind its refusal = None

-- FFA_NOTIFICATION_SET
abbrev pub registers_of_set : NotificationBits → Refusal → Option About
registers_of_set its SenderIsAnother = Some (Endpoint its.sender)
registers_of_set its ReceiverUnknown = Some (Endpoint its.receiver)
registers_of_set its ReceiverIsCaller = Some (Endpoint its.receiver)
registers_of_set its FlagsReserved = in_register 2 its.flags
registers_of_set its refusal = None

-- FFA_NOTIFICATION_GET
abbrev pub registers_of_get : EndpointId → ℕ → ℕ → Refusal → Option About
registers_of_get receiver context flags ReceiverIsAnother = Some (Endpoint receiver)
registers_of_get receiver context flags ContextUnknown = in_register 1 (word_of_two context receiver.0)
registers_of_get receiver context flags ClassesUnknown = in_register 2 flags
registers_of_get receiver context flags refusal = None

-- each call of notifications
abbrev pub registers_of_notification : Call → Refusal → Option About
registers_of_notification (BitmapCreate endpoint contexts) refusal = registers_of_create endpoint contexts refusal
registers_of_notification (BitmapDestroy endpoint) refusal = registers_of_destroy endpoint refusal
registers_of_notification (NotificationBind its) refusal = registers_of_bind its refusal
registers_of_notification (NotificationUnbind its) refusal = registers_of_bind its refusal
registers_of_notification (NotificationSet its) refusal = registers_of_set its refusal
registers_of_notification (NotificationGet receiver context flags) refusal =
    registers_of_get receiver context flags refusal
registers_of_notification call refusal = None

-- each call, whose function's number stands in w0: other checks are not about what a register tells by itself
abbrev pub about_registers : ℕ → Call → Refusal → Option About
about_registers w0 (Features function) refusal = in_register 1 function
about_registers w0 (RxtxMap tx rx pages) refusal = registers_of_map tx rx pages refusal
about_registers w0 (RxtxUnmap endpoint) refusal = registers_of_unmap endpoint refusal
about_registers w0 (Run target context) refusal = registers_of_run target context refusal
about_registers w0 (DirectRequest message) refusal = registers_of_request message refusal
about_registers w0 (DirectResponse message) refusal = registers_of_response message refusal
about_registers w0 (MemDonate transfer) refusal = registers_of_transfer transfer refusal
about_registers w0 (MemLend transfer) refusal = registers_of_transfer transfer refusal
about_registers w0 (MemShare transfer) refusal = registers_of_transfer transfer refusal
about_registers w0 (MemRetrieve transfer) refusal = registers_of_transfer transfer refusal
about_registers w0 (MemReclaim handle flags) refusal = registers_of_reclaim handle flags refusal
about_registers w0 (NotificationInfoGet is_wide) FunctionUnknown = in_register 0 w0
about_registers w0 Unknown refusal = in_register 0 w0
about_registers w0 call refusal = registers_of_notification call refusal
