-- SPDX-License-Identifier: MIT OR Apache-2.0
-- The error code of each check (DEN0077A, 11.2).
use Rattle.ffa_model.specs.declared.operation.ErrorCode.{ErrorCode}
use Rattle.ffa_model.specs.declared.operation.ErrorCode.TheVariants.{NotSupported, InvalidParameters, NoMemory, Busy, Denied, NoData}
use Rattle.ffa_model.specs.declared.refusal.Refusal.{Refusal}
use Rattle.ffa_model.specs.declared.refusal.Refusal.TheVariants.{FunctionUnknown, NotNormalWorld, RxFull, BuffersMapped, TxUnusable, RxUnusable, RxEmpty, ReceiverIsNormalWorld, RequestsUnsent, RequestsUnreceived, ReceiverNotWaiting, NoRequest, TargetNotReady, NotRun, NobodyToYieldTo, MessagesUnsent, MessagesUnreceived, ReceiverBuffersMissing, ReceiverRxFull, ReceiverRxSmall, BitmapsExist, BitmapsMissing, BitsPending, BitsTaken, BitsNotTheSenders, BitsNotTheCallers, RangeOutside, PageUnsendable, GrantTooMuch, ZerosUnwritable, TransactionsFull, HandlesUsedUp, AlreadyRetrieved, RightTooMuch, NotHeld, ZerosNotAllowed, StillHeld, WorldsMixed, BuffersNeeded, NothingToTell}

-- a check that is not named here answers INVALID_PARAMETERS
abbrev pub code_of : Refusal → ErrorCode
code_of FunctionUnknown = NotSupported
code_of TransactionsFull = NoMemory
code_of HandlesUsedUp = NoMemory
code_of ReceiverRxSmall = NoMemory
code_of RxFull = Busy
code_of ReceiverNotWaiting = Busy
code_of TargetNotReady = Busy
code_of ReceiverBuffersMissing = Busy
code_of ReceiverRxFull = Busy
code_of NotNormalWorld = Denied
code_of BuffersMapped = Denied
code_of TxUnusable = Denied
code_of RxUnusable = Denied
code_of RxEmpty = Denied
code_of ReceiverIsNormalWorld = Denied
code_of RequestsUnsent = Denied
code_of RequestsUnreceived = Denied
code_of NoRequest = Denied
code_of NotRun = Denied
code_of NobodyToYieldTo = Denied
code_of MessagesUnsent = Denied
code_of MessagesUnreceived = Denied
code_of BitmapsExist = Denied
code_of BitmapsMissing = Denied
code_of BitsPending = Denied
code_of BitsTaken = Denied
code_of BitsNotTheSenders = Denied
code_of BitsNotTheCallers = Denied
code_of RangeOutside = Denied
code_of PageUnsendable = Denied
code_of GrantTooMuch = Denied
code_of ZerosUnwritable = Denied
code_of AlreadyRetrieved = Denied
code_of RightTooMuch = Denied
code_of NotHeld = Denied
code_of ZerosNotAllowed = Denied
code_of StillHeld = Denied
code_of WorldsMixed = Denied
code_of BuffersNeeded = Denied
code_of NothingToTell = NoData
code_of refusal = InvalidParameters
