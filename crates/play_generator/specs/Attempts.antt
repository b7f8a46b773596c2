-- SPDX-License-Identifier: MIT OR Apache-2.0
-- The comments of a generated trace: who tries what, and what is wrong with it.
use Rattle.std.specs.Prelude.{ℕ, List, [], ◌++◌, codes, Option, Some, None}
use Rattle.ffa_model.specs.declared.endpoint.EndpointId.{EndpointId}
use Rattle.play_trace.specs.TraceText.{hex, spaced}
use Rattle.play_generator.specs.declared.attempts.Attempt.{Attempt}
use Rattle.play_generator.specs.declared.attempts.Change.{Change}
use Rattle.play_generator.specs.declared.attempts.Change.TheVariants.{Nothing, NoBuffers, BuffersThere, PageCount, TxMisplaced, RxMisplaced, Overlap, TxUnfit, RxUnfit, NotZero, OfAnother, NobodysUuid, Length, Fragment, TooLong, BufferAddress, BufferPages, Field, Sender, Stranger, Oneself, Swapped, NormalWorld, Outside, UnfitPage, Grant, Zeros, Full, ReadOnly, Handle, Tag, Kind, Right, HeldAlready, NotOffered, NotHeld, StillHeld, NotOwn, AllNamed, OneNamed, AllNamedAsOne, OthersNamed, Flags, Reserved, InHeader, NoBytes, BeyondTx, AboveRx, RxFull, NoBitmaps, NoBit, Taken, Context, Contexts, Classes, Pending}
use Rattle.play_generator.specs.declared.attempts.Deed.{Deed}
use Rattle.play_generator.specs.declared.attempts.Deed.TheVariants.{Setup, Information, NoCall, Map, Unmap, Release, Wait, Yield, Run, HandOver, Request, Respond, Message, Share, Lend, Donate, Retrieve, ReadBack, Relinquish, Reclaim, CreateBitmaps, DestroyBitmaps, Bind, Unbind, SetBits, GetBits, AskNotices, Access, ReadTx, ReadRx, ReadPages, Show}

abbrev pub deed_words : Deed → List ℕ
deed_words Setup = codes " makes a setup call"
deed_words Information = codes " requests partition information"
deed_words NoCall = codes " makes an unknown call"
deed_words Map = codes " maps buffers"
deed_words Unmap = codes " unmaps its buffers"
deed_words Release = codes " releases its RX"
deed_words Wait = codes " waits"
deed_words Yield = codes " yields"
deed_words Run = codes " runs"
deed_words HandOver = codes " passes control to"
deed_words Request = codes " sends a direct request to"
deed_words Respond = codes " responds to the direct request of"
deed_words Message = codes " sends a message to"
deed_words Share = codes " shares pages with"
deed_words Lend = codes " lends pages to"
deed_words Donate = codes " donates pages to"
deed_words Retrieve = codes " retrieves pages of"
deed_words ReadBack = codes " reads back a transaction of"
deed_words Relinquish = codes " relinquishes pages of"
deed_words Reclaim = codes " reclaims its pages"
deed_words CreateBitmaps = codes " creates notification bitmaps"
deed_words DestroyBitmaps = codes " destroys notification bitmaps"
deed_words Bind = codes " binds notification bits to"
deed_words Unbind = codes " unbinds notification bits from"
deed_words SetBits = codes " sets notification bits of"
deed_words GetBits = codes " gets pending notifications"
deed_words AskNotices = codes " asks which endpoints have pending notifications"
deed_words Access = codes " accesses memory"
deed_words ReadTx = codes " reads back its TX"
deed_words ReadRx = codes " reads its RX"
deed_words ReadPages = codes " reads pages of"
deed_words Show = codes " asks for the access of every endpoint"

-- the endpoint to which it is done
abbrev pub other_words : Option EndpointId → List ℕ
other_words None = []
other_words (Some endpoint) = spaced (hex 4 endpoint.0)

abbrev pub change_words : Change → List ℕ
change_words Nothing = []
change_words NoBuffers = codes ", without buffers"
change_words BuffersThere = codes ", with buffers that are already mapped"
change_words PageCount = codes ", with an invalid page count"
change_words TxMisplaced = codes ", with TX unaligned or outside RAM"
change_words RxMisplaced = codes ", with RX unaligned or outside RAM"
change_words Overlap = codes ", with RX at the address of TX"
change_words TxUnfit = codes ", with TX where it is not allowed"
change_words RxUnfit = codes ", with RX where it is not allowed"
change_words NotZero = codes ", with an endpoint other than 0"
change_words OfAnother = codes ", of another endpoint"
change_words NobodysUuid = codes ", with an unknown UUID"
change_words Length = codes ", with a wrong length"
change_words Fragment = codes ", as a fragment"
change_words TooLong = codes ", with a length greater than TX"
change_words BufferAddress = codes ", with a buffer address"
change_words BufferPages = codes ", with a buffer page count"
change_words Field = codes ", with a changed field"
change_words Sender = codes ", with a wrong sender"
change_words Stranger = codes ", which does not exist"
change_words Oneself = codes ", which is itself"
change_words Swapped = codes ", with sender and receiver swapped"
change_words NormalWorld = codes ", which is the normal world"
change_words Outside = codes ", with a range outside RAM"
change_words UnfitPage = codes ", with a page that it cannot send"
change_words Grant = codes ", with a grant above its own right"
change_words Zeros = codes ", with zeroing that it may not request"
change_words Full = codes ", at the limit of open transactions"
change_words ReadOnly = codes ", with a page that it may only read"
change_words Handle = codes ", with a wrong handle"
change_words Tag = codes ", with a wrong tag"
change_words Kind = codes ", as a wrong kind"
change_words Right = codes ", with a right above its grant"
change_words HeldAlready = codes ", which it already holds"
change_words NotOffered = codes ", which are not offered to it"
change_words NotHeld = codes ", which it does not hold"
change_words StillHeld = codes ", which a receiver still holds"
change_words NotOwn = codes ", which it did not send"
change_words AllNamed = codes ", with the names of all receivers"
change_words OneNamed = codes ", with its own name and bit 10 of the flags"
change_words AllNamedAsOne = codes ", with the names of all receivers and bit 10 of the flags"
change_words OthersNamed = codes ", with the name of a wrong receiver"
change_words Flags = codes ", with a flag that must be 0"
change_words Reserved = codes ", with a reserved field set"
change_words InHeader = codes ", which begins in its header"
change_words NoBytes = codes ", with no bytes"
change_words BeyondTx = codes ", which ends after TX"
change_words AboveRx = codes ", which is longer than the receiver's RX"
change_words RxFull = codes ", with RX full"
change_words NoBitmaps = codes ", without bitmaps"
change_words NoBit = codes ", with no bit set"
change_words Taken = codes ", which are bound to another sender"
change_words Context = codes ", with a context that does not exist"
change_words Contexts = codes ", with a context count other than 1"
change_words Classes = codes ", with an unknown class"
change_words Pending = codes ", while a notification is pending"

-- A comment, which is no guard: a space follows the `#`.
abbrev pub attempt_text : Attempt → List ℕ
attempt_text attempt =
    codes "#" ++ spaced (hex 4 attempt.actor.0) ++ deed_words attempt.deed ++ other_words attempt.other
    ++ change_words attempt.change
