-- SPDX-License-Identifier: MIT OR Apache-2.0
-- What stands in the line of a reason behind what the check is about: a value that is wanted, and what is to be mended.
use Rattle.std.specs.Prelude.{ℕ, ◌+◌, ◌-◌, ◌%◌, ◌^◌, ◌==◌, nat_lt, List, [], ◌++◌, codes, Some, if◌then◌else◌}
use Rattle.ffa_model.specs.declared.endpoint.Version.{Version}
use Rattle.ffa_model.specs.declared.endpoint.Version.TheVariants.{Compact, V1_1, V1_2}
use Rattle.ffa_model.specs.declared.refusal.Refusal.{Refusal}
use Rattle.ffa_model.specs.declared.refusal.Refusal.TheVariants.{TxMisplaced, RxMisplaced}
use Rattle.ffa_model.specs.declared.rights.Kind.{Kind}
use Rattle.ffa_model.specs.declared.rights.Kind.TheVariants.{Share, Lend, Donate}
use Rattle.ffa_model.specs.declared.schedule.Work.{Work}
use Rattle.ffa_model.specs.declared.schedule.Work.TheVariants.{Run, Request}
use Rattle.ffa_model.specs.DescriptorPlaces.{told_access_size}
use Rattle.ffa_mend.specs.declared.allowed.Allowed.{Allowed}
use Rattle.ffa_mend.specs.declared.Cause.{Cause}
use Rattle.ffa_mend.specs.declared.Cause.TheVariants.{BuffersMissing, RxNotFull, BitPending, BitTaken, BitUnbound, HandleUnknown, NotReceiver, NotLent, BitmapsUncreated, NotificationsUnreceived, SecureToNormal, PagesOfBothWorlds}
use Rattle.ffa_mend.specs.declared.Mend.{Mend}
use Rattle.ffa_mend.specs.declared.Mend.TheVariants as mends
use Rattle.ffa_mend.specs.declared.Side.{Side}
use Rattle.ffa_mend.specs.declared.Side.TheVariants.{Tx, Rx}
use Rattle.play_trace.specs.TraceText.{hex, rights_text}

-- NUMBERS, all hexadecimal: as many digits as a value has of 1, 2, 4 or 8 bytes

-- an address, a register or a count of bytes: in 16 digits where 8 are too few
abbrev pub address_digits : ℕ → ℕ
address_digits address = if nat_lt address (2 ^ 32) then 8 else 16

abbrev pub address_text : ℕ → List ℕ
address_text address = hex (address_digits address) address

-- a bit, an index or a place in a descriptor: in two digits where they are enough
abbrev pub short_digits : ℕ → ℕ
short_digits n = if nat_lt n (2 ^ 8) then 2 else if nat_lt n (2 ^ 16) then 4 else address_digits n

abbrev pub short_text : ℕ → List ℕ
short_text n = hex (short_digits n) n

-- VALUES THAT MAY BE

-- in so many digits
unfoldable pub one_text : ℕ → ℕ → List ℕ
one_text digits value = codes ", and must be " ++ hex digits value

unfoldable pub span_text : ℕ → List ℕ → ℕ → ℕ → List ℕ
span_text digits joint a b = (codes ", and must be " ++ hex digits a) ++ (joint ++ hex digits b)

-- why no buffer can begin at an address
abbrev pub misplaced_text : ℕ → List ℕ
misplaced_text address =
    if address % 4096 == 0 then codes ", and the buffer is not entirely in RAM" else codes ", which is not page-aligned"

unfoldable pub steps_text : ℕ → Allowed → List ℕ
steps_text digits its = span_text digits (codes " to ") its.least its.most ++ (codes " in steps of " ++ hex digits its.step)

-- one alone, all from one to another, one of two, or those in greater steps
abbrev pub allowed_text : ℕ → Allowed → List ℕ
allowed_text digits its =
    if its.least == its.most then one_text digits its.least
    else if its.step == 1 then span_text digits (codes " to ") its.least its.most
    else if its.most - its.least == its.step then span_text digits (codes " or ") its.least its.most
    else steps_text digits its

-- behind a register
abbrev pub wanted_text : Refusal → ℕ → List ℕ
wanted_text TxMisplaced value = misplaced_text value
wanted_text RxMisplaced value = misplaced_text value
wanted_text refusal value = []

-- WHAT IS TO BE MENDED

abbrev pub side_text : Side → List ℕ
side_text Tx = codes " is in TX of "
side_text Rx = codes " is in RX of "

abbrev pub kind_text : Kind → List ℕ
kind_text Share = codes "share"
kind_text Lend = codes "lend"
kind_text Donate = codes "donate"

abbrev pub cause_text : Cause → List ℕ
cause_text BuffersMissing = codes ": it has no RX and TX"
cause_text RxNotFull = codes ": its RX is not full"
cause_text BitPending = codes ", which is pending"
cause_text BitTaken = codes ", which is bound to another sender"
cause_text BitUnbound = codes ", which is not bound to the sender"
cause_text HandleUnknown = codes ", which no open transaction has"
cause_text NotReceiver = codes ", which is open, but not offered to the caller"
cause_text NotLent = codes ", which is not a lend"
cause_text BitmapsUncreated = codes ": FFA_NOTIFICATION_BITMAP_CREATE creates them"
cause_text NotificationsUnreceived = codes ": bit 3 of its properties is not set"
cause_text SecureToNormal = codes ", which is secure and is sent to the normal world"
cause_text PagesOfBothWorlds = codes ", which is secure, but another page is not"

unfoldable pub buffer_text : ℕ → Side → List ℕ
buffer_text endpoint side = side_text side ++ hex 4 endpoint

unfoldable pub access_text : ℕ → List ℕ → List ℕ
access_text endpoint right = codes ": " ++ hex 4 endpoint ++ codes " has " ++ right

unfoldable pub tag_text : ℕ → ℕ → List ℕ
tag_text found wanted = (codes ", whose tag is " ++ hex 16 wanted) ++ (codes ", but the descriptor says " ++ hex 16 found)

unfoldable pub kinds_text : List ℕ → List ℕ → List ℕ
kinds_text found wanted = (codes ", whose kind is " ++ wanted) ++ (codes ", but the descriptor says " ++ found)

unfoldable pub asked_text : List ℕ → List ℕ → List ℕ
asked_text asked most = (codes ", where " ++ asked) ++ ((codes " is requested, and " ++ most) ++ codes " is the most allowed")

unfoldable pub room_text : ℕ → List ℕ
room_text bytes = (codes ", and the buffer has " ++ address_text bytes) ++ codes " bytes"

-- what stands in a header where its form is told, in the caller's version
abbrev pub version_text : Version → List ℕ
version_text Compact = codes " uses the compact form"
version_text V1_1 = codes " uses version 1.1"
version_text V1_2 = codes " uses version 1.2"

unfoldable pub form_text : ℕ → Version → List ℕ
form_text caller version =
    one_text 8 (told_access_size version) ++ (codes ", because " ++ hex 4 caller) ++ version_text version

-- the four bytes of a word, and the number in them
unfoldable pub bytes_text : ℕ → List ℕ
bytes_text place = codes "bytes " ++ short_text place ++ codes " to " ++ short_text (place + 3)

unfoldable pub word_text : ℕ → ℕ → List ℕ
word_text place value = bytes_text place ++ (codes " are " ++ hex 8 value)

-- the offset and the size of a message's header, at 8 and at 16
unfoldable pub ends_text : ℕ → ℕ → List ℕ
ends_text offset size = word_text 8 offset ++ codes ", and " ++ word_text 16 size

unfoldable pub message_text : ℕ → ℕ → ℕ → List ℕ
message_text offset size room = codes ": " ++ ends_text offset size ++ room_text room

abbrev pub beyond_text : ℕ → List ℕ
beyond_text address = if nat_lt address (2 ^ 32) then codes " is outside RAM" else codes " is above FFFFFFFF"

unfoldable pub outside_text : ℕ → List ℕ
outside_text address = codes ": " ++ address_text address ++ beyond_text address

unfoldable pub holder_text : ℕ → List ℕ
holder_text endpoint = codes ", which " ++ hex 4 endpoint ++ codes " holds"

abbrev pub work_text : Work → List ℕ
work_text Run = codes ": it is processing an FFA_RUN"
work_text (Request by) = codes ": it is processing a direct request from " ++ hex 4 by.0

unfoldable pub pending_text : ℕ → List ℕ
pending_text bit = codes ": bit " ++ short_text bit

abbrev pub mend_text : Mend → List ℕ
mend_text (mends.Buffer endpoint side) = buffer_text endpoint.0 side
mend_text (mends.OwnRight right) = codes ", and the owner's own right is " ++ rights_text (Some right)
mend_text (mends.Granted right) = codes ", where rw- is granted, but the owner's own right is " ++ rights_text (Some right)
mend_text (mends.Access endpoint right) = access_text endpoint.0 (rights_text (Some right))
mend_text (mends.Caller endpoint) = codes ", and the caller is " ++ hex 4 endpoint.0
mend_text (mends.Sender endpoint) = codes ", and the transaction's sender is " ++ hex 4 endpoint.0
mend_text (mends.Tag found wanted) = tag_text found wanted
mend_text (mends.Kind found wanted) = kinds_text (kind_text found) (kind_text wanted)
mend_text (mends.Asked asked most) = asked_text (rights_text (Some asked)) (rights_text (Some most))
mend_text (mends.Held right) = codes ", which the caller holds with " ++ rights_text (Some right)
mend_text (mends.Room bytes) = room_text bytes
mend_text (mends.Wanted value) = one_text 8 value
mend_text (mends.Form caller version) = form_text caller.0 version
mend_text (mends.Word place value) = codes ": " ++ word_text place value
mend_text (mends.Message offset size room) = message_text offset size room
mend_text (mends.Outside address) = outside_text address
mend_text (mends.Holder endpoint) = holder_text endpoint.0
mend_text (mends.Works work) = work_text work
mend_text (mends.Pending bit) = pending_text bit
mend_text (mends.Cause cause) = cause_text cause
