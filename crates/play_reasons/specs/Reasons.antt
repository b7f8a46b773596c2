-- SPDX-License-Identifier: MIT OR Apache-2.0
-- The line that says why an operation is refused.
use Rattle.std.specs.Prelude.{ℕ, ◌+◌, ◌-◌, ◌*◌, ◌%◌, ◌^◌, ◌==◌, min, nat_le, Bool, List, [], ◌++◌, codes, decimal, slice_index, Option, None, Some, if◌then◌else◌}
use Rattle.std.specs.Option.{option_map, option_map_or}
use Rattle.ffa_model.specs.declared.flaw.FieldPlace.{FieldPlace}
use Rattle.ffa_model.specs.declared.flaw.Flaw.{Flaw}
use Rattle.ffa_model.specs.declared.flaw.Flaw.TheVariants.{Access, Header, Range}
use Rattle.ffa_model.specs.declared.flaw.HeaderFlaw.TheVariants.{ArrayOutside}
use Rattle.ffa_model.specs.declared.operation.FaultKind.{FaultKind}
use Rattle.ffa_model.specs.declared.operation.FaultKind.TheVariants.{Translation, Permission, Alignment, AccessFlag, OutsideRam}
use Rattle.ffa_model.specs.declared.operation.Op.{Op}
use Rattle.ffa_model.specs.declared.operation.Op.TheVariants.{Call, Load, Store, Fetch}
use Rattle.ffa_model.specs.declared.refusal.Refusal.{Refusal}
use Rattle.ffa_model.specs.declared.why.About.{About}
use Rattle.ffa_model.specs.declared.why.About.TheVariants.{Page, Endpoint, Handle, Register, Bit, Field}
use Rattle.ffa_model.specs.declared.why.Obstacle.{Obstacle}
use Rattle.ffa_model.specs.declared.why.Obstacle.TheVariants as obstacles
use Rattle.ffa_model.specs.declared.why.Why.{Why}
use Rattle.ffa_model.specs.declared.why.Why.TheVariants.{Refused, Fault}
use Rattle.ffa_model.specs.Registers.{low}
use Rattle.ffa_playable.specs.declared.detail.Detail.{Detail}
use Rattle.ffa_playable.specs.Bench.{Bench, processors_of, why_of}
use Rattle.ffa_playable.specs.Standing.{detail}
use Rattle.play_trace.specs.TraceLines.{Line, operate, show, audit, skip, turn, interrupt, line_in}
use Rattle.play_trace.specs.TraceText.{bytes_moved, ended, hex}
use Rattle.ffa_model.specs.Words.{words_of}
use Rattle.ffa_mend.specs.Mend.{address_of}
use Rattle.ffa_abi.specs.Names.{call_name_of}
use Rattle.ffa_abi.specs.Widths.{is_read_whole}
use Rattle.play_reasons.specs.Checks.{number_of}
use Rattle.play_reasons.specs.Closer.{closer_text}
use Rattle.play_reasons.specs.Details.{detailed_text}
use Rattle.play_reasons.specs.FlawWords.{flaw_words_of}
use Rattle.play_reasons.specs.Mends.{address_text, short_text, wanted_text}
use Rattle.play_reasons.specs.declared.reason.Reason.{Reason}

-- each such line begins so
abbrev pub reason_mark : List ℕ
reason_mark = codes "# refused: "

-- OF A CALL: its name, the number of the check that fails, and what that finds

abbrev pub name_text : Option (List ℕ) → List ℕ
name_text name = option_map_or (λ n. n ++ codes " ") name []

abbrev pub number_text : Option ℕ → List ℕ
number_text number = option_map_or (λ n. codes "check " ++ decimal n ++ codes ": ") number []

unfoldable pub check_text : List ℕ → Refusal → List ℕ
check_text x refusal = name_text (call_name_of x) ++ number_text (number_of (low (slice_index x 0)) refusal)

abbrev pub call_text : Op → Refusal → List ℕ
call_text (Call x) refusal = check_text x refusal
call_text (Load address size) refusal = []
call_text (Store address size value) refusal = []
call_text (Fetch address) refusal = []

-- OF AN ACCESS: its address, and what is so of it

unfoldable pub transaction_text : ℕ → List ℕ
transaction_text handle = codes " is in the open transaction " ++ hex 16 handle

abbrev pub obstacle_text : Option Obstacle → List ℕ
obstacle_text None = codes " is above FFFFFFFF"
obstacle_text (Some obstacles.OutsideRam) = codes " is outside RAM"
obstacle_text (Some obstacles.ManagersPage) = codes " belongs to the manager"
obstacle_text (Some (obstacles.OwnedBy endpoint)) = codes " belongs to " ++ hex 4 endpoint.0
obstacle_text (Some (obstacles.InTransaction handle)) = transaction_text handle

-- what the runner has no right to do there
abbrev pub right_text : Op → List ℕ
right_text (Call x) = []
right_text (Load address size) = codes " may not be read"
right_text (Store address size value) = codes " may not be written"
right_text (Fetch address) = codes " may not be executed"

abbrev pub fault_text : Op → FaultKind → Option Obstacle → List ℕ
fault_text op Translation obstacle = obstacle_text obstacle
fault_text op Permission obstacle = right_text op
fault_text op Alignment obstacle = codes " is not a multiple of " ++ hex 1 (bytes_moved op)
fault_text op AccessFlag obstacle = codes " has no access flag"
fault_text op OutsideRam obstacle = codes " leads out of RAM"

-- OF WHAT A CHECK IS ABOUT, in RAM that begins at a base

abbrev pub page_address : ℕ → ℕ → ℕ
page_address base page = base + 4096 * page

abbrev pub page_text : ℕ → ℕ → Option Obstacle → List ℕ
page_text base page None = address_text (page_address base page)
page_text base page (Some obstacle) = address_text (page_address base page) ++ obstacle_text (Some obstacle)

unfoldable pub named_text : ℕ → List ℕ
named_text endpoint = codes "endpoint " ++ hex 4 endpoint

unfoldable pub handle_text : ℕ → List ℕ
handle_text handle = codes "handle " ++ hex 16 handle

-- x before a register that the call reads whole, and else w
abbrev pub letter_text : Op → ℕ → List ℕ
letter_text (Call x) register = if is_read_whole x register then codes "x" else codes "w"
letter_text (Load address size) register = codes "w"
letter_text (Store address size value) register = codes "w"
letter_text (Fetch address) register = codes "w"

unfoldable pub register_text : Op → ℕ → ℕ → List ℕ
register_text op register value = letter_text op register ++ decimal register ++ codes " is " ++ address_text value

abbrev pub bit_text : ℕ → List ℕ
bit_text number = codes "bit " ++ short_text number

-- which access descriptor, or which range
abbrev pub index_text : Flaw → List ℕ
index_text (Access index flaw) = codes "access descriptor " ++ short_text index ++ codes ": "
index_text (Range index flaw) = codes "range " ++ short_text index ++ codes ": "
index_text flaw = []

-- its first byte and its last, or the last that a number of 64 bits counts
abbrev pub last_of : ℕ → ℕ → ℕ
last_of first size = min (first + (size - 1)) (2 ^ 64 - 1)

abbrev pub place_text : ℕ → ℕ → List ℕ
place_text first size =
    if nat_le size 1 then codes "byte " ++ short_text first
    else codes "bytes " ++ short_text first ++ codes " to " ++ short_text (last_of first size)

abbrev pub verb_text : ℕ → List ℕ
verb_text size = if nat_le size 1 then codes " is " else codes " are "

-- two for each byte, of eight at most
abbrev pub field_digits : ℕ → ℕ
field_digits size = if nat_le size 8 then 2 * size else 16

unfoldable pub number_in_field : ℕ → ℕ → List ℕ
number_in_field size value = verb_text size ++ hex (field_digits size) value

abbrev pub value_text : ℕ → Option ℕ → List ℕ
value_text size value = option_map_or (number_in_field size) value []

-- Of access descriptors that don't end inside the descriptor the count alone is told, which is the first half of eight bytes
abbrev pub told_size : Flaw → ℕ → ℕ
told_size (Header ArrayOutside) size = if size == 8 then 4 else size
told_size flaw size = size

abbrev pub told_value : Flaw → ℕ → ℕ
told_value (Header ArrayOutside) value = value % 2 ^ 32
told_value flaw value = value

-- the condition that the descriptor breaks, the field of which it speaks, and the number in that
unfoldable pub field_text : Flaw → FieldPlace → Option ℕ → List ℕ
field_text flaw place value =
    index_text flaw ++ flaw_words_of flaw ++ codes ": " ++ place_text place.first (told_size flaw place.size)
    ++ value_text (told_size flaw place.size) (option_map (told_value flaw) value)

abbrev pub subject_text : ℕ → Op → Refusal → About → List ℕ
subject_text base op refusal (Page page obstacle) = page_text base page.0 obstacle
subject_text base op refusal (Endpoint endpoint) = named_text endpoint.0
subject_text base op refusal (Handle handle) = handle_text handle
subject_text base op refusal (Register register value) = register_text op register value ++ wanted_text refusal value
subject_text base op refusal (Bit number) = bit_text number
subject_text base op refusal (Field flaw place value) = field_text flaw place value

abbrev pub about_text : ℕ → Op → Refusal → Option About → List ℕ
about_text base op refusal about = option_map_or (λ its. codes ": " ++ subject_text base op refusal its) about []

-- OF ANY OPERATION

abbrev pub why_text : ℕ → Op → Why → List ℕ
why_text base op (Refused refusal about) =
    (call_text op refusal ++ words_of refusal ++ about_text base op refusal about) ++ closer_text op refusal about
why_text base op (Fault kind obstacle) = address_text (address_of op) ++ fault_text op kind obstacle

-- in how many digits a value is told that may be in the register or in the field
abbrev pub subject_digits : Option About → ℕ
subject_digits (Some (Field flaw place value)) = field_digits place.size
subject_digits about = 8

abbrev pub value_digits : Why → ℕ
value_digits (Refused refusal about) = subject_digits about
value_digits (Fault kind obstacle) = 8

unfoldable pub reason_line : ℕ → Op → Why → Option Detail → List ℕ
reason_line base op reason detail = ended (reason_mark ++ why_text base op reason ++ detailed_text (value_digits reason) detail)

-- what stands under the text of a line, where it is an operation that is refused there, with what is to be mended, how that stands
-- which the check is about, or which values may be there
abbrev pub reason_text : Bench → Line → List ℕ
reason_text b (operate op) =
    option_map_or (λ reason. reason_line b.state.ram_base op reason (detail b.state op reason)) (why_of b op) []
reason_text b show = []
reason_text b audit = []
reason_text b skip = []
reason_text b (turn processor) = []
reason_text b interrupt = []

-- where that is asked for
abbrev pub reason_if : Bool → Bench → Line → List ℕ
reason_if explain b line = if explain then reason_text b line else []

abbrev pub reason_of_bytes : Bool → Bench → List ℕ → List ℕ
reason_of_bytes explain b bytes = option_map_or (reason_if explain b) (line_in (processors_of b) bytes) []

-- the line of a reason that is told, if one is
abbrev pub told_line : Option Reason → List ℕ
told_line reason = option_map_or (λ (r : Reason). reason_line r.base.0 r.op r.why r.detail) reason []
