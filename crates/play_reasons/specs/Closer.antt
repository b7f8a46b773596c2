-- SPDX-License-Identifier: MIT OR Apache-2.0
-- What the line of a reason says of an operation's registers behind what the check is about: where that ends which does not lie in
-- the descriptor, which UUID is named, and which call has no 64-bit form.
use Rattle.std.specs.Prelude.{ℕ, ◌+◌, ◌-◌, ◌*◌, ◌/◌, ◌%◌, ◌^◌, ◌==◌, ◌&&◌, min, nat_le, nat_lt, List, [], ◌∷◌, ◌++◌, codes, slice_index, Option, Some, None, if◌then◌else◌}
use Rattle.std.specs.Option.{option_and_then, option_map, option_map_or}
use Rattle.ffa_model.specs.declared.call.Call.{Call}
use Rattle.ffa_model.specs.declared.call.Call.TheVariants as calls
use Rattle.ffa_model.specs.declared.flaw.CompositeFlaw.TheVariants.{Outside, RangesOutside}
use Rattle.ffa_model.specs.declared.flaw.FieldPlace.{FieldPlace}
use Rattle.ffa_model.specs.declared.flaw.Flaw.{Flaw}
use Rattle.ffa_model.specs.declared.flaw.Flaw.TheVariants.{Header, Composite}
use Rattle.ffa_model.specs.declared.flaw.HeaderFlaw.TheVariants.{Short, ArrayOutside}
use Rattle.ffa_model.specs.declared.function.TheConstants.{WIDE}
use Rattle.ffa_model.specs.declared.operation.Op.{Op}
use Rattle.ffa_model.specs.declared.refusal.Refusal.{Refusal}
use Rattle.ffa_model.specs.declared.refusal.Refusal.TheVariants.{FunctionUnknown, UuidUnknown}
use Rattle.ffa_model.specs.declared.why.About.{About}
use Rattle.ffa_model.specs.declared.why.About.TheVariants.{Register, Field}
use Rattle.ffa_model.specs.Rows.{is_wide, row_of}
use Rattle.ffa_mend.specs.Mend.{call_of}
use Rattle.play_reasons.specs.Mends.{short_text}

-- WHERE THAT ENDS which does not lie in the descriptor, by the field that tells it

-- the access descriptors, of 16 bytes each: how many there are, and in the high half of eight bytes where they begin, which is
-- behind a header of 32 bytes else
abbrev pub array_end_by : ℕ → ℕ → ℕ
array_end_by size value = if size == 8 then value / 2 ^ 32 + 16 * (value % 2 ^ 32) else 32 + 16 * value

-- a composite of 16 bytes by its place; and behind it so many ranges of 16 bytes, whose count stands in its bytes 4 to 7
abbrev pub end_by : Flaw → FieldPlace → ℕ → Option ℕ
end_by (Header ArrayOutside) place value = Some (array_end_by place.size value)
end_by (Composite Outside) place value = Some (value + 16)
end_by (Composite RangesOutside) place value = Some (place.first + 12 + 16 * value)
end_by flaw place value = None

-- a header that is short is a field of its own
abbrev pub end_of : Flaw → FieldPlace → Option ℕ → Option ℕ
end_of (Header Short) place value = Some (place.first + place.size)
end_of flaw place value = option_and_then (end_by flaw place) value

abbrev pub part_text : Flaw → List ℕ
part_text (Header Short) = codes " (the header ends at "
part_text (Header ArrayOutside) = codes " (the access descriptors end at "
part_text (Composite Outside) = codes " (the composite ends at "
part_text flaw = codes " (the ranges end at "

-- in a descriptor of so many bytes; no number of 64 bits is greater than the last
unfoldable pub end_text : Flaw → ℕ → ℕ → List ℕ
end_text flaw size end =
    (((part_text flaw ++ short_text (min end (2 ^ 64 - 1))) ++ codes ", but the descriptor has ") ++ short_text size) ++ codes " bytes)"

abbrev pub size_of : Call → Option ℕ
size_of (calls.MemDonate transfer) = Some transfer.total
size_of (calls.MemLend transfer) = Some transfer.total
size_of (calls.MemShare transfer) = Some transfer.total
size_of (calls.MemRetrieve transfer) = Some transfer.total
size_of call = None

abbrev pub ends_text : Option ℕ → Flaw → Option ℕ → List ℕ
ends_text None flaw end = []
ends_text (Some size) flaw end = option_map_or (end_text flaw size) end []

-- A UUID, in the digits of a manifest

abbrev pub small_digit : ℕ → ℕ
small_digit d = if nat_lt d 10 then 48 + d else 87 + d

abbrev pub byte_digits : ℕ → List ℕ
byte_digits b = small_digit (b / 16) ∷ small_digit (b % 16) ∷ []

-- the bytes of a word, the lowest first
unfoldable pub word_digits : ℕ → List ℕ
word_digits w =
    byte_digits (w % 256) ++ byte_digits (w / 256 % 256) ++ byte_digits (w / 65536 % 256) ++ byte_digits (w / 16777216)

unfoldable pub uuid_text : List ℕ → List ℕ
uuid_text words =
    codes ": w1 to w4 hold " ++ word_digits (slice_index words 0) ++ word_digits (slice_index words 1)
    ++ word_digits (slice_index words 2) ++ word_digits (slice_index words 3)

abbrev pub uuid_of : Call → Option (List ℕ)
uuid_of (calls.PartitionInfoGet uuid flags) = Some uuid
uuid_of call = None

-- which one no partition has
abbrev pub unknown_uuid : Refusal → Call → Option (List ℕ)
unknown_uuid UuidUnknown call = uuid_of call
unknown_uuid refusal call = None

-- A FUNCTION that would be the 64-bit form of a call

unfoldable pub no_form_text : List ℕ → List ℕ
no_form_text name = codes ", and " ++ name ++ codes " has no 64-bit form"

abbrev pub narrow_of : ℕ → Option ℕ
narrow_of function = if nat_le WIDE function && nat_lt function (2 ^ 32) then Some (function - WIDE) else None

-- of which number it would be the 64-bit form
abbrev pub unknown_form : Refusal → ℕ → Option ℕ
unknown_form FunctionUnknown function = narrow_of function
unknown_form refusal function = None

-- where that is a call's that has no such form
abbrev pub name_of_call : ℕ → Option (List ℕ)
name_of_call function = option_and_then (λ row. if is_wide row then None else Some row.name) (row_of function)

abbrev pub form_text : Option ℕ → List ℕ
form_text narrow = option_map_or no_form_text (option_and_then name_of_call narrow) []

-- EACH, by what the check is about

abbrev pub closer_text : Op → Refusal → Option About → List ℕ
closer_text op refusal (Some (Field flaw place value)) = ends_text (size_of (call_of op)) flaw (end_of flaw place value)
closer_text op refusal (Some (Register register value)) = form_text (unknown_form refusal value)
closer_text op refusal None = option_map_or uuid_text (unknown_uuid refusal (call_of op)) []
closer_text op refusal about = []
