-- SPDX-License-Identifier: MIT OR Apache-2.0
-- A line that says why an operation is refused has no LF, and nothing is left of it.
use Rattle.std.proofs.Common.{◌≡◌, ℕ, Bool, true, false, List, [], ◌++◌, Option, None, Some, inl, inr, refl, codes, decimal, nat_le, slice_index}
use Rattle.std.specs.Option.{option_map, option_map_or}
use Rattle.std.proofs.lemmas.Bool.{cases_Bool}
use Rattle.ffa_model.specs.declared.operation.FaultKind.{FaultKind}
use Rattle.ffa_model.specs.declared.operation.FaultKind.TheVariants.{Translation, Permission, Alignment}
use Rattle.ffa_model.specs.declared.operation.Op.{Op}
use Rattle.ffa_model.specs.declared.operation.Op.TheVariants.{Call}
use Rattle.ffa_model.specs.declared.refusal.Refusal.{Refusal}
use Rattle.ffa_model.specs.declared.flaw.FieldPlace.{FieldPlace}
use Rattle.ffa_model.specs.declared.flaw.Flaw.{Flaw}
use Rattle.ffa_model.specs.declared.flaw.Flaw.TheVariants.{Access, Range}
use Rattle.ffa_model.specs.declared.why.About.{About}
use Rattle.ffa_model.specs.declared.why.About.TheVariants.{Page, Endpoint, Handle, Register, Bit, Field}
use Rattle.ffa_model.specs.declared.why.Obstacle.{Obstacle}
use Rattle.ffa_model.specs.declared.why.Obstacle.TheVariants as obstacles
use Rattle.ffa_model.specs.declared.why.Why.{Why}
use Rattle.ffa_model.specs.declared.why.Why.TheVariants.{Refused, Fault}
use Rattle.ffa_model.specs.Registers.{low}
use Rattle.ffa_playable.specs.Bench.{Bench, why_of}
use Rattle.play_trace.specs.TraceLines.{Line, operate, has_no_feed}
use Rattle.play_trace.specs.TraceText.{bytes_moved, hex}
use Rattle.ffa_abi.specs.Names.{call_name_of}
use Rattle.ffa_abi.specs.Widths.{is_read_whole}
use Rattle.play_reasons.specs.Checks.{number_of}
use Rattle.play_reasons.specs.FlawWords.{flaw_words_of}
use Rattle.ffa_model.specs.Words.{words_of}
use Rattle.play_reasons.proofs.SingleWords.{single_flaw, single_words}
use Rattle.play_player.specs.Cut.{CutsTo}
use Rattle.play_reasons.specs.Reasons.{about_text, call_text, check_text, fault_text, field_digits, field_text, handle_text, index_text, last_of, letter_text, name_text, named_text, number_in_field, number_text, obstacle_text, page_address, page_text, place_text, reason_if, reason_line, reason_mark, reason_text, register_text, right_text, subject_text, told_size, told_value, transaction_text, value_digits, value_text, verb_text, why_text}
use Rattle.play_reasons.specs.Closer.{closer_text}
use Rattle.play_player.proofs.CloserLines.{single_closer}
use Rattle.play_player.proofs.MendLines.{single_address, single_detailed, single_short, single_wanted}
use Rattle.play_player.proofs.Singles.{IsSingle, single_append, single_hex}
use Rattle.ffa_mend.specs.Mend.{address_of}
use Rattle.ffa_playable.specs.declared.detail.Detail.{Detail}
use Rattle.ffa_playable.specs.Standing.{detail}
use Rattle.play_reasons.specs.Details.{detailed_text}
use Rattle.play_reasons.specs.Mends.{address_text, short_text, wanted_text}
use Rattle.play_player.proofs.Cuts.{cuts_none, cuts_reason, decimal_digits, digits_single}
use Rattle.play_player.proofs.PrintedWords.{single_call}

-- CALLS

single_name : (name : Option (List ℕ)) → option_map_or has_no_feed name true ≡ true → IsSingle (name_text name)
single_name None h = refl
single_name (Some name) h = single_append name (codes " ") h refl

single_number : (number : Option ℕ) → IsSingle (number_text number)
single_number None = refl
single_number (Some n) = single_append (decimal n) (codes ": ") (digits_single (decimal n) (decimal_digits n)) refl

single_check : (op : Op) (refusal : Refusal) → IsSingle (call_text op refusal)
unfolding check_text
single_check (Call x) refusal =
    single_append (name_text (call_name_of x)) (number_text (number_of (low (slice_index x 0)) refusal)) (single_name (call_name_of x) (single_call x)) (single_number (number_of (low (slice_index x 0)) refusal))
single_check _ refusal = refl

-- ACCESSES

single_obstacle : (obstacle : Option Obstacle) → IsSingle (obstacle_text obstacle)
unfolding transaction_text
single_obstacle (Some (obstacles.OwnedBy endpoint)) = single_hex 4 endpoint.0
single_obstacle (Some (obstacles.InTransaction handle)) = single_hex 16 handle
single_obstacle _ = refl

single_right : (op : Op) → IsSingle (right_text op)
single_right (Call x) = refl
single_right _ = refl

single_fault : (op : Op) (kind : FaultKind) (obstacle : Option Obstacle) → IsSingle (fault_text op kind obstacle)
single_fault op Translation obstacle = single_obstacle obstacle
single_fault op Permission obstacle = single_right op
single_fault op Alignment obstacle = single_hex 1 (bytes_moved op)
single_fault op _ obstacle = refl

-- FIELDS OF A DESCRIPTOR

single_decimal : (n : ℕ) → IsSingle (decimal n)
single_decimal n = digits_single (decimal n) (decimal_digits n)

single_indexed : (word : List ℕ) (n : ℕ) → IsSingle word → IsSingle (word ++ short_text n ++ codes ": ")
single_indexed word n h = single_append (word ++ short_text n) (codes ": ") (single_append word (short_text n) h (single_short n)) refl

single_index : (flaw : Flaw) → IsSingle (index_text flaw)
single_index (Access index flaw) = single_indexed (codes "access descriptor ") index refl
single_index (Range index flaw) = single_indexed (codes "range ") index refl
single_index _ = refl

single_place : (first size : ℕ) → IsSingle (place_text first size)
single_place first size =
    elim (cases_Bool (nat_le size 1)) [
      | inl one ↦ rw one (single_short first)
      | inr more ↦ rw more
          (single_append (codes "bytes " ++ short_text first ++ codes " to ") (short_text (last_of first size))
          (single_append (codes "bytes " ++ short_text first) (codes " to ") (single_short first) refl) (single_short (last_of first size)))
    ]

single_verb : (size : ℕ) → IsSingle (verb_text size)
single_verb size =
    elim (cases_Bool (nat_le size 1)) [
      | inl one ↦ rw one refl
      | inr more ↦ rw more refl
    ]

single_in_field : (size value : ℕ) → IsSingle (number_in_field size value)
unfolding number_in_field
single_in_field size value =
    single_append (verb_text size) (hex (field_digits size) value) (single_verb size) (single_hex (field_digits size) value)

single_value : (size : ℕ) (value : Option ℕ) → IsSingle (value_text size value)
single_value size None = refl
single_value size (Some value) = single_in_field size value

single_field : (flaw : Flaw) (place : FieldPlace) (value : Option ℕ) → IsSingle (field_text flaw place value)
unfolding field_text
single_field flaw place value =
    let size = told_size flaw place.size in
    let its = option_map (told_value flaw) value in
    let at = place_text place.first size in
    single_append (index_text flaw ++ flaw_words_of flaw ++ codes ": " ++ at) (value_text size its)
    (single_append (index_text flaw ++ flaw_words_of flaw ++ codes ": ") at
    (single_append (index_text flaw ++ flaw_words_of flaw) (codes ": ")
    (single_append (index_text flaw) (flaw_words_of flaw) (single_index flaw) (single_flaw flaw)) refl)
    (single_place place.first size)) (single_value size its)

-- WHAT A CHECK IS ABOUT

single_page : (base page : ℕ) (obstacle : Option Obstacle) → IsSingle (page_text base page obstacle)
single_page base page None = single_address (page_address base page)
single_page base page (Some obstacle) =
    single_append (address_text (page_address base page)) (obstacle_text (Some obstacle)) (single_address (page_address base page)) (single_obstacle (Some obstacle))

single_named : (endpoint : ℕ) → IsSingle (named_text endpoint)
unfolding named_text
single_named endpoint = single_hex 4 endpoint

single_handle : (handle : ℕ) → IsSingle (handle_text handle)
unfolding handle_text
single_handle handle = single_hex 16 handle

single_letter : (op : Op) (register : ℕ) → IsSingle (letter_text op register)
single_letter (Call x) register =
    elim (cases_Bool (is_read_whole x register)) [
      | inl whole ↦ rw whole refl
      | inr half ↦ rw half refl
    ]
single_letter _ register = refl

single_register : (op : Op) (register value : ℕ) → IsSingle (register_text op register value)
unfolding register_text
single_register op register value =
    let letter = letter_text op register in
    single_append (letter ++ decimal register ++ codes " is ") (address_text value)
    (single_append (letter ++ decimal register) (codes " is ") (single_append letter (decimal register) (single_letter op register) (single_decimal register)) refl)
    (single_address value)

single_subject : (base : ℕ) (op : Op) (refusal : Refusal) (about : About) → IsSingle (subject_text base op refusal about)
single_subject base op refusal (Page page obstacle) = single_page base page.0 obstacle
single_subject base op refusal (Endpoint endpoint) = single_named endpoint.0
single_subject base op refusal (Handle handle) = single_handle handle
single_subject base op refusal (Register register value) =
    single_append (register_text op register value) (wanted_text refusal value) (single_register op register value) (single_wanted refusal value)
single_subject base op refusal (Bit number) = single_short number
single_subject base op refusal (Field flaw place value) = single_field flaw place value

single_about : (base : ℕ) (op : Op) (refusal : Refusal) (about : Option About) → IsSingle (about_text base op refusal about)
single_about base op refusal None = refl
single_about base op refusal (Some about) = single_subject base op refusal about

-- LINES

single_why : (base : ℕ) (op : Op) (reason : Why) → IsSingle (why_text base op reason)
single_why base op (Refused refusal about) =
    single_append (call_text op refusal ++ words_of refusal ++ about_text base op refusal about) (closer_text op refusal about)
    (single_append (call_text op refusal ++ words_of refusal) (about_text base op refusal about)
    (single_append (call_text op refusal) (words_of refusal) (single_check op refusal) (single_words refusal)) (single_about base op refusal about))
    (single_closer op refusal about)
single_why base op (Fault kind obstacle) =
    single_append (address_text (address_of op)) (fault_text op kind obstacle) (single_address (address_of op)) (single_fault op kind obstacle)

line_cuts : (base : ℕ) (op : Op) (reason : Why) (its : Option Detail) → CutsTo (reason_line base op reason its) []
unfolding reason_line
line_cuts base op reason its =
    let digits = value_digits reason in
    cuts_reason (reason_mark ++ why_text base op reason ++ detailed_text digits its)
    (single_append (why_text base op reason) (detailed_text digits its) (single_why base op reason) (single_detailed digits its)) refl

some_cuts : (base : ℕ) (op : Op) (its : Why → Option Detail) (reason : Option Why)
    → CutsTo (option_map_or (λ why. reason_line base op why (its why)) reason []) []
some_cuts base op its None = cuts_none
some_cuts base op its (Some reason) = line_cuts base op reason (its reason)

told_cuts : (s : Bench) (line : Line) → CutsTo (reason_text s line) []
told_cuts s (operate op) = some_cuts s.state.ram_base op (detail s.state op) (why_of s op)
told_cuts s _ = cuts_none

pub reason_cuts : (explain : Bool) (s : Bench) (line : Line) → CutsTo (reason_if explain s line) []
reason_cuts true s line = told_cuts s line
reason_cuts false s line = cuts_none
