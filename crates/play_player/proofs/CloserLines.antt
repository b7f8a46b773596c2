-- SPDX-License-Identifier: MIT OR Apache-2.0
-- What a reason says of the registers has no LF.
use Rattle.std.proofs.Common.{◌≡◌, ℕ, ◌+◌, ◌-◌, ◌/◌, ◌%◌, ◌^◌, true, false, List, [], ◌++◌, Option, None, Some, min, inl, inr, arith, refl, codes, nat_lt, slice_index}
use Rattle.std.specs.Option.{option_and_then, option_map, option_map_or}
use Rattle.std.specs.Prelude.{if◌then◌else◌}
use Rattle.std.proofs.lemmas.Bool.{and_from, cases_Bool}
use Rattle.ffa_model.specs.declared.flaw.CompositeFlaw.TheVariants.{Outside}
use Rattle.ffa_model.specs.declared.flaw.Flaw.{Flaw}
use Rattle.ffa_model.specs.declared.flaw.Flaw.TheVariants.{Header, Composite}
use Rattle.ffa_model.specs.declared.flaw.HeaderFlaw.TheVariants.{Short}
use Rattle.ffa_model.specs.declared.operation.Op.{Op}
use Rattle.ffa_model.specs.declared.refusal.Refusal.{Refusal}
use Rattle.ffa_model.specs.declared.why.About.{About}
use Rattle.ffa_model.specs.declared.why.About.TheVariants as abouts
use Rattle.ffa_model.specs.Rows.{Row, is_wide, row_of}
use Rattle.ffa_mend.specs.Mend.{call_of}
use Rattle.play_trace.specs.TraceLines.{has_no_feed}
use Rattle.play_reasons.specs.Closer.{byte_digits, closer_text, end_of, end_text, ends_text, form_text, name_of_call, no_form_text, part_text, size_of, small_digit, unknown_form, unknown_uuid, uuid_text, word_digits}
use Rattle.play_reasons.specs.Mends.{short_text}
use Rattle.play_player.proofs.Cuts.{IsInner, inner_above, inner_single, is_inner}
use Rattle.play_player.proofs.MendLines.{single_short}
use Rattle.play_player.proofs.PrintedWords.{single_called}
use Rattle.play_player.proofs.Singles.{IsSingle, single_append}

-- WHERE THAT ENDS which does not lie in the descriptor

single_part : (flaw : Flaw) → IsSingle (part_text flaw)
single_part (Header Short) = refl
single_part (Composite Outside) = refl
single_part _ = refl

single_end : (flaw : Flaw) (size end : ℕ) → IsSingle (end_text flaw size end)
unfolding end_text
single_end flaw size end =
    let last = short_text (min end (2 ^ 64 - 1)) in
    let to = part_text flaw ++ last in
    let of = to ++ codes ", but the descriptor has " in
    single_append (of ++ short_text size) (codes " bytes)")
    (single_append of (short_text size)
    (single_append to (codes ", but the descriptor has ") (single_append (part_text flaw) last (single_part flaw) (single_short (min end (2 ^ 64 - 1)))) refl)
    (single_short size)) refl

single_ends : (size : Option ℕ) (flaw : Flaw) (end : Option ℕ) → IsSingle (ends_text size flaw end)
single_ends None flaw end = refl
single_ends (Some size) flaw None = refl
single_ends (Some size) flaw (Some end) = single_end flaw size end

-- A UUID

inner_small : (d : ℕ) → is_inner (small_digit d) ≡ true
inner_small d =
    elim (cases_Bool (nat_lt d 10)) [
      | inl few ↦ rw few (inner_above (48 + d) (omega arith))
      | inr many ↦ rw many (inner_above (87 + d) (omega arith))
    ]

inner_byte : (b : ℕ) → IsInner (byte_digits b)
inner_byte b = and_from _ _ (inner_small (b / 16)) (and_from _ _ (inner_small (b % 16)) refl)

single_byte : (b : ℕ) → IsSingle (byte_digits b)
single_byte b = inner_single (byte_digits b) (inner_byte b)

single_digits : (w : ℕ) → IsSingle (word_digits w)
unfolding word_digits
single_digits w =
    let one = byte_digits (w % 256) in
    let two = byte_digits (w / 256 % 256) in
    let three = byte_digits (w / 65536 % 256) in
    let four = byte_digits (w / 16777216) in
    single_append (one ++ two ++ three) four
    (single_append (one ++ two) three (single_append one two (single_byte (w % 256)) (single_byte (w / 256 % 256))) (single_byte (w / 65536 % 256)))
    (single_byte (w / 16777216))

single_uuid : (words : List ℕ) → IsSingle (uuid_text words)
unfolding uuid_text
single_uuid words =
    let at : ℕ → List ℕ = λ k. word_digits (slice_index words k) in
    let one = codes ": w1 to w4 hold " ++ at 0 in
    single_append (one ++ at 1 ++ at 2) (at 3)
    (single_append (one ++ at 1) (at 2) (single_append one (at 1) (single_digits (slice_index words 0)) (single_digits (slice_index words 1))) (single_digits (slice_index words 2)))
    (single_digits (slice_index words 3))

single_named_uuid : (uuid : Option (List ℕ)) → IsSingle (option_map_or uuid_text uuid [])
single_named_uuid None = refl
single_named_uuid (Some uuid) = single_uuid uuid

-- A FUNCTION

single_no_form : (name : Option (List ℕ)) → option_map_or has_no_feed name true ≡ true → IsSingle (option_map_or no_form_text name [])
unfolding no_form_text
single_no_form None h = refl
single_no_form (Some name) h = single_append (codes ", and " ++ name) (codes " has no 64-bit form") h refl

-- a name is told only of a call without a 64-bit form
told_names : (row : Option Row) → option_map_or has_no_feed (option_map (λ its. its.name) row) true ≡ true
    → option_map_or has_no_feed (option_and_then (λ its. if is_wide its then None else Some its.name) row) true ≡ true
told_names None h = refl
told_names (Some row) h = elim (is_wide row) as (λ b. option_map_or has_no_feed (if b then None else Some row.name) true ≡ true) [ true ↦ refl | false ↦ h ]

single_form : (narrow : Option ℕ) → IsSingle (form_text narrow)
single_form None = refl
single_form (Some function) = single_no_form (name_of_call function) (told_names (row_of function) (single_called function))

-- EACH
pub single_closer : (op : Op) (refusal : Refusal) (about : Option About) → IsSingle (closer_text op refusal about)
single_closer op refusal None = single_named_uuid (unknown_uuid refusal (call_of op))
single_closer op refusal (Some (abouts.Register register value)) = single_form (unknown_form refusal value)
single_closer op refusal (Some (abouts.Field flaw place value)) =
    single_ends (size_of (call_of op)) flaw (end_of flaw place value)
single_closer op refusal _ = refl
