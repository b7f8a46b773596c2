-- SPDX-License-Identifier: MIT OR Apache-2.0
-- With neither numbers nor names nor reasons a play line by line prints what the player prints.
use Rattle.std.proofs.Common.{◌≡◌, ℕ, ◌+◌, List, [], ◌∷◌, ◌++◌, Option, None, Some, ap, ◌∙◌, append-nil, refl}
use Rattle.std.specs.Option.{option_map_or}
use Rattle.ffa_model.specs.declared.operation.Outcome.{Outcome}
use Rattle.ffa_model.specs.declared.operation.Outcome.TheVariants.{Regs}
use Rattle.ffa_playable.specs.Bench.{Bench, processors_of}
use Rattle.play_trace.specs.TraceLines.{Line, line_in}
use Rattle.play_trace.specs.TraceText.{line_text, text_of, text, after}
use Rattle.play_trace.specs.Lines.{outcome_of}
use Rattle.play_player.specs.Forms.{plain, dressed, line_text_in, text_of_in, text_in, worded_in}

plain_named : (outcome : Option Outcome) (said : List ℕ) → worded_in plain outcome said ≡ said
plain_named None said = refl
plain_named (Some (Regs runner x)) said = refl
plain_named _ said = refl

plain_dressed : (number : ℕ) (outcome : Option Outcome) (said : List ℕ) → dressed plain number outcome [] said ≡ said
plain_dressed number outcome [] = refl
plain_dressed number outcome (c ∷ said) = append-nil (worded_in plain outcome (c ∷ said)) ∙ plain_named outcome (c ∷ said)

plain_line : (number : ℕ) (s : Bench) (line : Option Line) → option_map_or (line_text_in plain number s) line [] ≡ option_map_or (line_text s) line []
plain_line number s None = refl
plain_line number s (Some line) = plain_dressed number (outcome_of s line) (line_text s line)

plain_of : (number : ℕ) (s : Bench) (bytes : List ℕ) → text_of_in plain number s bytes ≡ text_of s bytes
unfolding text_of_in text_of
plain_of number s bytes = plain_line number s (line_in (processors_of s) bytes)

pub plain_text : (number : ℕ) (s : Bench) (lines : List (List ℕ)) → text_in plain number s lines ≡ text s lines
plain_text number s [] = refl
plain_text number s (line ∷ lines) = ap (λ t. t ++ text_in plain (number + 1) (after s line) lines) (plain_of number s line) ∙ ap (λ t. text_of s line ++ t) (plain_text (number + 1) (after s line) lines)
