-- SPDX-License-Identifier: MIT OR Apache-2.0
-- One line: what is known once its text was written, or could not be.
use Rattle.std.proofs.Common.{◌≡◌, ◌∷◌, ℕ, true, List, [], Option, Some, None, Result, Ok, Err, sym, ap, ◌∙◌, subst, arith, refl}
use Rattle.std.specs.Prelude.{is_some, MatchResult}
use Rattle.std.specs.Option.{option_map_or}
use Rattle.std.specs.Io.KnownBytes.{Appends, Keeps}
use Rattle.std.proofs.KnownBytes.{Appends-nil}
use Rattle.ffa_playable.specs.Bench.{Bench, processors_of}
use Rattle.play_trace.specs.TraceLines.{Line, skip, line_of, line_in, is_good}
use Rattle.play_trace.specs.TraceText.{line_text, line_after, text_of, after}
use Rattle.ffa_model.specs.declared.operation.Outcome.{Outcome}
use Rattle.play_trace.specs.Output.{TookFront, Writes}
use Rattle.play_player.specs.Feeding.{LineDone, LineEnded}
use Rattle.play_trace.specs.Lines.{Answered}
use Rattle.play_trace.proofs.LineActs.{audit_in, good_in}
use Rattle.play_trace.specs.declared.output.PlayError.{PlayError}
use Rattle.play_trace.specs.declared.output.PlayError.TheVariants.{Read, Write, NoMemory, BadLine}

module _ (start now : Bench) (held holds : Option (List ℕ)) (number : ℕ) (bytes : List ℕ) (line : Line) (is : Some line ≡ line_in (processors_of start) bytes) (next : now ≡ line_after start line) where
  means : is_good (processors_of start) bytes ≡ true
  means = ap is_some (sym is)

  state_is : now ≡ after start bytes
  unfolding after
  state_is = next ∙ ap (λ l. option_map_or (line_after start) l start) is

  text_is : line_text start line ≡ text_of start bytes
  unfolding text_of
  text_is = ap (λ l. option_map_or (line_text start) l []) is

  pub line_written : (r : Result (Unit {0}) PlayError) → Writes held holds (line_text start line) r → LineDone start now held holds number bytes r
  line_written (Ok x) w = (means, state_is, subst (Appends held holds) text_is w)
  line_written (Err Read) w = absurd w
  line_written (Err Write) w = record { good = means; state = state_is; written = subst (TookFront held holds) text_is w }
  line_written (Err NoMemory) w = absurd w
  line_written (Err (BadLine n)) w = absurd w

-- a line that was read was answered
pub line_answered : (start now : Bench) (held holds : Option (List ℕ)) (number : ℕ) (bytes : List ℕ) (line : Line) → Some line ≡ line_in (processors_of start) bytes
    → (r : Result (Option Outcome) PlayError) → Answered start now held holds line r → MatchResult r (λ o. LineDone {X = Unit {0}} start now held holds number bytes (Ok tt)) (λ e. LineDone {X = Unit {0}} start now held holds number bytes (Err e))
line_answered start now held holds number bytes line is (Ok outcome) (next, written, came) = line_written start now held holds number bytes line is next (Ok tt) written
line_answered start now held holds number bytes line is (Err Read) a = absurd a
line_answered start now held holds number bytes line is (Err Write) (next, written) = line_written start now held holds number bytes line is next (Err Write) written
line_answered start now held holds number bytes line is (Err NoMemory) (asks, same, kept) = (sym (audit_in (processors_of start) bytes (ap (λ l. Some l) (sym asks) ∙ is)), same, kept)
line_answered start now held holds number bytes line is (Err (BadLine n)) a = absurd a

-- a line whose bytes needed no memory
pub line_ended : (start now : Bench) (held holds : Option (List ℕ)) (number : ℕ) (bytes : List ℕ) (r : Result (Unit {0}) PlayError)
    → LineDone start now held holds number bytes r → LineEnded start now held holds number bytes r
unfolding line_of
line_ended start now held holds number bytes (Ok x) d = d
line_ended start now held holds number bytes (Err Read) d = absurd d
line_ended start now held holds number bytes (Err Write) d = d
line_ended start now held holds number [] (Err NoMemory) (asks, same, kept) = absurd cc
line_ended start now held holds number (c ∷ bytes) (Err NoMemory) (asks, same, kept) = (same, kept, omega arith)
line_ended start now held holds number bytes (Err (BadLine n)) d = d

-- an empty line or a comment
pub line_skipped : (s : Bench) (a : Option (List ℕ)) (number : ℕ) (bytes : List ℕ) → Some skip ≡ line_of bytes → LineDone {X = Unit {0}} s s a a number bytes (Ok tt)
line_skipped s a number bytes is = line_written s s a a number bytes skip (good_in (processors_of s) bytes skip is) refl (Ok tt) (Appends-nil a)

-- what is no line
pub line_bad : (s : Bench) (a : Option (List ℕ)) (number : ℕ) (bytes : List ℕ) → None ≡ line_in (processors_of s) bytes → LineDone {X = Unit {0}} s s a a number bytes (Err (BadLine number))
line_bad s a number bytes is = (ap is_some (sym is), refl, refl, kept a)
  where
    kept : (a : Option (List ℕ)) → Keeps a a
    kept None = tt
    kept (Some xs) = refl
