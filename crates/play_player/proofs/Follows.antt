-- SPDX-License-Identifier: MIT OR Apache-2.0
-- A play line by line.
use Rattle.std.proofs.Common.{◌≡◌, ◌+◌, ℕ, true, List, [], ◌∷◌, ◌++◌, length, Option, Some, sym, ap, ◌∙◌, subst, arith, append_assoc, append-nil, refl, is_some}
use Rattle.std.specs.Option.{option_map_or}
use Rattle.std.specs.Io.KnownBytes.{Consumes}
use Rattle.std.proofs.KnownBytes.{Consumes-nil, Consumes-trans}
use Rattle.std.proofs.lemmas.List.Folds.{list_all-append}
use Rattle.ffa_playable.specs.Bench.{Bench, processors_of}
use Rattle.play_trace.specs.TraceLines.{Line, feed, line_in, is_good, is_line, has_no_feed, joined}
use Rattle.play_trace.specs.TraceText.{line_after, after, after_all}
use Rattle.play_player.proofs.Runs.{joined-append}
use Rattle.play_player.specs.Followed.{Followed, EndsBadly}
use Rattle.play_player.specs.Forms.{line_text_in, text_of_in, text_in}
use Rattle.play_player.proofs.Cuts.{cuts_none}
use Rattle.play_player.proofs.CutOff.{cuts_printed}
use Rattle.play_player.specs.Reading.{IsBadLine}
use Rattle.play_player.specs.declared.form.Form.{Form}
use Rattle.play_player.proofs.Behind.{meant-behind}

pub followed_none : (form : Form) (s : Bench) (had : Option (List ℕ)) → Followed form s s had had [] []
followed_none form s had = record { each = refl; read = Consumes-nil had; state = refl; said = refl; cut = λ long. cuts_none }

pub after_one : (s : Bench) (lines : List (List ℕ)) (line : List ℕ) → after_all s (lines ++ line ∷ []) ≡ after (after_all s lines) line
after_one s [] line = refl
after_one s (l ∷ ls) line = after_one (after s l) ls line

pub text_one : (form : Form) (n : ℕ) (s : Bench) (lines : List (List ℕ)) (line : List ℕ)
    → text_in form n s (lines ++ line ∷ []) ≡ text_in form n s lines ++ text_of_in form (n + length lines) (after_all s lines) line
text_one form n s [] line = append-nil _ ∙ ap (λ k. text_of_in form k s line) (omega arith)
text_one form n s (l ∷ ls) line =
    let count : n + 1 + length ls ≡ n + length (l ∷ ls) = omega arith in
    ap (λ t. text_of_in form n s l ++ t) (text_one form (n + 1) (after s l) ls line)
    ∙ sym (append_assoc (text_of_in form n s l) (text_in form (n + 1) (after s l) ls) _)
    ∙ ap (λ k. text_in form n s (l ∷ ls) ++ text_of_in form k (after_all s (l ∷ ls)) line) count

module _ (form : Form) (start mid : Bench) (had has : Option (List ℕ)) (lines : List (List ℕ)) (text : List ℕ) (f : Followed form start mid had has lines text) (number : ℕ) (count : number ≡ 1 + length lines) where
  -- what a line more prints
  pub own_text : (line : List ℕ) (meant : Line) → Some meant ≡ line_in (processors_of start) line → line_text_in form number mid meant ≡ text_of_in form (1 + length lines) (after_all start lines) line
  unfolding text_of_in
  own_text line meant is =
      let own : line_text_in form number mid meant ≡ text_of_in form number mid line =
      ap (λ l. option_map_or (line_text_in form number mid) l []) (meant-behind start mid lines f.state line (Some meant) is) in
      own ∙ ap (λ n. text_of_in form n mid line) count ∙ ap (λ s. text_of_in form (1 + length lines) s line) f.state

  -- a line more
  pub followed_more : (now : Bench) (then : Option (List ℕ)) (line : List ℕ) (meant : Line) (said : List ℕ) → Consumes has then (line ++ feed ∷ []) → has_no_feed line ≡ true
      → Some meant ≡ line_in (processors_of start) line → now ≡ line_after mid meant → said ≡ line_text_in form number mid meant → Followed form start now had then (lines ++ line ∷ []) (text ++ said)
  unfolding after
  followed_more now then line meant said read single is next makes = record {
    each =
        let good : is_good (processors_of start) line ≡ true = ap is_some (sym is) in
        list_all-append (is_line (processors_of start)) lines (line ∷ []) ∙ rw (f.each, single, good) refl;
    read = subst (Consumes had then) (sym (joined-append lines (line ∷ []))) (Consumes-trans had has then (joined lines) (line ++ feed ∷ []) f.read read);
    state =
        next ∙ ap (λ l. option_map_or (line_after mid) l mid) (meant-behind start mid lines f.state line (Some meant) is) ∙ ap (λ s. after s line) f.state ∙ sym (after_one start lines line);
    said = whole;
    cut = λ long. cuts_printed form long start (lines ++ line ∷ []) (text ++ said) whole;
  }
    where
      whole : text ++ said ≡ text_in form 1 start (lines ++ line ∷ [])
      whole =
          ap (λ t. t ++ said) f.said ∙ ap (λ t. text_in form 1 start lines ++ t) (makes ∙ own_text line meant is) ∙ sym (text_one form 1 start lines line)

  -- a bad line
  abbrev pub ends_at : (bytes : List ℕ) → IsBadLine (processors_of start) has bytes → EndsBadly form start mid had text bytes number
  ends_at bytes bad = record { left = has; lines = lines; followed = f; is_next = count; bad = bad }
