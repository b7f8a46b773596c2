-- SPDX-License-Identifier: MIT OR Apache-2.0
-- A play that a listener hears.
use Rattle.std.proofs.Common.{◌≡◌, ◌≤◌, ◌+◌, ◌-◌, ◌^◌, ℕ, true, List, [], ◌∷◌, ◌++◌, length, Option, None, Some, Result, Ok, Err, sym, ap, ◌∙◌, subst, append_assoc, append-nil, refl, is_some}
use Rattle.std.specs.Option.{option_map_or}
use Rattle.std.specs.Io.KnownBytes.{Appends, Consumes}
use Rattle.std.proofs.KnownBytes.{Appends-nil, Appends-trans, Consumes-nil, Consumes-trans}
use Rattle.std.proofs.lemmas.List.Folds.{list_all-append}
use Rattle.ffa_playable.specs.Bench.{Bench, processors_of}
use Rattle.play_trace.specs.Lines.{meant, outcome_of}
use Rattle.play_trace.specs.Output.{Writes}
use Rattle.play_trace.specs.TraceLines.{Line, are_lines, feed, line_in, is_good, is_line, has_no_feed, joined}
use Rattle.play_trace.specs.TraceText.{line_after, line_text, after, after_all}
use Rattle.play_trace.specs.declared.output.PlayError.{PlayError}
use Rattle.play_trace.specs.declared.output.PlayError.TheVariants.{Read, Write, NoMemory, BadLine}
use Rattle.play_player.proofs.Runs.{joined-append}
use Rattle.play_player.specs.Forms.{line_text_in, text_in, text_of_in}
use Rattle.play_player.specs.Listening.{Answers, AreDone, Heard, HearsLine, IsDoneAfter, PlaysTo, WritesEach}
use Rattle.play_player.specs.Printed.{PrintsLines}
use Rattle.play_player.specs.Reading.{TakesLine}
use Rattle.play_player.specs.declared.form.Form.{Form}
use Rattle.play_player.specs.declared.listening.Event.{Event}
use Rattle.play_player.proofs.Behind.{meant-behind}
use Rattle.play_player.proofs.CutOff.{cuts_printed}
use Rattle.play_player.proofs.Follows.{after_one, text_one}

-- LINES

pub done_none : (s : Bench) (had : Option (List ℕ)) → AreDone s s had had []
done_none s had = record { each = refl; read = Consumes-nil had; state = refl }

module _ (start mid : Bench) (had has : Option (List ℕ)) (lines : List (List ℕ)) (f : AreDone start mid had has lines) where
  -- a line more
  pub done_more : (now : Bench) (then : Option (List ℕ)) (line : List ℕ) (meant : Line) → Consumes has then (line ++ feed ∷ []) → has_no_feed line ≡ true
      → Some meant ≡ line_in (processors_of start) line → now ≡ line_after mid meant → AreDone start now had then (lines ++ line ∷ [])
  unfolding after
  done_more now then line meant read single is next = record {
    each =
        let good : is_good (processors_of start) line ≡ true = ap is_some (sym is) in
        list_all-append (is_line (processors_of start)) lines (line ∷ []) ∙ rw (f.each, single, good) refl;
    read = subst (Consumes had then) (sym (joined-append lines (line ∷ []))) (Consumes-trans had has then (joined lines) (line ++ feed ∷ []) f.read read);
    state =
        next ∙ ap (λ l. option_map_or (line_after mid) l mid) (meant-behind start mid lines f.state line (Some meant) is) ∙ ap (λ s. after s line) f.state ∙ sym (after_one start lines line);
  }

  event_after : (now : Bench) (event : Event) → event.number ≡ 1 + length lines → event.number + 1 ≤ 2 ^ 64 - 1 → has_no_feed event.bytes.now ≡ true → Some (meant event.line) ≡ line_in (processors_of start) event.bytes.now
      → now ≡ line_after mid (meant event.line) → event.text.now ≡ line_text mid (meant event.line) → event.outcome ≡ outcome_of mid (meant event.line) → IsDoneAfter start now lines event
  event_after now event count fits single is next says came = record {
    each = f.each;
    single = single;
    line = is;
    number = count;
    fits = fits;
    state = next ∙ ap (λ s. line_after s (meant event.line)) f.state;
    text = says ∙ ap (λ s. line_text s (meant event.line)) f.state;
    outcome = came ∙ ap (λ s. outcome_of s (meant event.line)) f.state;
  }

-- A PLAY

module _ {L Stop : Type 0} (heard : Heard L Stop) (start mid : Bench) (had has : Option (List ℕ)) (lines : List (List ℕ)) (f : AreDone start mid had has lines) (old : L) (held : Option (List ℕ)) where
  -- what was read isn't taken
  pub untaken : (e : PlayError) (then : Option (List ℕ)) (bytes : List ℕ) (number : ℕ) → number ≡ 1 + length lines → TakesLine (processors_of start) has then bytes number (Err e)
      → (new : L) (holds : Option (List ℕ)) → heard start lines old new held holds (Ok None) → PlaysTo heard start mid had then bytes old new held holds (Err e)
  untaken Read then bytes number count r new holds heard = (has, lines, f, r, heard)
  untaken Write then bytes number count r new holds heard = absurd r
  untaken NoMemory then bytes number count r new holds heard = tt
  untaken (BadLine n) then bytes number count (is, bad) new holds heard = (has, lines, f, is ∙ count, bad, heard)

  -- what is said of a line that was done and heard
  pub heard_more : (now : Bench) (event : Event) (line : List ℕ) → event.bytes.now ≡ line → event.number ≡ 1 + length lines → event.number + 1 ≤ 2 ^ 64 - 1 → has_no_feed line ≡ true → Some (meant event.line) ≡ line_in (processors_of start) line
      → now ≡ line_after mid (meant event.line) → event.text.now ≡ line_text mid (meant event.line) → event.outcome ≡ outcome_of mid (meant event.line) → (before new : L) (between holds : Option (List ℕ))
      → heard start lines old before held between (Ok None) → (result : Result (Option Stop) PlayError) → HearsLine heard now event before new between holds result
      → Answers (heard start (lines ++ line ∷ []) old new held holds) result
  heard_more now event line same count fits single is next says came before new between holds all result hears =
      let done = event_after start mid had has lines f now event count fits (ap has_no_feed same ∙ single) (is ∙ ap (line_in (processors_of start)) (sym same)) next says came in
      subst (λ l. Answers (heard start (lines ++ l ∷ []) old new held holds) result) same (hears start lines old held done all)

  -- what was heard can't be written
  pub unwritten : (e : PlayError) (now : Bench) (then : Option (List ℕ)) (bytes : List ℕ) → AreDone start now had then (lines ++ bytes ∷ [])
      → (new : L) (holds : Option (List ℕ)) → Answers (heard start (lines ++ bytes ∷ []) old new held holds) (Err e) → PlaysTo heard start now had then bytes old new held holds (Err e)
  unwritten Write now then bytes done new holds fails = (lines, done, fails)
  unwritten NoMemory now then bytes done new holds fails = tt
  unwritten _ now then bytes done new holds fails = absurd fails

-- LISTENERS THAT WRITE

-- the text of a line more was written, or not all of it
pub writes_more : (Stop : Type 0) (text : List (List ℕ) → List ℕ) (lines : List (List ℕ)) (line own : List ℕ) → text (lines ++ line ∷ []) ≡ text lines ++ own → (began held holds : Option (List ℕ))
    → Appends began held (text lines) → Appends held holds own → WritesEach {Stop = Stop} text (lines ++ line ∷ []) began holds (Ok None)
writes_more Stop text lines line own whole began held holds before behind =
    subst (Appends began holds) (sym whole) (Appends-trans began held holds (text lines) own before behind)

pub writes_less : (X Stop : Type 0) (text : List (List ℕ) → List ℕ) (lines : List (List ℕ)) (line own : List ℕ) → text (lines ++ line ∷ []) ≡ text lines ++ own → (began held holds : Option (List ℕ))
    → Appends began held (text lines) → (e : PlayError) → Writes {X = X} held holds own (Err e) → Answers (WritesEach {Stop = Stop} text (lines ++ line ∷ []) began holds) (Err e)
writes_less X Stop text lines line own whole began held holds before Write r = (lines, line, own, held, refl, whole, before, r)
writes_less X Stop text lines line own whole began held holds before NoMemory r = tt
writes_less X Stop text lines line own whole began held holds before _ r = absurd r

-- and a fact holds beside
pub with_fact : {Stop F : Type 0} (heard : Result (Option Stop) PlayError → Type 0) (e : PlayError) → Answers heard (Err e) → F → Answers (λ result. heard result × F) (Err e)
with_fact heard Write answers fact = (answers, fact)
with_fact heard NoMemory answers fact = tt
with_fact heard _ answers fact = absurd answers

-- the text of a line more, in a form
module _ (start now : Bench) (lines : List (List ℕ)) (event : Event) (done : IsDoneAfter start now lines event) where
  pub each_after : are_lines (processors_of start) (lines ++ event.bytes.now ∷ []) ≡ true
  each_after =
      let good : is_good (processors_of start) event.bytes.now ≡ true = ap is_some (sym done.line) in
      list_all-append (is_line (processors_of start)) lines (event.bytes.now ∷ []) ∙ rw (done.each, done.single, good) refl

  pub text_more : (form : Form) (own : List ℕ) → own ≡ line_text_in form event.number (after_all start lines) (meant event.line) → text_in form 1 start (lines ++ event.bytes.now ∷ []) ≡ text_in form 1 start lines ++ own
  unfolding text_of_in
  text_more form own is =
      let mid = after_all start lines in
      let same : own ≡ text_of_in form (1 + length lines) mid event.bytes.now =
      is ∙ ap (λ l. option_map_or (line_text_in form event.number mid) l []) (meant-behind start mid lines refl event.bytes.now (Some (meant event.line)) done.line)
      ∙ ap (λ n. text_of_in form n mid event.bytes.now) done.number in
      text_one form 1 start lines event.bytes.now ∙ ap (λ t. text_in form 1 start lines ++ t) (sym same)

  module _ (form : Form) (own : List ℕ) (is : own ≡ line_text_in form event.number (after_all start lines) (meant event.line)) (began held holds : Option (List ℕ)) where
    pub prints_more : (Stop : Type 0) → PrintsLines {Stop = Stop} form start lines began held (Ok None) → Appends held holds own → PrintsLines {Stop = Stop} form start (lines ++ event.bytes.now ∷ []) began holds (Ok None)
    prints_more Stop before behind =
        (writes_more Stop (text_in form 1 start) lines event.bytes.now own (text_more form own is) began held holds before.0 behind, λ long. cuts_printed form long start (lines ++ event.bytes.now ∷ []) _ refl)

    pub prints_less : (X Stop : Type 0) → PrintsLines {Stop = Stop} form start lines began held (Ok None) → (e : PlayError) → Writes {X = X} held holds own (Err e)
        → Answers (PrintsLines {Stop = Stop} form start (lines ++ event.bytes.now ∷ []) began holds) (Err e)
    prints_less X Stop before e r =
        with_fact (WritesEach {Stop = Stop} (text_in form 1 start) (lines ++ event.bytes.now ∷ []) began holds) e (writes_less X Stop (text_in form 1 start) lines event.bytes.now own (text_more form own is) began held holds before.0 e r) (λ long. cuts_printed form long start (lines ++ event.bytes.now ∷ []) _ refl)

pub prints_none : (Stop : Type 0) (form : Form) (start : Bench) (held : Option (List ℕ)) → PrintsLines {Stop = Stop} form start [] held held (Ok None)
prints_none Stop form start held = (Appends-nil held, λ long. cuts_printed form long start [] [] refl)
