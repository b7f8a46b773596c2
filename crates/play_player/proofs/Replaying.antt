-- SPDX-License-Identifier: MIT OR Apache-2.0
-- What is written of a trace with the guards of its own play: its guards are met, and it plays as the trace.
use Rattle.std.proofs.Common.{◌≡◌, ℕ, ◌+◌, true, false, List, [], ◌∷◌, ◌++◌, map, take, drop, Option, None, Some, Ok, Err, inl, inr, sym, ap, ◌∙◌, subst, append_assoc, append-nil, refl, ◌==◌, ◌⊎◌, position, is_some, bytes_eq}
use Rattle.std.specs.List.{list_all}
use Rattle.std.specs.Option.{option_map_or}
use Rattle.std.specs.Io.KnownBytes.{Appends}
use Rattle.std.proofs.KnownBytes.{Appends-nil}
use Rattle.std.proofs.lemmas.Bool.{and_parts, and_from, cases_Bool, or_left}
use Rattle.std.proofs.lemmas.List.Folds.{list_all-append}
use Rattle.std.proofs.lemmas.Slice.Eq.{bytes_eq-Decides}
use Rattle.ffa_playable.specs.Bench.{Bench, processors_of}
use Rattle.play_trace.specs.TraceLines.{Line, operate, show, audit, skip, turn, interrupt, feed, has_no_feed, is_good, is_line, are_lines, joined, line_in, line_of}
use Rattle.play_trace.specs.TraceText.{after, after_all, line_after, line_text, text, text_of}
use Rattle.play_trace.specs.Output.{Writes}
use Rattle.play_trace.specs.Lines.{meant}
use Rattle.play_player.proofs.Runs.{joined-append}
use Rattle.play_trace.specs.declared.output.PlayError.{PlayError}
use Rattle.play_player.specs.Guards.{AreMet, IsMet, IsUnasked, guard_of, is_guard, lines_in, speaks}
use Rattle.play_player.specs.Patterns.{line_came, meets}
use Rattle.play_player.specs.Listening.{Answers, IsDoneAfter, WritesEach}
use Rattle.play_player.specs.Recorded.{RecordsLines, Replays, guard_for, line_recorded, recorded}
use Rattle.play_player.specs.declared.guards.Asks.{Asks}
use Rattle.play_player.specs.declared.guards.Asks.TheVariants.{Printed}
use Rattle.play_player.specs.declared.listening.Event.{Event}
use Rattle.play_player.specs.declared.patterns.Came.{Came}
use Rattle.play_player.proofs.Behind.{meant-behind}
use Rattle.play_player.proofs.Follows.{after_one}
use Rattle.play_player.proofs.Guarding.{guard_skips, met_more, met_none, met_now, unasked_loud, unasked_silent}
use Rattle.play_player.proofs.Listens.{each_after, with_fact, writes_less, writes_more}
use Rattle.play_player.proofs.TextLines.{lines_in-single, lines_in-some}

-- GUARDS

-- the guards of a text are that of its first line, and those of the rest
pub first_guard : (said : List ℕ) (end : ℕ) → position (λ c. c == feed) said ≡ Some end
    → joined (guard_for (take end said) ∷ []) ++ joined (map guard_for (lines_in (drop (end + 1) said))) ≡ joined (map guard_for (lines_in said))
first_guard said end is =
    sym (joined-append (guard_for (take end said) ∷ []) (map guard_for (lines_in (drop (end + 1) said)))) ∙ ap (λ ls. joined (map guard_for ls)) (sym (lines_in-some said end is))

guards_itself : (came : Came) (line : List ℕ) → meets came line line ≡ true
unfolding meets
guards_itself came line = or_left (bytes_eq line line) _ ((bytes_eq-Decides line line).1 refl)

guard_is_skip : (processors : Option ℕ) (printed : List ℕ) → Some skip ≡ line_in processors (guard_for printed)
unfolding line_of line_in
guard_is_skip None printed = refl
guard_is_skip (Some count) printed = refl

after_skip : (s : Bench) (line : List ℕ) → line_in (processors_of s) line ≡ Some skip → after s line ≡ s
unfolding after
after_skip s line is = ap (λ l. option_map_or (line_after s) l s) is

text_skip : (s : Bench) (line : List ℕ) → line_in (processors_of s) line ≡ Some skip → text_of s line ≡ []
unfolding text_of
text_skip s line is = ap (λ l. option_map_or (line_text s) l []) is

text_turn : (s : Bench) (line : List ℕ) (processor : ℕ) → Some (turn processor) ≡ line_in (processors_of s) line → text_of s line ≡ []
unfolding text_of
text_turn s line processor is = ap (λ l. option_map_or (line_text s) l []) (sym is)

text_meant : (s : Bench) (line : List ℕ) (meant : Line) → Some meant ≡ line_in (processors_of s) line → line_text s meant ≡ text_of s line
unfolding text_of
text_meant s line meant is = ap (λ l. option_map_or (line_text s) l []) is

text_last : (s : Bench) (lines : List (List ℕ)) (line : List ℕ) → text s (lines ++ line ∷ []) ≡ text s lines ++ text_of (after_all s lines) line
text_last s [] line = append-nil (text_of s line)
text_last s (l ∷ lines) line = ap (λ t. text_of s l ++ t) (text_last (after s l) lines line) ∙ sym (append_assoc (text_of s l) (text (after s l) lines) (text_of (after_all (after s l) lines) line))

-- WHAT IS WRITTEN SO FAR

-- these lines leave this, and print this, and their guards are met
pub record Stands (start : Bench) (written : List (List ℕ)) (mid : Bench) (said : List ℕ) : Type 0 where
  pub each : are_lines (processors_of start) written ≡ true
  pub leaves : after_all start written ≡ mid
  pub prints : text start written ≡ said
  pub met : AreMet start written

stands_none : (start : Bench) → Stands start [] start []
stands_none start = record { each = refl; leaves = refl; prints = refl; met = met_none start }

-- with guards for lines that are unasked
stands_guards : (start : Bench) (written : List (List ℕ)) (mid : Bench) (said : List ℕ) (came : Came) (printed : List (List ℕ)) → list_all has_no_feed printed ≡ true → Stands start written mid said
    → IsUnasked start written came printed → Stands start (written ++ map guard_for printed) mid said
stands_guards start written mid said came [] each stands unasked = subst (λ w. Stands start w mid said) (sym (append-nil written)) stands
stands_guards start written mid said came (line ∷ lines) each stands unasked =
    let parts = and_parts (has_no_feed line) (list_all has_no_feed lines) each in
    let guard = guard_for line in
    let skips = guard_is_skip (processors_of start) line in
    let skips_there = sym (guard_is_skip (processors_of (after_all start written)) line) in
    let one : Stands start (written ++ guard ∷ []) mid said = record {
      each = list_all-append (is_line (processors_of start)) written (guard ∷ []) ∙ and_from _ _ stands.each (and_from _ _ (and_from _ _ parts.0 (ap is_some (sym skips))) refl);
      leaves = after_one start written guard ∙ after_skip (after_all start written) guard skips_there ∙ stands.leaves;
      prints = text_last start written guard ∙ ap (λ t. text start written ++ t) (text_skip (after_all start written) guard skips_there) ∙ append-nil (text start written) ∙ stands.prints;
      met = met_more start written guard stands.met its;
    } in
    let more = unasked_silent start written guard came (line ∷ lines) lines (ap (λ l. option_map_or speaks l false) (sym skips)) refl unasked in
    subst (λ w. Stands start w mid said) (append_assoc written (guard ∷ []) (map guard_for lines))
    (stands_guards start (written ++ guard ∷ []) mid said came lines parts.1 one more)
  where
    its : (guard : Asks × List ℕ) → guard_of (guard_for line) ≡ Some guard → IsMet start written guard
    its guard is =
        let asks : Some (Printed, line) ≡ Some guard = is in
        let same : (Printed, line) ≡ guard = cc in
        subst (IsMet start written) same (met_now start mid written (sym stands.leaves) came (line ∷ lines) unasked (Printed, line) (guards_itself came line))

-- with a line that is no guard
stands_line : (start : Bench) (written : List (List ℕ)) (mid : Bench) (said line : List ℕ) → is_line (processors_of start) line ≡ true → is_guard line ≡ false → Stands start written mid said
    → Stands start (written ++ line ∷ []) (after mid line) (said ++ text_of mid line)
stands_line start written mid said line good other stands = record {
  each = list_all-append (is_line (processors_of start)) written (line ∷ []) ∙ and_from _ _ stands.each (and_from _ _ good refl);
  leaves = after_one start written line ∙ ap (λ s. after s line) stands.leaves;
  prints = text_last start written line ∙ ap (λ t. t ++ text_of (after_all start written) line) stands.prints ∙ ap (λ s. said ++ text_of s line) stands.leaves;
  met = met_more start written line stands.met (λ guard is. absurd (never (ap is_some (sym is) ∙ other)));
}
  where
    never : true ≡ false → ⊥
    never same = cc

-- with the line and its guards
stands_loud : (start : Bench) (written : List (List ℕ)) (mid : Bench) (said line : List ℕ) (meant : Line) → Some meant ≡ line_in (processors_of start) line → is_line (processors_of start) line ≡ true → is_guard line ≡ false
    → speaks meant ≡ true → Stands start written mid said → Stands start (written ++ line ∷ map guard_for (lines_in (text_of mid line))) (after mid line) (said ++ text_of mid line)
stands_loud start written mid said line meant is good other loud stands =
    let printed = lines_in (text_of mid line) in
    let own : printed ≡ lines_in (line_text mid meant) = ap lines_in (sym (text_meant mid line meant (meant-behind start mid written (sym stands.leaves) line (Some meant) is))) in
    subst (λ w. Stands start w (after mid line) (said ++ text_of mid line)) (append_assoc written (line ∷ []) (map guard_for printed))
    (stands_guards start (written ++ line ∷ []) (after mid line) (said ++ text_of mid line) (line_came mid meant) printed (lines_in-single (text_of mid line)) (stands_line start written mid said line good other stands)
    (unasked_loud start mid written (sym stands.leaves) line meant (line_came mid meant) printed is loud refl own))

-- with a line that prints nothing
stands_silent : (start : Bench) (written : List (List ℕ)) (mid : Bench) (said line : List ℕ) → text_of mid line ≡ [] → is_line (processors_of start) line ≡ true → is_guard line ≡ false → Stands start written mid said
    → Stands start (written ++ line ∷ map guard_for (lines_in (text_of mid line))) (after mid line) (said ++ text_of mid line)
stands_silent start written mid said line none good other stands =
    let silent : lines_in (text_of mid line) ≡ [] = ap lines_in none in
    subst (λ ls. Stands start (written ++ line ∷ map guard_for ls) (after mid line) (said ++ text_of mid line)) (sym silent) (stands_line start written mid said line good other stands)

stands_meant : (start : Bench) (written : List (List ℕ)) (mid : Bench) (said line : List ℕ) (meant : Option Line) → meant ≡ line_in (processors_of start) line → is_line (processors_of start) line ≡ true → is_guard line ≡ false → Stands start written mid said
    → Stands start (written ++ line ∷ map guard_for (lines_in (text_of mid line))) (after mid line) (said ++ text_of mid line)
stands_meant start written mid said line None is good other stands =
    let none : is_good (processors_of start) line ≡ false = ap is_some (sym is) in
    let both : false ≡ true = sym none ∙ (and_parts (has_no_feed line) (is_good (processors_of start) line) good).1 in
    absurd cc
stands_meant start written mid said line (Some (operate op)) is good other stands = stands_loud start written mid said line (operate op) is good other refl stands
stands_meant start written mid said line (Some show) is good other stands = stands_loud start written mid said line show is good other refl stands
stands_meant start written mid said line (Some audit) is good other stands = stands_loud start written mid said line audit is good other refl stands
stands_meant start written mid said line (Some skip) is good other stands =
    stands_silent start written mid said line (text_skip mid line (sym (meant-behind start mid written (sym stands.leaves) line (Some skip) is))) good other stands
stands_meant start written mid said line (Some (turn processor)) is good other stands =
    stands_silent start written mid said line (text_turn mid line processor (meant-behind start mid written (sym stands.leaves) line (Some (turn processor)) is)) good other stands
stands_meant start written mid said line (Some interrupt) is good other stands = stands_loud start written mid said line interrupt is good other refl stands

stands_one : (start : Bench) (written : List (List ℕ)) (mid : Bench) (said line : List ℕ) → is_line (processors_of start) line ≡ true → Stands start written mid said
    → Stands start (written ++ line_recorded line (text_of mid line)) (after mid line) (said ++ text_of mid line)
stands_one start written mid said line good stands = of (cases_Bool (is_guard line))
  where
    of : (is_guard line ≡ true) ⊎ (is_guard line ≡ false) → Stands start (written ++ line_recorded line (text_of mid line)) (after mid line) (said ++ text_of mid line)
    of (inl guards) =
        let none : line_recorded line (text_of mid line) ≡ [] = rw guards refl in
        let skips = guard_skips (processors_of mid) line guards in
        let stays : Stands start written (after mid line) said = subst (λ s. Stands start written s said) (sym (after_skip mid line skips)) stands in
        let silent : said ≡ said ++ text_of mid line = sym (append-nil said) ∙ ap (λ t. said ++ t) (sym (text_skip mid line skips)) in
        subst (λ w. Stands start w (after mid line) (said ++ text_of mid line)) (sym (append-nil written) ∙ ap (λ ls. written ++ ls) (sym none))
        (subst (Stands start written (after mid line)) silent stays)
    of (inr other) =
        let own : line_recorded line (text_of mid line) ≡ line ∷ map guard_for (lines_in (text_of mid line)) = rw other refl in
        subst (λ ls. Stands start (written ++ ls) (after mid line) (said ++ text_of mid line)) (sym own) (stands_meant start written mid said line (line_in (processors_of start) line) refl good other stands)

stands_all : (start : Bench) (written : List (List ℕ)) (mid : Bench) (said : List ℕ) (lines : List (List ℕ)) → are_lines (processors_of start) lines ≡ true → Stands start written mid said
    → Stands start (written ++ recorded mid lines) (after_all mid lines) (said ++ text mid lines)
stands_all start written mid said [] each stands =
    subst (λ w. Stands start w mid (said ++ [])) (sym (append-nil written)) (subst (Stands start written mid) (sym (append-nil said)) stands)
stands_all start written mid said (line ∷ lines) each stands =
    let parts = and_parts (is_line (processors_of start) line) (are_lines (processors_of start) lines) each in
    let own = line_recorded line (text_of mid line) in
    let more = stands_all start (written ++ own) (after mid line) (said ++ text_of mid line) lines parts.1 (stands_one start written mid said line parts.0 stands) in
    subst (λ w. Stands start w (after_all mid (line ∷ lines)) (said ++ text mid (line ∷ lines))) (append_assoc written own (recorded (after mid line) lines))
    (subst (Stands start ((written ++ own) ++ recorded (after mid line) lines) (after_all mid (line ∷ lines))) (append_assoc said (text_of mid line) (text (after mid line) lines)) more)

-- what is written of a trace plays as the trace, and all its guards are met
pub replays : (start : Bench) (lines : List (List ℕ)) → are_lines (processors_of start) lines ≡ true → Replays start lines
replays start lines each =
    let stands = stands_all start [] start [] lines each (stands_none start) in
    record { each = stands.each; prints = stands.prints; leaves = stands.leaves; met = stands.met }

-- A RECORD

pub recorded-last : (s : Bench) (lines : List (List ℕ)) (line : List ℕ) → recorded s (lines ++ line ∷ []) ≡ recorded s lines ++ line_recorded line (text_of (after_all s lines) line)
recorded-last s [] line = append-nil (line_recorded line (text_of s line))
recorded-last s (l ∷ lines) line =
    ap (λ ls. line_recorded l (text_of s l) ++ ls) (recorded-last (after s l) lines line)
    ∙ sym (append_assoc (line_recorded l (text_of s l)) (recorded (after s l) lines) (line_recorded line (text_of (after_all (after s l) lines) line)))

pub records_none : (Stop : Type 0) (start : Bench) (held : Option (List ℕ)) → RecordsLines {Stop = Stop} start [] held held (Ok None)
records_none Stop start held = (Appends-nil held, replays start [] refl)

-- what is written of a line more
module _ (start now : Bench) (lines : List (List ℕ)) (event : Event) (done : IsDoneAfter start now lines event) where
  replays_more : Replays start (lines ++ event.bytes.now ∷ [])
  replays_more = replays start (lines ++ event.bytes.now ∷ []) (each_after start now lines event done)

  own_record : line_recorded event.bytes.now event.text.now ≡ line_recorded event.bytes.now (text_of (after_all start lines) event.bytes.now)
  own_record =
      let mid = after_all start lines in
      ap (line_recorded event.bytes.now) (done.text ∙ text_meant mid event.bytes.now (meant event.line) (meant-behind start mid lines refl event.bytes.now (Some (meant event.line)) done.line))

  whole : joined (recorded start (lines ++ event.bytes.now ∷ [])) ≡ joined (recorded start lines) ++ joined (line_recorded event.bytes.now event.text.now)
  whole =
      let own = line_recorded event.bytes.now (text_of (after_all start lines) event.bytes.now) in
      ap joined (recorded-last start lines event.bytes.now) ∙ joined-append (recorded start lines) own ∙ ap (λ ls. joined (recorded start lines) ++ joined ls) (sym own_record)

  pub records_more : (Stop : Type 0) (began held holds : Option (List ℕ)) → RecordsLines {Stop = Stop} start lines began held (Ok None) → Appends held holds (joined (line_recorded event.bytes.now event.text.now))
      → RecordsLines {Stop = Stop} start (lines ++ event.bytes.now ∷ []) began holds (Ok None)
  records_more Stop began held holds before behind =
      (writes_more Stop (λ all. joined (recorded start all)) lines event.bytes.now (joined (line_recorded event.bytes.now event.text.now)) whole began held holds before.0 behind, replays_more)

  pub records_less : (X Stop : Type 0) (began held holds : Option (List ℕ)) → RecordsLines {Stop = Stop} start lines began held (Ok None) → (e : PlayError)
      → Writes {X = X} held holds (joined (line_recorded event.bytes.now event.text.now)) (Err e) → Answers (RecordsLines {Stop = Stop} start (lines ++ event.bytes.now ∷ []) began holds) (Err e)
  records_less X Stop began held holds before e r =
      with_fact (WritesEach {Stop = Stop} (λ all. joined (recorded start all)) (lines ++ event.bytes.now ∷ []) began holds) e (writes_less X Stop (λ all. joined (recorded start all)) lines event.bytes.now (joined (line_recorded event.bytes.now event.text.now)) whole began held holds before.0 e r) replays_more
