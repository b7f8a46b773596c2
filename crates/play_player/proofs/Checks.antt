-- SPDX-License-Identifier: MIT OR Apache-2.0
-- A listener that checks guards.
use Rattle.std.proofs.Common.{◌≡◌, ◌+◌, ◌<◌, ◌||◌, ℕ, Bool, true, false, List, [], ◌∷◌, ◌++◌, drop, if◌then◌else◌, length, Option, None, Some, Err, inl, inr, sym, ap, ◌∙◌, subst, arith, length-append, refl, not, is_some}
use Rattle.ffa_playable.specs.Bench.{Bench, processors_of}
use Rattle.play_trace.specs.Lines.{meant}
use Rattle.play_trace.specs.TraceLines.{skip}
use Rattle.play_trace.specs.TraceText.{after_all, line_after}
use Rattle.play_trace.specs.declared.output.PlayError.{PlayError}
use Rattle.play_trace.specs.declared.output.PlayError.TheVariants.{Write, NoMemory}
use Rattle.play_player.specs.Asking.{IsChecked, Misses, Passes, SaysCame, came_by}
use Rattle.play_player.specs.Checked.{ChecksLines, Counts, GoesOn, StopsAt}
use Rattle.play_player.specs.Guards.{IsUnasked, are_silent, asking_among, guards_among, is_guard, lines_in, near_from, speaks}
use Rattle.play_player.specs.Hints.{hint_of}
use Rattle.play_player.specs.Listening.{Answers, IsDoneAfter}
use Rattle.play_player.specs.Past.{IsBroken, IsKept, UnmetAmong}
use Rattle.play_player.specs.Printed.{PrintsLines}
use Rattle.play_player.specs.declared.checking.GuardChecker.{GuardChecker}
use Rattle.play_player.specs.declared.guards.Breach.{Breach}
use Rattle.play_player.specs.declared.listening.Event.{Event}
use Rattle.play_player.specs.declared.patterns.Came.{Came}
use Rattle.play_player.proofs.Behind.{processors-behind}
use Rattle.play_player.proofs.Guarding.{all_met, broken_more, few_guards, found_now, guard_skips, guards_last, kept_more, loud_more, met_now, near_from-append, one_guard, unasked_more, unasked_none, unmet_now}
use Rattle.play_player.proofs.Listens.{prints_none}

-- before it hears a line
pub goes_none : {A : Type 0} (start : Bench) (checker : GuardChecker A) (held : Option (List ℕ)) → checker.tally.met ≡ 0 → checker.tally.unmet.items ≡ [] → checker.tally.near.items ≡ [] → checker.unasked.text.items ≡ []
    → checker.unasked.printed ≡ false → GoesOn start [] checker checker held held
goes_none start checker held none all empty nothing silent = record {
  form = refl;
  goes = refl;
  counts = record { guards = all; count = omega (arith, none, ap length all); nears = empty; quiet = λ same. refl };
  strict = λ strict. all;
  written = prints_none Breach checker.form start held;
  unasked = subst (λ text. IsUnasked start [] checker.unasked.came (lines_in text)) (sym nothing) (unasked_none start checker.unasked.came);
  printed = silent;
}

-- it can't write
pub checks_less : {A : Type 0} (start : Bench) (lines : List (List ℕ)) (first new : GuardChecker A) (began holds : Option (List ℕ)) (e : PlayError) → Answers (PrintsLines {Stop = Breach} first.form start lines began holds) (Err e)
    → Counts start lines new.tally first.told.items new.told.items → (first.keep_going ≡ false → new.tally.unmet.items ≡ []) → Answers (ChecksLines start lines first new began holds) (Err e)
checks_less start lines first new began holds Write prints counts strict = (prints, counts, strict)
checks_less start lines first new began holds NoMemory prints counts strict = tt
checks_less start lines first new began holds _ prints counts strict = absurd prints

module _ {A : Type 0} (start now : Bench) (lines : List (List ℕ)) (event : Event) (done : IsDoneAfter start now lines event) (first old new : GuardChecker A) (began held : Option (List ℕ)) (before : GoesOn start lines first old began held) where
  -- a guard does nothing
  still : is_guard event.bytes.now ≡ true → now ≡ after_all start lines
  still guards =
      let both : Some (meant event.line) ≡ Some skip = done.line ∙ guard_skips (processors_of start) event.bytes.now guards in
      let is : meant event.line ≡ skip = cc in
      done.state ∙ ap (line_after (after_all start lines)) is

  kept : (stop : Option Breach) → Passes now event old new stop → IsKept start lines event.bytes.now
  kept stop p = λ guard is. met_now start now lines (still (ap is_some is)) old.unasked.came (lines_in old.unasked.text.items) before.unasked guard (p.met guard is)

  broken : (stop : Option Breach) → Misses now event old new stop → IsBroken start lines event.bytes.now
  broken stop m = ((m.asks, m.wants), m.guard, unmet_now start now lines (still (ap is_some m.guard)) old.unasked.came (lines_in old.unasked.text.items) before.unasked (m.asks, m.wants) m.missed)

  -- the line was counted
  pub counts_more : (stop : Option Breach) → IsChecked now event old new stop → new.tally.near.items ≡ old.tally.near.items ++ near_from event.number (event.bytes.now ∷ [])
      → Counts start (lines ++ event.bytes.now ∷ []) new.tally first.told.items new.told.items
  counts_more stop checked nears = record {
    guards = guards checked;
    count = count checked;
    nears =
        nears ∙ ap (λ ns. ns ++ near_from event.number (event.bytes.now ∷ [])) before.counts.nears ∙ ap (λ n. near_from 1 lines ++ near_from n (event.bytes.now ∷ [])) done.number
        ∙ sym (near_from-append 1 lines (event.bytes.now ∷ []));
    quiet = quiet checked;
  }
    where
      guards : IsChecked now event old new stop → UnmetAmong start [] (lines ++ event.bytes.now ∷ []) new.tally.unmet.items
      guards (inl p) =
          subst (λ ns. UnmetAmong start [] (lines ++ event.bytes.now ∷ []) ns.items) (sym p.unmet) (kept_more start [] lines event.bytes.now old.tally.unmet.items before.counts.guards (kept stop p))
      guards (inr m) =
          subst (UnmetAmong start [] (lines ++ event.bytes.now ∷ [])) (sym m.unmet) (broken_more start [] lines event.bytes.now old.tally.unmet.items event.number before.counts.guards (broken stop m) done.number)

      count : IsChecked now event old new stop → new.tally.met + length new.tally.unmet.items ≡ guards_among (lines ++ event.bytes.now ∷ [])
      count (inl p) =
          let fewer : old.tally.met < event.number = omega (arith, few_guards lines, before.counts.count, done.number) in
          omega (arith, p.counted fewer, ap (λ ns. length ns.items) p.unmet, before.counts.count, guards_last lines event.bytes.now)
      count (inr m) =
          omega (arith, m.met, ap length m.unmet, length-append old.tally.unmet.items (event.number ∷ []), before.counts.count, guards_last lines event.bytes.now, one_guard event.bytes.now (ap is_some m.guard))

      quiet : IsChecked now event old new stop → new.tally.unmet.items ≡ [] → new.told.items ≡ first.told.items
      quiet (inl p) = λ none. ap (λ told. told.items) p.told ∙ before.counts.quiet (sym (ap (λ ns. ns.items) p.unmet) ∙ none)
      quiet (inr m) = λ none. absurd (omega (arith, ap length (sym m.unmet ∙ none), length-append old.tally.unmet.items (event.number ∷ [])))

  -- it goes on
  pub strict_more : IsChecked now event old new None → first.keep_going ≡ false → new.tally.unmet.items ≡ []
  strict_more (inl p) = λ strict. ap (λ ns. ns.items) p.unmet ∙ before.strict strict
  strict_more (inr m) = λ strict. absurd (never (sym m.goes ∙ before.goes ∙ strict))
    where
      never : true ≡ false → ⊥
      never same = cc

  -- what is left for the guards after it
  pub unasked_after : (came : Came) (text : List ℕ) → lines_in new.unasked.text.items ≡ drop (length (asking_among (event.bytes.now ∷ []))) (lines_in old.unasked.text.items) → new.unasked.came ≡ old.unasked.came
      → text ≡ (if speaks (meant event.line) then event.text.now else new.unasked.text.items) → SaysCame now (meant event.line) event.outcome new.unasked.came came → IsUnasked start (lines ++ event.bytes.now ∷ []) came (lines_in text)
  unasked_after came text taken same takes says =
      let mid = after_all start lines in
      let its = meant event.line in
      let makes = ap lines_in takes ∙ either (speaks its) event.text.now new.unasked.text.items ∙ ap (λ said. if speaks its then lines_in said else lines_in new.unasked.text.items) done.text in
      unasked_more start mid lines refl event.bytes.now its old.unasked.came came (lines_in old.unasked.text.items) (lines_in new.unasked.text.items) (lines_in text) done.line before.unasked taken makes
      (says mid done.state done.outcome ∙ ap (came_by mid its) same)
    where
      either : (b : Bool) (x y : List ℕ) → lines_in (if b then x else y) ≡ (if b then lines_in x else lines_in y)
      either true x y = refl
      either false x y = refl

  pub printed_after : (printed : Bool) → new.unasked.printed ≡ old.unasked.printed → printed ≡ (speaks (meant event.line) || new.unasked.printed) → printed ≡ not (are_silent (processors_of start) (lines ++ event.bytes.now ∷ []))
  printed_after printed same is =
      loud_more (processors_of start) lines event.bytes.now (meant event.line) old.unasked.printed printed before.printed done.line (is ∙ ap (λ b. speaks (meant event.line) || b) same)

  -- it stops
  pub stops_at : (breach : Breach) → IsChecked now event old new (Some breach) → new.tally.near.items ≡ old.tally.near.items ++ near_from event.number (event.bytes.now ∷ [])
      → StopsAt start (lines ++ event.bytes.now ∷ []) first new began held breach
  stops_at breach (inl p) nears = absurd (cc p.goes)
  stops_at breach (inr m) nears = subst (StopsAt start (lines ++ event.bytes.now ∷ []) first new began held) (sym m.goes.1) (record {
    counts = counts_more (Some breach) (inr m) nears;
    strict = strict;
    front = lines;
    last = event.bytes.now;
    whole = refl;
    written = before.written;
    met = all_met start lines (subst (UnmetAmong start [] lines) (before.strict strict) before.counts.guards);
    wants = m.wants;
    guard = m.guard;
    unmet = unmet_now start now lines same old.unasked.came (lines_in old.unasked.text.items) before.unasked (m.asks, m.wants) m.missed;
    is_next = done.number;
    finds = found_now start now lines same old.unasked.came (lines_in old.unasked.text.items) before.unasked m.asks m.wants new.found.items m.finds;
    hints =
        ap (λ p. hint_of p m.asks m.wants new.found.items old.unasked.printed) (processors-behind start now lines same) ∙ ap (hint_of (processors_of start) m.asks m.wants new.found.items) before.printed;
  })
    where
      strict : first.keep_going ≡ false
      strict = sym before.goes ∙ m.goes.0

      same : now ≡ after_all start lines
      same = still (ap is_some m.guard)
