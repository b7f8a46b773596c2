-- SPDX-License-Identifier: MIT OR Apache-2.0
-- A session, line by line: a bad line prints nothing and changes nothing.
use Rattle.std.proofs.Common.{◌≡◌, ℕ, ◌+◌, ◌<◌, ◌^◌, Bool, true, false, List, [], ◌∷◌, ◌++◌, length, Option, None, Some, Result, Ok, Err, inl, inr, sym, ap, ◌∙◌, subst, refl, is_some}
use Rattle.std.specs.Option.{option_map_or}
use Rattle.std.specs.Io.KnownBytes.{Appends, Consumes}
use Rattle.std.specs.List.{list_all}
use Rattle.std.proofs.KnownBytes.{Appends-nil, Consumes-trans}
use Rattle.std.proofs.lemmas.Bool.{and_from, cases_Bool}
use Rattle.std.proofs.lemmas.List.Folds.{list_all-append}
use Rattle.ffa_playable.specs.Bench.{Bench, processors_of}
use Rattle.play_trace.specs.TraceLines.{Line, feed, is_good, joined, line_in}
use Rattle.play_trace.specs.TraceText.{after, after_all, line_after, line_text, text, text_of}
use Rattle.play_trace.specs.Output.{TookFront}
use Rattle.play_trace.specs.declared.output.PlayError.{PlayError}
use Rattle.play_trace.specs.declared.output.PlayError.TheVariants.{Read, Write, NoMemory}
use Rattle.play_player.proofs.Runs.{joined-append}
use Rattle.play_player.specs.Cut.{CutsTo}
use Rattle.play_player.specs.Forms.{line_text_in, text_in, text_of_in}
use Rattle.play_player.specs.Sessions.{Conversed, IsOver, SessionIn, good_lines, good_text_in, is_heard}
use Rattle.play_player.specs.SessionSteps.{AnswersLine, HearsLine, TellsOrLoses}
use Rattle.play_player.specs.Steps.{PrintsLine}
use Rattle.play_player.specs.declared.form.Form.{Form}
use Rattle.play_player.proofs.CutOff.{cuts_text}
use Rattle.play_player.proofs.Follows.{after_one, text_one}
-- BAD LINES
use Rattle.play_trace.proofs.Benches.{processors-after}
use Rattle.play_player.proofs.Behind.{processors-behind}

no_line : (line : Option Line) → is_some line ≡ false → line ≡ None
no_line None bad = refl
no_line (Some line) bad = absurd cc

pub bad_after : (s : Bench) (line : List ℕ) → is_good (processors_of s) line ≡ false → after s line ≡ s
unfolding after
bad_after s line bad = ap (λ l. option_map_or (line_after s) l s) (no_line (line_in (processors_of s) line) bad)

pub bad_text_in : (form : Form) (n : ℕ) (s : Bench) (line : List ℕ) → is_good (processors_of s) line ≡ false → text_of_in form n s line ≡ []
unfolding text_of_in
bad_text_in form n s line bad = ap (λ l. option_map_or (line_text_in form n s) l []) (no_line (line_in (processors_of s) line) bad)

bad_text : (s : Bench) (line : List ℕ) → is_good (processors_of s) line ≡ false → text_of s line ≡ []
unfolding text_of
bad_text s line bad = ap (λ l. option_map_or (line_text s) l []) (no_line (line_in (processors_of s) line) bad)

-- of a trace of so many processors
module _ (processors : Option ℕ) where
  bad_there : (s : Bench) → processors_of s ≡ processors → (line : List ℕ) → is_good processors line ≡ false → is_good (processors_of s) line ≡ false
  bad_there s is line bad = ap (λ p. is_good p line) is ∙ bad

  good_after_in : (s : Bench) → processors_of s ≡ processors → (lines : List (List ℕ)) → after_all s lines ≡ after_all s (good_lines processors lines)
  good_after_in s is [] = refl
  good_after_in s is (line ∷ lines) =
      elim (cases_Bool (is_good processors line)) [
        | inl good ↦ rw good (good_after_in (after s line) (processors-after s line ∙ is) lines)
        | inr bad ↦ rw bad (ap (λ t. after_all t lines) (bad_after s line (bad_there s is line bad)) ∙ good_after_in s is lines)
      ]

  plain_text_in : (s : Bench) → processors_of s ≡ processors → (lines : List (List ℕ)) → text s lines ≡ text s (good_lines processors lines)
  plain_text_in s is [] = refl
  plain_text_in s is (line ∷ lines) =
      elim (cases_Bool (is_good processors line)) [
        | inl good ↦ rw good (ap (λ t. text_of s line ++ t) (plain_text_in (after s line) (processors-after s line ∙ is) lines))
        | inr bad ↦
            rw bad
            (ap (λ t. t ++ text (after s line) lines) (bad_text s line (bad_there s is line bad)) ∙ ap (λ t. text t lines) (bad_after s line (bad_there s is line bad))
            ∙ plain_text_in s is lines)
      ]

good_after : (s : Bench) (lines : List (List ℕ)) → after_all s lines ≡ after_all s (good_lines (processors_of s) lines)
good_after s lines = good_after_in (processors_of s) s refl lines

plain_text : (s : Bench) (lines : List (List ℕ)) → text s lines ≡ text s (good_lines (processors_of s) lines)
plain_text s lines = plain_text_in (processors_of s) s refl lines

good_text : (form : Form) (n : ℕ) (s : Bench) (lines : List (List ℕ)) → text_in form n s lines ≡ good_text_in form n s lines
good_text form n s [] = refl
good_text form n s (line ∷ lines) =
    elim (cases_Bool (is_good (processors_of s) line)) [
      | inl good ↦ rw good (ap (λ t. text_of_in form n s line ++ t) (good_text form (n + 1) (after s line) lines))
      | inr bad ↦
          rw bad
          (ap (λ t. t ++ text_in form (n + 1) (after s line) lines) (bad_text_in form n s line bad) ∙ ap (λ t. text_in form (n + 1) t lines) (bad_after s line bad)
          ∙ good_text form (n + 1) s lines)
    ]

-- ONE LINE

-- a line that is taken was done and written, or wasn't written whole
pub answers_good : (form : Form) (start now : Bench) (number : ℕ) (bytes : List ℕ) (line : Line) (held holds : Option (List ℕ)) → Some line ≡ line_in (processors_of start) bytes
    → (r : Result (Unit {0}) PlayError) → PrintsLine form start now number line held holds r → AnswersLine form start now number bytes held holds r
unfolding after text_of_in
answers_good form start now number bytes line held holds is (Ok x) (next, written) = (
  next ∙ ap (λ l. option_map_or (line_after start) l start) is,
  subst (Appends held holds) (ap (λ l. option_map_or (line_text_in form number start) l []) is) written,
)
answers_good form start now number bytes line held holds is (Err Write) (next, began) = (
  next ∙ ap (λ l. option_map_or (line_after start) l start) is,
  ap is_some (sym is),
  subst (TookFront held holds) (ap (λ l. option_map_or (line_text_in form number start) l []) is) began,
)
answers_good form start now number bytes line held holds is (Err NoMemory) r = tt
answers_good form start now number bytes line held holds is _ r = absurd r

-- a bad line was told, or there is no memory for that
pub answers_bad : (form : Form) (start : Bench) (number : ℕ) (bytes : List ℕ) (held : Option (List ℕ)) → None ≡ line_in (processors_of start) bytes
    → (before after : Option (List ℕ)) (r : Result (Unit {0}) PlayError) → TellsOrLoses (processors_of start) number (bytes ++ feed ∷ []) before after r → AnswersLine form start start number bytes held held r
answers_bad form start number bytes held none before after (Ok x) told =
    let bad : is_good (processors_of start) bytes ≡ false = ap is_some (sym none) in
    (sym (bad_after start bytes bad), subst (Appends held held) (sym (bad_text_in form number start bytes bad)) (Appends-nil held))
answers_bad form start number bytes held none before after (Err NoMemory) kept = tt
answers_bad form start number bytes held none before after _ never = absurd never

-- there is a line
pub heard : (had has : Option (List ℕ)) (line : List ℕ) (number : ℕ) (b : Bool) → b ≡ true → HearsLine had has line number (Ok b)
    → Consumes had has (line ++ feed ∷ []) × (is_heard line ≡ true) × (number + 1 < 2 ^ 64)
heard had has line number true h r = r
heard had has line number false h r = absurd cc

-- there is none
pub over : (had has : Option (List ℕ)) (line : List ℕ) (number : ℕ) (b : Bool) → b ≡ false → HearsLine had has line number (Ok b) → IsOver had
over had has line number true h r = absurd cc
over had has line number false h r = r

-- A SESSION

-- These lines were read, good ones and bad ones.
module _ (form : Form) (start mid : Bench) (had has : Option (List ℕ)) (lines : List (List ℕ)) (printed : List ℕ) (each : list_all is_heard lines ≡ true) (read : Consumes had has (joined lines)) (state : mid ≡ after_all start lines) (said : printed ≡ text_in form 1 start lines) where
  pub conversed : Conversed form start mid had has lines printed
  conversed =
      let is = said ∙ good_text form 1 start lines in
      record {
        each = each;
        read = read;
        state = state ∙ good_after start lines;
        said = is;
        cut = λ long. subst (CutsTo printed) (plain_text start lines) (subst (λ t. CutsTo t (text start lines)) (sym said) (cuts_text form long 1 start lines));
      }

  pub unheard : (e : PlayError) (then : Option (List ℕ)) (bytes : List ℕ) (number : ℕ) (held holds : Option (List ℕ)) → Appends held holds printed → HearsLine has then bytes number (Err e)
      → SessionIn {X = Unit {0}} form start mid held holds had then (Err e)
  unheard Read then bytes number held holds written r = (has, lines, printed, conversed, r, written)
  unheard NoMemory then bytes number held holds written r = tt
  unheard _ then bytes number held holds written r = absurd r

  -- one more
  module _ (now : Bench) (then : Option (List ℕ)) (line : List ℕ) (number : ℕ) (count : number ≡ 1 + length lines) (taken : Consumes has then (line ++ feed ∷ [])) (single : is_heard line ≡ true) where
    more_each : list_all is_heard (lines ++ line ∷ []) ≡ true
    more_each = list_all-append is_heard lines (line ∷ []) ∙ and_from _ _ each (and_from _ _ single refl)

    more_read : Consumes had then (joined (lines ++ line ∷ []))
    more_read = subst (Consumes had then) (sym (joined-append lines (line ∷ []))) (Consumes-trans had has then (joined lines) (line ++ feed ∷ []) read taken)

    more_state : now ≡ after mid line → now ≡ after_all start (lines ++ line ∷ [])
    more_state next = next ∙ ap (λ s. after s line) state ∙ sym (after_one start lines line)

    own_is : text_of_in form number mid line ≡ text_of_in form (1 + length lines) (after_all start lines) line
    own_is = ap (λ n. text_of_in form n mid line) count ∙ ap (λ s. text_of_in form (1 + length lines) s line) state

    more_said : printed ++ text_of_in form number mid line ≡ text_in form 1 start (lines ++ line ∷ [])
    more_said = ap (λ t. t ++ text_of_in form number mid line) said ∙ ap (λ t. text_in form 1 start lines ++ t) own_is ∙ sym (text_one form 1 start lines line)

    pub more : now ≡ after mid line → (list_all is_heard (lines ++ line ∷ []) ≡ true) × Consumes had then (joined (lines ++ line ∷ [])) × (now ≡ after_all start (lines ++ line ∷ []))
        × (printed ++ text_of_in form number mid line ≡ text_in form 1 start (lines ++ line ∷ []))
    more next = (more_each, more_read, more_state next, more_said)

    pub unanswered : (e : PlayError) (held between holds : Option (List ℕ)) → Appends held between printed → AnswersLine {X = Unit {0}} form mid now number line between holds (Err e)
        → SessionIn {X = Unit {0}} form start now held holds had then (Err e)
    unanswered Write held between holds written (moves, good, began) = record {
      left = then;
      lines = lines;
      last = line;
      printed = printed ++ text_of_in form number mid line;
      between = between;
      conversed = conversed_more;
      good = ap (λ p. is_good p line) (sym (processors-behind start mid lines state)) ∙ good;
      written = subst (Appends held between) (said ∙ good_text form 1 start lines) written;
      began = subst (TookFront between holds) (own_is ∙ ap (λ s. text_of_in form (1 + length lines) s line) (good_after start lines)) began;
    }
      where
        conversed_more : Conversed form start now had then (lines ++ line ∷ []) (printed ++ text_of_in form number mid line)
        conversed_more =
            let all = lines ++ line ∷ [] in
            let whole = printed ++ text_of_in form number mid line in
            record {
              each = more_each;
              read = more_read;
              state = more_state moves ∙ good_after start all;
              said = more_said ∙ good_text form 1 start all;
              cut = λ long. subst (CutsTo whole) (plain_text start all) (subst (λ t. CutsTo t (text start all)) (sym more_said) (cuts_text form long 1 start all));
            }
    unanswered NoMemory held between holds written r = tt
    unanswered _ held between holds written r = absurd r
