-- SPDX-License-Identifier: MIT OR Apache-2.0
-- A comparison, line by line.
use Rattle.std.proofs.Common.{◌≡◌, ℕ, ◌+◌, ◌≤◌, List, [], ◌∷◌, ◌++◌, length, Option, None, Some, sym, ap, ◌∙◌, subst, arith, append_assoc, append-nil, length-append, refl, IfSome}
use Rattle.std.specs.Option.{option_map_or}
use Rattle.std.specs.Io.BufRead.{take_through}
use Rattle.std.specs.Io.KnownBytes.{Consumes}
use Rattle.std.specs.List.{list_all}
use Rattle.std.proofs.KnownBytes.{Consumes-nil, Consumes-trans}
use Rattle.std.proofs.lemmas.Bool.{and_from}
use Rattle.std.proofs.lemmas.List.{append_cancel_left}
use Rattle.std.proofs.lemmas.List.Folds.{list_all-append}
use Rattle.ffa_playable.specs.Bench.{Bench}
use Rattle.play_trace.specs.Lines.{meant}
use Rattle.play_trace.specs.TraceLines.{feed, has_no_feed, joined}
use Rattle.play_trace.specs.TraceText.{after_all}
use Rattle.play_player.proofs.Runs.{joined-append}
use Rattle.play_reasons.specs.Reasons.{reason_if, told_line}
use Rattle.play_player.specs.Compared.{DiffersInLast, FailsToMatch, IsFound, PartsFrom, unexplained}
use Rattle.play_player.specs.Comparing.{StopsAtRow}
use Rattle.play_player.specs.Forms.{line_text_in, text_in, text_of_in}
use Rattle.play_player.specs.Listening.{IsDoneAfter}
use Rattle.play_player.specs.Reading.{IsAll, ReadsNoLine}
use Rattle.play_player.specs.declared.comparison.Mismatch.{Mismatch}
use Rattle.play_player.specs.declared.form.Form.{Form}
use Rattle.play_player.specs.declared.listening.Event.{Event}
use Rattle.play_player.proofs.Behind.{meant-behind}
use Rattle.play_player.proofs.Follows.{text_one}
use Rattle.play_player.proofs.Listens.{text_more}
use Rattle.play_player.proofs.Rows.{parts_of, text_rows}

-- of no line nothing is read
pub found_none : (wants : Option (List ℕ)) (read : ℕ) → IsFound wants wants read read []
found_none wants read = record { rows = []; whole = refl; each = refl; alike = Consumes-nil wants; count = omega arith }

-- The text of these lines was read of what is expected, and a line more was done.
module _ (form : Form) (start now : Bench) (lines : List (List ℕ)) (event : Event) (done : IsDoneAfter start now lines event) (wants mid unread : Option (List ℕ)) (first old new : ℕ) (before : IsFound wants mid first old (text_in (unexplained form) 1 start lines)) (own : List ℕ) (is : own ≡ line_text_in (unexplained form) event.number (after_all start lines) (meant event.line)) where
  whole_text : text_in (unexplained form) 1 start (lines ++ event.bytes.now ∷ []) ≡ text_in (unexplained form) 1 start lines ++ own
  whole_text = text_more start now lines event done (unexplained form) own is

  own_text : own ≡ text_of_in (unexplained form) (1 + length lines) (after_all start lines) event.bytes.now
  own_text = append_cancel_left (text_in (unexplained form) 1 start lines) own _ (sym whole_text ∙ text_one (unexplained form) 1 start lines event.bytes.now)

  -- its text is as it is expected
  pub line_alike : IsFound mid unread old new own → IsFound wants unread first new (text_in (unexplained form) 1 start (lines ++ event.bytes.now ∷ []))
  line_alike found = record {
    rows = before.rows ++ found.rows;
    whole = whole_text ∙ ap (λ l. l ++ own) before.whole ∙ ap (λ l. joined before.rows ++ l) found.whole ∙ sym (joined-append before.rows found.rows);
    each = list_all-append has_no_feed before.rows found.rows ∙ and_from _ _ before.each found.each;
    alike =
        subst (Consumes wants unread) (sym (joined-append before.rows found.rows)) (Consumes-trans wants mid unread (joined before.rows) (joined found.rows) before.alike found.alike);
    count = omega (arith, found.count, before.count, length-append before.rows found.rows);
  }

  -- its text differs
  pub line_differs : (said : Option (List ℕ)) → said ≡ Some own → (wanted : List ℕ) (mismatch : Mismatch) → StopsAtRow mid old new own wanted mismatch.place → mismatch.number ≡ event.number
      → mismatch.expected_line ≡ new → told_line mismatch.reason ≡ reason_if form.explain (after_all start lines) (meant event.line)
      → DiffersInLast form start (lines ++ event.bytes.now ∷ []) wants first said wanted mismatch
  line_differs said says wanted mismatch stops number_is line_is told =
      let rows = text_rows (unexplained form) event.number (after_all start lines) (meant event.line) own is in
      let p = parts_of mid old new own wanted mismatch.place rows stops in
      let own_parts = p.0 in
      record {
        before = lines;
        last = event.bytes.now;
        are = refl;
        own = says ∙ ap Some own_text;
        parts = record {
          rows = before.rows ++ own_parts.rows;
          behind = own_parts.behind;
          more = own_parts.more;
          whole =
              whole_text ∙ ap (λ l. l ++ own) before.whole ∙ ap (λ l. joined before.rows ++ l) own_parts.whole ∙ sym (joined-append before.rows (own_parts.rows ++ own_parts.behind))
              ∙ ap joined (sym (append_assoc before.rows own_parts.rows own_parts.behind));
          each =
              ap (list_all has_no_feed) (append_assoc before.rows own_parts.rows own_parts.behind) ∙ list_all-append has_no_feed before.rows (own_parts.rows ++ own_parts.behind)
              ∙ and_from _ _ before.each own_parts.each;
          alike =
              subst (Consumes wants own_parts.more) (sym (joined-append before.rows own_parts.rows))
              (Consumes-trans wants mid own_parts.more (joined before.rows) (joined own_parts.rows) before.alike own_parts.alike);
          next = own_parts.next;
          other = own_parts.other;
        };
        some = p.1;
        number = omega (arith, number_is, done.number, length-append lines (event.bytes.now ∷ []));
        expected_line = omega (arith, line_is, p.2, before.count, length-append before.rows own_parts.rows);
        place =
            omega (arith, p.3, ap length before.whole, ap length (joined-append before.rows own_parts.rows), length-append (joined before.rows) (joined own_parts.rows));
        reason =
            told ∙ ap (λ l. option_map_or (reason_if form.explain (after_all start lines)) l [])
            (meant-behind start (after_all start lines) lines refl event.bytes.now (Some (meant event.line)) done.line);
      }

  -- the expected text can't be read
  pub line_unread : (front rest : List ℕ) (more : Option (List ℕ)) → own ≡ front ++ rest → 1 ≤ length rest → Consumes mid more front → ReadsNoLine more unread
      → FailsToMatch (unexplained form) start (lines ++ event.bytes.now ∷ []) wants unread
  line_unread front rest more makes some alike unended = (
    text_in (unexplained form) 1 start lines ++ front,
    more,
    Consumes-trans wants mid more (text_in (unexplained form) 1 start lines) front (subst (Consumes wants mid) (sym before.whole) before.alike) alike,
    unended,
    record { before = lines; last = event.bytes.now; front = front; rest = rest; are = refl; own = sym own_text ∙ makes; some = some; whole = refl },
  )

-- AFTER THE LAST LINE

-- nothing is left of what is expected
pub found_all : (wants unread : Option (List ℕ)) (read now : ℕ) (text : List ℕ) → IsFound wants unread read now text → IfSome unread (λ bytes. bytes ≡ []) → IsAll wants text
found_all wants unread read now text f none = subst (IsAll wants) (sym f.whole) (all_read wants unread (joined f.rows) f.alike none)
  where
    all_read : (wants unread : Option (List ℕ)) (bytes : List ℕ) → Consumes wants unread bytes → IfSome unread (λ left. left ≡ []) → IsAll wants bytes
    all_read None unread bytes c none = tt
    all_read (Some xs) None bytes c none = absurd c
    all_read (Some xs) (Some ys) bytes c none = c ∙ ap (λ l. bytes ++ l) none ∙ append-nil bytes

-- a row is left of it
pub parts_at_end : (wants unread : Option (List ℕ)) (read now : ℕ) (text wanted : List ℕ) → IsFound wants unread read now text → IfSome unread (λ bytes. wanted ≡ take_through feed bytes) → 1 ≤ length wanted
    → PartsFrom wants text wanted
parts_at_end wants unread read now text wanted f next some = record {
  rows = f.rows;
  behind = [];
  more = unread;
  whole = f.whole ∙ ap joined (sym (append-nil f.rows));
  each = ap (list_all has_no_feed) (append-nil f.rows) ∙ f.each;
  alike = f.alike;
  next = next;
  other = λ same. absurd (omega (arith, ap length same, some));
}
