-- SPDX-License-Identifier: MIT OR Apache-2.0
-- The lines of a text, each with its LF, and what reading one of them takes.
use Rattle.std.proofs.Common.{◌≡◌, ◌≢◌, Bor, ℕ, ◌+◌, ◌-◌, ◌≤◌, true, false, List, [], ◌∷◌, ◌++◌, length, Option, None, Some, Result, Ok, Err, inr, sym, ap, ◌∙◌, subst, arith, append_assoc, append-nil, length-append, refl, ◌==◌, not, IfSome, MatchOption}
use Rattle.std.specs.Io.{StopsAt}
use Rattle.std.specs.Io.BufRead.{take_through}
use Rattle.std.specs.Io.KnownBytes.{Consumes}
use Rattle.std.specs.List.{list_all}
use Rattle.std.proofs.BufReadLemmas.{take_through-nil}
use Rattle.std.proofs.lemmas.Bool.{and_parts, not-true}
use Rattle.std.proofs.lemmas.List.Folds.{list_all-append}
use Rattle.ffa_playable.specs.Bench.{Bench}
use Rattle.play_trace.specs.TraceLines.{Line, feed, has_no_feed, joined}
use Rattle.play_player.proofs.Runs.{joined-append}
use Rattle.play_trace.specs.declared.output.PlayError.{PlayError}
use Rattle.play_trace.specs.declared.output.PlayError.TheVariants.{Read, NoMemory}
use Rattle.play_player.specs.Compared.{IsFound, PartsFrom, next_row}
use Rattle.play_player.specs.Comparing.{AreRows, EndsRow, ReadsRow, StopsAtRow, TakesText}
use Rattle.play_player.specs.Forms.{line_text_in}
use Rattle.play_player.specs.declared.form.Form.{Form}
use Rattle.play_player.proofs.ReadLines.{front_free, unended_free}
use Rattle.play_player.proofs.ShortLines.{line_rows}
use Rattle.play_player.proofs.TextLines.{line_same}

-- a line's text, in whichever form, is lines
pub text_rows : (form : Form) (n : ℕ) (s : Bench) (line : Line) (text : List ℕ) → text ≡ line_text_in form n s line → AreRows text
text_rows form n s line text is =
    let rows = line_rows form n s line in
    (rows.0, is ∙ rows.1, rows.2)

-- what is read of a text that begins with a row is the row
pub take_row : (row more : List ℕ) → has_no_feed row ≡ true → take_through feed (row ++ feed ∷ more) ≡ row ++ feed ∷ []
take_row [] more single = refl
take_row (c ∷ row) more single =
    let parts = and_parts (not (c == feed)) (has_no_feed row) single in
    let other : (c == feed) ≡ false = not-true (c == feed) parts.0 in
    rw other (ap (λ l. c ∷ l) (take_row row more parts.1))

-- the last byte, and those before it
last_of : (x : ℕ) (xs : List ℕ) → (front : List ℕ) × (last : ℕ) × (x ∷ xs ≡ front ++ last ∷ [])
last_of x [] = ([], x, refl)
last_of x (y ∷ ys) =
    let more = last_of y ys in
    (x ∷ more.0, more.1, ap (λ l. x ∷ l) more.2)

-- what was read up to an LF, and isn't ended by one, has none
unended_row : (row : List ℕ) → StopsAt row feed → ((line : List ℕ) → row ≢ line ++ feed ∷ []) → has_no_feed row ≡ true
unended_row [] stops other = refl
unended_row (x ∷ xs) stops other =
    let last = last_of x xs in
    unended_free (x ∷ xs) stops (inr (last.0, last.1, last.2, λ same. other last.0 (last.2 ∙ ap (λ c. last.0 ++ c ∷ []) same)))

-- what was read before the reader failed
pub failed_row : (wants has : Option (List ℕ)) (old new : ℕ) (row : List ℕ) (r : Result (Unit {0}) PlayError) → new ≡ 1 + old → Consumes wants has row → StopsAt row feed → EndsRow row r
    → ReadsRow wants has old new row r
failed_row wants has old new row (Ok x) count read stops (line, is) = (count, read, stops, through wants has read)
  where
    through : (wants has : Option (List ℕ)) → Consumes wants has row → IfSome wants (λ bytes. row ≡ take_through feed bytes)
    through None has c = tt
    through (Some xs) None c = absurd c
    through (Some xs) (Some ys) c =
        let single = front_free line feed (subst (λ l. StopsAt l feed) is stops) in
        is ∙ sym (take_row line ys single) ∙ ap (take_through feed) (sym (c ∙ ap (λ l. l ++ ys) is ∙ append_assoc line (feed ∷ []) ys))
failed_row wants has old new row (Err Read) count read stops other = (row, read, unended_row row stops other)
failed_row wants has old new row (Err _) count read stops never = absurd never

-- there is no text where no row is left
pub no_row : (rows : List (List ℕ)) → joined rows ≡ [] → rows ≡ []
no_row [] none = refl
no_row (row ∷ rows) none = absurd (omega (arith, ap length none, length-append row (feed ∷ joined rows)))

-- a row that a text of rows begins with is the first of them
pub first_row : (rows : List (List ℕ)) (line more : List ℕ) → list_all has_no_feed rows ≡ true → has_no_feed line ≡ true → joined rows ≡ (line ++ feed ∷ []) ++ more
    → (behind : List (List ℕ)) × (rows ≡ line ∷ behind) × (more ≡ joined behind)
first_row [] line more each single same =
    absurd (omega (arith, ap length same, length-append (line ++ feed ∷ []) more, length-append line (feed ∷ [])))
first_row (row ∷ rows) line more each single same =
    let parts = and_parts (has_no_feed row) (list_all has_no_feed rows) each in
    let both = line_same row line (joined rows) more parts.0 single (same ∙ append_assoc line (feed ∷ []) more) in
    (rows, ap (λ r. r ∷ rows) both.0, sym both.1)

pub parts_each : (done todo : List (List ℕ)) → list_all has_no_feed (done ++ todo) ≡ true → (list_all has_no_feed done ≡ true) × (list_all has_no_feed todo ≡ true)
parts_each done todo each = and_parts (list_all has_no_feed done) (list_all has_no_feed todo) (sym (list_all-append has_no_feed done todo) ∙ each)

-- rows with which a text of rows begins are the first of them
pub first_rows : (rows done : List (List ℕ)) (rest : List ℕ) → list_all has_no_feed rows ≡ true → list_all has_no_feed done ≡ true → joined rows ≡ joined done ++ rest
    → (behind : List (List ℕ)) × (rows ≡ done ++ behind) × (rest ≡ joined behind)
first_rows rows [] rest each single same = (rows, refl, sym same)
first_rows rows (line ∷ done) rest each single same =
    let parts = and_parts (has_no_feed line) (list_all has_no_feed done) single in
    let first = first_row rows line (joined done ++ rest) each parts.0 (same ∙ append_assoc line (feed ∷ joined done) rest ∙ sym (append_assoc line (feed ∷ []) (joined done ++ rest))) in
    let behind = and_parts (has_no_feed line) (list_all has_no_feed first.0) (ap (list_all has_no_feed) (sym first.1) ∙ each) in
    let next = first_rows first.0 done rest behind.1 parts.1 (sym first.2) in
    (next.0, first.1 ∙ ap (λ rs. line ∷ rs) next.1, next.2)

-- Of this text the rows `done` were read, and a rest is left.
module _ (text rest : List ℕ) (done : List (List ℕ)) (whole : text ≡ joined done ++ rest) (each : list_all has_no_feed done ≡ true) where
  -- a row more was read
  pub row_more : (line row more : List ℕ) → StopsAt row feed → row ≡ line ++ feed ∷ [] → rest ≡ row ++ more
      → (text ≡ joined (done ++ line ∷ []) ++ more) × (list_all has_no_feed (done ++ line ∷ []) ≡ true) × (joined (done ++ line ∷ []) ≡ joined done ++ row)
  row_more line row more stops is goes_on =
      let single = front_free line feed (subst (λ l. StopsAt l feed) is stops) in
      let rows = joined-append done (line ∷ []) ∙ ap (λ l. joined done ++ l) (sym is) in (
        whole ∙ ap (λ l. joined done ++ l) goes_on ∙ sym (append_assoc (joined done) row more) ∙ ap (λ l. l ++ more) (sym rows),
        list_all-append has_no_feed done (line ∷ []) ∙ rw (each, single) refl,
        rows,
      )

  pub shorter : length rest ≤ length text
  shorter = omega (arith, ap length whole, length-append (joined done) rest)

  -- no more could be read
  pub text_unread : (wants unread has : Option (List ℕ)) (old read new : ℕ) (row : List ℕ) (e : PlayError) → Consumes wants unread (joined done) → 1 ≤ length rest
      → ReadsRow {X = Unit {0}} unread has read new row (Err e) → TakesText wants has old new text row (Err e)
  text_unread wants unread has old read new row Read alike some r = (joined done, rest, unread, whole, some, alike, r)
  text_unread wants unread has old read new row NoMemory alike some r = tt
  text_unread wants unread has old read new row _ alike some r = absurd r

  -- nothing is left
  pub rows_taken : (wants has : Option (List ℕ)) (old new : ℕ) → rest ≡ [] → Consumes wants has (joined done) → new ≡ old + length done → IsFound wants has old new text
  rows_taken wants has old new none alike count = record {
    rows = done;
    whole = whole ∙ ap (λ l. joined done ++ l) none ∙ append-nil (joined done);
    each = each;
    alike = alike;
    count = count;
  }

  -- another row was read
  pub row_differs : (wants more : Option (List ℕ)) (old read new : ℕ) (row : List ℕ) (place : ℕ) → Consumes wants more (joined done) → IfSome more (λ bytes. row ≡ take_through feed bytes)
      → read ≡ old + length done → new ≡ 1 + read → 1 ≤ length rest → place ≡ length text - length rest
      → ((line words : List ℕ) → row ≡ line ++ feed ∷ [] → rest ≢ row ++ words) → StopsAtRow wants old new text row place
  row_differs wants more old read new row place alike next counted count some at other = record {
    done = done;
    rest = rest;
    more = more;
    whole = whole;
    each = each;
    alike = alike;
    next = next;
    some = some;
    other = other;
    number = count ∙ ap (λ n. 1 + n) counted;
    at = omega (arith, at, ap length whole, length-append (joined done) rest);
  }

-- where a text of rows parts from what is expected
pub parts_of : (wants : Option (List ℕ)) (old new : ℕ) (text wanted : List ℕ) (place : ℕ) → AreRows text → StopsAtRow wants old new text wanted place
    → (p : PartsFrom wants text wanted) × (1 ≤ length p.behind) × (new ≡ 1 + (old + length p.rows)) × (place ≡ length (joined p.rows))
parts_of wants old new text wanted place (rows, whole, each) s =
    let found = first_rows rows s.done s.rest each s.each (sym whole ∙ s.whole) in (
      record {
        rows = s.done;
        behind = found.0;
        more = s.more;
        whole = whole ∙ ap joined found.1;
        each = ap (list_all has_no_feed) (sym found.1) ∙ each;
        alike = s.alike;
        next = s.next;
        other = another found.0 found.2;
      },
      some_left found.0 found.2,
      s.number,
      s.at,
    )
  where
    some_left : (rows : List (List ℕ)) → s.rest ≡ joined rows → 1 ≤ length rows
    some_left [] is = absurd (omega (arith, ap length is, s.some))
    some_left (first ∷ rows) is = omega arith

    another : (rows : List (List ℕ)) → s.rest ≡ joined rows → wanted ≢ next_row rows
    another [] is same = absurd (omega (arith, ap length is, s.some))
    another (first ∷ rows) is same =
        s.other first (joined rows) same (is ∙ sym (append_assoc first (feed ∷ []) (joined rows)) ∙ ap (λ l. l ++ joined rows) (sym same))

-- what stands behind a row of a text, where LF ends the row
pub behind : (text row line : List ℕ) → row ≡ line ++ feed ∷ [] → (r : Option (Bor (List ℕ))) → MatchOption r ((rest : List ℕ) → text ≢ row ++ rest) (λ more. text ≡ row ++ more.now)
    → MatchOption r ((line rest : List ℕ) → row ≡ line ++ feed ∷ [] → text ≢ row ++ rest) (λ more. (line : List ℕ) × (row ≡ line ++ feed ∷ []) × (text ≡ row ++ more.now))
behind text row line is None none = λ line rest same. none rest
behind text row line is (Some more) begins = (line, is, begins)

-- a row is empty where nothing is left alone
pub none_left : (wants : Option (List ℕ)) (row : List ℕ) → IfSome wants (λ bytes. row ≡ take_through feed bytes) → row ≡ [] → IfSome wants (λ bytes. bytes ≡ [])
none_left None row is none = tt
none_left (Some bytes) row is none = take_through-nil feed bytes (ap length (sym is ∙ none))
