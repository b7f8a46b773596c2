-- SPDX-License-Identifier: MIT OR Apache-2.0
-- What a play leaves, for the one who asked for it.
use Rattle.std.proofs.Common.{◌≡◌, ◌⊎◌, Bool, Bor, true, false, not, List, [], ◌∷◌, ◌++◌, ℕ, Option, None, Some, Ok, Err, Result, inl, inr, refl, ap, sym, ◌∙◌, subst, append_assoc, append-nil, arith, length, ◌≤◌, slice_index_or, OnOk, unwrap_or}
use Rattle.std.specs.Io.KnownBytes.{Appends, Consumes, IsAtEnd, prepend_known}
use Rattle.std.proofs.KnownBytes.{Keeps-refl}
use Rattle.std.proofs.lemmas.Bool.{and_parts, not-true}
use Rattle.std.proofs.lemmas.List.Folds.{list_all-append}
use Rattle.ffa_playable.specs.Bench.{Bench, processors_of}
use Rattle.play_trace.specs.TraceLines.{are_lines, feed, has_no_feed, is_good, is_line, joined}
use Rattle.play_player.proofs.Runs.{joined-append}
use Rattle.play_trace.specs.TraceText.{text}
use Rattle.play_player.specs.Played.{Played}
use Rattle.play_trace.specs.declared.output.PlayError.{PlayError}
use Rattle.play_trace.specs.declared.output.PlayError.TheVariants as play_error
use Rattle.play_player.specs.declared.form.Form.{Form}
use Rattle.play_report.specs.declared.failure.LineFlaw.{LineFlaw}
use Rattle.play_player.specs.Compared.{NeverPrints, StopsInLast, unexplained}
use Rattle.play_player.specs.Followed as followed
use Rattle.play_player.specs.Forms.{plain, text_in}
use Rattle.play_player.specs.Checked.{ChecksLines, GoesOn}
use Rattle.play_player.specs.Guards.{AreMet, guards_among, near_from}
use Rattle.play_player.specs.Past.{UnmetAmong}
use Rattle.play_player.specs.Recorded.{RecordsLines}
use Rattle.play_player.specs.Listening.{Heard, PlaysTo}
use Rattle.play_player.specs.Printed.{PrintsLines}
use Rattle.play_report.specs.Guarded.{met_text, near_text}
use Rattle.play_player.specs.declared.checking.GuardChecker.{GuardChecker}
use Rattle.play_player.specs.declared.guards.Breach.{Breach}
use Rattle.play_player.specs.Reading.{IsAll}
use Rattle.play_player.specs.Sessions.{Conversed, EndsSession, SessionIn}
use Rattle.play_player.proofs.Plain.{plain_text}
use Rattle.play_player.proofs.Guarding.{all_met}
use Rattle.play_report.specs.Failures.{IsDifference, failure_of}
use Rattle.play_report.specs.declared.failure.Failure.{Failure}
use Rattle.play_report.specs.declared.failure.Failure.TheVariants.{BadLine, Read, Write, NoMemory, Differs, Unmet}
use Rattle.play_commands.specs.Plays.{EndsBadly, EndsGuards, IsHeld, IsPlayed, IsRecorded, IsStopped, IsCutShort, PlayFails, Plays, PlaysTrace, PrintsExpected, Streams, TellsGuards, UnmetBy}
use Rattle.play_commands.specs.declared.task.Expected.{Expected}
use Rattle.play_commands.specs.declared.task.Task.TheVariants.{Plain, Formed, Guarded, Recorded, Session, Compare}

-- BYTES THAT A READER HAD, AND THAT A WRITER HOLDS

abbrev pub passed : (trace held holds : Option (List ℕ)) → Streams
passed trace held holds = record { trace = trace; held = held; holds = holds }

pub all_consumed : (had has : Option (List ℕ)) (bytes : List ℕ) → Consumes had has bytes → IsAtEnd has → IsAll had bytes
all_consumed None has bytes c e = tt
all_consumed (Some xs) None bytes c e = absurd c
all_consumed (Some xs) (Some ys) bytes c e = c ∙ ap (λ l. bytes ++ l) e ∙ append-nil bytes

-- what is unread stands behind what was read
all_read : (had has : Option (List ℕ)) (bytes : List ℕ) → Consumes had has bytes → IsAll had (bytes ++ unwrap_or has [])
all_read None has bytes c = tt
all_read (Some xs) None bytes c = absurd c
all_read (Some xs) (Some ys) bytes c = c

never_strict : {P : Type 0} → false ≡ true → P
never_strict strict = absurd cc

-- THE PLAYER'S OWN PLAY

written_plainly : (start : Bench) (held holds : Option (List ℕ)) (lines : List (List ℕ)) → Appends held holds (text start lines)
    → Appends held holds (text_in plain 1 start lines)
written_plainly start held holds lines written = subst (Appends held holds) (sym (plain_text 1 start lines)) written

pub played_whole : {X : Type 0} (x : X) (start now : Bench) (held holds had has : Option (List ℕ)) → Played start now held holds had has (Ok x) → IsPlayed false plain start (passed had held holds)
played_whole x start now held holds had has (lines, did, consumed, ended, counted) = record {
  lines = lines;
  each = did.each;
  all = all_consumed had has (joined lines) consumed ended;
  written = written_plainly start held holds lines did.written;
  guards = never_strict;
}

-- what is unread before bytes that were read, and before others
before_read : (had has : Option (List ℕ)) (lines bytes : List ℕ) → Consumes had has (lines ++ bytes) → Consumes had (prepend_known bytes has) lines
before_read None has lines bytes c = tt
before_read (Some xs) None lines bytes c = absurd c
before_read (Some xs) (Some ys) lines bytes c = c ∙ append_assoc lines bytes ys

begins_with : (has : Option (List ℕ)) (bad bytes next : List ℕ) → bytes ≡ bad ++ feed ∷ next → Consumes (prepend_known bytes has) (prepend_known next has) (bad ++ feed ∷ [])
begins_with None bad bytes next is = tt
begins_with (Some ys) bad bytes next is = ap (λ l. l ++ ys) is ∙ append_assoc bad (feed ∷ next) ys ∙ sym (append_assoc bad (feed ∷ []) (next ++ ys))

ends_with : (has : Option (List ℕ)) (bytes : List ℕ) → IsAtEnd has → IsAll (prepend_known bytes has) bytes
ends_with None bytes ended = tt
ends_with (Some ys) bytes ended = ap (λ l. bytes ++ l) ended ∙ append-nil bytes

played_to : (start now : Bench) (held holds had has : Option (List ℕ)) (n : ℕ) → Played {X = Unit {0}} start now held holds had has (Err (play_error.BadLine n)) → IsStopped false plain start (passed had held holds) n
played_to start now held holds had has n (lines, bad, more, did, consumed, number, counted, single, inl ((next, more_is), wrong)) = (
  lines,
  record {
    left = prepend_known (bad ++ more) has;
    bytes = bad ++ feed ∷ [];
    each = did.each;
    read = before_read had has (joined lines) (bad ++ more) consumed;
    number = number;
    bad = inl (bad, prepend_known next has, refl, single, wrong, begins_with has bad (bad ++ more) next (ap (λ m. bad ++ m) more_is));
  },
  written_plainly start held holds lines did.written,
  never_strict,
)
played_to start now held holds had has n (lines, bad, more, did, consumed, number, counted, single, inr (more_is, some, ended)) =
    let none : bad ++ more ≡ bad = ap (λ m. bad ++ m) more_is ∙ append-nil bad in (
      lines,
      record {
        left = prepend_known bad has;
        bytes = bad;
        each = did.each;
        read = before_read had has (joined lines) bad (subst (λ l. Consumes had has (joined lines ++ l)) none consumed);
        number = number;
        bad = inr (single, some, ends_with has bad ended);
      },
      written_plainly start held holds lines did.written,
      never_strict,
    )

pub play_failed : (start now : Bench) (held holds had has : Option (List ℕ)) (path : Bor (List ℕ)) (fault : Option LineFlaw) (error : PlayError)
    → Played {X = Unit {0}} start now held holds had has (Err error) → PlayFails Plain path start (passed had held holds) (failure_of (Read path) fault error)
play_failed start now held holds had has path fault play_error.Read (lines, more, did, consumed, counted, ended) =
    inl ((lines, (did.each, (prepend_known more has, before_read had has (joined lines) more consumed)), written_plainly start held holds lines did.written, never_strict), refl)
play_failed start now held holds had has path fault (play_error.BadLine n) p = played_to start now held holds had has n p
play_failed start now held holds had has path fault _ p = tt

-- PLAYS THAT A LISTENER HEARS

module _ {L Stop : Type 0} (heard : Heard L Stop) (start now : Bench) (had has : Option (List ℕ)) (line : List ℕ) (old new : L) (held holds : Option (List ℕ)) (path : Bor (List ℕ)) where
  pub traced : (stop : Option Stop) → PlaysTo heard start now had has line old new held holds (Ok stop) → PlaysTrace heard path start (passed had held holds) line old new (Ok stop)
  traced None (left, lines, done, ended, all) = (lines, done.each, all_consumed had left (joined lines) done.read ended, all)
  traced (Some stop) (lines, done, stopped) = (lines, unwrap_or has [], done.each, all_read had has (joined (lines ++ line ∷ [])) done.read, stopped)

  pub untraced : (fault : Option LineFlaw) (error : PlayError) → PlaysTo heard start now had has line old new held holds (Err error)
      → PlaysTrace heard path start (passed had held holds) line old new (Err (failure_of (Read path) fault error))
  untraced fault play_error.Read (left, lines, done, unended, all) = (lines, (done.each, (left, done.read)), all, refl)
  untraced fault (play_error.BadLine n) (left, lines, done, number, bad, all) =
      (lines, record { left = left; bytes = line; each = done.each; read = done.read; number = number; bad = bad }, all)
  untraced fault _ p = tt

-- of a play that prints
module _ {L Stop : Type 0} (heard : Heard L Stop) (form : Form) (start : Bench) (streams : Streams) (line : List ℕ) (old new : L) (path : Bor (List ℕ)) where
  pub printed_whole : (stop : Option Stop) → PlaysTrace heard path start streams line old new (Ok stop)
      → ((lines : List (List ℕ)) (result : Result (Option Stop) PlayError) → heard start lines old new streams.held streams.holds result → PrintsLines form start lines streams.held streams.holds result)
      → IsPlayed false form start streams
  printed_whole None (lines, each, all, written) prints = record { lines = lines; each = each; all = all; written = (prints lines (Ok None) written).0; guards = never_strict }
  printed_whole (Some stop) (lines, rest, each, all, stopped) prints = absurd (prints (lines ++ line ∷ []) (Ok (Some stop)) stopped).0

  pub printed_failed : (failure : Failure) → PlaysTrace heard path start streams line old new (Err failure)
      → ((lines : List (List ℕ)) (result : Result (Option Stop) PlayError) → heard start lines old new streams.held streams.holds result → PrintsLines form start lines streams.held streams.holds result)
      → PlayFails (Formed form) path start streams failure
  printed_failed (BadLine n fault) (lines, ends, written) prints = (lines, ends, (prints lines (Ok None) written).0, never_strict)
  printed_failed (Read unread) (lines, began, written, is) prints = inl ((lines, began, (prints lines (Ok None) written).0, never_strict), is)
  printed_failed Write p prints = tt
  printed_failed NoMemory p prints = tt
  printed_failed _ p prints = absurd p

-- of a record
module _ {L Stop : Type 0} (heard : Heard L Stop) (start : Bench) (streams : Streams) (line : List ℕ) (old new : L) (path : Bor (List ℕ)) where
  pub recorded_whole : (stop : Option Stop) → PlaysTrace heard path start streams line old new (Ok stop)
      → ((lines : List (List ℕ)) (result : Result (Option Stop) PlayError) → heard start lines old new streams.held streams.holds result → RecordsLines start lines streams.held streams.holds result)
      → IsRecorded start streams
  recorded_whole None (lines, each, all, written) records =
      let own = records lines (Ok None) written in
      record { lines = lines; each = each; all = all; written = own.0; replays = own.1 }
  recorded_whole (Some stop) (lines, rest, each, all, stopped) records = absurd (records (lines ++ line ∷ []) (Ok (Some stop)) stopped).0

  pub recorded_failed : (failure : Failure) → PlaysTrace heard path start streams line old new (Err failure)
      → ((lines : List (List ℕ)) (result : Result (Option Stop) PlayError) → heard start lines old new streams.held streams.holds result → RecordsLines start lines streams.held streams.holds result)
      → PlayFails Recorded path start streams failure
  recorded_failed (BadLine n fault) (lines, ends, written) records = (lines, ends, (records lines (Ok None) written).0)
  recorded_failed (Read unread) (lines, began, written, is) records = inl ((lines, began, (records lines (Ok None) written).0), is)
  recorded_failed Write p records = tt
  recorded_failed NoMemory p records = tt
  recorded_failed _ p records = absurd p

-- RESULTS

pub always_ok : {T E P : Type 0} (r : Result T E) → P → OnOk r P
always_ok (Ok x) p = p
always_ok (Err e) p = tt

-- PLAYS THAT CHECK GUARDS

-- a list that isn't empty is its first and the rest
pub first_rest : (xs : List ℕ) → 1 ≤ length xs → (rest : List ℕ) × (xs ≡ slice_index_or xs 0 0 ∷ rest)
first_rest [] some = absurd (omega (arith, some))
first_rest (x ∷ xs) some = (xs, refl)

module _ {A : Type 0} (form : Form) (keep_going : Bool) (start : Bench) (streams : Streams) (line : List ℕ) (old new : GuardChecker A) (path : Bor (List ℕ)) (is_form : old.form ≡ form) (goes_on : old.keep_going ≡ keep_going) where
  written_in : (lines : List (List ℕ)) → PrintsLines {Stop = Breach} old.form start lines streams.held streams.holds (Ok None) → Appends streams.held streams.holds (text_in form 1 start lines)
  written_in lines prints = subst (λ f. Appends streams.held streams.holds (text_in f 1 start lines)) is_form prints.0

  -- to the end of the trace
  pub checked_ended : PlaysTrace ChecksLines path start streams line old new (Ok None) → (result : Result (Unit {0}) Failure) → EndsGuards new.tally.unmet.items result → Plays (Guarded form keep_going) path start streams result
  checked_ended (lines, each, all, goes) (Ok done) none = record {
    played = record { lines = lines; each = each; all = all; written = written_in lines goes.written; guards = λ strict. all_met start lines (subst (UnmetAmong start [] lines) none goes.counts.guards) };
    failed = tt;
  }
  checked_ended (lines, each, all, goes) (Err (Unmet n)) (more, is) = record { played = tt; failed = of keep_going goes_on }
    where
      of : (k : Bool) → old.keep_going ≡ k → UnmetBy (Guarded form k) start streams n
      of true goes_to_end = record { lines = lines; each = each; all = all; more = more; unmet = subst (UnmetAmong start [] lines) is goes.counts.guards; written = written_in lines goes.written }
      of false strict =
          let both : [] ≡ n ∷ more = sym (goes.strict strict) ∙ is in
          absurd cc
  checked_ended all (Err NoMemory) is = record { played = tt; failed = tt }
  checked_ended all (Err Write) is = record { played = tt; failed = tt }
  checked_ended all (Err _) is = absurd cc

  -- up to a guard
  stopped_at : (breach : Breach) → PlaysTrace ChecksLines path start streams line old new (Ok (Some breach)) → (k : Bool) → old.keep_going ≡ k → UnmetBy (Guarded form k) start streams breach.number
  stopped_at breach (lines, rest, each, all, stops) true goes_to_end =
      let both : true ≡ false = sym goes_to_end ∙ stops.strict in
      absurd cc
  stopped_at breach (lines, rest, each, all, stops) false strict =
      let parts = and_parts (are_lines (processors_of start) stops.front) (are_lines (processors_of start) (stops.last ∷ [])) (sym (list_all-append (is_line (processors_of start)) stops.front (stops.last ∷ [])) ∙ ap (are_lines (processors_of start)) (sym stops.whole) ∙ each) in
      let own = and_parts (is_line (processors_of start) stops.last) true parts.1 in
      let whole : joined (lines ++ line ∷ []) ++ rest ≡ joined stops.front ++ (stops.last ++ feed ∷ rest) =
      ap (λ ls. joined ls ++ rest) stops.whole ∙ ap (λ l. l ++ rest) (joined-append stops.front (stops.last ∷ [])) ∙ append_assoc (joined stops.front) (stops.last ++ feed ∷ []) rest ∙ ap (λ l. joined stops.front ++ l) (append_assoc stops.last (feed ∷ []) rest) in
      record {
        lines = stops.front;
        line = stops.last;
        rest = rest;
        guard = (breach.asks, stops.wants);
        each = parts.0;
        all = subst (IsAll streams.trace) whole all;
        single = (and_parts (has_no_feed stops.last) (is_good (processors_of start) stops.last) own.0).0;
        number = stops.is_next;
        guards = stops.met;
        is_guard = stops.guard;
        unmet = stops.unmet;
        written = written_in stops.front stops.written;
      }

  pub checked_stopped : (breach : Breach) → PlaysTrace ChecksLines path start streams line old new (Ok (Some breach)) → (failure : Failure) → (failure ≡ Unmet breach.number) ⊎ (failure ≡ NoMemory)
      → PlayFails (Guarded form keep_going) path start streams failure
  checked_stopped breach stopped failure (inl is) = subst (PlayFails (Guarded form keep_going) path start streams) (sym is) (stopped_at breach stopped keep_going goes_on)
  checked_stopped breach stopped failure (inr is) = subst (PlayFails (Guarded form keep_going) path start streams) (sym is) tt

  -- up to what can't be played
  met_before : (lines : List (List ℕ)) → GoesOn start lines old new streams.held streams.holds → not keep_going ≡ true → AreMet start lines
  met_before lines goes strict = all_met start lines (subst (UnmetAmong start [] lines) (goes.strict (goes_on ∙ not-true keep_going strict)) goes.counts.guards)

  pub checked_failed : (failure : Failure) → PlaysTrace ChecksLines path start streams line old new (Err failure) → PlayFails (Guarded form keep_going) path start streams failure
  checked_failed (BadLine n fault) (lines, ends, goes) = (lines, ends, written_in lines goes.written, met_before lines goes)
  checked_failed (Read unread) (lines, began, goes, is) = inl ((lines, began, written_in lines goes.written, met_before lines goes), is)
  checked_failed Write p = tt
  checked_failed NoMemory p = tt
  checked_failed _ p = absurd p

  -- what is said of the guards
  pub guards_told : (before between near after : List ℕ) → PlaysTrace ChecksLines path start streams line old new (Ok None) → old.told.items ≡ [] → between ≡ before ++ new.told.items → near ≡ between ++ near_text new.tally.near.items
      → (result : Result (Unit {0}) Failure) → EndsGuards new.tally.unmet.items result → OnOk result (after ≡ near ++ met_text new.tally.met) → OnOk result (TellsGuards (processors_of start) streams.trace before after)
  guards_told before between near after (lines, each, all, goes) silent unmets nears (Err failure) ends tells = tt
  guards_told before between near after (lines, each, all, goes) silent unmets nears (Ok done) none tells = record {
    lines = lines;
    all = all;
    each = each;
    says =
        let quiet : between ≡ before = unmets ∙ ap (λ t. before ++ t) (goes.counts.quiet none ∙ silent) ∙ append-nil before in
        let count : new.tally.met ≡ guards_among lines = omega (arith, goes.counts.count, ap length none) in
        tells ∙ ap (λ t. t ++ met_text new.tally.met) (nears ∙ ap (λ t. t ++ near_text new.tally.near.items) quiet ∙ ap (λ ns. before ++ near_text ns) goes.counts.nears)
        ∙ ap (λ n. before ++ near_text (near_from 1 lines) ++ met_text n) count ∙ append_assoc before (near_text (near_from 1 lines)) (met_text (guards_among lines));
  }

-- SESSIONS

held_of : (form : Form) (start now : Bench) (held holds had left : Option (List ℕ)) (lines : List (List ℕ)) (said rest : List ℕ) → Conversed form start now had left lines said → Appends held holds said
    → EndsSession rest → IsAll left rest → IsHeld form start (passed had held holds)
held_of form start now held holds had left lines said rest heard written ends all = record {
  lines = lines;
  rest = rest;
  each = heard.each;
  ends = ends;
  all = rest_behind had left (joined lines) rest heard.read all;
  written = subst (Appends held holds) heard.said written;
}
  where
    rest_behind : (had left : Option (List ℕ)) (before rest : List ℕ) → Consumes had left before → IsAll left rest → IsAll had (before ++ rest)
    rest_behind None left before rest c all = tt
    rest_behind (Some xs) None before rest c all = absurd c
    rest_behind (Some xs) (Some ys) before rest c all = c ∙ ap (λ l. before ++ l) all

pub held_whole : {X : Type 0} (x : X) (form : Form) (start now : Bench) (held holds had has : Option (List ℕ)) → SessionIn form start now held holds had has (Ok x) → IsHeld form start (passed had held holds)
held_whole x form start now held holds had has (left, lines, said, heard, (rest, ends, all), written) =
    held_of form start now held holds had left lines said rest heard written ends all

pub held_failed : (form : Form) (start now : Bench) (held holds had has : Option (List ℕ)) (path : Bor (List ℕ)) (fault : Option LineFlaw) (error : PlayError)
    → SessionIn {X = Unit {0}} form start now held holds had has (Err error) → PlayFails (Session form) path start (passed had held holds) (failure_of (Read path) fault error)
held_failed form start now held holds had has path fault play_error.Read (left, lines, said, heard, unended, written) =
    inl ((lines, heard.each, (left, heard.read), subst (Appends held holds) heard.said written), refl)
held_failed form start now held holds had has path fault (play_error.BadLine n) p = absurd p
held_failed form start now held holds had has path fault _ p = tt
