-- SPDX-License-Identifier: MIT OR Apache-2.0
-- Bytes of a block, line by line.
use Rattle.std.proofs.Common.{◌≡◌, ℕ, ◌+◌, ◌≤◌, ◌≢◌, true, List, [], ◌∷◌, ◌++◌, length, take, drop, position, Option, Some, None, Result, Ok, Err, sym, ap, ◌∙◌, arith, append_assoc, append-nil, take-append-drop, length-append, take_all, refl}
use Rattle.std.specs.Prelude.{◌==◌}
use Rattle.std.proofs.lemmas.List.{drop_more}
use Rattle.std.proofs.lemmas.List.Folds.{list_all-append}
use Rattle.std.proofs.lemmas.List.Quantifiers.{position-Some}
use Rattle.std.proofs.lemmas.Bool.{eqb-true}
use Rattle.ffa_playable.specs.Bench.{Bench}
use Rattle.play_trace.specs.TraceLines.{feed, joined, has_no_feed, is_good}
use Rattle.play_player.specs.Played.{most_lines}
use Rattle.play_player.specs.Feeding.{LineDone, LineEnded, Kept, IsNumbered, Feeding, Fed}
use Rattle.play_trace.specs.declared.output.PlayError.{PlayError}
use Rattle.play_trace.specs.declared.output.PlayError.TheVariants.{Read, Write, NoMemory, BadLine}
use Rattle.play_player.proofs.Positions.{none_pass, none_before}
use Rattle.play_player.proofs.Runs.{joined-append, did_none, did_more, did_one, did_kept, did_processors}

-- where the first LF stands
pub split_at : (rest : List ℕ) (end : ℕ) → Some end ≡ position (λ c. c == feed) rest → rest ≡ take end rest ++ feed ∷ drop (end + 1) rest
split_at rest end h =
    let found = position-Some (λ c. c == feed) rest end 0 (sym h) in
    sym (take-append-drop end rest) ∙ ap (λ l. take end rest ++ l) (drop_more rest end 0 found.0 ∙ ap (λ c. c ∷ drop (end + 1) rest) (eqb-true _ _ found.1))

pub piece_free : (rest : List ℕ) (end : ℕ) → Some end ≡ position (λ c. c == feed) rest → has_no_feed (take end rest) ≡ true
piece_free rest end h = none_before (λ c. c == feed) rest end (λ k d below. (position-Some (λ c. c == feed) rest end d (sym h)).2 k below)

pub rest_free : (rest : List ℕ) → None ≡ position (λ c. c == feed) rest → has_no_feed rest ≡ true
rest_free rest h =
    ap has_no_feed (sym (take_all (length rest) rest (omega arith))) ∙ none_before (λ c. c == feed) rest (length rest) (none_pass (λ c. c == feed) rest (sym h))

no_feed-append : (xs ys : List ℕ) → has_no_feed xs ≡ true → has_no_feed ys ≡ true → has_no_feed (xs ++ ys) ≡ true
no_feed-append xs ys p q = list_all-append _ xs ys ∙ rw (p, q) refl

-- bytes that begin with those seen
goes_on : (old gone rest lines begun : List ℕ) → old ++ gone ≡ lines ++ begun → old ++ (gone ++ rest) ≡ lines ++ (begun ++ rest)
goes_on old gone rest lines begun e = sym (append_assoc old gone rest) ∙ ap (λ l. l ++ rest) e ∙ append_assoc lines begun rest

-- a line that ended is one more of the lines
line_ended : (ls : List (List ℕ)) (l rest : List ℕ) → joined ls ++ (l ++ feed ∷ rest) ≡ joined (ls ++ l ∷ []) ++ rest
line_ended ls l rest =
    ap (λ x. joined ls ++ x) (sym (append_assoc l (feed ∷ []) rest)) ∙ sym (append_assoc (joined ls) (l ++ feed ∷ []) rest) ∙ ap (λ x. x ++ rest) (sym (joined-append ls (l ∷ [])))

-- where a loop over the bytes stands: `gone` were taken, and `rest` are left
pub record Taking (start now : Bench) (held holds : Option (List ℕ)) (number next : ℕ) (old bytes begun rest : List ℕ) : Type 0 where
  pub gone : List ℕ
  pub split : bytes ≡ gone ++ rest
  pub fed : Feeding start now held holds number next (old ++ gone) begun

pub taking_none : (s : Bench) (a : Option (List ℕ)) (number : ℕ) (old bytes : List ℕ) → has_no_feed old ≡ true → IsNumbered number old
    → Taking s s a a number number old bytes old bytes
taking_none s a number old bytes free numbered = record {
  gone = [];
  split = refl;
  fed = record { lines = []; did = did_none s a; whole = append-nil old; unended = free; counted = omega arith; numbered = numbered };
}

module _ (s m : Bench) (a b : Option (List ℕ)) (number next : ℕ) (old bytes begun rest : List ℕ) (t : Taking s m a b number next old bytes begun rest) where
  -- a line that can be counted ended, and was done
  pub line_done : (n : Bench) (c : Option (List ℕ)) (end : ℕ) → Some end ≡ position (λ c. c == feed) rest → next ≤ most_lines → LineDone {X = Unit {0}} m n b c next (begun ++ take end rest) (Ok tt)
      → Taking s n a c number (next + 1) old bytes [] (drop (end + 1) rest)
  line_done n c end h can (good, state, written) =
      let free = no_feed-append begun (take end rest) t.fed.unended (piece_free rest end h) in record {
        gone = t.gone ++ (take end rest ++ feed ∷ []);
        split = t.split ∙ ap (λ l. t.gone ++ l) (split_at rest end h ∙ sym (append_assoc (take end rest) (feed ∷ []) (drop (end + 1) rest)))
            ∙ sym (append_assoc t.gone (take end rest ++ feed ∷ []) (drop (end + 1) rest));
        fed = record {
          lines = t.fed.lines ++ (begun ++ take end rest) ∷ [];
          did = did_more t.fed.did (did_one m n b c (begun ++ take end rest) free good state written);
          whole = goes_on old t.gone (take end rest ++ feed ∷ []) (joined t.fed.lines) begun t.fed.whole
              ∙ ap (λ l. joined t.fed.lines ++ l) (sym (append_assoc begun (take end rest) (feed ∷ []))) ∙ line_ended t.fed.lines (begun ++ take end rest) [];
          unended = refl;
          counted = omega (arith, t.fed.counted, length-append t.fed.lines ((begun ++ take end rest) ∷ []));
          numbered = (omega (arith, can), λ some. absurd (omega (arith, some)));
        };
      }

  -- all bytes, where a line ended
  bytes_at : (end : ℕ) → Some end ≡ position (λ c. c == feed) rest
      → old ++ bytes ≡ joined t.fed.lines ++ ((begun ++ take end rest) ++ feed ∷ drop (end + 1) rest)
  bytes_at end h =
      ap (λ l. old ++ l) t.split ∙ goes_on old t.gone rest (joined t.fed.lines) begun t.fed.whole
      ∙ ap (λ l. joined t.fed.lines ++ l) (ap (λ l. begun ++ l) (split_at rest end h) ∙ sym (append_assoc begun (take end rest) (feed ∷ drop (end + 1) rest)))

  bytes_now : old ++ bytes ≡ joined t.fed.lines ++ (begun ++ rest)
  bytes_now = ap (λ l. old ++ l) t.split ∙ goes_on old t.gone rest (joined t.fed.lines) begun t.fed.whole

  -- a front that has a byte
  front_some : (end : ℕ) → 1 ≤ length (begun ++ take end rest) → 1 ≤ length (begun ++ rest)
  front_some end some = omega (arith, some, length-append begun (take end rest), length-append begun rest, length-append (take end rest) (drop end rest), ap length (take-append-drop end rest))

  -- a line that can be counted ended, and it failed
  pub line_failed : (n : Bench) (c : Option (List ℕ)) (e : PlayError) (end last : ℕ) (left : List ℕ) → Some end ≡ position (λ c. c == feed) rest → next ≤ most_lines
      → LineEnded {X = Unit {0}} m n b c next (begun ++ take end rest) (Err e) → Fed {X = Unit {0}} s n a c number last (old ++ bytes) left (Err e)
  line_failed n c Read end last left h can l = absurd l
  line_failed n c Write end last left h can l = (
    t.fed.lines,
    begun ++ take end rest,
    drop (end + 1) rest,
    record {
      state_between = m;
      written_between = b;
      did = t.fed.did;
      whole = no_feed-append begun (take end rest) t.fed.unended (piece_free rest end h);
      began = l;
    },
    bytes_at end h,
    omega (arith, can, t.fed.counted),
  )
  line_failed n c NoMemory end last left h can (same, kept, some) = (
    t.fed.lines,
    begun ++ rest,
    did_kept s m n a b c t.fed.lines t.fed.did same kept,
    bytes_now,
    omega (arith, can, t.fed.counted),
    front_some end some,
  )
  line_failed n c (BadLine k) end last left h can l = (
    t.fed.lines,
    begun ++ take end rest,
    drop (end + 1) rest,
    did_kept s m n a b c t.fed.lines t.fed.did l.2 l.3,
    bytes_at end h,
    l.1 ∙ t.fed.counted,
    omega (arith, can, l.1),
    no_feed-append begun (take end rest) t.fed.unended (piece_free rest end h),
    ap (λ count. is_good count (begun ++ take end rest)) (sym (did_processors t.fed.did)) ∙ l.0,
  )

  -- no more lines can be counted, and there are bytes behind
  pub cannot_count : (last : ℕ) (left : List ℕ) → 1 + most_lines ≤ next → length rest ≢ 0 → Fed {X = Unit {0}} s m a b number last (old ++ bytes) left (Err Read)
  cannot_count last left h some =
      (t.fed.lines, begun ++ rest, t.fed.did, bytes_now, omega (arith, h, t.fed.numbered.0, t.fed.counted), omega (arith, some, length-append begun rest))

  -- no line ends any more
  pub all_taken : (left : List ℕ) (r : Result (Unit {0}) PlayError) → None ≡ position (λ c. c == feed) rest → next ≤ most_lines → Kept begun left rest r
      → Fed s m a b number next (old ++ bytes) left r
  all_taken left (Ok x) h can k = record {
    lines = t.fed.lines;
    did = t.fed.did;
    whole = bytes_now ∙ ap (λ l. joined t.fed.lines ++ l) (sym k);
    unended = ap has_no_feed k ∙ no_feed-append begun rest t.fed.unended (rest_free rest h);
    counted = t.fed.counted;
    numbered = (omega (arith, can), λ some. can);
  }
  all_taken left (Err Read) h can k = absurd k
  all_taken left (Err Write) h can k = absurd k
  all_taken left (Err NoMemory) h can (same, some) =
      (t.fed.lines, begun ++ rest, t.fed.did, bytes_now, omega (arith, can, t.fed.counted), omega (arith, some, length-append begun rest))
  all_taken left (Err (BadLine n)) h can k = absurd k

  -- no byte is left
  pub none_left : rest ≡ [] → Feeding s m a b number next (old ++ bytes) begun
  none_left none = record {
    lines = t.fed.lines;
    did = t.fed.did;
    whole = bytes_now ∙ ap (λ l. joined t.fed.lines ++ (begun ++ l)) none ∙ ap (λ l. joined t.fed.lines ++ l) (append-nil begun);
    unended = t.fed.unended;
    counted = t.fed.counted;
    numbered = t.fed.numbered;
  }
