-- SPDX-License-Identifier: MIT OR Apache-2.0
-- What a session tells of bad lines.
use Rattle.std.proofs.Common.{◌≡◌, ℕ, ◌+◌, ◌<◌, ◌^◌, Bool, true, false, List, [], ◌∷◌, ◌++◌, length, Option, None, Some, Result, Ok, Err, inl, inr, sym, ap, ◌∙◌, subst, arith, append_assoc, append-nil, refl, is_some, not}
use Rattle.std.specs.Io.KnownBytes.{Appends, Consumes, Keeps}
use Rattle.std.specs.List.{list_all}
use Rattle.std.proofs.KnownBytes.{Appends-kept, Appends-nil, Appends-trans, Keeps-refl}
use Rattle.std.proofs.lemmas.Bool.{and_from}
use Rattle.play_trace.specs.Output.{Writes}
use Rattle.play_trace.specs.TraceLines.{Line, feed, joined, line_in}
use Rattle.play_trace.specs.declared.output.PlayError.{PlayError}
use Rattle.play_trace.specs.declared.output.PlayError.TheVariants.{Write, NoMemory, BadLine}
use Rattle.play_player.specs.Reading.{IsAll, ReadsLine}
use Rattle.play_player.specs.Sessions.{BeginsWithEnd, TellsBadLines, TellsOf, asks_end, is_heard, ToldOfAll, ToldOfLine, ToldOfRest}
use Rattle.play_player.specs.SessionSteps.{AnswersTelling, HearsLine, HearsTelling, TellsBadLine, TellsOrLoses}

-- ONE LINE

-- what is told was written, or a front of it
pub written_told : (processors : Option ℕ) (number : ℕ) (bytes text : List ℕ) (held holds : Option (List ℕ)) (r : Result (Unit {0}) PlayError) → TellsOf processors number bytes text → Writes held holds text r
    → TellsBadLine processors number bytes held holds r
written_told processors number bytes text held holds (Ok x) tells written = (text, tells, written)
written_told processors number bytes text held holds (Err Write) tells began = (text, tells, began)
written_told processors number bytes text held holds _ tells never = absurd never

-- what is told whole isn't lost
pub whole_told : (processors : Option ℕ) (number : ℕ) (bytes : List ℕ) (held holds : Option (List ℕ)) → TellsBadLine {X = Unit {0}} processors number bytes held holds (Ok tt)
    → TellsOrLoses {X = Unit {0}} processors number bytes held holds (Ok tt)
whole_told processors number bytes held holds (text, tells, written) = (text, ([], subst (TellsOf processors number bytes) (sym (append-nil text)) tells), written)

-- a good line was done, and nothing told
pub good_told : (processors : Option ℕ) (bytes : List ℕ) (number : ℕ) (held : Option (List ℕ)) (line : Line) → Some line ≡ line_in processors bytes → (r : Result (Unit {0}) PlayError)
    → AnswersTelling processors bytes number held held r
good_told processors bytes number held line is (Ok x) = ([], inl (ap is_some (sym is), refl), Appends-nil held)
good_told processors bytes number held line is (Err e) = Keeps-refl held

-- a bad line was told
pub bad_told : (processors : Option ℕ) (bytes : List ℕ) (number : ℕ) (held holds : Option (List ℕ)) → None ≡ line_in processors bytes → (r : Result (Unit {0}) PlayError)
    → TellsOrLoses processors number (bytes ++ feed ∷ []) held holds r → AnswersTelling processors bytes number held holds r
bad_told processors bytes number held holds none (Ok x) (said, told, written) = (said, inr (ap is_some (sym none), told), written)
bad_told processors bytes number held holds none (Err NoMemory) kept = kept
bad_told processors bytes number held holds none _ never = absurd never

-- the rest was told
pub rest_told : (processors : Option ℕ) (had has : Option (List ℕ)) (line : List ℕ) (number n : ℕ) (held holds : Option (List ℕ)) → ReadsLine had has line number (Err (BadLine n))
    → TellsOrLoses {X = Unit {0}} processors number line held holds (Ok tt) → HearsTelling processors had number held holds (Ok false)
rest_told processors had has line number n held holds (is, all, single, some) (said, told, written) = (line, said, all, inr (inr (single, some, told)), written)

-- A LINE THAT ASKS FOR THE END

asked_all : (had has : Option (List ℕ)) (line : List ℕ) → Consumes had has (line ++ feed ∷ []) → asks_end line ≡ true → (rest : List ℕ) × BeginsWithEnd rest × IsAll had rest
asked_all None has line read asks = (line ++ feed ∷ [], (line, [], asks, refl), tt)
asked_all (Some xs) None line read asks = absurd read
asked_all (Some xs) (Some ys) line read asks = (xs, (line, ys, asks, read ∙ append_assoc line (feed ∷ []) ys), refl)

-- the session ends there, or goes on
pub heard_or_asked : (had has : Option (List ℕ)) (line : List ℕ) (number : ℕ) (asks : Bool) → asks ≡ asks_end line → number + 1 < 2 ^ 64 → ReadsLine had has line number (Ok true) → HearsLine had has line number (Ok (not asks))
heard_or_asked had has line number true is small (read, single) = let r = asked_all had has line read (sym is) in (r.0, inr r.1, r.2)
heard_or_asked had has line number false is small (read, single) = (read, and_from _ _ single (ap not (sym is)), small)

pub line_read : (had has : Option (List ℕ)) (line : List ℕ) (number : ℕ) (b : Bool) → b ≡ true → ReadsLine had has line number (Ok b) → ReadsLine had has line number (Ok true)
line_read had has line number true is r = r
line_read had has line number false is r = absurd cc

-- nothing is told of it
pub asked_told : (processors : Option ℕ) (had has : Option (List ℕ)) (line : List ℕ) (number : ℕ) (held : Option (List ℕ)) (asks : Bool) → asks ≡ asks_end line → ReadsLine had has line number (Ok true) → HearsTelling processors had number held held (Ok (not asks))
asked_told processors had has line number held true is (read, single) = let r = asked_all had has line read (sym is) in (r.0, [], r.2, inr (inl (r.1, refl)), Appends-nil held)
asked_told processors had has line number held false is r = Keeps-refl held

-- there is a line
pub heard_told : (processors : Option ℕ) (had : Option (List ℕ)) (number : ℕ) (held holds : Option (List ℕ)) (b : Bool) → b ≡ true → HearsTelling processors had number held holds (Ok b) → Keeps held holds
heard_told processors had number held holds true h r = r
heard_told processors had number held holds false h r = absurd cc

-- ALL LINES

behind_all : (had has : Option (List ℕ)) (before rest : List ℕ) → Consumes had has before → IsAll has rest → IsAll had (before ++ rest)
behind_all None has before rest c all = tt
behind_all (Some xs) None before rest c all = absurd c
behind_all (Some xs) (Some ys) before rest c all = c ∙ ap (λ l. before ++ l) all

told_from : (processors : Option ℕ) (number : ℕ) (lines : List (List ℕ)) (line said own : List ℕ) → ToldOfAll processors number lines said → ToldOfLine processors (number + length lines) line own
    → ToldOfAll processors number (lines ++ line ∷ []) (said ++ own)
told_from processors number [] line said own none told =
    let count : number + length {A = List ℕ} [] ≡ number = omega arith in
    (own, [], ap (λ l. l ++ own) none ∙ sym (append-nil own), subst (λ n. ToldOfLine processors n line own) count told, refl)
told_from processors number (first ∷ lines) line said own (its, more, is, what, rest) told =
    let count : number + length (first ∷ lines) ≡ number + 1 + length lines = omega arith in (
      its,
      more ++ own,
      ap (λ l. l ++ own) is ∙ append_assoc its more own,
      what,
      told_from processors (number + 1) lines line more own rest (subst (λ n. ToldOfLine processors n line own) count told),
    )

-- This was told of these lines, which were read.
module _ (processors : Option ℕ) (had has : Option (List ℕ)) (lines : List (List ℕ)) (each : list_all is_heard lines ≡ true) (read : Consumes had has (joined lines)) (number : ℕ) (count : number ≡ 1 + length lines) (held mid : Option (List ℕ)) (said : List ℕ) (told : ToldOfAll processors 1 lines said) (written : Appends held mid said) where
  -- and of one line more
  pub told_more : (line : List ℕ) (heard holds : Option (List ℕ)) → Keeps mid heard → AnswersTelling {X = Unit {0}} processors line number heard holds (Ok tt)
      → (all : List ℕ) × ToldOfAll processors 1 (lines ++ line ∷ []) all × Appends held holds all
  told_more line heard holds kept (own, what, more) = (
    said ++ own,
    told_from processors 1 lines line said own told (subst (λ n. ToldOfLine processors n line own) count what),
    Appends-trans held heard holds said own (Appends-kept held mid heard said written kept) more,
  )

  -- no line is left
  pub over_told : (holds : Option (List ℕ)) (b : Bool) → b ≡ false → HearsTelling processors has number mid holds (Ok b) → TellsBadLines {X = Unit {0}} processors had held holds (Ok tt)
  over_told holds true h r = absurd cc
  over_told holds false h (rest, last, all, what, more) = (
    lines,
    rest,
    each,
    behind_all had has (joined lines) rest read all,
    (said, last, told, subst (λ n. ToldOfRest processors n rest last) count what, Appends-trans held mid holds said last written more),
  )

  -- no more could be read or written
  pub cut_told : (e : PlayError) (holds : Option (List ℕ)) → Keeps mid holds → TellsBadLines {X = Unit {0}} processors had held holds (Err e)
  cut_told NoMemory holds kept = tt
  cut_told (BadLine n) holds kept = tt
  cut_told _ holds kept = (lines, has, each, read, (said, told, Appends-kept held mid holds said written kept))
