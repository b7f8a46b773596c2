-- SPDX-License-Identifier: MIT OR Apache-2.0
-- Guards: comments of a trace that ask what the line before them printed, or which endpoint runs.
use Rattle.std.specs.Prelude.{◌≡◌, ℕ, ◌+◌, Bool, true, false, not, ◌&&◌, ◌||◌, List, [], ◌∷◌, ◌++◌, codes, drop, filter, is_some, length, nat_eq, Option, None, Some, ◌==◌, ◌⊎◌, if◌then◌else◌}
use Rattle.std.specs.List.{list_all, position_or_len, starts_with}
use Rattle.std.specs.Option.{option_map_or}
use Rattle.ffa_playable.specs.Bench.{Bench, processors_of}
use Rattle.play_trace.specs.TraceLines.{Line, operate, show, audit, skip, turn, interrupt, feed, space, line_in}
use Rattle.play_trace.specs.TraceText.{hex, text_of, after_all}
use Rattle.play_player.specs.declared.guards.Asks.{Asks}
use Rattle.play_player.specs.declared.guards.Asks.TheVariants.{Printed, Runner}
use Rattle.play_player.specs.declared.patterns.Came.{Came}
use Rattle.play_player.specs.Patterns.{came_of, meets, pattern_of, told}

-- A GUARD

-- one space at the front of a guard's text is none of it
abbrev pub without_space : List ℕ → List ℕ
without_space text = if starts_with nat_eq text (codes " ") then drop 1 text else text

-- what a line asks, and the text that it wants, if it is a guard
abbrev pub guard_of : List ℕ → Option (Asks × List ℕ)
guard_of line =
    if starts_with nat_eq line (codes "#=") then Some (Printed, without_space (drop 2 line))
    else if starts_with nat_eq line (codes "#@") then Some (Runner, without_space (drop 2 line))
    else None

abbrev pub is_guard : List ℕ → Bool
is_guard line = is_some (guard_of line)

-- the text that it wants
abbrev pub wanted_of : List ℕ → List ℕ
wanted_of line = option_map_or (λ guard. guard.1) (guard_of line) line

-- whether a guard asks for a printed line
abbrev pub asks_line : Option (Asks × List ℕ) → Bool
asks_line None = false
asks_line (Some (Printed, text)) = true
asks_line (Some (Runner, text)) = false

-- those among these lines that do
abbrev pub asking_among : List (List ℕ) → List (List ℕ)
asking_among lines = filter (λ line. asks_line (guard_of line)) lines

abbrev pub behind_spaces : List ℕ → List ℕ
behind_spaces text = drop (position_or_len (λ c. not (c == space)) text) text

-- a comment that is nearly a guard: behind its `#` stand spaces, and then `=` or `@`
abbrev pub is_near : List ℕ → Bool
is_near line =
    let behind = behind_spaces (drop 1 line) in
    starts_with nat_eq line (codes "# ")
    && (starts_with nat_eq behind (codes "=") || starts_with nat_eq behind (codes "@"))

-- how many of these lines are guards
abbrev pub guards_among : List (List ℕ) → ℕ
guards_among lines = length (filter is_guard lines)

-- the numbers of those that are nearly guards, where the first has this number
abbrev pub near_from : ℕ → List (List ℕ) → List ℕ
near_from number [] = []
near_from number (line ∷ lines) =
    if is_near line then number ∷ near_from (number + 1) lines else near_from (number + 1) lines

-- WHAT IS UNASKED

-- operations, interrupts, `show` and `audit` print, and no other line does
abbrev pub speaks : Line → Bool
speaks (operate op) = true
speaks show = true
speaks audit = true
speaks skip = false
speaks (turn processor) = false
speaks interrupt = true

abbrev pub prints : Option ℕ → List ℕ → Bool
prints processors line = option_map_or speaks (line_in processors line) false

abbrev pub are_silent : Option ℕ → List (List ℕ) → Bool
are_silent processors lines = list_all (λ line. not (prints processors line)) lines

abbrev pub onto_line : ℕ → List (List ℕ) → List (List ℕ)
onto_line c [] = []
onto_line c (line ∷ lines) = (c ∷ line) ∷ lines

-- the lines of a text, each without the LF that ends it
abbrev pub lines_in : List ℕ → List (List ℕ)
lines_in [] = []
lines_in (c ∷ text) = if c == feed then [] ∷ lines_in text else onto_line c (lines_in text)

-- The last of these lines that prints came to this. Each guard after it asks for the next line that it printed, and these are left.
pub record Leaves (start : Bench) (lines : List (List ℕ)) (came : Came) (left : List (List ℕ)) : Type 0 where
  pub before : List (List ℕ)
  pub last : List ℕ
  pub behind : List (List ℕ)
  pub whole : lines ≡ before ++ last ∷ behind
  pub loud : prints (processors_of start) last ≡ true
  pub silent : are_silent (processors_of start) behind ≡ true
  pub comes : came ≡ came_of (after_all start before) last
  pub rest : left ≡ drop (length (asking_among behind)) (lines_in (text_of (after_all start before) last))

-- what no guard among these lines has asked for: those that are left, or none where none of these lines prints
abbrev pub IsUnasked : Bench → List (List ℕ) → Came → List (List ℕ) → Type 0
IsUnasked start lines came left =
    Leaves start lines came left ⊎ ((are_silent (processors_of start) lines ≡ true) × (left ≡ []))

-- WHICH GUARDS ARE MET

-- the first of the lines that are left, of a text that came to this, meets what is wanted
abbrev pub meets_first : List ℕ → Came → List (List ℕ) → Bool
meets_first wants came [] = false
meets_first wants came (line ∷ left) = meets came wants line

-- what it tells of what is wanted, or nothing where there is none
abbrev pub told_first : List ℕ → Came → List (List ℕ) → List ℕ
told_first wants came [] = []
told_first wants came (line ∷ left) = told (pattern_of wants) came line

-- a guard behind these lines is met: the first line that is left meets its text, or its text is the identifier of the
-- endpoint that runs
abbrev pub IsMet : Bench → List (List ℕ) → Asks × List ℕ → Type 0
IsMet start lines (Printed, wants) =
    (came : Came) × (left : List (List ℕ)) × Leaves start lines came left × (meets_first wants came left ≡ true)
IsMet start lines (Runner, wants) = wants ≡ hex 4 (after_all start lines).state.runner

abbrev pub AreMet : Bench → List (List ℕ) → Type 0
AreMet start lines =
    (front : List (List ℕ)) (line : List ℕ) (back : List (List ℕ)) (guard : Asks × List ℕ)
    → lines ≡ front ++ line ∷ back → guard_of line ≡ Some guard → IsMet start front guard

-- what a guard behind these lines finds
abbrev pub IsFound : Bench → List (List ℕ) → Asks × List ℕ → List ℕ → Type 0
IsFound start lines (Printed, wants) found =
    (came : Came) × (left : List (List ℕ)) × IsUnasked start lines came left × (found ≡ told_first wants came left)
IsFound start lines (Runner, wants) found = found ≡ hex 4 (after_all start lines).state.runner
