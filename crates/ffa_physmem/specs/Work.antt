-- SPDX-License-Identifier: MIT OR Apache-2.0
-- How much is done in steps: words that are stored, pages that are settled at once, pages whose bytes are lent to be written, and
-- readings.
use Rattle.std.specs.Prelude.{◌≡◌, ◌+◌, ◌*◌, ◌≤◌, ℕ, List, [], ◌∷◌, Option, Some, is_some, if◌then◌else◌}
use Rattle.ffa_physmem.specs.Moments.{Past, Step}

pub record Work : Type 0 where
  pub words : ℕ
  pub settles : ℕ
  pub loans : ℕ
  pub readings : ℕ

abbrev pub no_work : Work
no_work = record { words = 0; settles = 0; loans = 0; readings = 0 }

-- so many words, settles, loans or readings, and nothing else
abbrev pub words_of : ℕ → Work
words_of n = record no_work { words = n }

abbrev pub settles_of : ℕ → Work
settles_of n = record no_work { settles = n }

abbrev pub loans_of : ℕ → Work
loans_of n = record no_work { loans = n }

abbrev pub readings_of : ℕ → Work
readings_of n = record no_work { readings = n }

-- both
abbrev pub plus : Work → Work → Work
plus a b =
    record {
      words = a.words + b.words;
      settles = a.settles + b.settles;
      loans = a.loans + b.loans;
      readings = a.readings + b.readings;
    }

-- of each at most as much
pub record IsAtMost (a b : Work) : Type 0 where
  pub words : a.words ≤ b.words
  pub settles : a.settles ≤ b.settles
  pub loans : a.loans ≤ b.loans
  pub readings : a.readings ≤ b.readings

-- the work of one step
abbrev pub work_of : Step → Work
work_of s =
    record {
      words = s.words;
      settles = if is_some s.settled then 1 else 0;
      loans = s.loans;
      readings = if is_some s.reading then 1 else 0;
    }

-- the work of all steps
abbrev pub total : List Step → Work
total [] = no_work
total (s ∷ earlier) = plus (total earlier) (work_of s)

-- the steps from one past to a later one do exactly so much
pub record Spends (old new : Past) (work : Work) : Type 0 where
  pub each :
      (h : List Step) → new.steps ≡ Some h
      → (earlier : List Step) × (old.steps ≡ Some earlier) × (total h ≡ plus (total earlier) work)

-- they do at most so much
pub record AddsAtMost (old new : Past) (most : Work) : Type 0 where
  pub each :
      (h : List Step) → new.steps ≡ Some h
      → (earlier : List Step) × (old.steps ≡ Some earlier) × IsAtMost (total h) (plus (total earlier) most)
