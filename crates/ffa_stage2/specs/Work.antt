-- SPDX-License-Identifier: MIT OR Apache-2.0
-- How much a change of rights may do in the tables of an endpoint.
use Rattle.std.specs.Prelude.{◌≡◌, ◌+◌, ◌-◌, ◌*◌, ◌/◌, ◌%◌, ◌<◌, ◌≤◌, ◌⊎◌, ◌==◌, ◌&&◌, ℕ, zero, suc, Bool, true, if◌then◌else◌, is_some, Option, Some}
use Rattle.ffa_model.specs.declared.rights.Rights.{Rights}
use Rattle.ffa_physmem.specs.Moments.{Past}
use Rattle.ffa_physmem.specs.Work.{AddsAtMost, Work, no_work}
use Rattle.ffa_stage2.specs.Blocks.{IsOne}
use Rattle.ffa_stage2.specs.Tables.{rights_of_block}

-- So many words are stored in tables that stand. Where a table becomes a block, two words and a settle between them make it one. Where a
-- block becomes a table, the 512 words of the table are stored too.
abbrev pub change_work : (words joins splits : ℕ) → Work
change_work words joins splits =
    record no_work { words = words + 2 * joins + 514 * splits; settles = joins + splits }

-- how many blocks pages from one up to another touch, and how many they have whole
abbrev pub blocks_touched : ℕ → ℕ → ℕ
blocks_touched first end = (end + 511) / 512 - first / 512

abbrev pub blocks_whole : ℕ → ℕ → ℕ
blocks_whole first end = end / 512 - (first + 511) / 512

-- one word for each page, or for each whole block that gets a right
abbrev pub words_written : Option Rights → ℕ → ℕ → ℕ
words_written right first end =
    if is_some right then end - first - 511 * blocks_whole first end else end - first

-- how many of so many blocks, from one on, pass a test
abbrev pub blocks_passing : (ℕ → Bool) → ℕ → ℕ → ℕ
blocks_passing test first zero = 0
blocks_passing test first (suc n) = blocks_passing test first n + (if test (first + n) then 1 else 0)

-- the blocks that pages from one up to another touch and that pass a test
abbrev pub touched_passing : (ℕ → Bool) → ℕ → ℕ → ℕ
touched_passing test first end = blocks_passing test (first / 512) (blocks_touched first end)

-- What a change of pages from one up to another may do, where no block is split but those that pass a test. A block that was split may be
-- joined again.
abbrev pub pages_work : (ℕ → Bool) → Option Rights → ℕ → ℕ → Work
pages_work split right first end =
    let splits = touched_passing split first end in
    change_work (words_written right first end) (blocks_touched first end + splits) splits

-- The blocks that a change of pages from one up to another may split pass a test: each of which all pages have one right, and one page gets
-- another.
abbrev pub AreSplits : (ℕ → Option Rights) → Option Rights → ℕ → ℕ → (ℕ → Bool) → Type 0
AreSplits rights right first end split =
    (p : ℕ) (r : Rights) → first ≤ p → p < end → IsOne (rights_of_block rights (p / 512)) r → (right ≡ Some r → ⊥)
    → split (p / 512) ≡ true

-- OF CHANGES THAT FOLLOW ONE ANOTHER

-- 1 may stand for a block of which all pages have one right, and 0 for any
abbrev pub IsCarry : (ℕ → Option Rights) → ℕ → Type 0
IsCarry rights n = (n ≡ 0) ⊎ ((n ≡ 1) × ((r : Rights) × IsOne rights r))

-- so it is of the block of page p, if that isn't the block's first
abbrev pub IsCarryAt : (ℕ → Option Rights) → ℕ → ℕ → Type 0
IsCarryAt rights p n = IsCarry (rights_of_block rights (p / 512)) n × (p % 512 ≡ 0 → n ≡ 0)

-- What changes do that store so many words and leave so many blocks behind them. A table becomes a block only if it isn't one yet: so it
-- counts what is carried from before, and what is carried on.
pub record IsChange (old new : Past) (words blocks carry : ℕ) (IsCarried AreSplit : ℕ → Type 0) : Type 0 where
  pub joins : ℕ
  pub splits : ℕ
  pub left : ℕ
  pub few : AddsAtMost old new (change_work words joins splits)
  pub balance : joins + carry ≤ blocks + left + splits
  pub carried : IsCarried left
  pub split : AreSplit splits

-- one word for each page of a block from one up to another, or for all of them that get a right
abbrev pub run_words : Option Rights → ℕ → ℕ → ℕ
run_words right from to = if is_some right && to - from == 512 then 1 else to - from

-- no block is split, or one of which all pages have one right, and some get another
abbrev pub IsSplitOf : (ℕ → Option Rights) → Option Rights → ℕ → Type 0
IsSplitOf rights right n = (n ≡ 0) ⊎ ((n ≡ 1) × ((r : Rights) × IsOne rights r × (right ≡ Some r → ⊥)))
