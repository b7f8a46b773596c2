-- SPDX-License-Identifier: MIT OR Apache-2.0
-- What others write while an operation is done, at any time and into any page to which they may write then: it makes no difference
-- to any walk, to no page that the operation doesn't share with them, and not to the operations that follow.
use Rattle.std.specs.Prelude.{◌≡◌, ◌<◌, ◌^◌, true, ℕ, List, length, Some}
use Rattle.ffa_model.specs.Agreement.{blocks_of}
use Rattle.ffa_model.specs.Ram.{Ram, page_of}
use Rattle.ffa_model.specs.State.{State}
use Rattle.ffa_physmem.specs.Moments.{IsBeside, Only, Past, Step}
use Rattle.ffa_stage2.specs.Amid.{Amid, AreTheirs, IsPage, Moment, behind, is_one_of}
use Rattle.ffa_stage2.specs.Held.{HeldBetween}
use Rattle.ffa_stage2.specs.Moments.{walk_at}
use Rattle.ffa_stage2.specs.Rest.{AreAtRest}

-- An operation leads from one RAM to another. At a moment of it, memory differs from RAM to which nobody else writes only in pages
-- that others wrote. None of these is a page of a table, and to each some endpoint could write before the operation, or can after it.
-- And what translation units may hold of memory lies between the one RAM and the other. The answers of walks in mixtures are among it.
pub record StandsAmid (old new : Ram) (endpoints tables blocks : ℕ) (alone memory : Moment) (written : List ℕ) : Type 0 where
  pub theirs : AreTheirs old new endpoints tables blocks written
  pub beside : IsBeside alone.ram memory.ram (is_one_of written)
  pub bytes : (p : ℕ) → is_one_of written p ≡ true → IsPage (page_of memory.ram p)
  pub held : HeldBetween old new endpoints tables blocks memory.history memory.ram

-- and at its end each walk of memory gives what it gives in the other RAM, and its tables are at rest
pub record EndsAmid (new : Ram) (endpoints tables blocks : ℕ) (memory : Moment) : Type 0 where
  pub walks :
      (e address : ℕ) → e < endpoints → address < 2 ^ 32 → walk_at memory.ram tables blocks e address ≡ walk_at new tables blocks e address
  pub rest : AreAtRest memory.ram endpoints tables blocks memory.history

-- P holds of whatever memory others may have left at a moment, where an operation began with this RAM and history
abbrev pub InEachMemory : State → Ram → Past → Moment → (Moment → List ℕ → Type 0) → Type 0
InEachMemory s old past alone P =
    (begun : List Step) → past.steps ≡ Some begun → (memory : Moment) (written : List ℕ)
    → Amid (length s.parties) s.tables (blocks_of s) (record { history = begun; ram = old }) alone memory written → P memory written

abbrev pub StandsAt : State → Ram → Ram → Past → Moment → Type 0
StandsAt s old new past alone =
    InEachMemory s old past alone (λ memory written. StandsAmid old new (length s.parties) s.tables (blocks_of s) alone memory written)

-- So it is where an operation begins, behind each of its steps, and at its end.
pub record StaysAmid (s : State) (old new : Ram) (past later : Past) : Type 0 where
  pub first : (h : List Step) → past.steps ≡ Some h → StandsAt s old new past (record { history = h; ram = old })
  pub steps : Only past later (λ h step. StandsAt s old new past (behind step h))
  pub ended :
      (h : List Step) → later.steps ≡ Some h
      → InEachMemory s old past (record { history = h; ram = new })
      (λ memory written. StandsAmid old new (length s.parties) s.tables (blocks_of s) (record { history = h; ram = new }) memory written
      × EndsAmid new (length s.parties) s.tables (blocks_of s) memory)
