-- SPDX-License-Identifier: MIT OR Apache-2.0
-- Tables at rest, between two operations: whatever values of their words walks may read, a walk gives what the RAM gives or a
-- translation fault. So it is where each page was settled since a table changed (DDI 0487, C5.5), and so it stays.
use Rattle.std.specs.Prelude.{◌≡◌, ℕ, ◌+◌, ◌*◌, ◌^◌, ◌<◌, ◌≤◌, ◌⊎◌, ◌==◌, if◌then◌else◌, List, ◌∷◌, Option, Some, None}
use Rattle.ffa_model.specs.Descriptor.{page_word}
use Rattle.ffa_model.specs.Ram.{Ram}
use Rattle.ffa_model.specs.Walk.{mapped_answer}
use Rattle.ffa_model.specs.declared.rights.Rights.{Rights}
use Rattle.ffa_physmem.specs.Moments.{AreInTurn, IsSettledBy, Past, Step}
use Rattle.ffa_stage2.specs.Blocks.{block_word}
use Rattle.ffa_stage2.specs.Mixtures.{MayRead}
use Rattle.ffa_stage2.specs.Moments.{walk_at}
use Rattle.ffa_stage2.specs.Tables.{level1_place, level2_place, table_link, table_page}

-- this right is what an endpoint's walks into a page give in a RAM, at each of its addresses
abbrev pub IsWalked : Ram → ℕ → ℕ → ℕ → ℕ → Option Rights → Type 0
IsWalked ram tables blocks e p right =
    (i : ℕ) → i < 4096
    → mapped_answer right (ram.base + 4096 * p + i) ≡ walk_at ram tables blocks e (ram.base + 4096 * p + i)

-- that, or nothing
abbrev pub IsAsIn : Ram → ℕ → ℕ → ℕ → ℕ → Option Rights → Type 0
IsAsIn ram tables blocks e p right = (right ≡ None) ⊎ IsWalked ram tables blocks e p right

-- A walk to page j of block k may read nothing at level 2, or a block of a right that is one of these.
pub record ReadsBlock (base tables blocks e k j : ℕ) (h : List Step) (ram : Ram) (Is : Option Rights → Type 0) : Type 0 where
  pub middle :
      (v : ℕ) → MayRead e (512 * k + j) h ram (table_page tables blocks e 1) (level2_place base + k) v
      → (v ≡ 0) ⊎ ((r : Rights) × Is (Some r) × (v ≡ block_word (base + 0x200000 * k) r))

-- Or it may read nothing there, or the descriptor of the level 3 page, and in that page the descriptor of page j for a right that
-- is one of these, or for none.
pub record ReadsTable (base tables blocks e k j : ℕ) (h : List Step) (ram : Ram) (Is : Option Rights → Type 0) : Type 0 where
  pub middle :
      (v : ℕ) → MayRead e (512 * k + j) h ram (table_page tables blocks e 1) (level2_place base + k) v
      → (v ≡ 0) ⊎ (v ≡ table_link base tables blocks e (2 + k))
  pub leaf :
      (v : ℕ) → MayRead e (512 * k + j) h ram (table_page tables blocks e (2 + k)) j v
      → (r : Option Rights) × Is r × (v ≡ page_word (base + 0x200000 * k + 4096 * j) r)

-- All that walks may read: at level 1 the one descriptor, at level 2 outside the blocks nothing; and at each page either of the
-- two, with rights that are what they may be.
pub record Reads (base endpoints tables blocks : ℕ) (h : List Step) (ram : Ram) (Is : ℕ → ℕ → Option Rights → Type 0) : Type 0 where
  pub level1 :
      (e p i v : ℕ) → e < endpoints → p < 2 ^ 20 → i < 512 → MayRead e p h ram (table_page tables blocks e 0) i v
      → v ≡ (if i == level1_place base then table_link base tables blocks e 1 else 0)
  pub outside :
      (e p i v : ℕ) → e < endpoints → p < 2 ^ 20 → i < 512 → ((i < level2_place base) ⊎ (level2_place base + blocks ≤ i))
      → MayRead e p h ram (table_page tables blocks e 1) i v → v ≡ 0
  pub each :
      (e k j : ℕ) → e < endpoints → k < blocks → j < 512
      → ReadsBlock base tables blocks e k j h ram (Is e (512 * k + j)) ⊎ ReadsTable base tables blocks e k j h ram (Is e (512 * k + j))

-- Tables at rest: the steps follow one another, and there was one; and whatever words walks may read, they give what the RAM gives
-- or nothing.
pub record AreAtRest (ram : Ram) (endpoints tables blocks : ℕ) (h : List Step) : Type 0 where
  pub begun : (s : Step) × (earlier : List Step) × (h ≡ s ∷ earlier)
  pub turn : AreInTurn h ram
  pub reads : Reads ram.base endpoints tables blocks h ram (IsAsIn ram tables blocks)

-- at the end of a history, where there is one
abbrev pub RestIn : Ram → ℕ → ℕ → ℕ → Past → Type 0
RestIn ram endpoints tables blocks past = (h : List Step) → past.steps ≡ Some h → AreAtRest ram endpoints tables blocks h

-- each page below 2^20 was settled for each endpoint, and no table has changed since then
abbrev pub AllSettled : ℕ → ℕ → ℕ → Past → Type 0
AllSettled endpoints tables blocks past =
    (h : List Step) → past.steps ≡ Some h
    → (e p : ℕ) → e < endpoints → p < 2 ^ 20 → IsSettledBy tables (table_page tables blocks endpoints 0) e p h
