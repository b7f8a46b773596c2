-- SPDX-License-Identifier: MIT OR Apache-2.0
-- How words of tables change, one at a time (DDI 0487, "Using break-before-make when updating translation table entries").
use Rattle.std.specs.Prelude.{◌≡◌, ◌≢◌, ℕ, ◌+◌, ◌*◌, ◌<◌, ◌⊎◌, List, ◌∷◌, length, Option, Some}
use Rattle.ffa_model.specs.Descriptor.{page_word}
use Rattle.ffa_model.specs.Ram.{Ram, page_of, word_of}
use Rattle.ffa_model.specs.declared.rights.Rights.{Rights}
use Rattle.ffa_physmem.specs.Moments.{Step}
use Rattle.ffa_stage2.specs.Blocks.{block_word}
use Rattle.ffa_stage2.specs.Tables.{block_address, level2_place, table_link, table_page}

-- a word was written, and nothing else changed
pub record IsWritten (old new : Ram) (page place value : ℕ) : Type 0 where
  pub base : new.base ≡ old.base
  pub size : length new.pages ≡ length old.pages
  pub pages : (p : ℕ) → p ≢ page → page_of new p ≡ page_of old p
  pub whole : length (page_of new page) ≡ 4096
  pub here : word_of (page_of new page) place ≡ value
  pub words : (j : ℕ) → j ≢ place → word_of (page_of new page) j ≡ word_of (page_of old page) j

-- A step writes a word of a level 3 page while something stands at level 2: once nothing does, who read the link before may
-- still read the page, until the block is settled. Where the level 2 word names that page, the word is the descriptor of one
-- page for some right or none, and becomes that of the same page for another: it becomes valid or invalid, or its permissions
-- alone change.
pub record IsLeafWrite (middle entry link table address : ℕ) (s : Step) : Type 0 where
  pub place : ℕ
  pub value : ℕ
  pub few : place < 512
  pub write : IsWritten s.before s.after table place value
  pub stands : word_of (page_of s.before middle) entry ≢ 0
  pub alike :
      word_of (page_of s.before middle) entry ≡ link
      → (r : Option Rights) × (q : Option Rights)
      × (word_of (page_of s.before table) place ≡ page_word (address + 4096 * place) r)
      × (value ≡ page_word (address + 4096 * place) q)

-- the last step settled the 512 pages of a block in an endpoint's tables
abbrev pub IsSettledLast : ℕ → ℕ → List Step → Type 0
IsSettledLast endpoint first h =
    (f : Step) × (earlier : List Step) × (h ≡ f ∷ earlier)
    × (f.settled ≡ Some (record { endpoint = endpoint; first = first; count = 512 }))

-- a word names the block's level 3 page, or is the block of some right
abbrev pub IsLinkOrBlock : ℕ → ℕ → ℕ → Type 0
IsLinkOrBlock link address word = (word ≡ link) ⊎ ((r : Rights) × (word ≡ block_word address r))

-- A step writes the level 2 word of a block: it becomes invalid; or it was invalid, the last step settled the block, and it
-- becomes the link to the block's level 3 page or the block of some right; or it is a block before and behind, whose
-- permissions alone change.
pub record IsBlockWrite (middle entry link address endpoint first : ℕ) (h : List Step) (s : Step) : Type 0 where
  pub value : ℕ
  pub write : IsWritten s.before s.after middle entry value
  pub order :
      (value ≡ 0)
      ⊎ (((word_of (page_of s.before middle) entry ≡ 0) × IsSettledLast endpoint first h × IsLinkOrBlock link address value)
      ⊎ ((r : Rights) × (q : Rights)
      × (word_of (page_of s.before middle) entry ≡ block_word address r) × (value ≡ block_word address q)))

-- a step that leaves every word of RAM as it is
abbrev pub KeepsWords : Step → Type 0
KeepsWords s = (p i : ℕ) → word_of (page_of s.after p) i ≡ word_of (page_of s.before p) i

-- A step in the tables of endpoint e: it leaves RAM as it is, or is such a write for one of the blocks. In each block k with
-- `Stays k` the step stores what the word is already.
abbrev pub IsOrdered : Ram → ℕ → ℕ → (ℕ → Type 0) → ℕ → List Step → Step → Type 0
IsOrdered old tables blocks Stays e h s =
    (s.after ≡ s.before)
    ⊎ ((k : ℕ) × (k < blocks) × (Stays k → KeepsWords s)
    × (IsLeafWrite (table_page tables blocks e 1) (level2_place old.base + k) (table_link old.base tables blocks e (2 + k))
    (table_page tables blocks e (2 + k)) (block_address old k) s
    ⊎ IsBlockWrite (table_page tables blocks e 1) (level2_place old.base + k) (table_link old.base tables blocks e (2 + k))
    (block_address old k) e (512 * k) h s))
