-- SPDX-License-Identifier: MIT OR Apache-2.0
-- FOR PROOFS ALONE
-- On the way to a changed block: one place of one endpoint's tables, and what each step leaves there.
use Rattle.std.specs.Prelude.{◌≡◌, ◌≢◌, ℕ, ◌+◌, ◌*◌, ◌%◌, ◌^◌, ◌<◌, ◌≤◌, ◌⊎◌, ◌&&◌, nat_le, nat_lt, if◌then◌else◌, List, length, Option, None}
use Rattle.ffa_model.specs.Ram.{Ram, page_of, word_of}
use Rattle.ffa_physmem.specs.Moments.{Step}
use Rattle.ffa_model.specs.declared.rights.Rights.{Rights}
use Rattle.ffa_stage2.specs.declared.blocks.BlockPlace.{BlockPlace}
use Rattle.ffa_stage2.specs.Blocks.{IsTable, IsMapped, IsEither}
use Rattle.ffa_stage2.specs.Orders.{IsBlockWrite, IsLeafWrite, IsSettledLast, IsWritten, KeepsWords}
use Rattle.ffa_stage2.specs.Tables.{table_page, table_link, level2_place, block_address}

-- where endpoint e's tables speak of block k
pub record IsPlaceOf (ram : Ram) (tables blocks e k : ℕ) (x : BlockPlace) : Type 0 where
  pub middle : x.middle.0 ≡ table_page tables blocks e 1
  pub entry : x.entry ≡ level2_place ram.base + k
  pub table : x.table.0 ≡ table_page tables blocks e (2 + k)
  pub link : x.link ≡ table_link ram.base tables blocks e (2 + k)
  pub address : x.address ≡ block_address ram k
  pub endpoint : x.endpoint ≡ e
  pub first : x.first.0 ≡ 512 * k

-- the rights with those to the pages from one up to another changed
abbrev pub with_run : (ℕ → Option Rights) → ℕ → ℕ → Option Rights → ℕ → Option Rights
with_run rights from to right j = if nat_le from j && nat_lt j to then right else rights j

-- the 8 words from place `at` on are `first`, `first` + 4096, and so on, modulo 2^64
abbrev pub IsRun : List ℕ → ℕ → ℕ → Type 0
IsRun page at first = (j : ℕ) → j < 8 → word_of page (at + j) ≡ (first + 4096 * j) % 2 ^ 64

-- the level 2 word of a place
abbrev pub word_at : Ram → BlockPlace → ℕ
word_at ram x = word_of (page_of ram x.middle.0) x.entry

-- the two pages of a place are whole and two, and its numbers are in range
pub record IsPlace (ram : Ram) (x : BlockPlace) : Type 0 where
  pub middle : x.middle.0 < length ram.pages
  pub table : x.table.0 < length ram.pages
  pub apart : x.middle.0 ≢ x.table.0
  pub whole_middle : length (page_of ram x.middle.0) ≡ 4096
  pub whole_table : length (page_of ram x.table.0) ≡ 4096
  pub entry : x.entry < 512
  pub link : x.link % 4 ≡ 3
  pub fits : x.link < 2 ^ 64
  pub aligned : x.address % 0x200000 ≡ 0
  pub within : x.address + 0x200000 ≤ 2 ^ 32

-- the law at a place
abbrev pub Maps : Ram → BlockPlace → (ℕ → Option Rights) → Type 0
Maps ram x rights = IsMapped (word_at ram x) x.link (page_of ram x.table.0) x.address rights

-- the table at a place
abbrev pub Names : Ram → BlockPlace → (ℕ → Option Rights) → Type 0
Names ram x rights = IsTable (word_at ram x) x.link (page_of ram x.table.0) x.address rights

-- from old to new nothing changed but the level 2 word and the level 3 page of a place
pub record KeepsBeside (old new : Ram) (x : BlockPlace) : Type 0 where
  pub base : new.base ≡ old.base
  pub size : length new.pages ≡ length old.pages
  pub pages : (p : ℕ) → p ≢ x.middle.0 → p ≢ x.table.0 → page_of new p ≡ page_of old p
  pub words : (j : ℕ) → j < 512 → j ≢ x.entry → word_of (page_of new x.middle.0) j ≡ word_of (page_of old x.middle.0) j
  pub whole_middle : length (page_of new x.middle.0) ≡ 4096
  pub whole_table : length (page_of new x.table.0) ≡ 4096

-- from old to new the words of one page from one place up to another became these, and nothing else changed
pub record IsFilled (old new : Ram) (page from to : ℕ) (word : ℕ → ℕ) : Type 0 where
  pub base : new.base ≡ old.base
  pub size : length new.pages ≡ length old.pages
  pub pages : (p : ℕ) → p ≢ page → page_of new p ≡ page_of old p
  pub whole : length (page_of new page) ≡ 4096
  pub here : (j : ℕ) → from ≤ j → j < to → word_of (page_of new page) j ≡ word j
  pub beside : (j : ℕ) → ((j < from) ⊎ (to ≤ j)) → word_of (page_of new page) j ≡ word_of (page_of old page) j

-- from old to new some of these words did, from the first on
abbrev pub IsFilling : Ram → Ram → ℕ → ℕ → ℕ → (ℕ → ℕ) → Type 0
IsFilling old new page from to word = (next : ℕ) × (from ≤ next) × (next ≤ to) × IsFilled old new page from next word

-- a block or the table at a place
abbrev pub Stands : Ram → BlockPlace → (ℕ → Option Rights) → Type 0
Stands ram x rights = IsEither (word_at ram x) x.link (page_of ram x.table.0) x.address rights

-- On the way from old to a RAM where the pages from one up to another have a right: nothing changed but at that place, a
-- block or the table stands there, and each page has the right that it had or that one.
pub record IsOnTheWay (old ram : Ram) (x : BlockPlace) (rights : ℕ → Option Rights)
    (from to : ℕ) (right : Option Rights) : Type 0 where
  pub now : ℕ → Option Rights
  pub stands : Stands ram x now
  pub each : (j : ℕ) → (now j ≡ rights j) ⊎ ((now j ≡ with_run rights from to right j) ⊎ (now j ≡ None))
  pub beside : KeepsBeside old ram x

-- one word of those of a page from one place up to another becomes what it is to be, in RAM where no other page differs from old
pub record IsOneOf (old : Ram) (page from to : ℕ) (word : ℕ → ℕ) (s : Step) : Type 0 where
  pub place : ℕ
  pub low : from ≤ place
  pub high : place < to
  pub write : IsWritten s.before s.after page place (word place)
  pub was : word_of (page_of s.before page) place ≡ word_of (page_of old page) place
  pub others : (p : ℕ) → p ≢ page → page_of s.before p ≡ page_of old p

-- nothing stands at a place, and nothing else changed
pub record IsCut (old ram : Ram) (x : BlockPlace) : Type 0 where
  pub beside : KeepsBeside old ram x
  pub nothing : word_at ram x ≡ 0

-- Break before make: nothing stands at the place; or nothing stood there, the block was settled since, and now the new word
-- does.
abbrev pub IsReplacing : Ram → Ram → BlockPlace → List Step → Step → Type 0
IsReplacing old new x h s =
    (IsCut old s.after x) ⊎ ((word_at s.before x ≡ 0) × (s.after ≡ new) × IsSettledLast x.endpoint x.first.0 h)

-- What one step does at a place: nothing, or it writes a word of the level 3 page, or that of level 2. With `Stays` it stores what
-- the word is already.
abbrev pub IsOrderly : BlockPlace → Type 0 → List Step → Step → Type 0
IsOrderly x Stays h s =
    (s.after ≡ s.before)
    ⊎ ((Stays → KeepsWords s)
    × (IsLeafWrite x.middle.0 x.entry x.link x.table.0 x.address s
    ⊎ IsBlockWrite x.middle.0 x.entry x.link x.address x.endpoint x.first.0 h s))

-- the rights to the 512 pages are the same with those from one up to another changed
abbrev pub IsSameRun : (ℕ → Option Rights) → ℕ → ℕ → Option Rights → Type 0
IsSameRun rights from to right = (j : ℕ) → j < 512 → with_run rights from to right j ≡ rights j
