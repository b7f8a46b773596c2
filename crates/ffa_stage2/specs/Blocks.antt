-- SPDX-License-Identifier: MIT OR Apache-2.0
-- One block of RAM in an endpoint's tables: a level 2 word, a level 3 page, and the rights to 512 pages.
use Rattle.std.specs.Prelude.{◌≡◌, ℕ, ◌+◌, ◌*◌, ◌^◌, ◌<◌, ◌⊎◌, ◌↔◌, if◌then◌else◌, List, Option, Some, None}
use Rattle.ffa_model.specs.Bits.{bits}
use Rattle.ffa_model.specs.Ram.{word_of}
use Rattle.ffa_model.specs.Rights.{may_write}
use Rattle.ffa_model.specs.Descriptor.{page_word}
use Rattle.ffa_model.specs.declared.rights.Rights.{Rights}

-- a block of level 2: type 01 in bits 1:0, the address in 47:21, and the other fields of a page of level 3
unfoldable pub block_word : ℕ → Rights → ℕ
block_word address r =
    bits 47 21 address * 2 ^ 21 + (1 + 15 * 2 ^ 2 + 2 ^ 6 + 3 * 2 ^ 8 + 2 ^ 10)
    + (if may_write r.level then 2 ^ 7 else 0) + (if r.exec then 0 else 2 ^ 54)

-- the 512 pages have this one right
abbrev pub IsOne : (ℕ → Option Rights) → Rights → Type 0
IsOne rights r = (j : ℕ) → j < 512 → rights j ≡ Some r

-- the words of a level 3 page give these rights to the 512 pages from an address on
abbrev pub ArePages : List ℕ → ℕ → (ℕ → Option Rights) → Type 0
ArePages page address rights = (j : ℕ) → j < 512 → word_of page j ≡ page_word (address + 4096 * j) (rights j)

-- the level 2 word is a block, and the pages have its right
pub record IsBlock (word address : ℕ) (rights : ℕ → Option Rights) : Type 0 where
  pub right : Rights
  pub one : IsOne rights right
  pub is : word ≡ block_word address right

-- the level 2 word names the level 3 page, whose words give the rights
pub record IsTable (word link : ℕ) (page : List ℕ) (address : ℕ) (rights : ℕ → Option Rights) : Type 0 where
  pub is : word ≡ link
  pub pages : ArePages page address rights

-- no right is that of all pages
abbrev pub IsMixed : (ℕ → Option Rights) → Type 0
IsMixed rights = (r : Rights) → IsOne rights r → ⊥

-- the law: a block where the 512 pages have one right other than nothing, and else the table of the level 3 page, whose
-- words give the rights. Of that page nothing is said where a block stands
abbrev pub IsMapped : ℕ → ℕ → List ℕ → ℕ → (ℕ → Option Rights) → Type 0
IsMapped word link page address rights =
    (IsBlock word address rights) ⊎ (IsTable word link page address rights × IsMixed rights)

-- nothing stands, and no page has a right
pub record IsGap (word : ℕ) (rights : ℕ → Option Rights) : Type 0 where
  pub is : word ≡ 0
  pub none : (j : ℕ) → j < 512 → rights j ≡ None

-- between two writes: a block, the table or nothing, whichever of them it is
abbrev pub IsEither : ℕ → ℕ → List ℕ → ℕ → (ℕ → Option Rights) → Type 0
IsEither word link page address rights =
    (IsBlock word address rights) ⊎ ((IsTable word link page address rights) ⊎ (IsGap word rights))

-- what the law says of the level 2 word alone: it is the block of a right exactly where all pages have that right, and
-- the table exactly where no right is that of all
pub record IsBlockWhereOne (word link address : ℕ) (rights : ℕ → Option Rights) : Type 0 where
  pub block : (r : Rights) → (word ≡ block_word address r) ↔ IsOne rights r
  pub table : (word ≡ link) ↔ IsMixed rights

-- word i of a page is its word 0 plus 4096 times i
abbrev pub IsUniform : List ℕ → Type 0
IsUniform page = (i : ℕ) → i < 512 → word_of page i ≡ word_of page 0 + 4096 * i
