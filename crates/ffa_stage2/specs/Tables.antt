-- SPDX-License-Identifier: MIT OR Apache-2.0
-- The tables of all endpoints in RAM, from a page on: for each endpoint in order one page of level 1, one of level 2, and one of
-- level 3 for each block of 2 MiB.
use Rattle.std.specs.Prelude.{◌≡◌, true, ℕ, List, ◌+◌, ◌-◌, ◌*◌, ◌/◌, ◌%◌, ◌^◌, ◌<◌, ◌≤◌, ◌⊎◌, ◌==◌, ◌&&◌, nat_le, nat_lt, Bool, if◌then◌else◌, length, Option, None}
use Rattle.ffa_model.specs.declared.limits.TheConstants.{MOST_BLOCKS}
use Rattle.ffa_model.specs.Bits.{bits}
use Rattle.ffa_model.specs.Ram.{Ram, page_of, word_of}
use Rattle.ffa_model.specs.Manifest.{table_pages, root_of}
use Rattle.ffa_model.specs.Descriptor.{table_word}
use Rattle.ffa_model.specs.Walk.{Answer, walk, is_in_ram, is_page_address, mapped_answer}
use Rattle.ffa_model.specs.declared.rights.Rights.{Rights}
use Rattle.ffa_stage2.specs.Blocks.{IsMapped, IsEither, IsBlockWhereOne}

-- the number of endpoint e's table page s: 0 is level 1, 1 is level 2, 2 + k is level 3 of block k
abbrev pub table_page : ℕ → ℕ → ℕ → ℕ → ℕ
table_page tables blocks e s = tables + e * table_pages blocks + s

-- a page is none of the table pages of this many endpoints
abbrev pub IsAside : ℕ → ℕ → ℕ → ℕ → Type 0
IsAside endpoints tables blocks p = (p < tables) ⊎ (table_page tables blocks endpoints 0 ≤ p)

-- the descriptor of endpoint e's table page s
abbrev pub table_link : ℕ → ℕ → ℕ → ℕ → ℕ → ℕ
table_link base tables blocks e s = table_word (base + 4096 * table_page tables blocks e s)

-- the places of RAM's first byte in tables of level 1 and of level 2
abbrev pub level1_place : ℕ → ℕ
level1_place base = bits 31 30 base

abbrev pub level2_place : ℕ → ℕ
level2_place base = bits 29 21 base

-- the RAM has room for the tables of this many endpoints, each with one table of level 2
pub record HasRoom (ram : Ram) (endpoints tables blocks : ℕ) : Type 0 where
  pub place : ram.base % 0x200000 ≡ 0
  pub one_table : ram.base % 2 ^ 30 + 0x200000 * blocks ≤ 2 ^ 30
  pub few : blocks ≤ MOST_BLOCKS
  pub within : ram.base + 0x200000 * blocks ≤ 2 ^ 32
  pub size : length ram.pages ≡ 512 * blocks
  pub room : tables + endpoints * table_pages blocks ≤ 512 * blocks

-- the level 2 word, the level 3 page and the address of block k of endpoint e, and the rights to its 512 pages
abbrev pub level2_word : Ram → ℕ → ℕ → ℕ → ℕ → ℕ
level2_word ram tables blocks e k = word_of (page_of ram (table_page tables blocks e 1)) (level2_place ram.base + k)

abbrev pub block_address : Ram → ℕ → ℕ
block_address ram k = ram.base + 0x200000 * k

abbrev pub rights_of_block : (ℕ → Option Rights) → ℕ → ℕ → Option Rights
rights_of_block rights k j = rights (512 * k + j)

-- block k of endpoint e gives these rights to its 512 pages, by a law of a level 2 word, the descriptor of the level 3
-- page, that page, an address and rights
abbrev pub InBlockBy :
    (ℕ → ℕ → List ℕ → ℕ → (ℕ → Option Rights) → Type 0) → Ram → ℕ → ℕ → ℕ → (ℕ → Option Rights) → ℕ → Type 0
InBlockBy law ram tables blocks e rights k =
    law (level2_word ram tables blocks e k) (table_link ram.base tables blocks e (2 + k)) (page_of ram (table_page tables blocks e (2 + k)))
    (block_address ram k) (rights_of_block rights k)

abbrev pub InBlock : Ram → ℕ → ℕ → ℕ → (ℕ → Option Rights) → ℕ → Type 0
InBlock ram tables blocks e rights k = InBlockBy IsMapped ram tables blocks e rights k

-- the tables of this many endpoints stand in the RAM, each block by a law, and endpoint e has `access e p` to page p
pub record IsBuiltBy (law : ℕ → ℕ → List ℕ → ℕ → (ℕ → Option Rights) → Type 0)
    (ram : Ram) (endpoints tables blocks : ℕ) (access : ℕ → ℕ → Option Rights) : Type 0 where
  pub fits : HasRoom ram endpoints tables blocks
  pub whole : (e s : ℕ) → e < endpoints → s < table_pages blocks → length (page_of ram (table_page tables blocks e s)) ≡ 4096
  pub level1 :
      (e j : ℕ) → e < endpoints → j < 512
      → word_of (page_of ram (table_page tables blocks e 0)) j
      ≡ (if j == level1_place ram.base then table_link ram.base tables blocks e 1 else 0)
  pub outside :
      (e j : ℕ) → e < endpoints → j < 512 → ((j < level2_place ram.base) ⊎ (level2_place ram.base + blocks ≤ j))
      → word_of (page_of ram (table_page tables blocks e 1)) j ≡ 0
  pub each : (e k : ℕ) → e < endpoints → k < blocks → InBlockBy law ram tables blocks e (access e) k

-- as they are behind each change of rights
abbrev pub IsBuilt : Ram → ℕ → ℕ → ℕ → (ℕ → ℕ → Option Rights) → Type 0
IsBuilt ram endpoints tables blocks access = IsBuiltBy IsMapped ram endpoints tables blocks access

-- and between two writes
abbrev pub IsStanding : Ram → ℕ → ℕ → ℕ → (ℕ → ℕ → Option Rights) → Type 0
IsStanding ram endpoints tables blocks access = IsBuiltBy IsEither ram endpoints tables blocks access

-- the access with one right changed
abbrev pub with_right : (ℕ → ℕ → Option Rights) → ℕ → ℕ → Option Rights → ℕ → ℕ → Option Rights
with_right access endpoint page right e p = if e == endpoint && p == page then right else access e p

-- the access with the rights to the pages from one up to another changed
abbrev pub with_pages : (ℕ → ℕ → Option Rights) → ℕ → ℕ → ℕ → Option Rights → ℕ → ℕ → Option Rights
with_pages access endpoint first end right e p =
    if e == endpoint && (nat_le first p && nat_lt p end) then right else access e p

-- an endpoint's rights to the 512 pages of block k are the same in two accesses
abbrev pub IsSameIn : (ℕ → ℕ → Option Rights) → (ℕ → ℕ → Option Rights) → ℕ → ℕ → Type 0
IsSameIn access after e k = (j : ℕ) → j < 512 → after e (512 * k + j) ≡ access e (512 * k + j)

-- what the walk of endpoint e's table answers at an address: what its access gives in RAM, and nothing elsewhere
abbrev pub answer : Ram → (ℕ → ℕ → Option Rights) → ℕ → ℕ → Answer
answer ram access e address =
    mapped_answer (if is_in_ram ram address then access e ((address - ram.base) / 4096) else None) address

-- the walk of each endpoint's table gives its access at every address
abbrev pub WalksTo : Ram → ℕ → ℕ → ℕ → (ℕ → ℕ → Option Rights) → Type 0
WalksTo ram endpoints tables blocks access =
    (e address : ℕ) → e < endpoints → address < 2 ^ 32
    → walk ram (root_of ram.base tables blocks e) address ≡ answer ram access e address

-- the level 2 word of every block is a 2 MiB block exactly where its 512 pages have one right other than nothing, and
-- else names the level 3 page
abbrev pub BlocksWhereOne : Ram → ℕ → ℕ → ℕ → (ℕ → ℕ → Option Rights) → Type 0
BlocksWhereOne ram endpoints tables blocks access =
    (e k : ℕ) → e < endpoints → k < blocks
    → IsBlockWhereOne (level2_word ram tables blocks e k) (table_link ram.base tables blocks e (2 + k)) (block_address ram k)
    (rights_of_block (access e) k)

-- whether an address stands in a page of the RAM
abbrev pub is_in_page : Ram → ℕ → ℕ → Bool
is_in_page ram page address = nat_le (ram.base + 4096 * page) address && nat_lt address (ram.base + 4096 * (page + 1))

-- from old to new one endpoint's walk gives another right at one page, and every other walk is as before
abbrev pub WalkChanges : Ram → Ram → ℕ → ℕ → ℕ → ℕ → ℕ → Option Rights → Type 0
WalkChanges old new endpoints tables blocks endpoint page right =
    (e address : ℕ) → e < endpoints → address < 2 ^ 32
    → walk new (root_of new.base tables blocks e) address
    ≡ (if e == endpoint && is_in_page old page address
    then mapped_answer right address
    else walk old (root_of old.base tables blocks e) address)

-- whether an address stands in the pages of the RAM from one up to another
abbrev pub is_in_pages : Ram → ℕ → ℕ → ℕ → Bool
is_in_pages ram first end address = nat_le (ram.base + 4096 * first) address && nat_lt address (ram.base + 4096 * end)

-- from old to new one endpoint's walk gives another right at these pages, and every other walk is as before
abbrev pub WalksChange : Ram → Ram → ℕ → ℕ → ℕ → ℕ → ℕ → ℕ → Option Rights → Type 0
WalksChange old new endpoints tables blocks endpoint first end right =
    (e address : ℕ) → e < endpoints → address < 2 ^ 32
    → walk new (root_of new.base tables blocks e) address
    ≡ (if e == endpoint && is_in_pages old first end address
    then mapped_answer right address
    else walk old (root_of old.base tables blocks e) address)

-- the RAM stands where it did, and no page but the endpoint's table pages changed
pub record KeepsOthers (old new : Ram) (tables blocks endpoint : ℕ) : Type 0 where
  pub base : new.base ≡ old.base
  pub size : length new.pages ≡ length old.pages
  pub pages :
      (p : ℕ) → ((p < table_page tables blocks endpoint 0) ⊎ (table_page tables blocks (endpoint + 1) 0 ≤ p))
      → page_of new p ≡ page_of old p

-- the RAM stands where it did, and no page but the table pages of this many endpoints changed
pub record KeepsRest (old new : Ram) (endpoints tables blocks : ℕ) : Type 0 where
  pub base : new.base ≡ old.base
  pub size : length new.pages ≡ length old.pages
  pub pages : (p : ℕ) → IsAside endpoints tables blocks p → page_of new p ≡ page_of old p

-- the RAM stands where it did, and no table page of this many endpoints changed
pub record KeepsTables (old new : Ram) (endpoints tables blocks : ℕ) : Type 0 where
  pub base : new.base ≡ old.base
  pub size : length new.pages ≡ length old.pages
  pub pages : (p : ℕ) → tables ≤ p → p < table_page tables blocks endpoints 0 → page_of new p ≡ page_of old p

-- built tables walk to the access
abbrev pub BuiltTablesWalk : Type 0
BuiltTablesWalk =
    (ram : Ram) (endpoints tables blocks : ℕ) (access : ℕ → ℕ → Option Rights)
    → IsBuilt ram endpoints tables blocks access → WalksTo ram endpoints tables blocks access

-- and stay built where their pages stay
abbrev pub BuiltTablesStay : Type 0
BuiltTablesStay =
    (old new : Ram) (endpoints tables blocks : ℕ) (access : ℕ → ℕ → Option Rights)
    → IsBuilt old endpoints tables blocks access → KeepsTables old new endpoints tables blocks → IsBuilt new endpoints tables blocks access

-- and each endpoint's level 1 table begins at a page of the RAM
abbrev pub BuiltTablesBegin : Type 0
BuiltTablesBegin =
    (ram : Ram) (endpoints tables blocks : ℕ) (access : ℕ → ℕ → Option Rights) (e : ℕ)
    → IsBuilt ram endpoints tables blocks access → e < endpoints → is_page_address ram (root_of ram.base tables blocks e) ≡ true

-- all that built tables give
pub record TableLaws : Type 0 where
  pub walk : BuiltTablesWalk
  pub stay : BuiltTablesStay
  pub begin : BuiltTablesBegin
