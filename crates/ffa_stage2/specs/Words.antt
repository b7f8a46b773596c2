-- SPDX-License-Identifier: MIT OR Apache-2.0
-- FOR PROOFS ALONE
-- The table pages, word by word, on the way to built tables.
use Rattle.std.specs.Prelude.{◌≡◌, ℕ, zero, suc, ◌+◌, ◌-◌, ◌*◌, ◌<◌, ◌==◌, ◌&&◌, ◌||◌, Bool, nat_le, nat_lt, if◌then◌else◌, length, Option, None}
use Rattle.ffa_model.specs.Ram.{Ram, page_of, word_of}
use Rattle.ffa_model.specs.Manifest.{table_pages}
use Rattle.ffa_model.specs.Descriptor.{page_word}
use Rattle.ffa_model.specs.declared.rights.Rights.{Rights}
use Rattle.ffa_stage2.specs.Tables.{HasRoom, table_page, table_link, level1_place, level2_place}

-- word j of endpoint e's table page s, where its pages have these rights
unfoldable pub built_word : ℕ → ℕ → ℕ → ℕ → (ℕ → Option Rights) → ℕ → ℕ → ℕ
built_word base tables blocks e rights zero j = if j == level1_place base then table_link base tables blocks e 1 else 0
built_word base tables blocks e rights (suc zero) j =
    if nat_le (level2_place base) j && nat_lt j (level2_place base + blocks)
    then table_link base tables blocks e (2 + (j - level2_place base))
    else 0
built_word base tables blocks e rights (suc (suc k)) j =
    page_word (base + 4096 * (512 * k + j)) (rights (512 * k + j))

-- the words of built tables
abbrev pub built_words : ℕ → ℕ → ℕ → (ℕ → ℕ → Option Rights) → ℕ → ℕ → ℕ → ℕ
built_words base tables blocks access e s j = built_word base tables blocks e (access e) s j

-- word j of endpoint e's table page s is `word e s j`
pub record TablesAre (ram : Ram) (endpoints tables blocks : ℕ) (word : ℕ → ℕ → ℕ → ℕ) : Type 0 where
  pub fits : HasRoom ram endpoints tables blocks
  pub whole : (e s : ℕ) → e < endpoints → s < table_pages blocks → length (page_of ram (table_page tables blocks e s)) ≡ 4096
  pub words :
      (e s j : ℕ) → e < endpoints → s < table_pages blocks → j < 512
      → word_of (page_of ram (table_page tables blocks e s)) j ≡ word e s j

-- nobody has a right
abbrev pub no_access : ℕ → ℕ → Option Rights
no_access e p = None

-- the tables of the first `done` endpoints stand, and the others are zeros
abbrev pub linked : ℕ → ℕ → ℕ → ℕ → ℕ → ℕ → ℕ → ℕ
linked base tables blocks done e s j = if nat_lt e done then built_words base tables blocks no_access e s j else 0

-- whether word j of endpoint e's table page s stands where all endpoints before `done` are linked, and of endpoint `done`
-- the level 1 page and k blocks
abbrev pub is_linked : ℕ → ℕ → ℕ → ℕ → ℕ → ℕ → Bool
is_linked base done k e s j =
    nat_lt e done || (e == done && (s == 0 || (s == 1 && nat_lt j (level2_place base + k))))

abbrev pub linking : ℕ → ℕ → ℕ → ℕ → ℕ → ℕ → ℕ → ℕ → ℕ
linking base tables blocks done k e s j = if is_linked base done k e s j then built_words base tables blocks no_access e s j else 0

-- the access where the endpoints before `done` have their rights, and endpoint `done` those to the first pages
abbrev pub rights_until : (ℕ → ℕ → Option Rights) → ℕ → ℕ → ℕ → ℕ → Option Rights
rights_until rights done page e p = if nat_lt e done || (e == done && nat_lt p page) then rights e p else None
