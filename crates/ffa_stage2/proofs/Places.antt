-- SPDX-License-Identifier: MIT OR Apache-2.0
-- Where the table pages stand.
use Rattle.std.proofs.Common.{◌≡◌, ℕ, ◌+◌, ◌*◌, ◌%◌, ◌<◌, ◌≤◌, true, false, arith, length, inl, inr, List, subst, sym}
use Rattle.std.proofs.lemmas.Bool.Decides.{nat_tests}
use Rattle.std.proofs.lemmas.Nat.{mul-add-lt}
use Rattle.ffa_model.specs.Ram.{Ram}
use Rattle.ffa_model.specs.Manifest.{table_pages, root_of}
use Rattle.ffa_model.specs.Walk.{is_in_ram, is_page_address}
use Rattle.ffa_model.specs.Manifest.{is_accepted}
use Rattle.ffa_model.specs.declared.endpoint.Endpoint.{Endpoint}
use Rattle.ffa_model.proofs.Accepted.{accepted}
use Rattle.ffa_stage2.specs.Tables.{HasRoom, IsAside, table_page}

-- whether the RAM has an address
pub is_in_ram-inside : (ram : Ram) (a : ℕ) → ram.base ≤ a → a < ram.base + 4096 * length ram.pages → is_in_ram ram a ≡ true
is_in_ram-inside ram a low high = grind (arith, nat_tests)

pub is_in_ram-outside : (ram : Ram) (a : ℕ) → (ram.base ≤ a → a < ram.base + 4096 * length ram.pages → ⊥) → is_in_ram ram a ≡ false
is_in_ram-outside ram a h = grind (arith, nat_tests)

-- a table page is before the end of the table pages
pub table_page-below_end : (n tables b e s : ℕ) → e < n → s < table_pages b → table_page tables b e s < tables + n * table_pages b
table_page-below_end n tables b e s he hs = omega (arith, mul-add-lt e (2 + b) s n he hs)

-- one of the table pages
abbrev pub IsTablePage : ℕ → ℕ → ℕ → ℕ → Type 0
IsTablePage n tables b p = (tables ≤ p) × (p < table_page tables b n 0)

pub table_page-there : (n tables b e s : ℕ) → e < n → s < table_pages b → IsTablePage n tables b (table_page tables b e s)
table_page-there n tables b e s he hs = (omega arith, omega (arith, table_page-below_end n tables b e s he hs))

pub not-both : (n tables b p : ℕ) → IsTablePage n tables b p → IsAside n tables b p → ⊥
not-both n tables b p (from, below) (inl before) = absurd (omega (arith, from, before))
not-both n tables b p (from, below) (inr behind) = absurd (omega (arith, below, behind))

-- a table page is one of the RAM's pages
pub table_page-below : (ram : Ram) (n tables b e s : ℕ) → HasRoom ram n tables b → e < n → s < table_pages b → table_page tables b e s < length ram.pages
table_page-below ram n tables b e s fits he hs = omega (arith, table_page-below_end n tables b e s he hs, fits.room, fits.size)

-- the address of a table page
pub table_page-address : (ram : Ram) (n tables b e s : ℕ) → HasRoom ram n tables b → e < n → s < table_pages b
    → is_page_address ram (ram.base + 4096 * table_page tables b e s) ≡ true
table_page-address ram n tables b e s fits he hs =
    let below : table_page tables b e s < length ram.pages = table_page-below ram n tables b e s fits he hs in
    let place : ram.base % 0x200000 ≡ 0 = fits.place in
    let aligned : (ram.base + 4096 * table_page tables b e s) % 4096 ≡ 0 = omega arith in
    rw (aligned, is_in_ram-inside ram (ram.base + 4096 * table_page tables b e s) (omega arith) (omega arith))

-- the address of an endpoint's level 1 page
pub root-address : (ram : Ram) (n tables b e : ℕ) → HasRoom ram n tables b → e < n → is_page_address ram (root_of ram.base tables b e) ≡ true
root-address ram n tables b e fits he =
    let top : root_of ram.base tables b e ≡ ram.base + 4096 * table_page tables b e 0 = omega arith in
    rw top (table_page-address ram n tables b e 0 fits he (omega arith))

-- the RAM of an accepted manifest has room for the tables
pub accepted-room : (base tables b : ℕ) (es : List Endpoint) (n : ℕ) → is_accepted base tables b es ≡ true → n ≡ length es → tables + n * table_pages b ≤ 512 * b
accepted-room base tables b es n h count = subst (λ k. tables + k * table_pages b ≤ 512 * b) (sym count) (accepted base tables b es h).room
