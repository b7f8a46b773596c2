-- SPDX-License-Identifier: MIT OR Apache-2.0
-- The pages of RAM that are neither the tables' nor an endpoint's: those that the manager keeps for itself.
use Rattle.std.specs.Prelude.{◌≡◌, ℕ, length, None, Some}
use Rattle.ffa_model.specs.Agreement.{blocks_of}
use Rattle.ffa_model.specs.Ram.{Ram, page_of}
use Rattle.ffa_model.specs.State.{State, Page, page_at}
use Rattle.ffa_stage2.specs.Tables.{IsAside}

-- a page is none of the tables'
abbrev pub IsNoTable : State → ℕ → Type 0
IsNoTable s p = IsAside (length s.parties) s.tables (blocks_of s) p

-- from one RAM to another each page but the tables' that nobody owns keeps its bytes
abbrev pub KeepsUnowned : State → Ram → Ram → Type 0
KeepsUnowned s old new = (p : ℕ) → IsNoTable s p → page_at s p ≡ None → page_of new p ≡ page_of old p

-- nobody owns the tables' pages
abbrev pub OwnsNoTables : State → Type 0
OwnsNoTables s = (p : ℕ) (page : Page) → page_at s p ≡ Some page → IsNoTable s p
