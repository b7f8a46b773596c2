-- SPDX-License-Identifier: MIT OR Apache-2.0
-- When RAM agrees with a state: the Armv8-A walk of every endpoint's table in the RAM's own bytes gives, for every
-- input address below 2 ^ 32, exactly the endpoint's access, and the endpoints' pages hold the state's bytes.
use Rattle.std.specs.Prelude.{◌≡◌, ℕ, ◌<◌, ◌/◌, ◌^◌, List, length, Some}
use Rattle.ffa_model.specs.Lists.{listed}
use Rattle.ffa_model.specs.Manifest.{root_of}
use Rattle.ffa_model.specs.Ram.{Ram, page_of}
use Rattle.ffa_model.specs.Walk.{walk, mapped_answer}
use Rattle.ffa_model.specs.Identifiers.{identifier}
use Rattle.ffa_model.specs.State.{State, Page, page_at}
use Rattle.ffa_model.specs.Memory.{access_at}

-- RAM has 512 pages a block
abbrev pub blocks_of : State → ℕ
blocks_of s = length s.pages / 512

-- the address of the level 1 table of the endpoint at a place in the manifest
abbrev pub root : State → ℕ → ℕ
root s index = root_of s.ram_base s.tables (blocks_of s) index

-- the same of each endpoint
abbrev pub roots_of : State → List ℕ
roots_of s = listed (length s.parties) (root s)

pub record Agrees (ram : Ram) (s : State) : Type 0 where
  pub place : ram.base ≡ s.ram_base
  pub size : length ram.pages ≡ length s.pages
  pub walks :
      (index address : ℕ) → index < length s.parties → address < 2 ^ 32
      → walk ram (root s index) address ≡ mapped_answer (access_at s (identifier index) address) address
  pub bytes : (p : ℕ) (page : Page) → page_at s p ≡ Some page → page_of ram p ≡ page.bytes
