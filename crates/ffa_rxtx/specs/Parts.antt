-- SPDX-License-Identifier: MIT OR Apache-2.0
-- What the checks of a mapping read, and the bytes of TX and RX, over the parts of the machine.
use Rattle.ffa_model.specs.Access.{Ownership}
use Rattle.std.specs.Prelude.{◌≡◌, ℕ, zero, suc, ◌+◌, ◌≤◌, Bool, false, ◌||◌, List, [], length, take, drop, is_some, Option, None, Some, flat_map}
use Rattle.std.specs.Option.{option_map_or}
use Rattle.ffa_model.specs.Lists.{is_in_run, run}
use Rattle.ffa_model.specs.Ram.{Ram, page_of, with_page, with_bytes}
use Rattle.ffa_model.specs.State.{Buffers}
use Rattle.ffa_physmem.specs.Moments.{IsBeside, IsWriting, Step}
use Rattle.ffa_pages.specs.Entry.{Entry, own_right_at, owner_at, slot_at}

-- RAM at an address as the checks of a call see it, by the entries of its pages
abbrev pub ownership_in : List (Option Entry) → ℕ → Ownership
ownership_in table base =
    record {
      base = base;
      count = length table;
      owner = owner_at table;
      own_right = own_right_at table;
      is_named = λ p. is_some (slot_at table p);
    }

-- the bytes of n pages in a row, and those of TX
abbrev pub run_in : Ram → ℕ → ℕ → List ℕ
run_in ram first n = flat_map (page_of ram) (run first n)

abbrev pub tx_in : Ram → Option Buffers → List ℕ
tx_in ram own = option_map_or (λ (b : Buffers). run_in ram b.tx b.pages) own []

-- the RAM in which these bytes stand in n pages in a row, 4096 in each, and other bytes stay
abbrev pub with_run : ℕ → Ram → ℕ → List ℕ → Ram
with_run zero ram first bytes = ram
with_run (suc n) ram first bytes =
    with_run n (with_page ram first (with_bytes (page_of ram first) 0 (take 4096 bytes))) (first + 1) (drop 4096 bytes)

-- so they stand in RX from its start
abbrev pub with_rx_bytes : Ram → Option Buffers → List ℕ → Ram
with_rx_bytes ram None bytes = ram
with_rx_bytes ram (Some b) bytes = with_run b.pages ram b.rx bytes

-- buffers of one page at least, of which TX and RX are among this many pages
pub record IsInRam (pages : ℕ) (b : Buffers) : Type 0 where
  pub some : 1 ≤ b.pages
  pub tx : b.tx + b.pages ≤ pages
  pub rx : b.rx + b.pages ≤ pages

-- whether TX or RX has a page
abbrev pub have_page : Option Buffers → ℕ → Bool
have_page own p = option_map_or (λ (b : Buffers). is_in_run b.tx b.pages p || is_in_run b.rx b.pages p) own false

-- no page but those of RX differs
pub record IsBesideRx (old ram : Ram) (own : Option Buffers) : Type 0 where
  pub buffers : Buffers
  pub are : own ≡ Some buffers
  pub beside : IsBeside old ram (is_in_run buffers.rx buffers.pages)

-- a step while no page but those of RX differs
pub record IsRxWriting (old : Ram) (own : Option Buffers) (s : Step) : Type 0 where
  pub buffers : Buffers
  pub are : own ≡ Some buffers
  pub writing : IsWriting old (is_in_run buffers.rx buffers.pages) s
