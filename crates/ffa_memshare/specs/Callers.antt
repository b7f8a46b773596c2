-- SPDX-License-Identifier: MIT OR Apache-2.0
-- Who makes a call whose descriptor stands in TX.
use Rattle.std.specs.Prelude.{◌≡◌, ◌≤◌, ℕ, Bool, true, false, List, length, Option, Some}
use Rattle.ffa_model.specs.declared.limits.TheConstants.{MOST_ENDPOINTS}
use Rattle.ffa_model.specs.Buffers.{buffers_in}
use Rattle.ffa_model.specs.Lists.{is_in_run}
use Rattle.ffa_model.specs.State.{Buffers, Transaction, is_known_among}
use Rattle.ffa_rxtx.specs.Parts.{IsInRam}
use Rattle.ffa_memshare.specs.Changes.{AreAside}
use Rattle.ffa_memshare.specs.Memory.{Memory, MemoryParts}
use Rattle.ffa_memshare.specs.Ranges.{in_ranges}
use Rattle.ffa_memshare.specs.Stored.{pool_slot}

-- one of the endpoints, whose buffers, if it has any, are in RAM
pub record IsCaller (memory : Memory) (buffers : List (Option Buffers)) (e : ℕ) : Type 0 where
  pub some : 1 ≤ memory.endpoints
  pub few : memory.endpoints ≤ MOST_ENDPOINTS
  pub known : is_known_among memory.endpoints e ≡ true
  pub size : length buffers ≡ memory.endpoints
  pub inside : (b : Buffers) → buffers_in buffers e ≡ Some b → IsInRam (length memory.ram.pages) b

-- RX of the buffers, if there are any, is none of the tables, and none of the pages that are named
pub record IsRxApart (memory : Memory) (own : Option Buffers) (named : ℕ → Bool) : Type 0 where
  pub aside : (b : Buffers) → own ≡ Some b → AreAside memory.endpoints memory.tables memory.blocks (is_in_run b.rx b.pages)
  pub apart : (b : Buffers) → own ≡ Some b → (p : ℕ) → is_in_run b.rx b.pages p ≡ true → named p ≡ false

-- RX of e is so of the pages of each open transaction
abbrev pub IsRxApartOfOpen : MemoryParts → ℕ → Type 0
IsRxApartOfOpen parts e =
    (k h : ℕ) (t : Transaction) → pool_slot parts.pool.slots k ≡ Some (h, t)
    → IsRxApart parts.memory (buffers_in parts.buffers e) (in_ranges parts.memory.base t.ranges)
