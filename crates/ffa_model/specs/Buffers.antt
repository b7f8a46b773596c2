-- SPDX-License-Identifier: MIT OR Apache-2.0
-- The RX and TX buffers (DEN0077A, 7.2).
use Rattle.std.specs.Prelude.{ℕ, ◌+◌, ◌*◌, ◌-◌, ◌/◌, ◌%◌, ◌==◌, Bool, true, false, not, ◌&&◌, ◌||◌, nat_le, is_none, is_some, List, [], ◌∷◌, Option, Some, None, slice_index_or, slice_set}
use Rattle.std.specs.List.{list_all}
use Rattle.std.specs.Option.{option_map, option_map_or}
use Rattle.ffa_model.specs.declared.limits.TheConstants.{MOST_BUFFER_PAGES}
use Rattle.ffa_model.specs.declared.refusal.Refusal.{Refusal}
use Rattle.ffa_model.specs.declared.refusal.Refusal.TheVariants.{BuffersMapped, BufferPageCount, TxMisplaced, RxMisplaced, BuffersOverlap, TxUnusable, RxUnusable, EndpointNotZero, BuffersMissing, RxEmpty}
use Rattle.ffa_model.specs.Numbers.{Identifier, PageIndex}
use Rattle.ffa_model.specs.Identifiers.{place}
use Rattle.ffa_model.specs.Lists.{run}
use Rattle.ffa_model.specs.Manifest.{is_from_to}
use Rattle.ffa_model.specs.Rights.{may_store}
use Rattle.ffa_model.specs.State.{State, Page, Buffers, buffers_of}
use Rattle.ffa_model.specs.Access.{Ownership, ownership_of}
use Rattle.ffa_model.specs.Memory.{written_run}
use Rattle.ffa_model.specs.Calls.{Service, success}

-- the buffers of e in a list by endpoint, and the list in which e has these, or none
abbrev pub buffers_in : List (Option Buffers) → Identifier → Option Buffers
buffers_in list e = slice_index_or list (place e) None

abbrev pub buffers_with : List (Option Buffers) → Identifier → Option Buffers → List (Option Buffers)
buffers_with list e buffers = slice_set list (place e) buffers

-- RX of e is full, or empty
abbrev pub buffers_with_rx : List (Option Buffers) → Identifier → Bool → List (Option Buffers)
buffers_with_rx list e full =
    buffers_with list e (option_map (λ (buffers : Buffers). record buffers { full = full }) (buffers_in list e))

abbrev pub is_full : Option Buffers → Bool
is_full own = option_map_or (λ (b : Buffers). b.full) own false

-- the number of the page at an address
abbrev pub page_number : ℕ → ℕ → ℕ
page_number base address = (address - base) / 4096

-- whether an address is that of the first of n pages in a row, all in RAM
abbrev pub is_run_address : Ownership → ℕ → ℕ → Bool
is_run_address ram n address =
    (address % 4096 == 0 && nat_le ram.base address) && nat_le (page_number ram.base address + n) ram.count

-- whether two runs of n pages have no page in common
abbrev pub are_runs_apart : ℕ → ℕ → ℕ → Bool
are_runs_apart n first other = nat_le (first + n) other || nat_le (other + n) first

-- a page that e owns, and that no open transaction names
abbrev pub is_own : Identifier → Ownership → PageIndex → Bool
is_own e ram p = (is_some (ram.own_right p) && ram.owner p == e) && not (ram.is_named p)

-- and whose own right is rw
abbrev pub is_usable : Identifier → Ownership → PageIndex → Bool
is_usable e ram p = is_own e ram p && may_store (ram.own_right p)

-- e may have a buffer in the n pages from an address on
abbrev pub are_usable_at : Identifier → Ownership → ℕ → ℕ → Bool
are_usable_at e ram n address = list_all (is_usable e ram) (run (page_number ram.base address) n)

-- how many bytes TX has, and RX
abbrev pub room_of : Option Buffers → ℕ
room_of own = option_map_or (λ (b : Buffers). 4096 * b.pages) own 0

-- the checks of each call, in order, for an endpoint e with these buffers of its own
abbrev pub map_guards : Identifier → Option Buffers → Ownership → ℕ → ℕ → ℕ → List (Bool × Refusal)
map_guards e own ram tx rx pages =
    (is_none own, BuffersMapped)
    ∷ (is_from_to 1 MOST_BUFFER_PAGES pages, BufferPageCount)
    ∷ (is_run_address ram pages tx, TxMisplaced)
    ∷ (is_run_address ram pages rx, RxMisplaced)
    ∷ (are_runs_apart pages (page_number ram.base tx) (page_number ram.base rx), BuffersOverlap)
    ∷ (are_usable_at e ram pages tx, TxUnusable)
    ∷ (are_usable_at e ram pages rx, RxUnusable)
    ∷ []

abbrev pub unmap_guards : Option Buffers → ℕ → List (Bool × Refusal)
unmap_guards own endpoint = (endpoint == 0, EndpointNotZero) ∷ (is_some own, BuffersMissing) ∷ []

abbrev pub release_guards : Option Buffers → List (Bool × Refusal)
release_guards own = (is_full own, RxEmpty) ∷ []

-- the buffers of this many pages each from these addresses on, with RX empty
abbrev pub new_buffers : ℕ → ℕ → ℕ → ℕ → Buffers
new_buffers base tx rx pages =
    record { tx = page_number base tx; rx = page_number base rx; pages = pages; full = false }

-- ON A STATE
abbrev pub with_buffers : State → Identifier → Option Buffers → State
with_buffers s e own = record s { buffers = buffers_with s.buffers e own }

abbrev pub with_rx : State → Identifier → Bool → State
with_rx s e full = record s { buffers = buffers_with_rx s.buffers e full }

-- the pages, where these bytes stand in RX from its start, and its other bytes stay
abbrev pub filled_pages : List (Option Page) → List ℕ → Option Buffers → List (Option Page)
filled_pages pages bytes None = pages
filled_pages pages bytes (Some buffers) = written_run buffers.pages pages buffers.rx bytes

-- so they stand in RX of e, which is full
abbrev pub filled : State → Identifier → List ℕ → State
filled s e bytes =
    record s { pages = filled_pages s.pages bytes (buffers_of s e); buffers = buffers_with_rx s.buffers e true }

abbrev pub rxtx_map : State → ℕ → ℕ → ℕ → Service
rxtx_map s tx rx pages =
    record {
      guards = map_guards s.runner (buffers_of s s.runner) (ownership_of s) tx rx pages;
      state = with_buffers s s.runner (Some (new_buffers s.ram_base tx rx pages));
      reply = success 0 0;
    }

abbrev pub rxtx_unmap : State → ℕ → Service
rxtx_unmap s endpoint =
    record { guards = unmap_guards (buffers_of s s.runner) endpoint; state = with_buffers s s.runner None; reply = success 0 0 }

abbrev pub rx_release : State → Service
rx_release s =
    record { guards = release_guards (buffers_of s s.runner); state = with_rx s s.runner false; reply = success 0 0 }
