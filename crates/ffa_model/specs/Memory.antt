-- SPDX-License-Identifier: MIT OR Apache-2.0
-- Bytes of pages, and the runner's loads, stores and fetches: alignment, then translation, then permission.
use Rattle.std.specs.Prelude.{ℕ, zero, suc, ◌+◌, ◌-◌, ◌/◌, ◌%◌, ◌^◌, ◌==◌, Bool, true, ◌&&◌, nat_lt, nat_le, List, [], take, drop, Option, Some, None, is_some, replicate, slice_index_or, slice_set, if◌then◌else◌}
use Rattle.byteorder.specs.Endian.{little_bytes}
use Rattle.std.specs.List.{flat_map}
use Rattle.std.specs.Option.{option_map, option_map_or, option_and_then}
use Rattle.ffa_model.specs.declared.rights.Rights.{Rights}
use Rattle.ffa_model.specs.declared.transaction.Range.{Range}
use Rattle.ffa_model.specs.declared.operation.Size.{Size}
use Rattle.ffa_model.specs.declared.operation.Size.TheVariants.{B1, B2, B4, B8}
use Rattle.ffa_model.specs.declared.operation.FaultKind.{FaultKind}
use Rattle.ffa_model.specs.declared.operation.FaultKind.TheVariants.{Translation, Permission, Alignment}
use Rattle.ffa_model.specs.declared.operation.Outcome.{Outcome}
use Rattle.ffa_model.specs.declared.operation.Outcome.TheVariants.{Data, Done, Fault}
use Rattle.ffa_model.specs.Numbers.{Identifier, PageIndex}
use Rattle.ffa_model.specs.Lists.{map_at, run}
use Rattle.ffa_model.specs.Rights.{may_store, may_fetch}
use Rattle.ffa_model.specs.Ram.{number_in, with_bytes}
use Rattle.ffa_model.specs.State.{State, Page, page_at}
use Rattle.ffa_model.specs.Access.{access, names}
use Rattle.ffa_model.specs.Calls.{Stepped}

abbrev pub size_of : Size → ℕ
size_of B1 = 1
size_of B2 = 2
size_of B4 = 4
size_of B8 = 8

abbrev pub page_bytes : State → PageIndex → List ℕ
page_bytes s p = option_map_or (λ (page : Page). page.bytes) (page_at s p) []

-- the bytes of n pages in a row
abbrev pub run_bytes : State → ℕ → ℕ → List ℕ
run_bytes s first n = flat_map (page_bytes s) (run first n)

-- an owned page with other bytes from a place on; no page of the manager changes
abbrev pub page_with : ℕ → List ℕ → Option Page → Option Page
page_with at bytes page = option_map (λ (q : Page). record q { bytes = with_bytes q.bytes at bytes }) page

abbrev pub written_pages : List (Option Page) → PageIndex → ℕ → List ℕ → List (Option Page)
written_pages pages p at bytes = slice_set pages p (page_with at bytes (slice_index_or pages p None))

-- bytes stand in n pages in a row, 4096 in each
abbrev pub written_run : ℕ → List (Option Page) → ℕ → List ℕ → List (Option Page)
written_run zero pages first bytes = pages
written_run (suc n) pages first bytes =
    written_run n (written_pages pages first 0 (take 4096 bytes)) (first + 1) (drop 4096 bytes)

abbrev pub written : State → PageIndex → ℕ → List ℕ → State
written s p at bytes = record s { pages = written_pages s.pages p at bytes }

-- the pages that the ranges name are changed
abbrev pub changed_pages : State → List Range → (Option Page → Option Page) → List (Option Page)
changed_pages s ranges change = map_at (λ p page. if names s ranges p then change page else page) s.pages

abbrev pub with_pages : State → List Range → (Option Page → Option Page) → State
with_pages s ranges change = record s { pages = changed_pages s ranges change }

abbrev pub zeroed_page : Option Page → Option Page
zeroed_page page = option_map (λ (q : Page). record q { bytes = replicate 4096 0 }) page

-- the pages that the ranges name are all zeros, where that is asked
abbrev pub zeroed_if : Bool → State → List Range → State
zeroed_if asked s ranges = record s { pages = if asked then changed_pages s ranges zeroed_page else s.pages }

-- the page of an address below 2 ^ 32; `page_at` has none past RAM's end
abbrev pub page_of_address : State → ℕ → Option PageIndex
page_of_address s address =
    if nat_le s.ram_base address && nat_lt address (2 ^ 32) then Some ((address - s.ram_base) / 4096) else None

-- the right of an endpoint to the byte at an address
abbrev pub access_at : State → Identifier → ℕ → Option Rights
access_at s e address = option_and_then (access s e) (page_of_address s address)

-- the fault of an access, if there is one
abbrev pub fault_of : Bool → Option Rights → (Option Rights → Bool) → Option FaultKind
fault_of aligned right allowed =
    if aligned
    then (if is_some right then (if allowed right then None else Some Permission) else Some Translation)
    else Some Alignment

-- an access that ended in this fault, or in none: a fault changes nothing
abbrev pub accessed : Option FaultKind → State → State → Outcome → Stepped
accessed None old new outcome = record { state = new; outcome = outcome }
accessed (Some fault) old new outcome = record { state = old; outcome = Fault fault }

-- the number in n bytes at an address, the lowest first
abbrev pub number_at : State → ℕ → ℕ → ℕ
number_at s address n = number_in (page_bytes s ((address - s.ram_base) / 4096)) (address % 4096) n

abbrev pub stored : State → ℕ → List ℕ → State
stored s address bytes = written s ((address - s.ram_base) / 4096) (address % 4096) bytes

abbrev pub read_fault : State → ℕ → ℕ → Option FaultKind
read_fault s address n = fault_of (address % n == 0) (access_at s s.runner address) (λ right. true)

abbrev pub store_fault : State → ℕ → ℕ → Option FaultKind
store_fault s address n = fault_of (address % n == 0) (access_at s s.runner address) may_store

abbrev pub fetch_fault : State → ℕ → Option FaultKind
fetch_fault s address = fault_of (address % 4 == 0) (access_at s s.runner address) may_fetch

abbrev pub load : State → ℕ → Size → Stepped
load s address size = accessed (read_fault s address (size_of size)) s s (Data (number_at s address (size_of size)))

abbrev pub store : State → ℕ → Size → ℕ → Stepped
store s address size value =
    accessed (store_fault s address (size_of size)) s (stored s address (little_bytes (size_of size) value)) Done

abbrev pub fetch : State → ℕ → Stepped
fetch s address = accessed (fetch_fault s address) s s (Data (number_at s address 4))
