-- SPDX-License-Identifier: MIT OR Apache-2.0
-- Loads, stores and fetches over the walk, of any bytes in RAM. What an access comes to is said of what a walk answered,
-- so that it can be said of an answer that was kept, too.
use Rattle.std.specs.Prelude.{ℕ, ◌-◌, ◌/◌, ◌%◌, Bool, ◌==◌, if◌then◌else◌, List, Result, Ok, Err, ⊤}
use Rattle.byteorder.specs.Endian.{little_bytes}
use Rattle.ffa_model.specs.Ram.{Ram, page_of, with_page, number_in, with_bytes}
use Rattle.ffa_model.specs.Walk.{Answer, is_in_ram, walk}
use Rattle.ffa_model.specs.declared.leaf.Leaf.{Leaf}
use Rattle.ffa_model.specs.declared.operation.FaultKind.{FaultKind}
use Rattle.ffa_model.specs.declared.operation.FaultKind.TheVariants.{Alignment, Permission, OutsideRam}

-- the page of a physical address, and the address's place in it
abbrev pub page_index : Ram → ℕ → ℕ
page_index ram address = (address - ram.base) / 4096

abbrev pub offset : Ram → ℕ → ℕ
offset ram address = (address - ram.base) % 4096

-- the number in the n bytes at a physical address, the lowest first
abbrev pub number_in_ram : Ram → ℕ → ℕ → ℕ
number_in_ram ram address n = number_in (page_of ram (page_index ram address)) (offset ram address) n

-- the RAM with other bytes from a physical address on, all in one page
abbrev pub with_bytes_at : Ram → ℕ → List ℕ → Ram
with_bytes_at ram address bytes =
    with_page ram (page_index ram address) (with_bytes (page_of ram (page_index ram address)) (offset ram address) bytes)

-- what an access needs of the leaf
abbrev pub may_load : Leaf → Bool
may_load leaf = leaf.read

abbrev pub may_store_to : Leaf → Bool
may_store_to leaf = leaf.write

abbrev pub may_execute : Leaf → Bool
may_execute leaf = leaf.exec

-- where an access ends: the physical address, or the first fault of alignment, walk, right and RAM
abbrev pub at_leaf : Ram → (Leaf → Bool) → Answer → Result ℕ FaultKind
at_leaf ram allowed (Err fault) = Err fault
at_leaf ram allowed (Ok leaf) =
    if allowed leaf then (if is_in_ram ram leaf.phys then Ok leaf.phys else Err OutsideRam) else Err Permission

-- where an access of this size ends, by what a walk of its address answered, and over the tables at a root
unfoldable pub reach_by : Ram → Answer → ℕ → ℕ → (Leaf → Bool) → Result ℕ FaultKind
reach_by ram walked address size allowed = if address % size == 0 then at_leaf ram allowed walked else Err Alignment

abbrev pub reach : Ram → ℕ → ℕ → ℕ → (Leaf → Bool) → Result ℕ FaultKind
reach ram root address size allowed = reach_by ram (walk ram root address) address size allowed

-- what an access answers: something of the physical address where it ends, or the fault
abbrev pub at_end : {X : Type 0} → (ℕ → X) → Result ℕ FaultKind → Result X FaultKind
at_end value (Ok physical) = Ok (value physical)
at_end value (Err fault) = Err fault

-- what a load or a fetch of n bytes gives
abbrev pub loaded_by : Ram → Answer → ℕ → ℕ → (Leaf → Bool) → Result ℕ FaultKind
loaded_by ram walked address n allowed =
    at_end (λ physical. number_in_ram ram physical n) (reach_by ram walked address n allowed)

abbrev pub loaded : Ram → ℕ → ℕ → ℕ → (Leaf → Bool) → Result ℕ FaultKind
loaded ram root address n allowed = loaded_by ram (walk ram root address) address n allowed

-- whether a store of n bytes is done, or its fault
abbrev pub store_answer_by : Ram → Answer → ℕ → ℕ → Result ⊤ FaultKind
store_answer_by ram walked address n = at_end (λ physical. tt) (reach_by ram walked address n may_store_to)

abbrev pub store_answer : Ram → ℕ → ℕ → ℕ → Result ⊤ FaultKind
store_answer ram root address n = store_answer_by ram (walk ram root address) address n

-- the RAM with other bytes where an access ends: a fault changes nothing
abbrev pub with_bytes_reached : Ram → List ℕ → Result ℕ FaultKind → Ram
with_bytes_reached ram bytes (Ok physical) = with_bytes_at ram physical bytes
with_bytes_reached ram bytes (Err fault) = ram

-- the RAM after a store of a number's lowest n bytes
abbrev pub ram_after_store_by : Ram → Answer → ℕ → ℕ → ℕ → Ram
ram_after_store_by ram walked address n value =
    with_bytes_reached ram (little_bytes n value) (reach_by ram walked address n may_store_to)

abbrev pub ram_after_store : Ram → ℕ → ℕ → ℕ → ℕ → Ram
ram_after_store ram root address n value = ram_after_store_by ram (walk ram root address) address n value
