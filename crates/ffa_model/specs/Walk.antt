-- SPDX-License-Identifier: MIT OR Apache-2.0
-- The stage 2 walk of Armv8-A with the 4 KiB granule (DDI 0487, D8.2 and D8.3): 32 bits of input, the first look-up
-- at level 1. It is asked of any bytes in RAM.
use Rattle.std.specs.Prelude.{ℕ, ◌+◌, ◌-◌, ◌*◌, ◌/◌, ◌%◌, ◌^◌, Bool, true, ◌==◌, ◌&&◌, nat_lt, nat_le, if◌then◌else◌, length, Option, None, Some, Result, Ok, Err}
use Rattle.ffa_model.specs.Bits.{bits}
use Rattle.ffa_model.specs.Ram.{Ram, page_of, word_of}
use Rattle.ffa_model.specs.Rights.{may_write}
use Rattle.ffa_model.specs.declared.leaf.Leaf.{Leaf}
use Rattle.ffa_model.specs.declared.rights.Rights.{Rights}
use Rattle.ffa_model.specs.declared.operation.FaultKind.{FaultKind}
use Rattle.ffa_model.specs.declared.operation.FaultKind.TheVariants.{Translation, AccessFlag, OutsideRam}

abbrev pub Answer : Type 0
Answer = Result Leaf FaultKind

-- whether a byte of the RAM stands at an address, and whether a page of it begins there
abbrev pub is_in_ram : Ram → ℕ → Bool
is_in_ram ram address = nat_le ram.base address && nat_lt address (ram.base + 4096 * length ram.pages)

abbrev pub is_page_address : Ram → ℕ → Bool
is_page_address ram address = address % 4096 == 0 && is_in_ram ram address

-- the word at place `index` of the table at an address
abbrev pub entry : Ram → ℕ → ℕ → ℕ
entry ram table index = word_of (page_of ram ((table - ram.base) / 4096)) index

-- what a leaf descriptor says: AF is bit 10, S2AP is bit 6 to read and bit 7 to write, XN is bit 54. What may
-- not be read may not be executed: each right that the manager writes may be read, so that is chosen for other tables
unfoldable pub leaf_of : ℕ → ℕ → Answer
leaf_of word address =
    if bits 10 10 word == 0
    then Err AccessFlag
    else Ok (record {
      phys = address;
      read = bits 6 6 word == 1;
      write = bits 7 7 word == 1;
      exec = bits 6 6 word == 1 && bits 54 54 word == 0;
    })

-- bits 1:0 of a word at levels 1 and 2: x0 is invalid, 01 a block, 11 a table
abbrev pub by_type : ℕ → Answer → Answer → Answer
by_type word block table =
    if bits 0 0 word == 0 then Err Translation else (if bits 1 1 word == 0 then block else table)

-- the walk goes on in the table that a word names, which has to be a page of the RAM
abbrev pub in_table : Ram → ℕ → (ℕ → Answer) → Answer
in_table ram word next =
    if is_page_address ram (bits 47 12 word * 2 ^ 12) then next (bits 47 12 word * 2 ^ 12) else Err OutsideRam

-- the walk from a word of level 3, where type 01 is invalid
unfoldable pub from_level3 : ℕ → ℕ → Answer
from_level3 word address =
    if bits 1 0 word == 3 then leaf_of word (bits 47 12 word * 2 ^ 12 + bits 11 0 address) else Err Translation

-- from a word of level 2: a block of 2 MiB, or a table of level 3
unfoldable pub from_level2 : Ram → ℕ → ℕ → Answer
from_level2 ram word address =
    by_type word
    (leaf_of word (bits 47 21 word * 2 ^ 21 + bits 20 0 address))
    (in_table ram word (λ table. from_level3 (entry ram table (bits 20 12 address)) address))

-- from a word of level 1: a block of 1 GiB, or a table of level 2
unfoldable pub from_level1 : Ram → ℕ → ℕ → Answer
from_level1 ram word address =
    by_type word
    (leaf_of word (bits 47 30 word * 2 ^ 30 + bits 29 0 address))
    (in_table ram word (λ table. from_level2 ram (entry ram table (bits 29 21 address)) address))

-- the walk from the level 1 table at `root`
unfoldable pub walk : Ram → ℕ → ℕ → Answer
walk ram root address =
    if nat_lt address (2 ^ 32) then from_level1 ram (entry ram root (bits 31 30 address)) address else Err Translation

-- what the walk to a page that is mapped to itself has to answer where an endpoint has this right to it
unfoldable pub mapped_answer : Option Rights → ℕ → Answer
mapped_answer None address = Err Translation
mapped_answer (Some r) address = Ok (record { phys = address; read = true; write = may_write r.level; exec = r.exec })
