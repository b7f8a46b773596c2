-- SPDX-License-Identifier: MIT OR Apache-2.0
-- FOR PROOFS ALONE
-- What walks answer at the addresses of a span, and what runs of pages say there.
use Rattle.std.specs.Prelude.{◌≡◌, ℕ, ◌+◌, ◌*◌, ◌/◌, ◌%◌, ◌^◌, ◌<◌, ◌≤◌, ◌==◌, if◌then◌else◌, Bool, List, Option, Some, None, Ok, Err}
use Rattle.ffa_model.specs.Certified.{access_in, access_to, certified_answer}
use Rattle.ffa_model.specs.Ram.{Ram}
use Rattle.ffa_model.specs.Bits.{bits, is_set}
use Rattle.ffa_model.specs.Walk.{Answer, entry, from_level1, from_level2, from_level3, leaf_of}
use Rattle.ffa_model.specs.declared.certificate.CertRun.{CertRun}
use Rattle.ffa_model.specs.declared.operation.FaultKind.TheVariants.{Translation}
use Rattle.ffa_model.specs.declared.rights.Rights.{Rights}
use Rattle.ffa_physmem.specs.Levels.{shift}
use Rattle.ffa_physmem.specs.declared.descriptor.Level.{Level}
use Rattle.ffa_physmem.specs.declared.descriptor.Level.TheVariants.{One, Two, Three}

-- answers that runs of pages give for the endpoint at a place, at the addresses of a span
abbrev pub AreCertified : Ram → List CertRun → ℕ → ℕ → ℕ → (ℕ → Answer) → Type 0
AreCertified ram runs place start size answer =
    (address : ℕ) → start ≤ address → address < start + size → answer address ≡ certified_answer ram runs place address

-- the runs give one access to all addresses of a span
abbrev pub HaveAccess : Ram → List CertRun → ℕ → ℕ → ℕ → Option Rights → Type 0
HaveAccess ram runs place start size right =
    (address : ℕ) → start ≤ address → address < start + size → access_to ram runs place address ≡ right

-- the same of pages
abbrev pub HavePages : List CertRun → ℕ → ℕ → ℕ → Option Rights → Type 0
HavePages runs place first end right = (p : ℕ) → first ≤ p → p < end → access_in runs place p ≡ right

-- the walk on from a word of a table of a level
abbrev pub from_word : Ram → Level → ℕ → ℕ → Answer
from_word ram One = from_level1 ram
from_word ram Two = from_level2 ram
from_word ram Three = from_level3

-- the bits of an address by which a table is looked up, how many addresses it maps, and the walk on from it
abbrev pub index_bits : Level → ℕ
index_bits One = 2
index_bits _ = 9

abbrev pub span : Level → ℕ
span level = 2 ^ (shift level + index_bits level)

abbrev pub from_table : Ram → Level → ℕ → ℕ → Answer
from_table ram level table address =
    from_word ram level (entry ram table (address / 2 ^ shift level % 2 ^ index_bits level)) address

-- the level of the table that a word names
abbrev pub next_level : Level → ℕ → Option Level
next_level One word = if bits 1 0 word == 3 then Some Two else None
next_level Two word = if bits 1 0 word == 3 then Some Three else None
next_level Three word = None

-- the answer at the first address of a word that names no table
abbrev pub is_leaf : Level → ℕ → Bool
is_leaf Three word = bits 1 0 word == 3
is_leaf _ word = is_set 0 word

abbrev pub first_answer : Level → ℕ → Answer
first_answer level word =
    if is_leaf level word then leaf_of word (bits 47 (shift level) word * 2 ^ shift level) else Err Translation

-- an answer further on, where the leaf moves with the address
abbrev pub moved : ℕ → Answer → Answer
moved by (Ok leaf) = Ok (record { phys = leaf.phys + by; read = leaf.read; write = leaf.write; exec = leaf.exec })
moved by (Err fault) = Err fault
