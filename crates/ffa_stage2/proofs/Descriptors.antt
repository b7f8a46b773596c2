-- SPDX-License-Identifier: MIT OR Apache-2.0
-- What the walk makes of one descriptor.
use Rattle.std.proofs.Common.{◌≡◌, ℕ, ◌+◌, ◌-◌, ◌*◌, ◌/◌, ◌%◌, ◌^◌, ◌<◌, ◌∙◌, Bool, true, false, refl, ap, sym, arith, Option, None, Some, Ok, Err, ◌==◌, if◌then◌else◌}
use Rattle.std.proofs.lemmas.Bool.Decides.{nat_tests}
use Rattle.ffa_model.specs.Bits.{bits}
use Rattle.ffa_model.specs.Ram.{Ram, page_of, word_of}
use Rattle.ffa_model.specs.Walk.{is_page_address, entry, leaf_of, from_level3, from_level2, from_level1, mapped_answer}
use Rattle.ffa_model.specs.Descriptor.{page_word, table_word}
use Rattle.ffa_model.specs.declared.operation.FaultKind.TheVariants.{Translation}
use Rattle.ffa_model.specs.declared.rights.Data.{Data}
use Rattle.ffa_model.specs.declared.rights.Data.TheVariants.{Ro, Rw}
use Rattle.ffa_model.specs.declared.rights.Rights.{Rights}
use Rattle.ffa_stage2.specs.Blocks.{block_word}

-- a page descriptor by its fields: w is S2AP's upper bit, x is XN
from_level3-fields : (word f w x address : ℕ) → word ≡ 4096 * f + 1919 + 128 * w + 2 ^ 54 * x → f < 2 ^ 36 → w < 2 → x < 2
    → from_level3 word address ≡ Ok (record { phys = f * 2 ^ 12 + bits 11 0 address; read = true; write = w == 1; exec = x == 0 })
unfolding from_level3 leaf_of
from_level3-fields word f w x address e hf hw hx =
    let kind : bits 1 0 word ≡ 3 = omega arith in
    let accessed : bits 10 10 word ≡ 1 = omega arith in
    let readable : bits 6 6 word ≡ 1 = omega arith in
    let writable : bits 7 7 word ≡ w = omega arith in
    let never : bits 54 54 word ≡ x = omega arith in
    let frame : bits 47 12 word ≡ f = omega arith in
    rw (kind, accessed, readable, writable, never, frame)

from_level3-some : (level : Data) (exec : Bool) (f address : ℕ) → f < 2 ^ 36
    → from_level3 (page_word (4096 * f) (Some (record { level = level; exec = exec }))) address
    ≡ mapped_answer (Some (record { level = level; exec = exec })) (f * 2 ^ 12 + bits 11 0 address)
unfolding page_word mapped_answer
from_level3-some Ro true f address h = from_level3-fields _ f 0 0 address (omega arith) h (omega arith) (omega arith)
from_level3-some Ro false f address h = from_level3-fields _ f 0 1 address (omega arith) h (omega arith) (omega arith)
from_level3-some Rw true f address h = from_level3-fields _ f 1 0 address (omega arith) h (omega arith) (omega arith)
from_level3-some Rw false f address h = from_level3-fields _ f 1 1 address (omega arith) h (omega arith) (omega arith)

-- the descriptor that maps page f to itself
pub from_level3-page_word : (right : Option Rights) (f address : ℕ) → f < 2 ^ 36
    → from_level3 (page_word (4096 * f) right) address ≡ mapped_answer right (f * 2 ^ 12 + bits 11 0 address)
unfolding from_level3 page_word mapped_answer
from_level3-page_word None f address h = refl
from_level3-page_word (Some r) f address h = from_level3-some r.level r.exec f address h

-- a block descriptor by its fields
from_level2-fields : (ram : Ram) (word g w x address : ℕ) → word ≡ 2097152 * g + 1917 + 128 * w + 2 ^ 54 * x → g < 2 ^ 27 → w < 2 → x < 2
    → from_level2 ram word address ≡ Ok (record { phys = g * 2 ^ 21 + bits 20 0 address; read = true; write = w == 1; exec = x == 0 })
unfolding from_level2 leaf_of
from_level2-fields ram word g w x address e hg hw hx =
    let valid : bits 0 0 word ≡ 1 = omega arith in
    let kind : bits 1 1 word ≡ 0 = omega arith in
    let accessed : bits 10 10 word ≡ 1 = omega arith in
    let readable : bits 6 6 word ≡ 1 = omega arith in
    let writable : bits 7 7 word ≡ w = omega arith in
    let never : bits 54 54 word ≡ x = omega arith in
    let frame : bits 47 21 word ≡ g = omega arith in
    rw (valid, kind, accessed, readable, writable, never, frame)

from_level2-some : (ram : Ram) (level : Data) (exec : Bool) (g address : ℕ) → g < 2 ^ 27
    → from_level2 ram (block_word (0x200000 * g) (record { level = level; exec = exec })) address
    ≡ mapped_answer (Some (record { level = level; exec = exec })) (g * 2 ^ 21 + bits 20 0 address)
unfolding block_word mapped_answer
from_level2-some ram Ro true g address h = from_level2-fields ram _ g 0 0 address (omega arith) h (omega arith) (omega arith)
from_level2-some ram Ro false g address h = from_level2-fields ram _ g 0 1 address (omega arith) h (omega arith) (omega arith)
from_level2-some ram Rw true g address h = from_level2-fields ram _ g 1 0 address (omega arith) h (omega arith) (omega arith)
from_level2-some ram Rw false g address h = from_level2-fields ram _ g 1 1 address (omega arith) h (omega arith) (omega arith)

-- the descriptor that maps block g to itself
pub from_level2-block_word : (ram : Ram) (r : Rights) (g address : ℕ) → g < 2 ^ 27
    → from_level2 ram (block_word (0x200000 * g) r) address ≡ mapped_answer (Some r) (g * 2 ^ 21 + bits 20 0 address)
from_level2-block_word ram r g address h = from_level2-some ram r.level r.exec g address h

pub from_level2-zero : (ram : Ram) (address : ℕ) → from_level2 ram 0 address ≡ Err Translation
unfolding from_level2
from_level2-zero ram address = refl

pub from_level1-zero : (ram : Ram) (address : ℕ) → from_level1 ram 0 address ≡ Err Translation
unfolding from_level1
from_level1-zero ram address = refl

-- a descriptor of the table at t
pub from_level2-table : (ram : Ram) (t address : ℕ) → t < 2 ^ 48 → t % 4096 ≡ 0 → is_page_address ram t ≡ true
    → from_level2 ram (table_word t) address ≡ from_level3 (entry ram t (bits 20 12 address)) address
unfolding from_level2
from_level2-table ram t address h aligned here =
    let valid : bits 0 0 (t + 3) ≡ 1 = omega arith in
    let kind : bits 1 1 (t + 3) ≡ 1 = omega arith in
    let target : bits 47 12 (t + 3) * 2 ^ 12 ≡ t = omega arith in
    rw (valid, kind, target, here)

pub from_level1-table : (ram : Ram) (t address : ℕ) → t < 2 ^ 48 → t % 4096 ≡ 0 → is_page_address ram t ≡ true
    → from_level1 ram (table_word t) address ≡ from_level2 ram (entry ram t (bits 29 21 address)) address
unfolding from_level1
from_level1-table ram t address h aligned here =
    let valid : bits 0 0 (t + 3) ≡ 1 = omega arith in
    let kind : bits 1 1 (t + 3) ≡ 1 = omega arith in
    let target : bits 47 12 (t + 3) * 2 ^ 12 ≡ t = omega arith in
    rw (valid, kind, target, here)

-- the words of the table in page p
pub entry-page : (ram : Ram) (p i : ℕ) → entry ram (ram.base + 4096 * p) i ≡ word_of (page_of ram p) i
entry-page ram p i =
    let e : (ram.base + 4096 * p - ram.base) / 4096 ≡ p = omega arith in
    ap (λ (q : ℕ). word_of (page_of ram q) i) e

-- ---- one right of many pages

page_word-some_of_block : (level : Data) (exec : Bool) (g j : ℕ) → g < 2 ^ 27 → j < 512
    → page_word (0x200000 * g + 4096 * j) (Some (record { level = level; exec = exec }))
    ≡ block_word (0x200000 * g) (record { level = level; exec = exec }) + 2 + 4096 * j
unfolding page_word block_word
page_word-some_of_block Ro true g j h below = omega arith
page_word-some_of_block Ro false g j h below = omega arith
page_word-some_of_block Rw true g j h below = omega arith
page_word-some_of_block Rw false g j h below = omega arith

-- a page of a block has the block's descriptor, with type 11, and 4096 for each page before it
pub page_word-of_block : (r : Rights) (g j : ℕ) → g < 2 ^ 27 → j < 512
    → page_word (0x200000 * g + 4096 * j) (Some r) ≡ block_word (0x200000 * g) r + 2 + 4096 * j
page_word-of_block r g j h below = page_word-some_of_block r.level r.exec g j h below

block_word-some_fields : (level : Data) (exec : Bool) (address : ℕ)
    → (block_word address (record { level = level; exec = exec }) % 4 ≡ 1) × (block_word address (record { level = level; exec = exec }) < 2 ^ 63)
unfolding block_word
block_word-some_fields Ro true address = (omega arith, omega arith)
block_word-some_fields Ro false address = (omega arith, omega arith)
block_word-some_fields Rw true address = (omega arith, omega arith)
block_word-some_fields Rw false address = (omega arith, omega arith)

pub block_word-type : (r : Rights) (address : ℕ) → block_word address r % 4 ≡ 1
block_word-type r address = (block_word-some_fields r.level r.exec address).0

pub block_word-fits : (r : Rights) (address : ℕ) → block_word address r < 2 ^ 63
block_word-fits r address = (block_word-some_fields r.level r.exec address).1

-- the right in a page's descriptor
unfoldable right_of_word : ℕ → Option Rights
right_of_word word =
    if word == 0
    then None
    else Some (record { level = if bits 7 7 word == 1 then Rw else Ro; exec = bits 54 54 word == 0 })

right_of_word-fields : (word w x f : ℕ) → word ≡ 4096 * f + 1919 + 128 * w + 2 ^ 54 * x → f < 2 ^ 36 → w < 2 → x < 2
    → right_of_word word ≡ Some (record { level = if w == 1 then Rw else Ro; exec = x == 0 })
unfolding right_of_word
right_of_word-fields word w x f e hf hw hx =
    let some : (word == 0) ≡ false = grind (arith, nat_tests) in
    let writable : bits 7 7 word ≡ w = omega arith in
    let never : bits 54 54 word ≡ x = omega arith in
    rw (some, writable, never)

right_of_word-some : (level : Data) (exec : Bool) (address : ℕ)
    → right_of_word (page_word address (Some (record { level = level; exec = exec }))) ≡ Some (record { level = level; exec = exec })
unfolding page_word
right_of_word-some Ro true address = right_of_word-fields _ 0 0 (bits 47 12 address) (omega arith) (omega arith) (omega arith) (omega arith)
right_of_word-some Ro false address = right_of_word-fields _ 0 1 (bits 47 12 address) (omega arith) (omega arith) (omega arith) (omega arith)
right_of_word-some Rw true address = right_of_word-fields _ 1 0 (bits 47 12 address) (omega arith) (omega arith) (omega arith) (omega arith)
right_of_word-some Rw false address = right_of_word-fields _ 1 1 (bits 47 12 address) (omega arith) (omega arith) (omega arith) (omega arith)

right_of_word-page_word : (right : Option Rights) (address : ℕ) → right_of_word (page_word address right) ≡ right
unfolding page_word right_of_word
right_of_word-page_word None address = refl
right_of_word-page_word (Some r) address = right_of_word-some r.level r.exec address

-- the descriptor of a page tells its right
pub same_right : (address : ℕ) (x y : Option Rights) → page_word address x ≡ page_word address y → x ≡ y
same_right address x y same = sym (right_of_word-page_word x address) ∙ ap right_of_word same ∙ right_of_word-page_word y address
