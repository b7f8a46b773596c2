-- SPDX-License-Identifier: MIT OR Apache-2.0
-- What the words of each level say of the addresses that they map.
use Rattle.std.proofs.Common.{◌≡◌, ◌∙◌, ℕ, ◌+◌, ◌-◌, ◌*◌, ◌/◌, ◌%◌, ◌^◌, ◌<◌, ◌≤◌, Bool, true, false, Some, None, Result, Ok, Err, refl, sym, ap, ap₂, arith, ◌==◌, if◌then◌else◌}
use Rattle.std.proofs.lemmas.Bool.{cond_both, eq-eqb, eqb-false, eqb-true, ne_eqb}
use Rattle.ffa_model.specs.Bits.{bits, is_set}
use Rattle.ffa_model.specs.Ram.{Ram}
use Rattle.ffa_model.specs.Walk.{Answer, by_type, entry, from_level1, from_level2, from_level3, in_table, is_page_address, leaf_of}
use Rattle.ffa_model.specs.declared.operation.FaultKind.{FaultKind}
use Rattle.ffa_model.specs.declared.operation.FaultKind.TheVariants.{Translation, OutsideRam}
use Rattle.ffa_physmem.specs.Levels.{shift}
use Rattle.ffa_physmem.specs.declared.descriptor.Level.{Level}
use Rattle.ffa_physmem.specs.declared.descriptor.Level.TheVariants.{One, Two, Three}
use Rattle.ffa_walker.specs.Spans.{first_answer, from_table, from_word, index_bits, moved, next_level, span}

-- ---- the addresses of a table and of its words

-- where a word's addresses begin in those of its table
pub record InTable (level : Level) (start index : ℕ) : Type 0 where
  pub few : index < 512
  pub aligned : (start + 2 ^ shift level * index) % 2 ^ shift level ≡ 0
  pub inside : 2 ^ shift level * index + 2 ^ shift level ≤ span level

pub in_table_at : (level : Level) (start index : ℕ) → start % span level ≡ 0 → index < 2 ^ index_bits level → InTable level start index
in_table_at One start index aligned lt = record { few = omega arith; aligned = omega arith; inside = omega arith }
in_table_at Two start index aligned lt = record { few = omega arith; aligned = omega arith; inside = omega arith }
in_table_at Three start index aligned lt = record { few = omega arith; aligned = omega arith; inside = omega arith }

index-at : (level : Level) (start index a : ℕ) → start % span level ≡ 0 → index < 2 ^ index_bits level → start + 2 ^ shift level * index ≤ a → a < start + 2 ^ shift level * index + 2 ^ shift level → a / 2 ^ shift level % 2 ^ index_bits level ≡ index
index-at One start index a aligned lt from to = omega arith
index-at Two start index a aligned lt from to = omega arith
index-at Three start index a aligned lt from to = omega arith

-- the walk from a table is that from one of its words
pub table-word : (ram : Ram) (level : Level) (table index word start a : ℕ) → word ≡ entry ram table index → start % span level ≡ 0 → index < 2 ^ index_bits level → start + 2 ^ shift level * index ≤ a → a < start + 2 ^ shift level * index + 2 ^ shift level → from_table ram level table a ≡ from_word ram level word a
table-word ram level table index word start a is aligned lt from to =
    ap (λ k. from_word ram level (entry ram table k) a) (index-at level start index a aligned lt from to) ∙ ap (λ w. from_word ram level w a) (sym is)

-- what the addresses of a word are
pub of_pages : (level : Level) (start : ℕ) → start % 2 ^ shift level ≡ 0 → (0 < 2 ^ shift level) × (2 ^ shift level % 4096 ≡ 0) × (start % 4096 ≡ 0)
of_pages One start aligned = (omega arith, omega arith, omega arith)
of_pages Two start aligned = (omega arith, omega arith, omega arith)
of_pages Three start aligned = (omega arith, omega arith, omega arith)

-- ---- words that name no table

abbrev typed : Bool → Bool → Answer → Answer → Answer
typed invalid leaf block table = if invalid then Err Translation else (if leaf then block else table)

moved-if : (b : Bool) (x y : Answer) (i : ℕ) → (if b then moved i x else moved i y) ≡ moved i (if b then x else y)
moved-if true x y i = refl
moved-if false x y i = refl

leaf-moved : (word output place i : ℕ) → place ≡ i → leaf_of word (output + place) ≡ moved i (leaf_of word output)
unfolding leaf_of
leaf-moved word output place i is = ap (λ p. leaf_of word (output + p)) is ∙ moved-if (bits 10 10 word == 0) _ _ i

if-none : (b : Bool) (next : Level) → (if b then Some next else None) ≡ None → b ≡ false
if-none true next e = cc
if-none false next e = refl

type-moved : (word i : ℕ) (next : Level) (block table leaf : Answer) → (if bits 1 0 word == 3 then Some next else None) ≡ None → block ≡ moved i leaf → by_type word block table ≡ moved i (if is_set 0 word then leaf else Err Translation)
type-moved word i next block table leaf none its =
    let other = eqb-false (bits 1 0 word) 3 (if-none (bits 1 0 word == 3) next none) in
    cond_both (is_set 0 word) leaf (Err Translation) (λ answer. by_type word block table ≡ moved i answer)
    (λ set. let one = eqb-true (bits 0 0 word) 1 set in
    ap₂ (λ a b. typed a b block table) (ne_eqb (bits 0 0 word) 0 (λ zero. absurd (omega (arith, one, zero)))) (eq-eqb (bits 1 1 word) 0 (omega (arith, one, other))) ∙ its)
    (λ unset. let not_one = eqb-false (bits 0 0 word) 1 unset in
    ap (λ a. typed a (bits 1 1 word == 0) block table) (eq-eqb (bits 0 0 word) 0 (omega (arith, not_one))))

-- the answer at an address is that at the word's first, moved
pub word-moved : (ram : Ram) (level : Level) (word start a : ℕ) → next_level level word ≡ None → start % 2 ^ shift level ≡ 0 → start ≤ a → a < start + 2 ^ shift level → from_word ram level word a ≡ moved (a - start) (first_answer level word)
unfolding from_level1 from_level2 from_level3
word-moved ram One word start a none aligned from to = type-moved word (a - start) Two _ _ _ none (leaf-moved word _ (bits 29 0 a) (a - start) (omega arith))
word-moved ram Two word start a none aligned from to = type-moved word (a - start) Three _ _ _ none (leaf-moved word _ (bits 20 0 a) (a - start) (omega arith))
word-moved ram Three word start a none aligned from to =
    ap (λ leaf. if bits 1 0 word == 3 then leaf else Err Translation) (leaf-moved word _ (bits 11 0 a) (a - start) (omega arith))
    ∙ moved-if (bits 1 0 word == 3) _ (Err Translation) (a - start)

-- ---- words that name a table

-- the walk goes on in a table of RAM
abbrev pub on_from : (ℕ → Answer) → Result ℕ FaultKind → Answer
on_from next (Ok table) = next table
on_from next (Err fault) = Err OutsideRam

abbrev pub table_named : Ram → ℕ → Result ℕ FaultKind
table_named ram word = if is_page_address ram (bits 47 12 word * 2 ^ 12) then Ok (bits 47 12 word * 2 ^ 12) else Err OutsideRam

goes-on : (b : Bool) (table : ℕ) (next : ℕ → Answer) → (if b then next table else Err OutsideRam) ≡ on_from next (if b then Ok table else Err OutsideRam)
goes-on true table next = refl
goes-on false table next = refl

if-some : (b : Bool) (l next : Level) → (if b then Some l else None) ≡ Some next → (b ≡ true) × (l ≡ next)
if-some true l next e = (refl, cc)
if-some false l next e = cc

type-table : (ram : Ram) (word : ℕ) (l next : Level) (named : Result ℕ FaultKind) (block : Answer) (on : Level → ℕ → Answer) → (if bits 1 0 word == 3 then Some l else None) ≡ Some next → named ≡ table_named ram word → by_type word block (in_table ram word (on l)) ≡ on_from (on next) named
type-table ram word l next named block on some is =
    let its = if-some (bits 1 0 word == 3) l next some in
    let three = eqb-true (bits 1 0 word) 3 its.0 in
    ap₂ (λ a b. typed a b block (in_table ram word (on l))) (ne_eqb (bits 0 0 word) 0 (λ zero. absurd (omega (arith, three, zero)))) (ne_eqb (bits 1 1 word) 0 (λ zero. absurd (omega (arith, three, zero))))
    ∙ goes-on (is_page_address ram (bits 47 12 word * 2 ^ 12)) (bits 47 12 word * 2 ^ 12) (on l) ∙ (λ i. on_from (on (its.1 i)) (sym is i))

pub word-table : (ram : Ram) (level next : Level) (word a : ℕ) (named : Result ℕ FaultKind) → next_level level word ≡ Some next → named ≡ table_named ram word → from_word ram level word a ≡ on_from (λ table. from_table ram next table a) named
unfolding from_level1 from_level2
word-table ram One next word a named some is = type-table ram word Two next named _ (λ l table. from_table ram l table a) some is
word-table ram Two next word a named some is = type-table ram word Three next named _ (λ l table. from_table ram l table a) some is
word-table ram Three next word a named some is = cc

-- a table that a word names maps the word's addresses, and is of a lower level
pub next-below : (level next : Level) (word : ℕ) → next_level level word ≡ Some next → (shift next < shift level) × (span next ≡ 2 ^ shift level)
next-below One next word some = let its = (if-some (bits 1 0 word == 3) Two next some).1 in (rw (sym its) (omega arith), ap span (sym its))
next-below Two next word some = let its = (if-some (bits 1 0 word == 3) Three next some).1 in (rw (sym its) (omega arith), ap span (sym its))
next-below Three next word some = cc
