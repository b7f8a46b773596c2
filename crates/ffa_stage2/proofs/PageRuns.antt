-- SPDX-License-Identifier: MIT OR Apache-2.0
-- Runs of pages of one block: the words that are written for them, and the rights that they get.
use Rattle.std.proofs.Common.{◌≡◌, ◌∙◌, ℕ, ◌+◌, ◌*◌, ◌%◌, ◌^◌, ◌<◌, ◌≤◌, true, false, refl, ap, sym, arith, List, length, Option, Some, None, inl, inr, ◌⊎◌, ◌↔◌, mul-le-mul_right, ◌&&◌, nat_le, nat_lt, is_some, if◌then◌else◌}
use Rattle.std.proofs.lemmas.Bool.{cases_eq, cases_lt, false≢true}
use Rattle.std.proofs.lemmas.Bool.Decides.{nat_tests}
use Rattle.ffa_model.specs.Ram.{Ram, page_of, with_page, word_of, with_word}
use Rattle.ffa_model.specs.Descriptor.{page_word}
use Rattle.ffa_model.specs.declared.rights.Rights.{Rights}
use Rattle.ffa_stage2.specs.declared.blocks.BlockPlace.{BlockPlace}
use Rattle.ffa_stage2.specs.Blocks.{IsOne, IsBlock, IsMixed, block_word}
use Rattle.ffa_stage2.specs.Orders.{IsWritten}
use Rattle.ffa_stage2.specs.Places.{IsFilled, IsFilling, IsPlace, IsSameRun, KeepsBeside, Maps, Names, with_run, word_at}
use Rattle.ffa_stage2.proofs.Descriptors.{block_word-fits, same_right}
use Rattle.ffa_stage2.proofs.OneBlock.{written, IsBlockWhereOne-of, IsPlace-kept, KeepsBeside-of_table, KeepsBeside-then, IsMapped-rights, block-first, block-page, block-word}

-- ---- words of one page of RAM

-- one more word
pub IsFilled-next : (old middle new : Ram) (page from to : ℕ) (word : ℕ → ℕ) → from ≤ to → IsFilled old middle page from to word
    → IsWritten middle new page to (word to) → IsFilled old new page from (to + 1) word
IsFilled-next old middle new page from to word le before write = record {
  base = write.base ∙ before.base;
  size = write.size ∙ before.size;
  pages = λ p other. write.pages p other ∙ before.pages p other;
  whole = write.whole;
  here = λ j low high. elim (cases_eq j to) [
    | inl at ↦ ap (word_of (page_of new page)) at ∙ write.here ∙ ap word (sym at)
    | inr other ↦ write.words j other ∙ before.here j low (omega (arith, high, other))
  ];
  beside = λ j off. elim off [
    | inl low ↦ elim (cases_eq j to) [
      | inl at ↦ absurd (omega (arith, low, le, at))
      | inr other ↦ write.words j other ∙ before.beside j (inl low)
    ]
    | inr high ↦ write.words j (λ at. absurd (omega (arith, high, at))) ∙ before.beside j (inr (omega (arith, high)))
  ];
}

-- the same words, told in another way
pub IsFilled-same : (old new : Ram) (page from to : ℕ) (word other : ℕ → ℕ) → to ≤ 512 → IsFilled old new page from to word
    → ((j : ℕ) → j < 512 → word j ≡ other j) → IsFilled old new page from to other
IsFilled-same old new page from to word other few f words = record {
  base = f.base;
  size = f.size;
  pages = f.pages;
  whole = f.whole;
  here = λ j low high. f.here j low high ∙ words j (omega (arith, high, few));
  beside = f.beside;
}

-- some of these words
pub IsFilling-more : (old ram : Ram) (page from to : ℕ) (word : ℕ → ℕ) → IsFilling old ram page from to word → IsFilling old ram page from (to + 1) word
IsFilling-more old ram page from to word (next, low, high, filled) = (next, low, omega (arith, high), filled)

pub IsFilling-upto : (old ram : Ram) (page from to end : ℕ) (word : ℕ → ℕ) → to ≤ end → IsFilling old ram page from to word → IsFilling old ram page from end word
IsFilling-upto old ram page from to end word le (next, low, high, filled) = (next, low, omega (arith, high, le), filled)

-- one more, as the code writes it
pub filled-by : (old middle new : Ram) (page from to : ℕ) (word : ℕ → ℕ) → from ≤ to → IsFilled old middle page from to word → page < length middle.pages → to < 512 → word to < 2 ^ 64
    → new ≡ with_page middle page (with_word (page_of middle page) to (word to)) → IsFilled old new page from (to + 1) word
filled-by old middle new page from to word le before below few fits is =
    IsFilled-next old middle new page from to word le before (written middle page to (word to) below before.whole few fits new is)

pub IsFilling-same : (old ram : Ram) (page from to : ℕ) (word other : ℕ → ℕ) → to ≤ 512 → IsFilling old ram page from to word
    → ((j : ℕ) → j < 512 → word j ≡ other j) → IsFilling old ram page from to other
IsFilling-same old ram page from to word other few (next, low, high, filled) words =
    (next, low, high, IsFilled-same old ram page from next word other (omega (arith, high, few)) filled words)

-- a word of a run fits
pub run-fits : (first step to : ℕ) → step ≤ 4096 → to < 512 → first + 0x200000 ≤ 2 ^ 64 → first + step * to < 2 ^ 64
run-fits first step to few lt fits = omega (arith, mul-le-mul_right to few)

pub KeepsBeside-of_filled : (old new : Ram) (x : BlockPlace) (from to : ℕ) (word : ℕ → ℕ) → IsPlace old x → IsFilled old new x.table.0 from to word → KeepsBeside old new x
KeepsBeside-of_filled old new x from to word place f = KeepsBeside-of_table old new x place f.base f.size f.pages f.whole

-- the descriptors of a block's pages that have one right
pub right-words : (address : ℕ) (right : Option Rights) (first step j : ℕ) → address % 0x200000 ≡ 0 → address + 0x200000 ≤ 2 ^ 32 → first ≡ page_word address right
    → step ≡ (if is_some right then 4096 else 0) → j < 512 → first + step * j ≡ page_word (address + 4096 * j) right
unfolding page_word
right-words address None first step j aligned within is steps hj = rw (is, steps) (omega arith)
right-words address (Some r) first step j aligned within is steps hj =
    ap (λ (n : ℕ). first + n * j) steps ∙ ap (λ (n : ℕ). n + 4096 * j) (is ∙ block-first address r aligned within)
    ∙ sym (block-page address j r aligned within hj)

none-word : (address : ℕ) → page_word address None ≡ 0
unfolding page_word
none-word address = refl

pub right-fits : (address : ℕ) (right : Option Rights) (first : ℕ) → address % 0x200000 ≡ 0 → address + 0x200000 ≤ 2 ^ 32 → first ≡ page_word address right → first + 0x200000 ≤ 2 ^ 64
right-fits address None first aligned within is = omega (arith, is, none-word address)
right-fits address (Some r) first aligned within is = omega (arith, is, block-first address r aligned within, block_word-fits r address)

-- ---- rights

pub with_run-here : (rights : ℕ → Option Rights) (from to : ℕ) (right : Option Rights) (j : ℕ) → from ≤ j → j < to → with_run rights from to right j ≡ right
with_run-here rights from to right j low high = let here : (nat_le from j && nat_lt j to) ≡ true = grind (arith, nat_tests) in rw here

pub with_run-low : (rights : ℕ → Option Rights) (from to : ℕ) (right : Option Rights) (j : ℕ) → j < from → with_run rights from to right j ≡ rights j
with_run-low rights from to right j low = let off : (nat_le from j && nat_lt j to) ≡ false = grind (arith, nat_tests) in rw off

pub with_run-high : (rights : ℕ → Option Rights) (from to : ℕ) (right : Option Rights) (j : ℕ) → to ≤ j → with_run rights from to right j ≡ rights j
with_run-high rights from to right j high = let off : (nat_le from j && nat_lt j to) ≡ false = grind (arith, nat_tests) in rw off

-- a right that all pages have already
pub with_run-same : (rights : ℕ → Option Rights) (from to : ℕ) (right : Option Rights) (r : Rights) → IsOne rights r → right ≡ Some r
    → (j : ℕ) → j < 512 → rights j ≡ with_run rights from to right j
with_run-same rights from to right r one is j hj = elim (cases_lt j from) [
  | inl low ↦ sym (with_run-low rights from to right j low)
  | inr above ↦ elim (cases_lt j to) [
    | inl high ↦ one j hj ∙ sym is ∙ sym (with_run-here rights from to right j (omega (arith, above)) high)
    | inr over ↦ sym (with_run-high rights from to right j (omega (arith, over)))
  ]
]

-- a block split: the pages before the run, those behind it, the run, and the word that names the table
pub split-names : (old low high full new : Ram) (x : BlockPlace) (rights : ℕ → Option Rights) (from to : ℕ) (right : Option Rights) (word : ℕ)
    → IsPlace old x → IsBlock (word_at old x) x.address rights → word ≡ word_at old x → from < to → to ≤ 512
    → IsFilled old low x.table.0 0 from (λ j. word + 2 + 4096 * j) → IsFilled low high x.table.0 to 512 (λ j. word + 2 + 4096 * j)
    → IsFilled high full x.table.0 from to (λ j. page_word (x.address + 4096 * j) right) → IsWritten full new x.middle.0 x.entry x.link
    → Names new x (with_run rights from to right)
split-names old low high full new x rights from to right word place block is some few before behind run write =
    let kept : (j : ℕ) → j < 512 → word + 2 + 4096 * j ≡ page_word (x.address + 4096 * j) (rights j) =
    λ j hj. ap (λ (w : ℕ). w + 2 + 4096 * j) is ∙ block-word old x rights j place block hj
    in
    let last : (j : ℕ) → word_of (page_of new x.table.0) j ≡ word_of (page_of full x.table.0) j =
    λ j. ap (λ (bytes : List ℕ). word_of bytes j) (write.pages x.table.0 (λ same. place.apart (sym same)))
    in
    record {
      is = write.here;
      pages = λ j hj. elim (cases_lt j from) [
        | inl under ↦
            rw (with_run-low rights from to right j under)
            (last j ∙ run.beside j (inl under) ∙ behind.beside j (inl (omega (arith, under, some))) ∙ before.here j (omega arith) under ∙ kept j hj)
        | inr above ↦ elim (cases_lt j to) [
          | inl inside ↦ rw (with_run-here rights from to right j (omega (arith, above)) inside) (last j ∙ run.here j (omega (arith, above)) inside)
          | inr over ↦
              rw (with_run-high rights from to right j (omega (arith, over)))
              (last j ∙ run.beside j (inr (omega (arith, over))) ∙ behind.here j (omega (arith, over)) hj ∙ kept j hj)
        ]
      ];
    }

-- no right is that of all pages where a run has another than the block
pub split-mixed : (rights : ℕ → Option Rights) (from to : ℕ) (right : Option Rights) (r : Rights) → IsOne rights r → from < to → to ≤ 512
    → ((to < from + 512) ⊎ (is_some right ≡ false)) → (right ≡ Some r → ⊥) → IsMixed (with_run rights from to right)
split-mixed rights from to right r one some few (inr none) other q all =
    absurd (false≢true (sym none ∙ ap is_some (sym (with_run-here rights from to right from (omega arith) some) ∙ all from (omega (arith, some, few)))))
split-mixed rights from to right r one some few (inl part) other q all =
    let here : right ≡ Some q = sym (with_run-here rights from to right from (omega arith) some) ∙ all from (omega (arith, some, few)) in
    elim (cases_lt 0 from) [
      | inl low ↦ other (here ∙ sym (all 0 (omega arith)) ∙ with_run-low rights from to right 0 low ∙ one 0 (omega arith))
      | inr first ↦
          let behind : to < 512 = omega (arith, part, first) in
          other (here ∙ sym (all to behind) ∙ with_run-high rights from to right to (omega arith) ∙ one to behind)
    ]

-- the right of a block, by its word
pub block-right : (ram : Ram) (x : BlockPlace) (rights : ℕ → Option Rights) (right : Option Rights) (word first : ℕ) → IsPlace ram x → (block : IsBlock (word_at ram x) x.address rights)
    → word ≡ word_at ram x → first ≡ page_word x.address right → (first ≡ word + 2) ↔ (right ≡ Some block.right)
block-right ram x rights right word first place block is leaf =
    let its : word + 2 ≡ page_word x.address (Some block.right) =
    ap (λ (w : ℕ). w + 2) (is ∙ block.is) ∙ sym (block-first x.address block.right place.aligned place.within)
    in (
      λ same. same_right x.address right (Some block.right) (sym leaf ∙ same ∙ its),
      λ same. leaf ∙ ap (λ (r : Option Rights). page_word x.address r) same ∙ sym its,
    )

-- a block that has the right already
pub split-kept : (ram : Ram) (x : BlockPlace) (rights : ℕ → Option Rights) (from to : ℕ) (right : Option Rights) (word first : ℕ) → IsPlace ram x → Maps ram x rights
    → IsBlock (word_at ram x) x.address rights → word ≡ word_at ram x → first ≡ page_word x.address right → first ≡ word + 2 → Maps ram x (with_run rights from to right)
split-kept ram x rights from to right word first place maps block is leaf same =
    IsMapped-rights _ _ _ _ rights (with_run rights from to right)
    (with_run-same rights from to right block.right block.one ((block-right ram x rights right word first place block is leaf).0 same)) maps

-- a block split
pub split-maps : (old low high full new : Ram) (x : BlockPlace) (rights : ℕ → Option Rights) (from to : ℕ) (right : Option Rights) (word first : ℕ)
    → IsPlace old x → IsBlock (word_at old x) x.address rights → word ≡ word_at old x → first ≡ page_word x.address right → (first ≡ word + 2 → ⊥) → from < to → to ≤ 512
    → ((to < from + 512) ⊎ (is_some right ≡ false))
    → IsFilled old low x.table.0 0 from (λ j. word + 2 + 4096 * j) → IsFilled low high x.table.0 to 512 (λ j. word + 2 + 4096 * j)
    → IsFilled high full x.table.0 from to (λ j. page_word (x.address + 4096 * j) right) → IsWritten full new x.middle.0 x.entry x.link
    → Maps new x (with_run rights from to right)
split-maps old low high full new x rights from to right word first place block is leaf other some few part before behind run write =
    inr (
      split-names old low high full new x rights from to right word place block is some few before behind run write,
      split-mixed rights from to right block.right block.one some few part (λ same. other ((block-right old x rights right word first place block is leaf).1 same)),
    )

-- so some right changes where a block of another right is split
pub split-changes : (ram : Ram) (x : BlockPlace) (rights : ℕ → Option Rights) (from to : ℕ) (right : Option Rights) (word first : ℕ) → IsPlace ram x → IsBlock (word_at ram x) x.address rights
    → word ≡ word_at ram x → first ≡ page_word x.address right → (first ≡ word + 2 → ⊥) → from < to → to ≤ 512 → IsSameRun rights from to right → ⊥
split-changes ram x rights from to right word first place block is leaf other some few same =
    other ((block-right ram x rights right word first place block is leaf).1
    (sym (with_run-here rights from to right from (omega arith) some) ∙ same from (omega (arith, some, few)) ∙ block.one from (omega (arith, some, few))))

-- and where another word is written for a whole block
pub whole-changes : (ram : Ram) (x : BlockPlace) (rights : ℕ → Option Rights) (right : Option Rights) (r : Rights) (now word : ℕ) → IsPlace ram x → Maps ram x rights → right ≡ Some r
    → now ≡ word_at ram x → word ≡ block_word x.address r → (now ≡ word → ⊥) → IsSameRun rights 0 512 right → ⊥
whole-changes ram x rights right r now word place maps some is block other same =
    let law = IsBlockWhereOne-of (word_at ram x) x.link (page_of ram x.table.0) x.address rights place.link place.aligned place.within maps in
    other (is ∙ (law.block r).1 (λ j hj. sym (same j hj) ∙ with_run-here rights 0 512 right j (omega arith) hj ∙ some) ∙ sym block)

-- three runs written
pub three-filled : (old low high full : Ram) (x : BlockPlace) (a b c d e f : ℕ) (p q r : ℕ → ℕ) → IsPlace old x → IsFilled old low x.table.0 a b p → IsFilled low high x.table.0 c d q
    → IsFilled high full x.table.0 e f r → KeepsBeside old full x
three-filled old low high full x a b c d e f p q r place one two three =
    let first = KeepsBeside-of_filled old low x a b p place one in
    let at = IsPlace-kept old low x place first in
    let second = KeepsBeside-of_filled low high x c d q at two in
    KeepsBeside-then old low full x first (KeepsBeside-then low high full x second (KeepsBeside-of_filled high full x e f r (IsPlace-kept low high x at second) three))
