-- SPDX-License-Identifier: MIT OR Apache-2.0
-- One block of RAM: its level 2 word, its level 3 page and 512 rights.
use Rattle.std.proofs.Common.{◌≡◌, ◌≢◌, ◌∙◌, ℕ, ◌+◌, ◌-◌, ◌*◌, ◌/◌, ◌%◌, ◌^◌, ◌<◌, ◌≤◌, true, refl, ap, sym, arith, List, [], length, Option, Some, None, inl, inr, is_some, get_or-set_other, get_or-set_same, length-set}
use Rattle.std.proofs.lemmas.Bool.{false≢true}
use Rattle.ffa_model.specs.Ram.{Ram, page_of, with_page, word_of, with_word}
use Rattle.ffa_model.specs.Descriptor.{page_word}
use Rattle.ffa_model.specs.declared.rights.Rights.{Rights}
use Rattle.ffa_physmem.proofs.Words.{word_of-with_word_same, word_of-with_word_other, length-with_word}
use Rattle.ffa_stage2.specs.declared.blocks.BlockPlace.{BlockPlace}
use Rattle.ffa_stage2.specs.Blocks.{block_word, IsOne, IsBlock, IsMapped, IsMixed, IsEither, IsBlockWhereOne, IsUniform}
use Rattle.ffa_stage2.specs.Orders.{IsWritten}
use Rattle.ffa_stage2.specs.Places.{word_at, IsPlace, Maps, Names, Stands, KeepsBeside}
use Rattle.ffa_stage2.proofs.Descriptors.{page_word-of_block, block_word-type, block_word-fits, same_right}

-- ---- the law

-- it sees the rights page by page
pub IsMapped-rights : (word link : ℕ) (page : List ℕ) (address : ℕ) (f g : ℕ → Option Rights) → ((j : ℕ) → j < 512 → f j ≡ g j)
    → IsMapped word link page address f → IsMapped word link page address g
IsMapped-rights word link page address f g same (inl block) =
    inl (record { right = block.right; one = λ j hj. sym (same j hj) ∙ block.one j hj; is = block.is })
IsMapped-rights word link page address f g same (inr (table, mixed)) =
    inr (
      record { is = table.is; pages = λ j hj. table.pages j hj ∙ ap (λ (x : Option Rights). page_word (address + 4096 * j) x) (same j hj) },
      λ r one. mixed r (λ j hj. same j hj ∙ one j hj),
    )

-- and so does what holds between two writes
pub IsEither-rights : (word link : ℕ) (page : List ℕ) (address : ℕ) (f g : ℕ → Option Rights) → ((j : ℕ) → j < 512 → f j ≡ g j)
    → IsEither word link page address f → IsEither word link page address g
IsEither-rights word link page address f g same (inl block) =
    inl (record { right = block.right; one = λ j hj. sym (same j hj) ∙ block.one j hj; is = block.is })
IsEither-rights word link page address f g same (inr (inl table)) =
    inr (inl (record { is = table.is; pages = λ j hj. table.pages j hj ∙ ap (λ (x : Option Rights). page_word (address + 4096 * j) x) (same j hj) }))
IsEither-rights word link page address f g same (inr (inr gap)) = inr (inr (record { is = gap.is; none = λ j hj. sym (same j hj) ∙ gap.none j hj }))

-- which is all of the law but that it tells when a block stands
pub IsEither-of_mapped : (word link : ℕ) (page : List ℕ) (address : ℕ) (rights : ℕ → Option Rights) → IsMapped word link page address rights → IsEither word link page address rights
IsEither-of_mapped word link page address rights (inl block) = inl block
IsEither-of_mapped word link page address rights (inr (table, mixed)) = inr (inl table)

pub stands-of_maps : (ram : Ram) (x : BlockPlace) (rights : ℕ → Option Rights) → Maps ram x rights → Stands ram x rights
stands-of_maps ram x rights maps = IsEither-of_mapped (word_at ram x) x.link (page_of ram x.table.0) x.address rights maps

-- any law, of the same numbers
pub law-same : (law : ℕ → ℕ → List ℕ → ℕ → (ℕ → Option Rights) → Type 0) (word word' link link' : ℕ) (page page' : List ℕ) (address address' : ℕ) (rights : ℕ → Option Rights)
    → word' ≡ word → link' ≡ link → page' ≡ page → address' ≡ address
    → law word link page address rights → law word' link' page' address' rights
law-same law word word' link link' page page' address address' rights w l p a holds = rw (w, l, p, a) holds

-- ---- a block's word

-- the pages of a block by its address
pub block-page : (address j : ℕ) (r : Rights) → address % 0x200000 ≡ 0 → address + 0x200000 ≤ 2 ^ 32 → j < 512
    → page_word (address + 4096 * j) (Some r) ≡ block_word address r + 2 + 4096 * j
block-page address j r aligned within hj =
    let g : ℕ = address / 0x200000 in
    let is : address ≡ 0x200000 * g = omega arith in
    rw is (page_word-of_block r g j (omega arith) hj)

pub block-first : (address : ℕ) (r : Rights) → address % 0x200000 ≡ 0 → address + 0x200000 ≤ 2 ^ 32
    → page_word address (Some r) ≡ block_word address r + 2
block-first address r aligned within =
    let first : address + 4096 * 0 ≡ address = omega arith in
    ap (λ (a : ℕ). page_word a (Some r)) (sym first) ∙ block-page address 0 r aligned within (omega arith) ∙ omega arith

-- the block of a right is that of no other, and no table
block_word-same : (address : ℕ) (r q : Rights) → address % 0x200000 ≡ 0 → address + 0x200000 ≤ 2 ^ 32
    → block_word address r ≡ block_word address q → ◌≡◌ {A = Option Rights} (Some r) (Some q)
block_word-same address r q aligned within same =
    same_right address (Some r) (Some q)
    (block-first address r aligned within ∙ ap (λ (w : ℕ). w + 2) same ∙ sym (block-first address q aligned within))

block_word-no_link : (address link : ℕ) (r : Rights) → link % 4 ≡ 3 → block_word address r ≡ link → ⊥
block_word-no_link address link r typed same = absurd (omega (arith, same, typed, block_word-type r address))

-- the block of an optional right
abbrev block_word_in : ℕ → Option Rights → ℕ
block_word_in address None = 0
block_word_in address (Some r) = block_word address r

-- the law says which word stands at level 2
pub IsBlockWhereOne-of : (word link : ℕ) (page : List ℕ) (address : ℕ) (rights : ℕ → Option Rights)
    → link % 4 ≡ 3 → address % 0x200000 ≡ 0 → address + 0x200000 ≤ 2 ^ 32
    → IsMapped word link page address rights → IsBlockWhereOne word link address rights
IsBlockWhereOne-of word link page address rights typed aligned within (inl block) = record {
  block = λ r. (
    λ is j hj. block.one j hj ∙ block_word-same address block.right r aligned within (sym block.is ∙ is),
    λ one.
        block.is
        ∙ ap (λ (x : Option Rights). block_word_in address x) (sym (block.one 0 (omega arith)) ∙ one 0 (omega arith)),
  );
  table = (
    λ is. absurd (block_word-no_link address link block.right typed (sym block.is ∙ is)),
    λ mixed. absurd (mixed block.right block.one),
  );
}
IsBlockWhereOne-of word link page address rights typed aligned within (inr (table, mixed)) = record {
  block = λ r. (
    λ is. absurd (block_word-no_link address link r typed (sym is ∙ table.is)),
    λ one. absurd (mixed r one),
  );
  table = (λ _. mixed, λ _. table.is);
}

-- ---- one write

-- two writes of one word
pub written-again : (old middle new : Ram) (page place first value : ℕ) → IsWritten old middle page place first → IsWritten middle new page place value → IsWritten old new page place value
written-again old middle new page place first value one two = record {
  base = two.base ∙ one.base;
  size = two.size ∙ one.size;
  pages = λ p other. two.pages p other ∙ one.pages p other;
  whole = two.whole;
  here = two.here;
  words = λ j other. two.words j other ∙ one.words j other;
}

module _ (old : Ram) (page place value : ℕ) (below : page < length old.pages) (whole : length (page_of old page) ≡ 4096) (hp : place < 512) (hv : value < 2 ^ 64) where
  abbrev new_page : List ℕ
  new_page = with_word (page_of old page) place value

  now : page_of (with_page old page new_page) page ≡ new_page
  now = get_or-set_same old.pages page new_page [] below

  written-so : IsWritten old (with_page old page new_page) page place value
  written-so = record {
    base = refl;
    size = length-set old.pages page new_page;
    pages = λ p other. get_or-set_other old.pages page p new_page [] other;
    whole = ap length now ∙ length-with_word (page_of old page) place value (omega (arith, whole)) ∙ whole;
    here = ap (λ (bytes : List ℕ). word_of bytes place) now ∙ word_of-with_word_same (page_of old page) place value (omega (arith, whole)) hv;
    words = λ j other.
        ap (λ (bytes : List ℕ). word_of bytes j) now
        ∙ word_of-with_word_other (page_of old page) place j value (omega (arith, whole)) (λ same. other (sym same));
  }

  pub written : (new : Ram) → new ≡ with_page old page (with_word (page_of old page) place value) → IsWritten old new page place value
  written new is = rw is written-so

pub written-middle : (old new : Ram) (x : BlockPlace) (value : ℕ) → IsPlace old x → value < 2 ^ 64
    → new ≡ with_page old x.middle.0 (with_word (page_of old x.middle.0) x.entry value) → IsWritten old new x.middle.0 x.entry value
written-middle old new x value place fits is = written old x.middle.0 x.entry value place.middle place.whole_middle place.entry fits new is

-- ---- at one place

pub IsPlace-kept : (old new : Ram) (x : BlockPlace) → IsPlace old x → KeepsBeside old new x → IsPlace new x
IsPlace-kept old new x place beside = record {
  middle = omega (arith, beside.size, place.middle);
  table = omega (arith, beside.size, place.table);
  apart = place.apart;
  whole_middle = beside.whole_middle;
  whole_table = beside.whole_table;
  entry = place.entry;
  link = place.link;
  fits = place.fits;
  aligned = place.aligned;
  within = place.within;
}

pub KeepsBeside-then : (old middle new : Ram) (x : BlockPlace) → KeepsBeside old middle x → KeepsBeside middle new x → KeepsBeside old new x
KeepsBeside-then old middle new x first second = record {
  base = second.base ∙ first.base;
  size = second.size ∙ first.size;
  pages = λ p m t. second.pages p m t ∙ first.pages p m t;
  words = λ j hj other. second.words j hj other ∙ first.words j hj other;
  whole_middle = second.whole_middle;
  whole_table = second.whole_table;
}

-- a write of the level 2 word
pub KeepsBeside-of_middle : (old new : Ram) (x : BlockPlace) (value : ℕ) → IsPlace old x → IsWritten old new x.middle.0 x.entry value → KeepsBeside old new x
KeepsBeside-of_middle old new x value place write = record {
  base = write.base;
  size = write.size;
  pages = λ p m _. write.pages p m;
  words = λ j _ other. write.words j other;
  whole_middle = write.whole;
  whole_table = ap length (write.pages x.table.0 (λ same. place.apart (sym same))) ∙ place.whole_table;
}

-- writes in the level 3 page
pub KeepsBeside-of_table : (old new : Ram) (x : BlockPlace) → IsPlace old x → new.base ≡ old.base → length new.pages ≡ length old.pages
    → ((p : ℕ) → p ≢ x.table.0 → page_of new p ≡ page_of old p) → length (page_of new x.table.0) ≡ 4096 → KeepsBeside old new x
KeepsBeside-of_table old new x place base size pages whole =
    let middle : page_of new x.middle.0 ≡ page_of old x.middle.0 = pages x.middle.0 place.apart in
    record {
      base = base;
      size = size;
      pages = λ p _ t. pages p t;
      words = λ j _ _. ap (λ (bytes : List ℕ). word_of bytes j) middle;
      whole_middle = ap length middle ∙ place.whole_middle;
      whole_table = whole;
    }

-- the type of the level 2 word tells which part of the law holds
pub block-here : (ram : Ram) (x : BlockPlace) (rights : ℕ → Option Rights) → IsPlace ram x → Maps ram x rights → word_at ram x % 4 ≡ 1
    → IsBlock (word_at ram x) x.address rights
block-here ram x rights place (inl block) h = block
block-here ram x rights place (inr (table, mixed)) h = absurd (omega (arith, h, table.is, place.link))

pub table-here : (ram : Ram) (x : BlockPlace) (rights : ℕ → Option Rights) → IsPlace ram x → Maps ram x rights → word_at ram x % 4 ≢ 1
    → Names ram x rights × IsMixed rights
table-here ram x rights place (inl block) h = absurd (h (ap (λ (w : ℕ). w % 4) block.is ∙ block_word-type block.right x.address))
table-here ram x rights place (inr named) h = named

-- the type, of the word that was read
pub typed : (ram : Ram) (x : BlockPlace) (word : ℕ) → word ≡ word_at ram x → word % 4 ≡ 1 → word_at ram x % 4 ≡ 1
typed ram x word is h = ap (λ (w : ℕ). w % 4) (sym is) ∙ h

pub typed-other : (ram : Ram) (x : BlockPlace) (word : ℕ) → word ≡ word_at ram x → word % 4 ≢ 1 → word_at ram x % 4 ≢ 1
typed-other ram x word is h same = h (ap (λ (w : ℕ). w % 4) is ∙ same)

-- a block's word leaves room for what is added to it
pub block-fits : (ram : Ram) (x : BlockPlace) (rights : ℕ → Option Rights) → IsPlace ram x → Maps ram x rights → word_at ram x % 4 ≡ 1
    → word_at ram x < 2 ^ 63
block-fits ram x rights place maps h =
    let block = block-here ram x rights place maps h in
    omega (arith, block.is, block_word-fits block.right x.address)

-- the descriptor of a page in a block
pub block-word : (ram : Ram) (x : BlockPlace) (rights : ℕ → Option Rights) (j : ℕ) → IsPlace ram x → IsBlock (word_at ram x) x.address rights → j < 512
    → word_at ram x + 2 + 4096 * j ≡ page_word (x.address + 4096 * j) (rights j)
block-word ram x rights j place block hj =
    ap (λ (w : ℕ). w + 2 + 4096 * j) block.is ∙ sym (block-page x.address j block.right place.aligned place.within hj)
    ∙ ap (λ (r : Option Rights). page_word (x.address + 4096 * j) r) (sym (block.one j hj))

-- ---- one right

-- a uniform table whose page has a right has it for all pages
pub one-of_uniform : (ram : Ram) (x : BlockPlace) (rights : ℕ → Option Rights) (within : ℕ) (r : Rights) → IsPlace ram x → Names ram x rights → within < 512
    → rights within ≡ Some r → IsUniform (page_of ram x.table.0) → IsOne rights r
one-of_uniform ram x rights within r place names hw is uniform =
    let page : List ℕ = page_of ram x.table.0 in
    let word : ℕ = block_word x.address r in
    let here : word_of page within ≡ word + 2 + 4096 * within =
    names.pages within hw ∙ ap (λ (q : Option Rights). page_word (x.address + 4096 * within) q) is ∙ block-page x.address within r place.aligned place.within hw
    in
    let first : word_of page 0 ≡ word + 2 = omega (arith, here, uniform within hw) in
    λ j hj. same_right (x.address + 4096 * j) (rights j) (Some r)
    (sym (names.pages j hj) ∙ uniform j hj ∙ ap (λ (w : ℕ). w + 4096 * j) first ∙ sym (block-page x.address j r place.aligned place.within hj))

-- and where all pages have one right the table is uniform
pub uniform-of_one : (ram : Ram) (x : BlockPlace) (rights : ℕ → Option Rights) (r : Rights) → IsPlace ram x → Names ram x rights
    → IsOne rights r → IsUniform (page_of ram x.table.0)
uniform-of_one ram x rights r place names one =
    let page : List ℕ = page_of ram x.table.0 in
    let word : (j : ℕ) → j < 512 → word_of page j ≡ block_word x.address r + 2 + 4096 * j =
    λ j hj.
    names.pages j hj ∙ ap (λ (q : Option Rights). page_word (x.address + 4096 * j) q) (one j hj) ∙ block-page x.address j r place.aligned place.within hj
    in
    λ i hi. omega (arith, word i hi, word 0 (omega arith))

-- a block put where a table stood
pub join-maps : (old new : Ram) (x : BlockPlace) (rights : ℕ → Option Rights) (value : ℕ) (r : Rights) → IsPlace old x → IsOne rights r
    → IsWritten old new x.middle.0 x.entry value → value ≡ page_word x.address (Some r) - 2 → Maps new x rights
join-maps old new x rights value r place one write is = inl (record {
  right = r;
  one = one;
  is = write.here ∙ is ∙ omega (arith, block-first x.address r place.aligned place.within);
})

-- a right that isn't nothing
pub some_of : (right : Option Rights) → is_some right ≡ true → (r : Rights) × (right ≡ Some r)
some_of None h = absurd (false≢true h)
some_of (Some r) h = (r, refl)
