-- SPDX-License-Identifier: MIT OR Apache-2.0
-- The walk of built tables gives the access.
use Rattle.std.proofs.Common.{◌≡◌, ◌∙◌, ℕ, ◌+◌, ◌-◌, ◌*◌, ◌/◌, ◌%◌, ◌^◌, ◌<◌, ◌≤◌, true, false, ap, sym, arith, Option, Some, Err, length, inl, inr, ◌==◌, nat_lt}
use Rattle.std.proofs.lemmas.Bool.{cases_lt, cases_eq}
use Rattle.std.proofs.lemmas.Bool.Decides.{nat_tests}
use Rattle.ffa_model.specs.declared.limits.TheConstants.{MOST_BLOCKS}
use Rattle.ffa_model.specs.Bits.{bits}
use Rattle.ffa_model.specs.Ram.{Ram, page_of}
use Rattle.ffa_model.specs.Manifest.{root_of}
use Rattle.ffa_model.specs.Descriptor.{page_word}
use Rattle.ffa_model.specs.Walk.{is_in_ram, entry, from_level3, from_level2, from_level1, walk, mapped_answer}
use Rattle.ffa_model.specs.declared.operation.FaultKind.TheVariants.{Translation}
use Rattle.ffa_model.specs.declared.rights.Rights.{Rights}
use Rattle.ffa_stage2.specs.Blocks.{block_word, IsBlock, IsTable, IsGap, IsEither}
use Rattle.ffa_stage2.specs.Tables.{IsBuilt, IsStanding, InBlockBy, table_page, table_link, level1_place, level2_place, level2_word, block_address, rights_of_block, answer}
use Rattle.ffa_stage2.proofs.Descriptors.{from_level3-page_word, from_level2-block_word, from_level2-zero, from_level1-zero, from_level2-table, from_level1-table, entry-page}
use Rattle.ffa_stage2.proofs.OneBlock.{IsEither-of_mapped}
use Rattle.ffa_stage2.proofs.Places.{is_in_ram-inside, is_in_ram-outside, table_page-below, table_page-address}

answer-inside : (ram : Ram) (access : ℕ → ℕ → Option Rights) (e p a : ℕ) → a ≡ ram.base + 4096 * p + a % 4096 → p < length ram.pages
    → mapped_answer (access e p) (ram.base + 4096 * p + a % 4096) ≡ answer ram access e a
answer-inside ram access e p a place h =
    let here : is_in_ram ram a ≡ true = is_in_ram-inside ram a (omega arith) (omega arith) in
    let number : (a - ram.base) / 4096 ≡ p = omega arith in
    rw (here, number, ← place)

answer-outside : (ram : Ram) (access : ℕ → ℕ → Option Rights) (e a : ℕ) → (ram.base ≤ a → a < ram.base + 4096 * length ram.pages → ⊥)
    → Err Translation ≡ answer ram access e a
unfolding mapped_answer
answer-outside ram access e a h = let out : is_in_ram ram a ≡ false = is_in_ram-outside ram a h in rw out

module _ (ram : Ram) (n tables b : ℕ) (access : ℕ → ℕ → Option Rights) (e a : ℕ) (built : IsStanding ram n tables b access) (he : e < n) (ha : a < 2 ^ 32) where
  -- the answer in block k, where a block stands
  in_block : (k : ℕ) → k < b → (word : ℕ) → IsBlock word (block_address ram k) (rights_of_block (access e) k)
      → from_level2 ram word a ≡ mapped_answer (access e (512 * k + bits 20 12 a)) (ram.base + 4096 * (512 * k + bits 20 12 a) + a % 4096)
  in_block k hk word block =
      let j : ℕ = bits 20 12 a in
      let g : ℕ = (ram.base + 0x200000 * k) / 0x200000 in
      let aligned : ram.base % 0x200000 ≡ 0 = built.fits.place in
      let one : ram.base % 2 ^ 30 + 0x200000 * b ≤ 2 ^ 30 = built.fits.one_table in
      let within : ram.base + 0x200000 * b ≤ 2 ^ 32 = built.fits.within in
      let address : ram.base + 0x200000 * k ≡ 0x200000 * g = omega arith in
      let target : g * 2 ^ 21 + bits 20 0 a ≡ ram.base + 4096 * (512 * k + j) + a % 4096 = omega arith in
      ap (λ (w : ℕ). from_level2 ram w a) (block.is ∙ ap (λ (x : ℕ). block_word x block.right) address)
      ∙ from_level2-block_word ram block.right g a (omega arith)
      ∙ ap (λ (x : ℕ). mapped_answer (Some block.right) x) target
      ∙ ap (λ (r : Option Rights). mapped_answer r (ram.base + 4096 * (512 * k + j) + a % 4096)) (sym (block.one j (omega arith)))

  -- and where a table stands
  in_table : (k : ℕ) → k < b → (word : ℕ)
      → IsTable word (table_link ram.base tables b e (2 + k)) (page_of ram (table_page tables b e (2 + k))) (block_address ram k) (rights_of_block (access e) k)
      → from_level2 ram word a ≡ mapped_answer (access e (512 * k + bits 20 12 a)) (ram.base + 4096 * (512 * k + bits 20 12 a) + a % 4096)
  in_table k hk word table =
      let j : ℕ = bits 20 12 a in
      let f : ℕ = ram.base / 4096 + (512 * k + j) in
      let t : ℕ = ram.base + 4096 * table_page tables b e (2 + k) in
      let hj : j < 512 = omega arith in
      let aligned : ram.base % 0x200000 ≡ 0 = built.fits.place in
      let one : ram.base % 2 ^ 30 + 0x200000 * b ≤ 2 ^ 30 = built.fits.one_table in
      let within : ram.base + 0x200000 * b ≤ 2 ^ 32 = built.fits.within in
      let size : length ram.pages ≡ 512 * b = built.fits.size in
      let q : ram.base + 0x200000 * k + 4096 * j ≡ 4096 * f = omega arith in
      let target : f * 2 ^ 12 + bits 11 0 a ≡ ram.base + 4096 * (512 * k + j) + a % 4096 = omega arith in
      let small : f < 2 ^ 36 = omega arith in
      let below : table_page tables b e (2 + k) < length ram.pages = table_page-below ram n tables b e (2 + k) built.fits he (omega arith) in
      ap (λ (w : ℕ). from_level2 ram w a) table.is
      ∙ from_level2-table ram t a (omega arith) (omega arith) (table_page-address ram n tables b e (2 + k) built.fits he (omega arith))
      ∙ ap (λ (w : ℕ). from_level3 w a) (entry-page ram (table_page tables b e (2 + k)) j ∙ table.pages j hj
      ∙ ap (λ (x : ℕ). page_word x (access e (512 * k + j))) q)
      ∙ from_level3-page_word (access e (512 * k + j)) f a small
      ∙ ap (λ (x : ℕ). mapped_answer (access e (512 * k + j)) x) target

  -- and where nothing stands
  in_gap : (k : ℕ) → k < b → (word : ℕ) → IsGap word (rights_of_block (access e) k)
      → from_level2 ram word a ≡ mapped_answer (access e (512 * k + bits 20 12 a)) (ram.base + 4096 * (512 * k + bits 20 12 a) + a % 4096)
  unfolding mapped_answer
  in_gap k hk word gap =
      ap (λ (w : ℕ). from_level2 ram w a) gap.is ∙ from_level2-zero ram a
      ∙ ap (λ (r : Option Rights). mapped_answer r (ram.base + 4096 * (512 * k + bits 20 12 a) + a % 4096)) (sym (gap.none (bits 20 12 a) (omega arith)))

  in_pages : (k : ℕ) → k < b → InBlockBy IsEither ram tables b e (access e) k
      → from_level2 ram (level2_word ram tables b e k) a
      ≡ mapped_answer (access e (512 * k + bits 20 12 a)) (ram.base + 4096 * (512 * k + bits 20 12 a) + a % 4096)
  in_pages k hk (inl block) = in_block k hk (level2_word ram tables b e k) block
  in_pages k hk (inr (inl table)) = in_table k hk (level2_word ram tables b e k) table
  in_pages k hk (inr (inr gap)) = in_gap k hk (level2_word ram tables b e k) gap

  -- from the level 2 page on
  in_level2 : bits 31 30 a ≡ level1_place ram.base
      → from_level2 ram (entry ram (ram.base + 4096 * table_page tables b e 1) (bits 29 21 a)) a ≡ answer ram access e a
  in_level2 top =
      let first : ℕ = level2_place ram.base in
      let j : ℕ = bits 29 21 a in
      let hj : j < 512 = omega arith in
      let aligned : ram.base % 0x200000 ≡ 0 = built.fits.place in
      let one : ram.base % 2 ^ 30 + 0x200000 * b ≤ 2 ^ 30 = built.fits.one_table in
      let few : b ≤ MOST_BLOCKS = built.fits.few in
      let within : ram.base + 0x200000 * b ≤ 2 ^ 32 = built.fits.within in
      let size : length ram.pages ≡ 512 * b = built.fits.size in
      let read = entry-page ram (table_page tables b e 1) j in
      elim (cases_lt j first) [
        | inl low ↦
            ap (λ (w : ℕ). from_level2 ram w a) (read ∙ built.outside e j he hj (inl low)) ∙ from_level2-zero ram a
            ∙ answer-outside ram access e a (λ from to. omega arith)
        | inr from ↦ elim (cases_lt j (first + b)) [
          | inr high ↦
              ap (λ (w : ℕ). from_level2 ram w a) (read ∙ built.outside e j he hj (inr high)) ∙ from_level2-zero ram a
              ∙ answer-outside ram access e a (λ low to. omega arith)
          | inl below ↦
              let k : ℕ = j - first in
              let hk : k < b = omega arith in
              let jk : j ≡ first + k = omega arith in
              let pages = built.each e k he hk in
              ap (λ (w : ℕ). from_level2 ram w a) (ap (λ (i : ℕ). entry ram (ram.base + 4096 * table_page tables b e 1) i) jk
              ∙ entry-page ram (table_page tables b e 1) (first + k))
              ∙ in_pages k hk pages
              ∙ answer-inside ram access e (512 * k + bits 20 12 a) a (omega arith) (omega arith)
        ]
      ]

  -- the walk of an endpoint's table gives its access, and Translation outside the RAM
  pub walk-standing : walk ram (root_of ram.base tables b e) a ≡ answer ram access e a
  unfolding walk
  walk-standing =
      let base : ℕ = ram.base in
      let j : ℕ = bits 31 30 a in
      let hj : j < 512 = omega arith in
      let aligned : ram.base % 0x200000 ≡ 0 = built.fits.place in
      let one : ram.base % 2 ^ 30 + 0x200000 * b ≤ 2 ^ 30 = built.fits.one_table in
      let few : b ≤ MOST_BLOCKS = built.fits.few in
      let within : ram.base + 0x200000 * b ≤ 2 ^ 32 = built.fits.within in
      let size : length ram.pages ≡ 512 * b = built.fits.size in
      let fits : nat_lt a (2 ^ 32) ≡ true = grind (arith, nat_tests) in
      let root : root_of ram.base tables b e ≡ ram.base + 4096 * table_page tables b e 0 = omega arith in
      let word = ap (λ (t : ℕ). entry ram t j) root ∙ entry-page ram (table_page tables b e 0) j ∙ built.level1 e j he hj in
      rw fits (elim (cases_eq j (level1_place base)) [
        | inl top ↦
            let t : ℕ = base + 4096 * table_page tables b e 1 in
            let below : table_page tables b e 1 < length ram.pages = table_page-below ram n tables b e 1 built.fits he (omega arith) in
            let here : (j == level1_place base) ≡ true = grind (arith, nat_tests) in
            ap (λ (w : ℕ). from_level1 ram w a) (word ∙ rw here)
            ∙ from_level1-table ram t a (omega arith) (omega arith) (table_page-address ram n tables b e 1 built.fits he (omega arith))
            ∙ in_level2 top
        | inr other ↦
            let off : (j == level1_place base) ≡ false = grind (arith, nat_tests) in
            ap (λ (w : ℕ). from_level1 ram w a) (word ∙ rw off) ∙ from_level1-zero ram a
            ∙ answer-outside ram access e a (λ low high. other (omega arith))
      ])

-- built tables stand
pub standing-of_built : (ram : Ram) (n tables b : ℕ) (access : ℕ → ℕ → Option Rights) → IsBuilt ram n tables b access → IsStanding ram n tables b access
standing-of_built ram n tables b access built = record {
  fits = built.fits;
  whole = built.whole;
  level1 = built.level1;
  outside = built.outside;
  each = λ e k he hk. IsEither-of_mapped _ _ _ _ _ (built.each e k he hk);
}

pub walk-built : (ram : Ram) (n tables b : ℕ) (access : ℕ → ℕ → Option Rights) (e a : ℕ) → IsBuilt ram n tables b access → e < n → a < 2 ^ 32
    → walk ram (root_of ram.base tables b e) a ≡ answer ram access e a
walk-built ram n tables b access e a built he ha = walk-standing ram n tables b access e a (standing-of_built ram n tables b access built) he ha
