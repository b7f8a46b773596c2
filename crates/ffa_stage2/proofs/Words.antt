-- SPDX-License-Identifier: MIT OR Apache-2.0
-- Built tables, word by word.
use Rattle.std.proofs.Common.{◌≡◌, ◌∙◌, ℕ, suc, ◌+◌, ◌-◌, ◌*◌, ◌<◌, ◌≤◌, true, false, refl, ap, sym, arith, Option, None, inl, inr, ◌%◌, ◌^◌, ◌==◌, ◌&&◌, nat_lt, nat_le, if◌then◌else◌, is_some}
use Rattle.std.proofs.lemmas.Bool.{false≢true}
use Rattle.std.proofs.lemmas.Bool.Decides.{nat_tests}
use Rattle.ffa_model.specs.declared.limits.TheConstants.{MOST_BLOCKS}
use Rattle.ffa_model.specs.Ram.{Ram}
use Rattle.ffa_model.specs.Descriptor.{page_word}
use Rattle.ffa_model.specs.Manifest.{table_pages}
use Rattle.ffa_model.specs.declared.rights.Rights.{Rights}
use Rattle.ffa_stage2.specs.Blocks.{IsOne}
use Rattle.ffa_stage2.specs.Tables.{IsBuilt, table_link, level1_place, level2_place, rights_of_block}
use Rattle.ffa_stage2.specs.Words.{TablesAre, built_word, built_words, no_access}

-- the words of level 1
pub built_word-level1 : (base tables b e j : ℕ) (rights : ℕ → Option Rights)
    → built_word base tables b e rights 0 j ≡ (if j == level1_place base then table_link base tables b e 1 else 0)
unfolding built_word
built_word-level1 base tables b e j rights = refl

pub built_word-level1_here : (base tables b e j : ℕ) (rights : ℕ → Option Rights) → j ≡ level1_place base
    → built_word base tables b e rights 0 j ≡ table_link base tables b e 1
unfolding built_word
built_word-level1_here base tables b e j rights h = let t : (j == level1_place base) ≡ true = grind (arith, nat_tests) in rw t

pub built_word-level1_other : (base tables b e j : ℕ) (rights : ℕ → Option Rights) → (j ≡ level1_place base → ⊥) → built_word base tables b e rights 0 j ≡ 0
unfolding built_word
built_word-level1_other base tables b e j rights h = let t : (j == level1_place base) ≡ false = grind (arith, nat_tests) in rw t

-- of level 2
pub built_word-level2_here : (base tables b e k : ℕ) (rights : ℕ → Option Rights) → k < b
    → built_word base tables b e rights 1 (level2_place base + k) ≡ table_link base tables b e (2 + k)
unfolding built_word
built_word-level2_here base tables b e k rights h =
    let first : ℕ = level2_place base in
    let t : (nat_le first (first + k) && nat_lt (first + k) (first + b)) ≡ true = grind (arith, nat_tests) in
    let d : first + k - first ≡ k = omega arith in
    rw (t, d)

pub built_word-level2_other : (base tables b e j : ℕ) (rights : ℕ → Option Rights)
    → (level2_place base ≤ j → j < level2_place base + b → ⊥) → built_word base tables b e rights 1 j ≡ 0
unfolding built_word
built_word-level2_other base tables b e j rights h =
    let first : ℕ = level2_place base in
    let t : (nat_le first j && nat_lt j (first + b)) ≡ false = grind (arith, nat_tests) in
    rw t

-- and of level 3
pub built_word-level3 : (base tables b e k j : ℕ) (rights : ℕ → Option Rights)
    → built_word base tables b e rights (2 + k) j ≡ page_word (base + 4096 * (512 * k + j)) (rights (512 * k + j))
unfolding built_word
built_word-level3 base tables b e k j rights = let two : 2 + k ≡ suc (suc k) = omega arith in rw two

-- equal words are the same tables
pub TablesAre-same : (ram : Ram) (n tables b : ℕ) (f g : ℕ → ℕ → ℕ → ℕ) → TablesAre ram n tables b f
    → ((e s j : ℕ) → e < n → s < table_pages b → j < 512 → f e s j ≡ g e s j) → TablesAre ram n tables b g
TablesAre-same ram n tables b f g t h = record {
  fits = t.fits;
  whole = t.whole;
  words = λ e s j he hs hj. t.words e s j he hs hj ∙ h e s j he hs hj;
}

-- tables with no right are built
no_right : (rights : ℕ → Option Rights) (r : Rights) → rights 0 ≡ None → IsOne rights r → ⊥
no_right rights r none one = false≢true (ap is_some (sym none ∙ one 0 (omega arith)))

pub IsBuilt-of_words : (ram : Ram) (n tables b : ℕ) → TablesAre ram n tables b (built_words ram.base tables b no_access) → IsBuilt ram n tables b no_access
IsBuilt-of_words ram n tables b t = record {
  fits = t.fits;
  whole = t.whole;
  level1 = λ e j he hj. t.words e 0 j he (omega arith) hj ∙ built_word-level1 ram.base tables b e j (no_access e);
  outside = λ e j he hj off.
      t.words e 1 j he (omega arith) hj
      ∙ built_word-level2_other ram.base tables b e j (no_access e) (λ from below. elim off [ inl low ↦ omega arith | inr high ↦ omega arith ]);
  each = λ e k he hk.
      let few : b ≤ MOST_BLOCKS = t.fits.few in
      let place : ram.base % 0x200000 ≡ 0 = t.fits.place in
      let one : ram.base % 2 ^ 30 + 0x200000 * b ≤ 2 ^ 30 = t.fits.one_table in
      let within : ram.base + 0x200000 * b ≤ 2 ^ 32 = t.fits.within in
      inr (
        record {
          is = t.words e 1 (level2_place ram.base + k) he (omega arith) (omega arith) ∙ built_word-level2_here ram.base tables b e k (no_access e) hk;
          pages = λ j hj.
              let address : ram.base + 4096 * (512 * k + j) ≡ ram.base + 0x200000 * k + 4096 * j = omega arith in
              t.words e (2 + k) j he (omega arith) hj ∙ built_word-level3 ram.base tables b e k j (no_access e)
              ∙ ap (λ (a : ℕ). page_word a (no_access e (512 * k + j))) address;
        },
        λ r one. no_right (rights_of_block (no_access e) k) r refl one,
      );
}
