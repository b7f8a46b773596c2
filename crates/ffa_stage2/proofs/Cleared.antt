-- SPDX-License-Identifier: MIT OR Apache-2.0
-- Tables of zeros, and the first tables.
use Rattle.std.proofs.Common.{◌≡◌, ◌∙◌, ℕ, zero, suc, ◌+◌, ◌*◌, ◌<◌, ◌≤◌, refl, ap, sym, arith, List, length, replicate, get_or, true, false, nat_lt}
use Rattle.std.proofs.lemmas.Bool.Decides.{nat_tests}
use Rattle.std.proofs.lemmas.List.{length-replicate, get_or-drop}
use Rattle.ffa_model.specs.Ram.{Ram, page_of, word_of}
use Rattle.ffa_model.specs.Manifest.{table_pages}
use Rattle.ffa_physmem.proofs.Words.{same_number}
use Rattle.ffa_stage2.specs.Tables.{HasRoom, IsBuilt, table_page}
use Rattle.ffa_stage2.specs.Words.{TablesAre, linked, no_access}
use Rattle.ffa_stage2.proofs.Places.{table_page-below_end}
use Rattle.ffa_stage2.proofs.Words.{IsBuilt-of_words}

get_or-zeros : (n i : ℕ) → ◌≡◌ {A = ℕ} (get_or (replicate n 0) i 0) 0
get_or-zeros zero i = refl
get_or-zeros (suc n) zero = refl
get_or-zeros (suc n) (suc i) = get_or-zeros n i

word_of-zeros : (n i : ℕ) → word_of (replicate n 0) i ≡ 0
word_of-zeros n i =
    same_number _ (replicate 8 0) (λ k _. get_or-drop (8 * i) (replicate n 0) k 0 ∙ get_or-zeros n (8 * i + k) ∙ sym (get_or-zeros 8 k))

pub cleared : (ram : Ram) (n tables b base : ℕ) → HasRoom ram n tables b → ((p : ℕ) → tables ≤ p → p < table_page tables b n 0 → page_of ram p ≡ replicate 4096 0)
    → TablesAre ram n tables b (linked base tables b 0)
cleared ram n tables b base fits zeros =
    let page : (e s : ℕ) → e < n → s < table_pages b → page_of ram (table_page tables b e s) ≡ replicate 4096 0 =
    λ e s he hs. zeros (table_page tables b e s) (omega arith) (omega (arith, table_page-below_end n tables b e s he hs))
    in
    record {
      fits = fits;
      whole = λ e s he hs. ap length (page e s he hs) ∙ length-replicate {A = ℕ} 4096 0;
      words = λ e s j he hs hj.
          let none : nat_lt e 0 ≡ false = grind (arith, nat_tests) in
          rw none (ap (λ (bytes : List ℕ). word_of bytes j) (page e s he hs) ∙ word_of-zeros 4096 j);
    }

-- all endpoints linked
pub all-linked : (ram : Ram) (n tables b base : ℕ) → ram.base ≡ base → TablesAre ram n tables b (linked base tables b n) → IsBuilt ram n tables b no_access
all-linked ram n tables b base stands t = IsBuilt-of_words ram n tables b (record {
  fits = t.fits;
  whole = t.whole;
  words = λ e s j he hs hj.
      let all : nat_lt e n ≡ true = grind (arith, nat_tests) in
      t.words e s j he hs hj ∙ rw (all, stands);
})
