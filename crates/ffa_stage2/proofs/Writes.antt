-- SPDX-License-Identifier: MIT OR Apache-2.0
-- One write in the tables, for any words.
use Rattle.std.proofs.Common.{◌≡◌, ◌≢◌, ◌∙◌, ℕ, ◌^◌, ◌<◌, true, false, refl, ap, sym, arith, List, [], length, inl, inr, ◌⊎◌, ◌==◌, ◌&&◌, if◌then◌else◌, get_or-set_other, get_or-set_same, length-set}
use Rattle.std.proofs.lemmas.Bool.{cases_eq}
use Rattle.std.proofs.lemmas.Bool.Decides.{nat_tests}
use Rattle.std.proofs.lemmas.Nat.{same_from_place}
use Rattle.ffa_model.specs.Ram.{Ram, page_of, with_page, word_of, with_word}
use Rattle.ffa_model.specs.Manifest.{table_pages}
use Rattle.ffa_physmem.proofs.Words.{word_of-with_word_same, word_of-with_word_other, length-with_word}
use Rattle.ffa_stage2.specs.Tables.{table_page, KeepsOthers}
use Rattle.ffa_stage2.specs.Words.{TablesAre}
use Rattle.ffa_stage2.proofs.Places.{table_page-below}

-- the words with one of them changed
abbrev pub put : (ℕ → ℕ → ℕ → ℕ) → ℕ → ℕ → ℕ → ℕ → ℕ → ℕ → ℕ → ℕ
put word e s j v e' s' j' = if e' == e && (s' == s && j' == j) then v else word e' s' j'

module _ (ram : Ram) (n tables b : ℕ) (word : ℕ → ℕ → ℕ → ℕ) (e s j v : ℕ) (t : TablesAre ram n tables b word) (he : e < n) (hs : s < table_pages b) (hj : j < 512) (hv : v < 2 ^ 64) where
  abbrev target : ℕ
  target = table_page tables b e s

  abbrev new_page : List ℕ
  new_page = with_word (page_of ram target) j v

  abbrev new_ram : Ram
  new_ram = with_page ram target new_page

  page-same : page_of new_ram target ≡ new_page
  page-same = get_or-set_same ram.pages target new_page [] (table_page-below ram n tables b e s t.fits he hs)

  page-other : (q : ℕ) → q ≢ target → page_of new_ram q ≡ page_of ram q
  page-other q h = get_or-set_other ram.pages target q new_page [] h

  apart : (e' s' : ℕ) → s' < table_pages b → ((e' ≢ e) ⊎ (s' ≢ s)) → table_page tables b e' s' ≢ target
  apart e' s' hs' (inl h) same = h (same_from_place e' s' e s (table_pages b) hs' hs (omega (arith, same))).0
  apart e' s' hs' (inr h) same = h (same_from_place e' s' e s (table_pages b) hs' hs (omega (arith, same))).1

  other : (e' s' j' : ℕ) → e' < n → s' < table_pages b → j' < 512 → ((e' ≢ e) ⊎ (s' ≢ s)) → (e' == e && (s' == s && j' == j)) ≡ false
      → word_of (page_of new_ram (table_page tables b e' s')) j' ≡ put word e s j v e' s' j'
  other e' s' j' he' hs' hj' h test =
      ap (λ (page : List ℕ). word_of page j') (page-other (table_page tables b e' s') (apart e' s' hs' h))
      ∙ rw test (t.words e' s' j' he' hs' hj')

  TablesAre-put : TablesAre new_ram n tables b (put word e s j v)
  TablesAre-put = record {
    fits = record {
      place = t.fits.place;
      one_table = t.fits.one_table;
      few = t.fits.few;
      within = t.fits.within;
      size = length-set ram.pages target new_page ∙ t.fits.size;
      room = t.fits.room;
    };
    whole = λ e' s' he' hs'. elim (cases_eq (table_page tables b e' s') target) [
      | inl same ↦
          ap (λ (q : ℕ). length (page_of new_ram q)) same ∙ ap length page-same
          ∙ length-with_word (page_of ram target) j v (omega (arith, t.whole e s he hs)) ∙ t.whole e s he hs
      | inr far ↦ ap length (page-other (table_page tables b e' s') far) ∙ t.whole e' s' he' hs'
    ];
    words = λ e' s' j' he' hs' hj'. elim (cases_eq e' e) [
      | inr far ↦ other e' s' j' he' hs' hj' (inl far) (grind (arith, nat_tests))
      | inl same_e ↦ elim (cases_eq s' s) [
        | inr far ↦ other e' s' j' he' hs' hj' (inr far) (grind (arith, nat_tests))
        | inl same_s ↦ elim (cases_eq j' j) [
          | inr far ↦
              let test : (e' == e && (s' == s && j' == j)) ≡ false = grind (arith, nat_tests) in
              rw test (rw (same_e, same_s) (
              ap (λ (page : List ℕ). word_of page j') page-same
              ∙ word_of-with_word_other (page_of ram target) j j' v (omega (arith, t.whole e s he hs)) (λ same. far (sym same))
              ∙ t.words e s j' he hs hj'))
          | inl same_j ↦
              let test : (e' == e && (s' == s && j' == j)) ≡ true = grind (arith, nat_tests) in
              rw test (rw (same_e, same_s, same_j) (
              ap (λ (page : List ℕ). word_of page j) page-same
              ∙ word_of-with_word_same (page_of ram target) j v (omega (arith, t.whole e s he hs)) hv))
        ]
      ]
    ];
  }

  KeepsOthers-put : KeepsOthers ram new_ram tables b e
  KeepsOthers-put = record {
    base = refl;
    size = length-set ram.pages target new_page;
    pages = λ q h. elim h [
      | inl low ↦ page-other q (λ same. absurd (omega (arith, low, same)))
      | inr high ↦ page-other q (λ same. absurd (omega (arith, high, same, hs)))
    ];
  }

  -- what the code's write leaves, where it computes the page, the place and the value
  pub TablesAre-written : (new : Ram) (page place value : ℕ) → new ≡ with_page ram page (with_word (page_of ram page) place value)
      → page ≡ target → place ≡ j → value ≡ v → TablesAre new n tables b (put word e s j v)
  TablesAre-written new page place value wrote p i w = rw (wrote, p, i, w) TablesAre-put

  pub KeepsOthers-written : (new : Ram) (page place value : ℕ) → new ≡ with_page ram page (with_word (page_of ram page) place value)
      → page ≡ target → place ≡ j → value ≡ v → KeepsOthers ram new tables b e
  KeepsOthers-written new page place value wrote p i w = rw (wrote, p, i, w) KeepsOthers-put
