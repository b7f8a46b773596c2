-- SPDX-License-Identifier: MIT OR Apache-2.0
-- A change in one block of one endpoint keeps the tables built.
use Rattle.std.proofs.Common.{◌≡◌, ◌≢◌, ◌∙◌, ℕ, ◌+◌, ◌*◌, ◌%◌, ◌^◌, ◌<◌, ◌≤◌, refl, ap, sym, arith, List, Option, length, inl, inr, ◌⊎◌}
use Rattle.std.proofs.lemmas.Bool.{cases_eq}
use Rattle.std.proofs.lemmas.Nat.{same_from_place}
use Rattle.ffa_model.specs.declared.limits.TheConstants.{MOST_BLOCKS}
use Rattle.ffa_model.specs.Ram.{Ram, page_of, word_of}
use Rattle.ffa_model.specs.Manifest.{table_pages}
use Rattle.ffa_model.specs.declared.rights.Rights.{Rights}
use Rattle.ffa_stage2.specs.declared.blocks.BlockPlace.{BlockPlace}
use Rattle.ffa_stage2.specs.Blocks.{IsMapped, IsEither}
use Rattle.ffa_stage2.specs.Tables.{IsBuilt, IsBuiltBy, IsStanding, InBlock, InBlockBy, HasRoom, table_page, table_link, level2_place, level2_word, block_address, rights_of_block, KeepsOthers, BlocksWhereOne}
use Rattle.ffa_stage2.specs.Places.{IsPlace, Maps, Stands, KeepsBeside, word_at, IsPlaceOf}
use Rattle.ffa_stage2.proofs.Kept.{HasRoom-kept}
use Rattle.ffa_stage2.proofs.OneBlock.{IsMapped-rights, IsEither-rights, law-same, IsBlockWhereOne-of}
use Rattle.ffa_stage2.proofs.Places.{table_page-below}

-- two table pages
apart : (tables b e s e' s' : ℕ) → s < table_pages b → s' < table_pages b → ((e ≢ e') ⊎ (s ≢ s')) → table_page tables b e s ≢ table_page tables b e' s'
apart tables b e s e' s' hs hs' (inl h) same = h (same_from_place e s e' s' (table_pages b) hs hs' (omega (arith, same))).0
apart tables b e s e' s' hs hs' (inr h) same = h (same_from_place e s e' s' (table_pages b) hs hs' (omega (arith, same))).1

-- the place of a block
pub place-of : (ram : Ram) (n tables b e k : ℕ) (x : BlockPlace) → HasRoom ram n tables b
    → ((s : ℕ) → s < table_pages b → length (page_of ram (table_page tables b e s)) ≡ 4096) → e < n → k < b → IsPlaceOf ram tables b e k x → IsPlace ram x
place-of ram n tables b e k x fits whole he hk at =
    let place : ram.base % 0x200000 ≡ 0 = fits.place in
    let one : ram.base % 2 ^ 30 + 0x200000 * b ≤ 2 ^ 30 = fits.one_table in
    let few : b ≤ MOST_BLOCKS = fits.few in
    let within : ram.base + 0x200000 * b ≤ 2 ^ 32 = fits.within in
    let size : length ram.pages ≡ 512 * b = fits.size in
    let middle : table_page tables b e 1 < length ram.pages = table_page-below ram n tables b e 1 fits he (omega arith) in
    let table : table_page tables b e (2 + k) < length ram.pages = table_page-below ram n tables b e (2 + k) fits he (omega arith) in
    record {
      middle = rw at.middle middle;
      table = rw at.table table;
      apart = λ same. apart tables b e 1 e (2 + k) (omega arith) (omega arith) (inr (λ h. absurd (omega arith))) (sym at.middle ∙ same ∙ at.table);
      whole_middle = rw at.middle (whole 1 (omega arith));
      whole_table = rw at.table (whole (2 + k) (omega arith));
      entry = rw at.entry (omega arith);
      link = rw at.link (omega arith);
      fits = rw at.link (omega arith);
      aligned = rw at.address (omega arith);
      within = rw at.address (omega arith);
    }

-- what built tables say at a place
pub maps-of : (ram : Ram) (tables b e k : ℕ) (x : BlockPlace) (rights : ℕ → Option Rights) → IsPlaceOf ram tables b e k x → InBlock ram tables b e rights k
    → Maps ram x (rights_of_block rights k)
maps-of ram tables b e k x rights at mapped = rw (at.middle, at.entry, at.table, at.link, at.address) mapped

module _ (law : ℕ → ℕ → List ℕ → ℕ → (ℕ → Option Rights) → Type 0)
    (law-rights : (word link : ℕ) (page : List ℕ) (address : ℕ) (f g : ℕ → Option Rights) → ((j : ℕ) → j < 512 → f j ≡ g j) → law word link page address f → law word link page address g)
    (old new : Ram) (n tables b e k : ℕ) (f g : ℕ → ℕ → Option Rights) (x : BlockPlace) (built : IsBuiltBy law old n tables b f) (he : e < n) (hk : k < b)
    (at : IsPlaceOf old tables b e k x) (beside : KeepsBeside old new x) (mapped : law (word_at new x) x.link (page_of new x.table.0) x.address (rights_of_block (g e) k))
    (same : (e' k' j : ℕ) → e' < n → k' < b → j < 512 → ((e' ≢ e) ⊎ (k' ≢ k)) → f e' (512 * k' + j) ≡ g e' (512 * k' + j)) where
  page-other : (e' s : ℕ) → s < table_pages b → ((e' ≢ e) ⊎ ((s ≢ 1) × (s ≢ 2 + k))) → page_of new (table_page tables b e' s) ≡ page_of old (table_page tables b e' s)
  page-other e' s hs (inl far) =
      beside.pages (table_page tables b e' s) (λ h. apart tables b e' s e 1 hs (omega arith) (inl far) (h ∙ at.middle))
      (λ h. apart tables b e' s e (2 + k) hs (omega arith) (inl far) (h ∙ at.table))
  page-other e' s hs (inr (one, two)) =
      beside.pages (table_page tables b e' s) (λ h. apart tables b e' s e 1 hs (omega arith) (inr one) (h ∙ at.middle))
      (λ h. apart tables b e' s e (2 + k) hs (omega arith) (inr two) (h ∙ at.table))

  word-other : (e' s j : ℕ) → s < table_pages b → ((e' ≢ e) ⊎ ((s ≢ 1) × (s ≢ 2 + k)))
      → word_of (page_of new (table_page tables b e' s)) j ≡ word_of (page_of old (table_page tables b e' s)) j
  word-other e' s j hs far = ap (λ (bytes : List ℕ). word_of bytes j) (page-other e' s hs far)

  -- the other words of the endpoint's level 2 page
  level2-other : (j : ℕ) → j < 512 → j ≢ level2_place old.base + k
      → word_of (page_of new (table_page tables b e 1)) j ≡ word_of (page_of old (table_page tables b e 1)) j
  level2-other j hj other = rw at.middle at (beside.words j hj (λ h. other (h ∙ at.entry)))

  whole-after : (e' s : ℕ) → e' < n → s < table_pages b → length (page_of new (table_page tables b e' s)) ≡ 4096
  whole-after e' s he' hs = elim (cases_eq e' e) [
    | inr far ↦ ap length (page-other e' s hs (inl far)) ∙ built.whole e' s he' hs
    | inl same_e ↦ elim (cases_eq s 1) [
      | inl middle ↦ rw (same_e, middle) (rw at.middle at beside.whole_middle)
      | inr one ↦ elim (cases_eq s (2 + k)) [
        | inl table ↦ rw (same_e, table) (rw at.table at beside.whole_table)
        | inr two ↦ ap length (page-other e' s hs (inr (one, two))) ∙ built.whole e' s he' hs
      ]
    ]
  ]

  outside-after : (e' j : ℕ) → e' < n → j < 512 → ((j < level2_place old.base) ⊎ (level2_place old.base + b ≤ j))
      → word_of (page_of new (table_page tables b e' 1)) j ≡ 0
  outside-after e' j he' hj off = elim (cases_eq e' e) [
    | inr far ↦ word-other e' 1 j (omega arith) (inl far) ∙ built.outside e' j he' hj off
    | inl same_e ↦
        rw same_e (level2-other j hj (λ h. elim off [ inl low ↦ absurd (omega arith) | inr high ↦ absurd (omega arith) ]))
        ∙ rw same_e at (built.outside e' j he' hj off)
  ]

  here-after : InBlockBy law new tables b e (g e) k
  here-after =
      law-same law (word_at new x) (level2_word new tables b e k) x.link (table_link new.base tables b e (2 + k)) (page_of new x.table.0) (page_of new (table_page tables b e (2 + k)))
      x.address (block_address new k) (rights_of_block (g e) k)
      (rw (at.middle, at.entry, beside.base) refl) (rw (at.link, beside.base) refl) (rw at.table refl) (rw (at.address, beside.base) refl) mapped

  other-after : (e' k' : ℕ) → e' < n → k' < b → ((e' ≢ e) ⊎ (k' ≢ k))
      → word_of (page_of new (table_page tables b e' 1)) (level2_place old.base + k') ≡ level2_word old tables b e' k'
      → page_of new (table_page tables b e' (2 + k')) ≡ page_of old (table_page tables b e' (2 + k')) → InBlockBy law new tables b e' (g e') k'
  other-after e' k' he' hk' far word page =
      law-same law (level2_word old tables b e' k') (level2_word new tables b e' k') (table_link old.base tables b e' (2 + k')) (table_link new.base tables b e' (2 + k'))
      (page_of old (table_page tables b e' (2 + k'))) (page_of new (table_page tables b e' (2 + k'))) (block_address old k') (block_address new k') (rights_of_block (g e') k')
      (rw beside.base word) (ap (λ (a : ℕ). table_link a tables b e' (2 + k')) beside.base) page (ap (λ (a : ℕ). a + 0x200000 * k') beside.base)
      (law-rights (level2_word old tables b e' k') (table_link old.base tables b e' (2 + k')) (page_of old (table_page tables b e' (2 + k'))) (block_address old k')
      (rights_of_block (f e') k') (rights_of_block (g e') k') (λ j hj. same e' k' j he' hk' hj far) (built.each e' k' he' hk'))

  each-after : (e' k' : ℕ) → e' < n → k' < b → InBlockBy law new tables b e' (g e') k'
  each-after e' k' he' hk' =
      let place : old.base % 0x200000 ≡ 0 = built.fits.place in
      let one : old.base % 2 ^ 30 + 0x200000 * b ≤ 2 ^ 30 = built.fits.one_table in
      let within : old.base + 0x200000 * b ≤ 2 ^ 32 = built.fits.within in
      let few : b ≤ MOST_BLOCKS = built.fits.few in
      elim (cases_eq e' e) [
        | inr far ↦ other-after e' k' he' hk' (inl far) (word-other e' 1 (level2_place old.base + k') (omega arith) (inl far)) (page-other e' (2 + k') (omega arith) (inl far))
        | inl same_e ↦ elim (cases_eq k' k) [
          | inl same_k ↦ rw (same_e, same_k) here-after
          | inr off ↦
              other-after e' k' he' hk' (inr off)
              (rw same_e (level2-other (level2_place old.base + k') (omega arith) (λ h. off (omega arith))))
              (page-other e' (2 + k') (omega arith) (inr ((λ h. absurd (omega arith)), (λ h. off (omega arith)))))
        ]
      ]

  -- tables are built after a change in one block
  pub built_by-beside : IsBuiltBy law new n tables b g
  built_by-beside = record {
    fits = HasRoom-kept old new n tables b built.fits beside.base beside.size;
    whole = whole-after;
    level1 = λ e' j he' hj. rw beside.base (word-other e' 0 j (omega arith) (inr ((λ h. absurd (omega arith)), (λ h. absurd (omega arith)))) ∙ built.level1 e' j he' hj);
    outside = λ e' j he' hj off. outside-after e' j he' hj (rw beside.base at off);
    each = each-after;
  }

module _ (old new : Ram) (n tables b e k : ℕ) (f g : ℕ → ℕ → Option Rights) (x : BlockPlace) where
  pub built-beside : IsBuilt old n tables b f → e < n → k < b → IsPlaceOf old tables b e k x → KeepsBeside old new x → Maps new x (rights_of_block (g e) k)
      → ((e' k' j : ℕ) → e' < n → k' < b → j < 512 → ((e' ≢ e) ⊎ (k' ≢ k)) → f e' (512 * k' + j) ≡ g e' (512 * k' + j)) → IsBuilt new n tables b g
  built-beside built he hk at beside mapped same = built_by-beside IsMapped IsMapped-rights old new n tables b e k f g x built he hk at beside mapped same

  -- and so they stand between two writes
  pub standing-beside : IsStanding old n tables b f → e < n → k < b → IsPlaceOf old tables b e k x → KeepsBeside old new x → Stands new x (rights_of_block (g e) k)
      → ((e' k' j : ℕ) → e' < n → k' < b → j < 512 → ((e' ≢ e) ⊎ (k' ≢ k)) → f e' (512 * k' + j) ≡ g e' (512 * k' + j)) → IsStanding new n tables b g
  standing-beside standing he hk at beside stands same = built_by-beside IsEither IsEither-rights old new n tables b e k f g x standing he hk at beside stands same

-- and no page but the endpoint's table pages changed
pub others-beside : (old new : Ram) (tables b e k : ℕ) (x : BlockPlace) → k < b → IsPlaceOf old tables b e k x → KeepsBeside old new x → KeepsOthers old new tables b e
others-beside old new tables b e k x hk at beside = record {
  base = beside.base;
  size = beside.size;
  pages = λ p h. beside.pages p
      (λ same. elim h [ inl low ↦ absurd (omega (arith, low, same, at.middle)) | inr high ↦ absurd (omega (arith, high, same, at.middle)) ])
      (λ same. elim h [ inl low ↦ absurd (omega (arith, low, same, at.table)) | inr high ↦ absurd (omega (arith, high, same, at.table)) ]);
}

-- built tables have blocks where they belong
pub blocks-built : (ram : Ram) (n tables b : ℕ) (access : ℕ → ℕ → Option Rights) → IsBuilt ram n tables b access → BlocksWhereOne ram n tables b access
blocks-built ram n tables b access built e k he hk =
    let place : ram.base % 0x200000 ≡ 0 = built.fits.place in
    let one : ram.base % 2 ^ 30 + 0x200000 * b ≤ 2 ^ 30 = built.fits.one_table in
    let within : ram.base + 0x200000 * b ≤ 2 ^ 32 = built.fits.within in
    IsBlockWhereOne-of _ _ _ _ _ (omega arith) (omega arith) (omega arith) (built.each e k he hk)
