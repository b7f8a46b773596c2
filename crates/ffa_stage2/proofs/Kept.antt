-- SPDX-License-Identifier: MIT OR Apache-2.0
-- What is left of the tables and of the other pages after writes elsewhere.
use Rattle.std.proofs.Common.{◌≡◌, ◌∙◌, ℕ, ◌+◌, ◌*◌, ◌<◌, ◌≤◌, refl, ap, arith, List, length, Option, inl, inr}
use Rattle.std.proofs.lemmas.Nat.{mul-add-lt}
use Rattle.ffa_model.specs.Ram.{Ram, page_of, word_of}
use Rattle.ffa_model.specs.Manifest.{table_pages}
use Rattle.ffa_model.specs.declared.rights.Rights.{Rights}
use Rattle.ffa_stage2.specs.Blocks.{IsMapped}
use Rattle.ffa_stage2.specs.Tables.{IsBuilt, IsBuiltBy, HasRoom, table_page, table_link, level2_place, level2_word, block_address, rights_of_block, KeepsOthers, KeepsRest}
use Rattle.ffa_stage2.proofs.Places.{table_page-below_end}
use Rattle.ffa_stage2.proofs.OneBlock.{law-same}

-- a RAM that stands alike has room alike
pub HasRoom-kept : (old new : Ram) (n tables b : ℕ) → HasRoom old n tables b → new.base ≡ old.base → length new.pages ≡ length old.pages → HasRoom new n tables b
HasRoom-kept old new n tables b fits base size = record {
  place = rw base fits.place;
  one_table = rw base fits.one_table;
  few = fits.few;
  within = rw base fits.within;
  size = size ∙ fits.size;
  room = fits.room;
}

-- tables in the same bytes are built for the same access
pub built_by-kept : (law : ℕ → ℕ → List ℕ → ℕ → (ℕ → Option Rights) → Type 0) (old new : Ram) (n tables b : ℕ) (access : ℕ → ℕ → Option Rights)
    → IsBuiltBy law old n tables b access → new.base ≡ old.base → length new.pages ≡ length old.pages
    → ((p : ℕ) → tables ≤ p → p < table_page tables b n 0 → page_of new p ≡ page_of old p) → IsBuiltBy law new n tables b access
built_by-kept law old new n tables b access built base size same =
    let page : (e s : ℕ) → e < n → s < table_pages b → page_of new (table_page tables b e s) ≡ page_of old (table_page tables b e s) =
    λ e s he hs. same (table_page tables b e s) (omega arith) (omega (arith, table_page-below_end n tables b e s he hs))
    in
    let word : (e s j : ℕ) → e < n → s < table_pages b → word_of (page_of new (table_page tables b e s)) j ≡ word_of (page_of old (table_page tables b e s)) j =
    λ e s j he hs. ap (λ (bytes : List ℕ). word_of bytes j) (page e s he hs)
    in
    record {
      fits = HasRoom-kept old new n tables b built.fits base size;
      whole = λ e s he hs. ap length (page e s he hs) ∙ built.whole e s he hs;
      level1 = λ e j he hj. rw base (word e 0 j he (omega arith) ∙ built.level1 e j he hj);
      outside = λ e j he hj off. word e 1 j he (omega arith) ∙ built.outside e j he hj (rw base at off);
      each = λ e k he hk.
          law-same law (level2_word old tables b e k) (level2_word new tables b e k) (table_link old.base tables b e (2 + k)) (table_link new.base tables b e (2 + k))
          (page_of old (table_page tables b e (2 + k))) (page_of new (table_page tables b e (2 + k))) (block_address old k) (block_address new k) (rights_of_block (access e) k)
          (rw base (word e 1 (level2_place old.base + k) he (omega arith))) (ap (λ (a : ℕ). table_link a tables b e (2 + k)) base)
          (page e (2 + k) he (omega arith)) (ap (λ (a : ℕ). a + 0x200000 * k) base) (built.each e k he hk);
    }

pub built-kept : (old new : Ram) (n tables b : ℕ) (access : ℕ → ℕ → Option Rights) → IsBuilt old n tables b access → new.base ≡ old.base → length new.pages ≡ length old.pages
    → ((p : ℕ) → tables ≤ p → p < table_page tables b n 0 → page_of new p ≡ page_of old p) → IsBuilt new n tables b access
built-kept old new n tables b access built base size same = built_by-kept IsMapped old new n tables b access built base size same

pub KeepsRest-same : (ram : Ram) (n tables b : ℕ) → KeepsRest ram ram n tables b
KeepsRest-same ram n tables b = record { base = refl; size = refl; pages = λ p h. refl }

pub KeepsRest-then : (old middle new : Ram) (n tables b : ℕ) → KeepsRest old middle n tables b → KeepsRest middle new n tables b → KeepsRest old new n tables b
KeepsRest-then old middle new n tables b first second = record {
  base = second.base ∙ first.base;
  size = second.size ∙ first.size;
  pages = λ p h. second.pages p h ∙ first.pages p h;
}

-- an endpoint's table pages are none of the rest
pub KeepsRest-of_others : (old new : Ram) (n tables b e : ℕ) → KeepsOthers old new tables b e → e < n → KeepsRest old new n tables b
KeepsRest-of_others old new n tables b e others he = record {
  base = others.base;
  size = others.size;
  pages = λ p h. others.pages p (elim h [
    | inl low ↦ inl (omega (arith, low))
    | inr high ↦ inr (omega (arith, high, mul-add-lt e (2 + b) (1 + b) n he (omega arith)))
  ]);
}
