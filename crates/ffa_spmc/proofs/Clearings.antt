-- SPDX-License-Identifier: MIT OR Apache-2.0
-- RAM that is cleared page by page, but for the pages of regions.
use Rattle.std.specs.Prelude.{replicate}
use Rattle.std.proofs.Common.{◌≡◌, ◌≢◌, ◌∙◌, ℕ, ◌+◌, ◌*◌, ◌<◌, ◌≤◌, [], List, length, sym, ap, subst, arith, inl, inr}
use Rattle.std.proofs.lemmas.Bool.{cases_eq}
use Rattle.std.proofs.lemmas.List.{get_or-set_other, get_or-set_same, length-set}
use Rattle.ffa_model.specs.declared.manifest.Manifest.{Manifest}
use Rattle.ffa_model.specs.Identifiers.{manager}
use Rattle.ffa_model.specs.Ram.{Ram, page_of, with_page}
use Rattle.ffa_model.specs.SoundState.{are_bytes}
use Rattle.ffa_spmc.specs.Readied.{IsReadyFor, first_owner}

-- so it is up to a page
pub record IsClearedTo (m : Manifest) (old ram : Ram) (end : ℕ) : Type 0 where
  pub base : ram.base ≡ old.base
  pub size : length ram.pages ≡ length old.pages
  pub kept : (p : ℕ) → first_owner m p ≢ manager → page_of ram p ≡ page_of old p
  pub whole : (p : ℕ) → p < end → (length (page_of ram p) ≡ 4096) × are_bytes (page_of ram p)
  pub cleared : (p : ℕ) → p < end → first_owner m p ≡ manager → page_of ram p ≡ replicate 4096 0

module _ (m : Manifest) (old ram new : Ram) (end : ℕ) (so_far : IsClearedTo m old ram end) (inside : end < length ram.pages)
    (cleared : first_owner m end ≡ manager → new ≡ with_page ram end (replicate 4096 0)) (kept : first_owner m end ≢ manager → new ≡ ram) where
  base-same : new.base ≡ ram.base
  base-same = elim (cases_eq (first_owner m end) manager) [
    | inl is ↦ ap (λ (r : Ram). r.base) (cleared is)
    | inr other ↦ ap (λ (r : Ram). r.base) (kept other)
  ]

  size-same : length new.pages ≡ length ram.pages
  size-same = elim (cases_eq (first_owner m end) manager) [
    | inl is ↦ ap (λ (r : Ram). length r.pages) (cleared is) ∙ length-set ram.pages end (replicate 4096 0)
    | inr other ↦ ap (λ (r : Ram). length r.pages) (kept other)
  ]

  beside : (p : ℕ) → p ≢ end → page_of new p ≡ page_of ram p
  beside p apart = elim (cases_eq (first_owner m end) manager) [
    | inl is ↦ ap (λ (r : Ram). page_of r p) (cleared is) ∙ get_or-set_other ram.pages end p (replicate 4096 0) [] apart
    | inr other ↦ ap (λ (r : Ram). page_of r p) (kept other)
  ]

  owned : (p : ℕ) → first_owner m p ≢ manager → page_of new p ≡ page_of ram p
  owned p other = elim (cases_eq p end) [
    | inl is ↦ ap (λ (r : Ram). page_of r p) (kept (λ managers. other (ap (first_owner m) is ∙ managers)))
    | inr apart ↦ beside p apart
  ]

  managers : (p : ℕ) → p ≡ end → first_owner m p ≡ manager → page_of new p ≡ replicate 4096 0
  managers p is its =
      ap (page_of new) is ∙ ap (λ (r : Ram). page_of r end) (cleared (ap (first_owner m) (sym is) ∙ its))
      ∙ get_or-set_same ram.pages end (replicate 4096 0) [] inside

  -- and up to the next
  pub cleared-next : length (page_of new end) ≡ 4096 → are_bytes (page_of new end) → IsClearedTo m old new (end + 1)
  cleared-next size bytes =
      record {
        base = base-same ∙ so_far.base;
        size = size-same ∙ so_far.size;
        kept = λ p other. owned p other ∙ so_far.kept p other;
        whole = λ p high. elim (cases_eq p end) [
          | inl is ↦ subst (λ (q : ℕ). (length (page_of new q) ≡ 4096) × are_bytes (page_of new q)) (sym is) (size, bytes)
          | inr apart ↦
              subst (λ (page : List ℕ). (length page ≡ 4096) × are_bytes page) (sym (beside p apart)) (so_far.whole p (omega (arith, high, apart)))
        ];
        cleared = λ p high its. elim (cases_eq p end) [
          | inl is ↦ managers p is its
          | inr apart ↦ beside p apart ∙ so_far.cleared p (omega (arith, high, apart)) its
        ];
      }

-- up to the end of RAM: a machine begins in it
pub cleared-ready : (m : Manifest) (old ram : Ram) (end : ℕ) → old.base ≡ m.ram_base.0 → length old.pages ≡ 512 * m.ram_blocks → length old.pages ≤ end
    → IsClearedTo m old ram end → IsReadyFor m ram
cleared-ready m old ram end base size past done =
    record {
      base = done.base ∙ base;
      size = done.size ∙ size;
      whole = λ p inside other. done.whole p (omega (arith, inside, done.size, past));
      cleared = λ p inside its. done.cleared p (omega (arith, inside, done.size, past)) its;
    }
