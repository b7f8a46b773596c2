-- SPDX-License-Identifier: MIT OR Apache-2.0
-- A change in a run of pages of one block keeps the tables built, with the rights of these pages changed; and so do such changes one after another.
use Rattle.std.proofs.Common.{◌≡◌, ◌∙◌, ℕ, ◌+◌, ◌-◌, ◌*◌, ◌/◌, ◌<◌, ◌≤◌, false, refl, ap, sym, arith, Option, length, inl, inr, ◌==◌, ◌&&◌, nat_le, nat_lt, if◌then◌else◌}
use Rattle.std.proofs.lemmas.Bool.{cases_lt, cases_Bool}
use Rattle.std.proofs.lemmas.Bool.Decides.{nat_tests}
use Rattle.ffa_model.specs.Ram.{Ram}
use Rattle.ffa_model.specs.Walk.{Answer, is_in_ram, mapped_answer}
use Rattle.ffa_model.specs.declared.rights.Rights.{Rights}
use Rattle.ffa_stage2.specs.declared.blocks.BlockPlace.{BlockPlace}
use Rattle.ffa_stage2.specs.Tables.{IsBuilt, rights_of_block, with_pages, answer, is_in_pages, WalksChange, KeepsOthers}
use Rattle.ffa_stage2.specs.Places.{Maps, KeepsBeside, with_run, IsPlaceOf}
use Rattle.ffa_stage2.proofs.Changes.{built-beside, maps-of}
use Rattle.ffa_stage2.proofs.OneBlock.{IsMapped-rights}
use Rattle.ffa_stage2.proofs.Rights.{built-same, with_pages-other, with_pages-more}
use Rattle.ffa_stage2.proofs.Walks.{walk-built}

-- the rights to a run of a block
pub with_pages-block : (access : ℕ → ℕ → Option Rights) (e k from to : ℕ) (right : Option Rights) (j : ℕ)
    → with_run (rights_of_block (access e) k) from to right j ≡ rights_of_block (with_pages access e (512 * k + from) (512 * k + to) right e) k j
with_pages-block access e k from to right j =
    let same : (e == e && (nat_le (512 * k + from) (512 * k + j) && nat_lt (512 * k + j) (512 * k + to))) ≡ (nat_le from j && nat_lt j to) = grind (arith, nat_tests) in
    rw same

-- ---- tables

pub run-built : (old new : Ram) (n tables b e k from to : ℕ) (access : ℕ → ℕ → Option Rights) (right : Option Rights) (x : BlockPlace) → IsBuilt old n tables b access → e < n → k < b
    → IsPlaceOf old tables b e k x → KeepsBeside old new x → to ≤ 512 → ((rights : ℕ → Option Rights) → Maps old x rights → Maps new x (with_run rights from to right))
    → IsBuilt new n tables b (with_pages access e (512 * k + from) (512 * k + to) right)
run-built old new n tables b e k from to access right x built he hk at beside few mapped =
    let after : ℕ → ℕ → Option Rights = with_pages access e (512 * k + from) (512 * k + to) right in
    built-beside old new n tables b e k access after x built he hk at beside
    (IsMapped-rights _ _ _ _ (with_run (rights_of_block (access e) k) from to right) (rights_of_block (after e) k) (λ j _. with_pages-block access e k from to right j)
    (mapped (rights_of_block (access e) k) (maps-of old tables b e k x (access e) at (built.each e k he hk))))
    (λ e' k' j _ _ hj far. sym (with_pages-other access e (512 * k + from) (512 * k + to) right e' (512 * k' + j) (elim far [
      | inl other ↦ inl other
      | inr other ↦ inr (elim (cases_lt k' k) [ inl low ↦ inl (omega (arith, low, hj)) | inr high ↦ inr (omega (arith, high, other, few)) ])
    ])))

-- pages from the first up to the next have the right, and then those up to another
pub runs-built : (old new : Ram) (n tables b e first next end k from to : ℕ) (access : ℕ → ℕ → Option Rights) (right : Option Rights) (x : BlockPlace)
    → IsBuilt old n tables b (with_pages access e first next right) → e < n → k < b → IsPlaceOf old tables b e k x → KeepsBeside old new x → first ≤ next → next ≤ end
    → 512 * k + from ≡ next → 512 * k + to ≡ end → to ≤ 512
    → ((rights : ℕ → Option Rights) → Maps old x rights → Maps new x (with_run rights from to right))
    → IsBuilt new n tables b (with_pages access e first end right)
runs-built old new n tables b e first next end k from to access right x built he hk at beside low high start stop few mapped =
    let one = run-built old new n tables b e k from to (with_pages access e first next right) right x built he hk at beside few mapped in
    built-same new n tables b (with_pages (with_pages access e first next right) e next end right) (with_pages access e first end right)
    (rw (start, stop) at one)
    (λ e' p _ _. with_pages-more access e first next end right e' p low high)

pub KeepsOthers-same : (ram : Ram) (tables b e : ℕ) → KeepsOthers ram ram tables b e
KeepsOthers-same ram tables b e = record { base = refl; size = refl; pages = λ p _. refl }

pub KeepsOthers-then : (old middle new : Ram) (tables b e : ℕ) → KeepsOthers old middle tables b e → KeepsOthers middle new tables b e → KeepsOthers old new tables b e
KeepsOthers-then old middle new tables b e first second = record {
  base = second.base ∙ first.base;
  size = second.size ∙ first.size;
  pages = λ p h. second.pages p h ∙ first.pages p h;
}

-- ---- walks

module _ (old new : Ram) (n tables b : ℕ) (access : ℕ → ℕ → Option Rights) (e first end : ℕ) (right : Option Rights) (built : IsBuilt old n tables b access)
    (after : IsBuilt new n tables b (with_pages access e first end right)) (inside : end ≤ 512 * b) (base : new.base ≡ old.base) (size : length new.pages ≡ length old.pages) where
  answer-changed : (e' a : ℕ) → answer new (with_pages access e first end right) e' a ≡ (if e' == e && is_in_pages old first end a then mapped_answer right a else answer old access e' a)
  answer-changed e' a = rw (base, size) (elim (cases_Bool (is_in_ram old a)) [
    | inl here ↦
        let page : ℕ = (a - old.base) / 4096 in
        let t : (e' == e && is_in_pages old first end a) ≡ (e' == e && (nat_le first page && nat_lt page end)) = grind (arith, nat_tests) in
        elim (cases_Bool (e' == e && (nat_le first page && nat_lt page end))) [
          | inl its ↦ rw (here, t, its)
          | inr other ↦ rw (here, t, other)
        ]
    | inr out ↦
        let t : (e' == e && is_in_pages old first end a) ≡ false = grind (arith, nat_tests, built.fits.size) in
        rw (out, t)
  ])

  pub runs-walk : WalksChange old new n tables b e first end right
  runs-walk e' a he' ha =
      walk-built new n tables b (with_pages access e first end right) e' a after he' ha ∙ answer-changed e' a
      ∙ ap (λ (r : Answer). if e' == e && is_in_pages old first end a then mapped_answer right a else r) (sym (walk-built old n tables b access e' a built he' ha))
