-- SPDX-License-Identifier: MIT OR Apache-2.0
-- Who keeps its accesses to a block of RAM: its walks there, and what is held there, while other tables are written.
use Rattle.std.proofs.Common.{◌≡◌, ◌∙◌, ℕ, ◌+◌, ◌*◌, ◌/◌, ◌%◌, ◌^◌, ◌<◌, ◌≤◌, true, refl, ap, sym, subst, arith, List, [], ◌∷◌, length, Option, inl, inr, ◌⊎◌, ◌==◌, nat_lt, get_or-set_other, get_or-set_same, length-set}
use Rattle.std.proofs.lemmas.Bool.{cases_eq}
use Rattle.std.proofs.lemmas.Bool.Decides.{nat_tests}
use Rattle.ffa_model.specs.declared.limits.TheConstants.{MOST_BLOCKS}
use Rattle.ffa_model.specs.Bits.{bits}
use Rattle.ffa_model.specs.Manifest.{root_of, table_pages}
use Rattle.ffa_model.specs.Ram.{Ram, page_of, with_page, with_word, word_of}
use Rattle.ffa_model.specs.Walk.{Answer, entry, from_level1, from_level2, from_level3, is_page_address, walk}
use Rattle.ffa_model.specs.declared.rights.Rights.{Rights}
use Rattle.ffa_physmem.specs.Moments.{Past, StaysPlaced, Step}
use Rattle.ffa_stage2.specs.Blocks.{block_word}
use Rattle.ffa_stage2.specs.Held.{IsMixedAnswer, IsUnshaken, MayHold}
use Rattle.ffa_stage2.specs.Mixtures.{IsMixture, MayRead}
use Rattle.ffa_stage2.specs.Moments.{IsInOrder, IsMoment, WalksSameIn, walk_at}
use Rattle.ffa_stage2.specs.Orders.{IsOrdered, IsWritten}
use Rattle.ffa_stage2.specs.Rest.{Reads}
use Rattle.ffa_stage2.specs.Tables.{HasRoom, IsStanding, level1_place, level2_place, table_link, table_page}
use Rattle.ffa_stage2.proofs.Descriptors.{block_word-fits, entry-page, from_level1-table, from_level2-block_word, from_level2-table, from_level2-zero}
use Rattle.ffa_stage2.proofs.Kept.{HasRoom-kept}
use Rattle.ffa_stage2.proofs.Mixtures.{may-kept, may-now, other-page}
use Rattle.ffa_stage2.proofs.Moments.{moment-order}
use Rattle.ffa_stage2.proofs.OneBlock.{written}
use Rattle.ffa_stage2.proofs.Places.{table_page-address, table_page-below, table_page-there}

-- ---- words that a step leaves

-- on the way to block k a walk reads no word of another block
abbrev IsOnWay : ℕ → ℕ → ℕ → ℕ → Type 0
IsOnWay base k t i = (k' : ℕ) → (k ≡ k' → ⊥) → (t ≡ 2 + k' → ⊥) × (t ≡ 1 → i ≡ level2_place base + k' → ⊥)

on-top : (base k i : ℕ) → IsOnWay base k 0 i
on-top base k i k' far = ((λ same. omega (arith, same)), (λ one _. omega (arith, one)))

on-middle : (base k : ℕ) → IsOnWay base k 1 (level2_place base + k)
on-middle base k k' far = ((λ same. omega (arith, same)), (λ _ same. far (omega (arith, same))))

on-leaf : (base k j : ℕ) → IsOnWay base k (2 + k) j
on-leaf base k j k' far = ((λ same. far (omega (arith, same))), (λ one _. omega (arith, one)))

module _ (old : Ram) (n tables b : ℕ) (h : List Step) (s : Step) (Stays : ℕ → ℕ → Type 0) where
  own-word : (e k t i : ℕ) → Stays e k → IsOnWay old.base k t i → IsOrdered old tables b (Stays e) e h s
      → word_of (page_of s.after (table_page tables b e t)) i ≡ word_of (page_of s.before (table_page tables b e t)) i
  own-word e k t i stays off (inl same) = ap (λ (r : Ram). word_of (page_of r (table_page tables b e t)) i) same
  own-word e k t i stays off (inr (k', hk', keeps, write)) = elim (cases_eq k k') [
    | inl here ↦ keeps (subst (Stays e) here stays) (table_page tables b e t) i
    | inr far ↦ elim write [
      | inl leaf ↦ ap (λ (bytes : List ℕ). word_of bytes i) (leaf.write.pages (table_page tables b e t) (λ same. absurd ((off k' far).0 (omega (arith, same)))))
      | inr block ↦ elim (cases_eq t 1) [
        | inl one ↦ rw one (block.write.words i (λ same. absurd ((off k' far).1 one same)))
        | inr other ↦ ap (λ (bytes : List ℕ). word_of bytes i) (block.write.pages (table_page tables b e t) (λ same. absurd (other (omega (arith, same)))))
      ]
    ]
  ]

  still-word : (e k t i : ℕ) → e < n → t < table_pages b → Stays e k → IsOnWay old.base k t i → IsInOrder old n tables b Stays h s
      → word_of (page_of s.after (table_page tables b e t)) i ≡ word_of (page_of s.before (table_page tables b e t)) i
  still-word e k t i he ht stays off (inl kept) =
      let (from, below) = table_page-there n tables b e t he ht in
      ap (λ (bytes : List ℕ). word_of bytes i) (kept (table_page tables b e t) from below)
  still-word e k t i he ht stays off (inr (e', he', ordered)) = elim (cases_eq e e') [
    | inl same ↦ own-word e k t i stays off (subst (λ (x : ℕ). IsOrdered old tables b (Stays x) x h s) (sym same) ordered)
    | inr far ↦ ap (λ (bytes : List ℕ). word_of bytes i) (other-page old tables b e e' t (Stays e') h s ht far ordered)
  ]

-- ---- a walk into a block

-- what is read at level 2 on the way to block k
abbrev IsKind : ℕ → ℕ → ℕ → ℕ → ℕ → ℕ → Type 0
IsKind base tables b e k v = (v ≡ 0) ⊎ (((r : Rights) × (v ≡ block_word (base + 0x200000 * k) r)) ⊎ (v ≡ table_link base tables b e (2 + k)))

-- it leads by that word
module _ (m : Ram) (n tables b e k j i : ℕ) (fits : HasRoom m n tables b) (he : e < n) (hk : k < b) (hj : j < 512) (hi : i < 4096)
    (top : word_of (page_of m (table_page tables b e 0)) (level1_place m.base) ≡ table_link m.base tables b e 1) where
  into-block : walk_at m tables b e (m.base + 4096 * (512 * k + j) + i)
      ≡ from_level2 m (word_of (page_of m (table_page tables b e 1)) (level2_place m.base + k)) (m.base + 4096 * (512 * k + j) + i)
  unfolding walk
  into-block =
      let base : ℕ = m.base in
      let a : ℕ = base + 4096 * (512 * k + j) + i in
      let t : ℕ = base + 4096 * table_page tables b e 1 in
      let aligned : m.base % 0x200000 ≡ 0 = fits.place in
      let one : m.base % 2 ^ 30 + 0x200000 * b ≤ 2 ^ 30 = fits.one_table in
      let within : m.base + 0x200000 * b ≤ 2 ^ 32 = fits.within in
      let size : length m.pages ≡ 512 * b = fits.size in
      let low : a < base + 0x200000 * b = omega arith in
      let fits' : nat_lt a (2 ^ 32) ≡ true = grind (arith, nat_tests) in
      let root : root_of m.base tables b e ≡ m.base + 4096 * table_page tables b e 0 = omega arith in
      let first : bits 31 30 a ≡ level1_place base = omega arith in
      let second : bits 29 21 a ≡ level2_place base + k = omega arith in
      let below : table_page tables b e 1 < length m.pages = table_page-below m n tables b e 1 fits he (omega arith) in
      rw fits' (ap (λ (w : ℕ). from_level1 m w a)
      (ap (λ (x : ℕ). entry m x (bits 31 30 a)) root ∙ entry-page m (table_page tables b e 0) (bits 31 30 a)
      ∙ ap (λ (x : ℕ). word_of (page_of m (table_page tables b e 0)) x) first ∙ top)
      ∙ from_level1-table m t a (omega arith) (omega arith) (table_page-address m n tables b e 1 fits he (omega arith))
      ∙ ap (λ (w : ℕ). from_level2 m w a)
      (entry-page m (table_page tables b e 1) (bits 29 21 a) ∙ ap (λ (x : ℕ). word_of (page_of m (table_page tables b e 1)) x) second))

-- two RAMs whose words on the way are the same give the same
module _ (m o : Ram) (n tables b e k j i : ℕ) (fits : HasRoom m n tables b) (base : o.base ≡ m.base) (size : length o.pages ≡ length m.pages)
    (he : e < n) (hk : k < b) (hj : j < 512) (hi : i < 4096)
    (top : word_of (page_of m (table_page tables b e 0)) (level1_place m.base) ≡ table_link m.base tables b e 1)
    (same_top : word_of (page_of o (table_page tables b e 0)) (level1_place m.base) ≡ word_of (page_of m (table_page tables b e 0)) (level1_place m.base))
    (same_middle : word_of (page_of o (table_page tables b e 1)) (level2_place m.base + k) ≡ word_of (page_of m (table_page tables b e 1)) (level2_place m.base + k))
    (same_leaf : word_of (page_of o (table_page tables b e (2 + k))) j ≡ word_of (page_of m (table_page tables b e (2 + k))) j)
    (kind : IsKind m.base tables b e k (word_of (page_of m (table_page tables b e 1)) (level2_place m.base + k))) where
  abbrev a : ℕ
  a = m.base + 4096 * (512 * k + j) + i

  from-word : (v : ℕ) → IsKind m.base tables b e k v → from_level2 o v a ≡ from_level2 m v a
  from-word v (inl zero) = ap (λ (w : ℕ). from_level2 o w a) zero ∙ from_level2-zero o a ∙ sym (ap (λ (w : ℕ). from_level2 m w a) zero ∙ from_level2-zero m a)
  from-word v (inr (inl (r, is))) =
      let g : ℕ = (m.base + 0x200000 * k) / 0x200000 in
      let aligned : m.base % 0x200000 ≡ 0 = fits.place in
      let within : m.base + 0x200000 * b ≤ 2 ^ 32 = fits.within in
      let address : m.base + 0x200000 * k ≡ 0x200000 * g = omega arith in
      let at : v ≡ block_word (0x200000 * g) r = is ∙ ap (λ (x : ℕ). block_word x r) address in
      let small : g < 2 ^ 27 = omega arith in
      ap (λ (w : ℕ). from_level2 o w a) at ∙ from_level2-block_word o r g a small
      ∙ sym (ap (λ (w : ℕ). from_level2 m w a) at ∙ from_level2-block_word m r g a small)
  from-word v (inr (inr is)) =
      let t : ℕ = m.base + 4096 * table_page tables b e (2 + k) in
      let aligned : m.base % 0x200000 ≡ 0 = fits.place in
      let within : m.base + 0x200000 * b ≤ 2 ^ 32 = fits.within in
      let full : length m.pages ≡ 512 * b = fits.size in
      let below : table_page tables b e (2 + k) < length m.pages = table_page-below m n tables b e (2 + k) fits he (omega (arith, hk)) in
      let small : t < 2 ^ 48 = omega arith in
      let even : t % 4096 ≡ 0 = omega arith in
      let place : bits 20 12 a ≡ j = omega arith in
      let there : o.base + 4096 * table_page tables b e (2 + k) ≡ t = ap (λ (c : ℕ). c + 4096 * table_page tables b e (2 + k)) base in
      let read : entry o t (bits 20 12 a) ≡ entry m t (bits 20 12 a) =
      ap (λ (x : ℕ). entry o x (bits 20 12 a)) (sym there) ∙ entry-page o (table_page tables b e (2 + k)) (bits 20 12 a)
      ∙ ap (λ (x : ℕ). word_of (page_of o (table_page tables b e (2 + k))) x) place ∙ same_leaf
      ∙ sym (entry-page m (table_page tables b e (2 + k)) (bits 20 12 a) ∙ ap (λ (x : ℕ). word_of (page_of m (table_page tables b e (2 + k))) x) place)
      in
      ap (λ (w : ℕ). from_level2 o w a) is
      ∙ from_level2-table o t a small even (subst (λ (x : ℕ). is_page_address o x ≡ true) there (table_page-address o n tables b e (2 + k) (HasRoom-kept m o n tables b fits base size) he (omega (arith, hk))))
      ∙ ap (λ (w : ℕ). from_level3 w a) read
      ∙ sym (ap (λ (w : ℕ). from_level2 m w a) is ∙ from_level2-table m t a small even (table_page-address m n tables b e (2 + k) fits he (omega (arith, hk))))

  other-top : word_of (page_of o (table_page tables b e 0)) (level1_place o.base) ≡ table_link o.base tables b e 1
  other-top = subst (λ (c : ℕ). word_of (page_of o (table_page tables b e 0)) (level1_place c) ≡ table_link c tables b e 1) (sym base) (same_top ∙ top)

  walk-same : walk_at o tables b e a ≡ walk_at m tables b e a
  walk-same =
      subst (λ (c : ℕ). walk_at o tables b e (c + 4096 * (512 * k + j) + i) ≡ from_level2 o (word_of (page_of o (table_page tables b e 1)) (level2_place c + k)) (c + 4096 * (512 * k + j) + i)) base
      (into-block o n tables b e k j i (HasRoom-kept m o n tables b fits base size) he hk hj hi other-top)
      ∙ ap (λ (w : ℕ). from_level2 o w a) same_middle
      ∙ from-word (word_of (page_of m (table_page tables b e 1)) (level2_place m.base + k)) kind
      ∙ sym (into-block m n tables b e k j i fits he hk hj hi top)

-- ---- a mixture of what is read behind a step is one of what was read before, but for words that no walk into the block reads

-- each word is what it was and stays at the step, or is what it was before the step
mixture-from : (tables b e p : ℕ) (h : List Step) (s : Step) (m o : Ram) → StaysPlaced s → o.base ≡ m.base → length o.pages ≡ length m.pages
    → ((t i : ℕ) → t < table_pages b → i < 512
    → ((word_of (page_of o (table_page tables b e t)) i ≡ word_of (page_of m (table_page tables b e t)) i)
    × (word_of (page_of s.after (table_page tables b e t)) i ≡ word_of (page_of s.before (table_page tables b e t)) i))
    ⊎ (word_of (page_of o (table_page tables b e t)) i ≡ word_of (page_of s.before (table_page tables b e t)) i))
    → IsMixture tables b e p (s ∷ h) s.after m → IsMixture tables b e p h s.before o
mixture-from tables b e p h s m o placed base size words mix = record {
  base = base ∙ mix.base ∙ placed.base;
  size = size ∙ mix.size ∙ placed.size;
  words = λ t i ht hi. elim (words t i ht hi) [
    | inl (same, still) ↦
        subst (MayRead e p h s.before (table_page tables b e t) i) (sym same) (may-kept e p s h (table_page tables b e t) i _ still (mix.words t i ht hi))
    | inr now ↦ subst (MayRead e p h s.before (table_page tables b e t) i) (sym now) (may-now e p h s.before (table_page tables b e t) i)
  ];
}

-- it has the words on the way to page j of block k that another has
pub record IsLike (tables b e k base : ℕ) (m o : Ram) : Type 0 where
  pub base_same : o.base ≡ m.base
  pub size_same : length o.pages ≡ length m.pages
  pub top : page_of o (table_page tables b e 0) ≡ page_of m (table_page tables b e 0)
  pub middle : word_of (page_of o (table_page tables b e 1)) (level2_place base + k) ≡ word_of (page_of m (table_page tables b e 1)) (level2_place base + k)
  pub leaf : page_of o (table_page tables b e (2 + k)) ≡ page_of m (table_page tables b e (2 + k))

like-same : (tables b e k base : ℕ) (m : Ram) → IsLike tables b e k base m m
like-same tables b e k base m = record { base_same = refl; size_same = refl; top = refl; middle = refl; leaf = refl }

module _ (m : Ram) (page : ℕ) (bytes : List ℕ) where
  put-other : (p : ℕ) → (p ≡ page → ⊥) → page_of (with_page m page bytes) p ≡ page_of m p
  put-other p far = get_or-set_other m.pages page p bytes [] far

  put-here : page < length m.pages → page_of (with_page m page bytes) page ≡ bytes
  put-here below = get_or-set_same m.pages page bytes [] below

-- what may be held now
pub hold-now : (tables b e p a : ℕ) (h : List Step) (ram : Ram) (answer : Answer) → IsMixedAnswer tables b e p a h ram answer → MayHold tables b e p a h ram answer
hold-now tables b e p a [] ram answer now = now
hold-now tables b e p a (s ∷ h) ram answer now = inl now

module _ (tables b e k k' base p : ℕ) (h : List Step) (s : Step) (m : Ram) (far : k ≡ k' → ⊥) (placed : StaysPlaced s) (mix : IsMixture tables b e p (s ∷ h) s.after m) where
  -- the level 3 page of another block as it was
  leaf-before : (place value : ℕ) → table_page tables b e (2 + k') < length m.pages → IsWritten s.before s.after (table_page tables b e (2 + k')) place value
      → (o : Ram) × IsMixture tables b e p h s.before o × IsLike tables b e k base m o
  leaf-before place value below write =
      let page : ℕ = table_page tables b e (2 + k') in
      let bytes : List ℕ = page_of s.before page in
      let o : Ram = with_page m page bytes in (
        o,
        mixture-from tables b e p h s m o placed refl (length-set m.pages page bytes)
            (λ t i ht hi. elim (cases_eq t (2 + k')) [
              | inl is ↦ inr (rw is (ap (λ (x : List ℕ). word_of x i) (put-here m page bytes below)))
              | inr other ↦
                  let apart : table_page tables b e t ≡ page → ⊥ = λ same. other (omega (arith, same)) in
                  inl (
                    ap (λ (x : List ℕ). word_of x i) (put-other m page bytes (table_page tables b e t) apart),
                    ap (λ (x : List ℕ). word_of x i) (write.pages (table_page tables b e t) apart),
                  )
            ])
            mix,
        record {
          base_same = refl;
          size_same = length-set m.pages page bytes;
          top = put-other m page bytes (table_page tables b e 0) (λ same. omega (arith, same));
          middle = ap (λ (x : List ℕ). word_of x (level2_place base + k)) (put-other m page bytes (table_page tables b e 1) (λ same. omega (arith, same)));
          leaf = put-other m page bytes (table_page tables b e (2 + k)) (λ same. far (omega (arith, same)));
        },
      )

  -- the level 2 word of another block as it was
  middle-before : (value : ℕ) → level2_place base + k < 512 → level2_place base + k' < 512 → table_page tables b e 1 < length m.pages → table_page tables b e 1 < length s.after.pages
      → IsWritten s.before s.after (table_page tables b e 1) (level2_place base + k') value → word_of (page_of s.before (table_page tables b e 1)) (level2_place base + k') < 2 ^ 64
      → word_of (page_of m (table_page tables b e 1)) (level2_place base + k) < 2 ^ 64 → (o : Ram) × IsMixture tables b e p h s.before o × IsLike tables b e k base m o
  middle-before value hx hy below below' write hw hv =
      let page : ℕ = table_page tables b e 1 in
      let x : ℕ = level2_place base + k in
      let y : ℕ = level2_place base + k' in
      let w : ℕ = word_of (page_of s.before page) y in
      let v : ℕ = word_of (page_of m page) x in
      let first : Ram = with_page s.after page (with_word (page_of s.after page) y w) in
      let one : IsWritten s.after first page y w = written s.after page y w below' write.whole hy hw first refl in
      let second : Ram = with_page first page (with_word (page_of first page) x v) in
      let two : IsWritten first second page x v = written first page x v (omega (arith, one.size, below')) one.whole hx hv second refl in
      let bytes : List ℕ = page_of second page in
      let o : Ram = with_page m page bytes in
      let here : page_of o page ≡ bytes = put-here m page bytes below in (
        o,
        mixture-from tables b e p h s m o placed refl (length-set m.pages page bytes)
            (λ t i ht hi. elim (cases_eq t 1) [
              | inr other ↦
                  let apart : table_page tables b e t ≡ page → ⊥ = λ same. other (omega (arith, same)) in
                  inl (
                    ap (λ (z : List ℕ). word_of z i) (put-other m page bytes (table_page tables b e t) apart),
                    ap (λ (z : List ℕ). word_of z i) (write.pages (table_page tables b e t) apart),
                  )
              | inl is ↦ elim (cases_eq i x) [
                | inl at ↦ inl (
                  rw (is, at) (ap (λ (z : List ℕ). word_of z x) here ∙ two.here),
                  rw (is, at) (write.words x (λ same. far (omega (arith, same)))),
                )
                | inr off ↦ elim (cases_eq i y) [
                  | inl at ↦ inr (rw (is, at) (ap (λ (z : List ℕ). word_of z y) here ∙ two.words y (λ same. far (omega (arith, same))) ∙ one.here))
                  | inr away ↦ inr (rw is (ap (λ (z : List ℕ). word_of z i) here ∙ two.words i off ∙ one.words i away ∙ write.words i away))
                ]
              ]
            ])
            mix,
        record {
          base_same = refl;
          size_same = length-set m.pages page bytes;
          top = put-other m page bytes (table_page tables b e 0) (λ same. omega (arith, same));
          middle = ap (λ (z : List ℕ). word_of z x) here ∙ two.here;
          leaf = put-other m page bytes (table_page tables b e (2 + k)) (λ same. omega (arith, same));
        },
      )

-- ---- one step

module _ (old : Ram) (n tables b : ℕ) (h : List Step) (s : Step) (Stays : ℕ → ℕ → Type 0) (order : IsInOrder old n tables b Stays h s) (placed : StaysPlaced s)
    (rights : ℕ → ℕ → Option Rights) (stands : IsStanding s.after n tables b rights) (place : s.after.base ≡ old.base)
    (Is : ℕ → ℕ → Option Rights → Type 0) (reads : Reads old.base n tables b h s.before Is) where
  abbrev c : ℕ
  c = old.base

  room : HasRoom s.after n tables b
  room = stands.fits

  aligned : c % 0x200000 ≡ 0
  aligned = subst (λ (x : ℕ). x % 0x200000 ≡ 0) place room.place

  within : c + 0x200000 * b ≤ 2 ^ 32
  within = subst (λ (x : ℕ). x + 0x200000 * b ≤ 2 ^ 32) place room.within

  second-place : (k : ℕ) → k < b → level2_place c + k < 512
  second-place k hk =
      let even : c % 0x200000 ≡ 0 = aligned in
      let one : c % 2 ^ 30 + 0x200000 * b ≤ 2 ^ 30 = subst (λ (x : ℕ). x % 2 ^ 30 + 0x200000 * b ≤ 2 ^ 30) place room.one_table in
      omega (arith, hk)

  kind-of : (e k j v : ℕ) → e < n → k < b → j < 512 → MayRead e (512 * k + j) h s.before (table_page tables b e 1) (level2_place c + k) v → IsKind c tables b e k v
  kind-of e k j v he hk hj read = elim (reads.each e k j he hk hj) [
    | inl x ↦ elim (x.middle v read) [ inl none ↦ inl none | inr (r, its, is) ↦ inr (inl (r, is)) ]
    | inr x ↦ elim (x.middle v read) [ inl none ↦ inl none | inr link ↦ inr (inr link) ]
  ]

  kind-fits : (e k v : ℕ) → e < n → k < b → IsKind c tables b e k v → v < 2 ^ 64
  kind-fits e k v he hk (inl none) = omega (arith, none)
  kind-fits e k v he hk (inr (inl (r, is))) = omega (arith, is, block_word-fits r (c + 0x200000 * k))
  kind-fits e k v he hk (inr (inr is)) =
      let size : length s.after.pages ≡ 512 * b = room.size in
      let most : c + 0x200000 * b ≤ 2 ^ 32 = within in
      let below : table_page tables b e (2 + k) < length s.after.pages = table_page-below s.after n tables b e (2 + k) room he (omega (arith, hk)) in
      omega (arith, is, below)

  module _ (e k j : ℕ) (he : e < n) (hk : k < b) (hj : j < 512) (stays : Stays e k) where
    still : (t i : ℕ) → t < table_pages b → IsOnWay c k t i → word_of (page_of s.after (table_page tables b e t)) i ≡ word_of (page_of s.before (table_page tables b e t)) i
    still t i ht way = still-word old n tables b h s Stays e k t i he ht stays way order

    module _ (m : Ram) (mix : IsMixture tables b e (512 * k + j) (s ∷ h) s.after m) where
      read-before : (t i : ℕ) → t < table_pages b → i < 512 → IsOnWay c k t i
          → MayRead e (512 * k + j) h s.before (table_page tables b e t) i (word_of (page_of m (table_page tables b e t)) i)
      read-before t i ht hi way = may-kept e (512 * k + j) s h (table_page tables b e t) i _ (still t i ht way) (mix.words t i ht hi)

      kind : IsKind c tables b e k (word_of (page_of m (table_page tables b e 1)) (level2_place c + k))
      kind = kind-of e k j _ he hk hj (read-before 1 (level2_place c + k) (omega arith) (second-place k hk) (on-middle c k))

      abbrev IsBefore : Type 0
      IsBefore = (o : Ram) × IsMixture tables b e (512 * k + j) h s.before o × IsLike tables b e k c m o

      -- where all words stay
      all-stay : ((t i : ℕ) → t < table_pages b → word_of (page_of s.after (table_page tables b e t)) i ≡ word_of (page_of s.before (table_page tables b e t)) i) → IsBefore
      all-stay words = (m, mixture-from tables b e (512 * k + j) h s m m placed refl refl (λ t i ht hi. inl (refl, words t i ht)) mix, like-same tables b e k c m)

      in-mixed : (t : ℕ) → t < table_pages b → table_page tables b e t < length m.pages
      in-mixed t ht = omega (arith, mix.size, table_page-below s.after n tables b e t room he ht)

      own-before : IsOrdered old tables b (Stays e) e h s → IsBefore
      own-before (inl same) = all-stay (λ t i ht. ap (λ (r : Ram). word_of (page_of r (table_page tables b e t)) i) same)
      own-before (inr (k', hk', keeps, write)) = elim (cases_eq k k') [
        | inl here ↦ all-stay (λ t i ht. keeps (subst (Stays e) here stays) (table_page tables b e t) i)
        | inr far ↦ elim write [
          | inl leaf ↦
              leaf-before tables b e k k' c (512 * k + j) h s m far placed mix leaf.place leaf.value (in-mixed (2 + k') (omega (arith, hk'))) leaf.write
          | inr block ↦
              middle-before tables b e k k' c (512 * k + j) h s m far placed mix block.value (second-place k hk) (second-place k' hk') (in-mixed 1 (omega arith))
              (table_page-below s.after n tables b e 1 room he (omega arith)) block.write
              (kind-fits e k' _ he hk' (kind-of e k' 0 _ he hk' (omega arith) (may-now e (512 * k' + 0) h s.before (table_page tables b e 1) (level2_place c + k'))))
              (kind-fits e k _ he hk kind)
        ]
      ]

      before-mixed : IsBefore
      before-mixed = elim order [
        | inl kept ↦ all-stay (λ t i ht.
            let (from, below) = table_page-there n tables b e t he ht in
            ap (λ (bytes : List ℕ). word_of bytes i) (kept (table_page tables b e t) from below))
        | inr (e', he', ordered) ↦ elim (cases_eq e e') [
          | inl same ↦ own-before (subst (λ (x : ℕ). IsOrdered old tables b (Stays x) x h s) (sym same) ordered)
          | inr far ↦ all-stay (λ t i ht. ap (λ (bytes : List ℕ). word_of bytes i) (other-page old tables b e e' t (Stays e') h s ht far ordered))
        ]
      ]

      -- and the walk gives the same in it
      walk-before : (o : Ram) (i : ℕ) → i < 4096 → IsLike tables b e k c m o
          → walk_at o tables b e (c + 4096 * (512 * k + j) + i) ≡ walk_at m tables b e (c + 4096 * (512 * k + j) + i)
      walk-before o i hi like =
          let at : m.base ≡ c = mix.base ∙ place in
          let most : c + 0x200000 * b ≤ 2 ^ 32 = within in
          let first : level1_place c < 512 = omega arith in
          let here : (level1_place c == level1_place c) ≡ true = grind (arith, nat_tests) in
          let few : b ≤ MOST_BLOCKS = room.few in
          let top : word_of (page_of m (table_page tables b e 0)) (level1_place c) ≡ table_link c tables b e 1 =
          reads.level1 e (512 * k + j) (level1_place c) _ he (omega (arith, hk, hj)) first (read-before 0 (level1_place c) (omega arith) first (on-top c k (level1_place c))) ∙ rw here refl
          in
          subst (λ (x : ℕ). walk_at o tables b e (x + 4096 * (512 * k + j) + i) ≡ walk_at m tables b e (x + 4096 * (512 * k + j) + i)) at
          (walk-same m o n tables b e k j i (HasRoom-kept s.after m n tables b room mix.base mix.size) like.base_same like.size_same he hk hj hi
          (subst (λ (x : ℕ). word_of (page_of m (table_page tables b e 0)) (level1_place x) ≡ table_link x tables b e 1) (sym at) top)
          (ap (λ (bytes : List ℕ). word_of bytes (level1_place m.base)) like.top)
          (subst (λ (x : ℕ). word_of (page_of o (table_page tables b e 1)) (level2_place x + k) ≡ word_of (page_of m (table_page tables b e 1)) (level2_place x + k)) (sym at) like.middle)
          (ap (λ (bytes : List ℕ). word_of bytes j) like.leaf)
          (subst (λ (x : ℕ). IsKind x tables b e k (word_of (page_of m (table_page tables b e 1)) (level2_place x + k))) (sym at) kind))

    -- what may be held behind the step might be held before
    held-before : (i : ℕ) (answer : Answer) → i < 4096 → MayHold tables b e (512 * k + j) (c + 4096 * (512 * k + j) + i) (s ∷ h) s.after answer
        → MayHold tables b e (512 * k + j) (c + 4096 * (512 * k + j) + i) h s.before answer
    held-before i answer hi (inr (off, held)) = held
    held-before i answer hi (inl (m, mix, is)) =
        let (o, mix', like) = before-mixed m mix in
        hold-now tables b e (512 * k + j) (c + 4096 * (512 * k + j) + i) h s.before answer (o, mix', is ∙ sym (walk-before m mix o i hi like))

    walk-kept : (i : ℕ) → i < 4096 → walk_at s.after tables b e (c + 4096 * (512 * k + j) + i) ≡ walk_at s.before tables b e (c + 4096 * (512 * k + j) + i)
    walk-kept i hi =
        let d : ℕ = s.after.base in
        let here : (level1_place d == level1_place d) ≡ true = grind (arith, nat_tests) in
        sym (subst (λ (x : ℕ). walk_at s.before tables b e (x + 4096 * (512 * k + j) + i) ≡ walk_at s.after tables b e (x + 4096 * (512 * k + j) + i)) place
        (walk-same s.after s.before n tables b e k j i room (sym placed.base) (sym placed.size) he hk hj hi
        (stands.level1 e (level1_place d) he (omega arith) ∙ rw here refl)
        (sym (still 0 (level1_place d) (omega arith) (on-top c k (level1_place d))))
        (subst (λ (x : ℕ). word_of (page_of s.before (table_page tables b e 1)) (level2_place x + k) ≡ word_of (page_of s.after (table_page tables b e 1)) (level2_place x + k)) (sym place)
        (sym (still 1 (level2_place c + k) (omega arith) (on-middle c k))))
        (sym (still (2 + k) j (omega (arith, hk)) (on-leaf c k j)))
        (elim (stands.each e k he hk) [
          | inl it ↦ inr (inl (it.right, it.is))
          | inr (inl it) ↦ inr (inr it.is)
          | inr (inr it) ↦ inl it.is
        ])))

-- a step on the way from one RAM to another
pub moment-unshaken : (old new : Ram) (n tables b : ℕ) (past : Past) (h : List Step) (s : Step) (Is : ℕ → ℕ → Option Rights → Type 0) → StaysPlaced s → Reads old.base n tables b h s.before Is
    → IsMoment old new n tables b past h s → IsUnshaken old new n tables b h s
moment-unshaken old new n tables b past h s Is placed reads m =
    let order = moment-order old new n tables b past h s m in
    record {
      walks = λ e k j i he hk hj hi same. walk-kept old n tables b h s (WalksSameIn old new tables b) order placed m.between.rights m.between.stands m.place Is reads e k j he hk hj same i hi;
      held = λ e k j i answer he hk hj hi same.
          held-before old n tables b h s (WalksSameIn old new tables b) order placed m.between.rights m.between.stands m.place Is reads e k j he hk hj same i answer hi;
    }
