-- SPDX-License-Identifier: MIT OR Apache-2.0
-- What walks may have read while tables are written, and so what they give.
use Rattle.std.proofs.Common.{◌≡◌, ◌≢◌, ◌∙◌, ℕ, ◌+◌, ◌-◌, ◌*◌, ◌/◌, ◌%◌, ◌^◌, ◌<◌, ◌≤◌, true, false, refl, ap, sym, subst, arith, List, [], ◌∷◌, length, Option, Some, Err, inl, inr, ◌⊎◌, ◌==◌, nat_lt, if◌then◌else◌}
use Rattle.std.proofs.lemmas.Bool.{cases_lt, cases_eq}
use Rattle.std.proofs.lemmas.Bool.Decides.{nat_tests}
use Rattle.std.proofs.Math.Nat.{mul-le-mul_right}
use Rattle.ffa_model.specs.declared.limits.TheConstants.{MOST_BLOCKS}
use Rattle.ffa_model.specs.Bits.{bits}
use Rattle.ffa_model.specs.Descriptor.{page_word, table_word}
use Rattle.ffa_model.specs.Manifest.{root_of, table_pages}
use Rattle.ffa_model.specs.Ram.{Ram, page_of, word_of}
use Rattle.ffa_model.specs.Walk.{Answer, entry, from_level1, from_level2, from_level3, mapped_answer, walk}
use Rattle.ffa_model.specs.declared.operation.FaultKind.TheVariants.{Translation}
use Rattle.ffa_model.specs.declared.rights.Rights.{Rights}
use Rattle.ffa_model.proofs.Runs.{to-run}
use Rattle.ffa_physmem.specs.Moments.{Settles, Step}
use Rattle.ffa_stage2.specs.Blocks.{ArePages, IsEither, block_word}
use Rattle.ffa_stage2.specs.Mixed.{MixedBetween, MixturesBetween}
use Rattle.ffa_stage2.specs.Mixtures.{IsMixture, MayRead, page_at}
use Rattle.ffa_stage2.specs.Moments.{IsInOrder, walk_at}
use Rattle.ffa_stage2.specs.Orders.{IsBlockWrite, IsLeafWrite, IsOrdered}
use Rattle.ffa_stage2.specs.Rest.{IsAsIn, Reads, ReadsBlock, ReadsTable}
use Rattle.ffa_stage2.specs.Tables.{HasRoom, IsStanding, level1_place, level2_place, rights_of_block, table_link, table_page}
use Rattle.ffa_stage2.proofs.Descriptors.{block_word-type, entry-page, from_level1-table, from_level1-zero, from_level2-block_word, from_level2-table, from_level2-zero, from_level3-page_word}
use Rattle.ffa_stage2.proofs.Kept.{HasRoom-kept}
use Rattle.ffa_stage2.proofs.Places.{table_page-address, table_page-below, table_page-there}
use Rattle.ffa_stage2.proofs.Moments.{answer-none}

-- ---- what may be read

-- what stands there
pub may-now : (e p : ℕ) (h : List Step) (ram : Ram) (page i : ℕ) → MayRead e p h ram page i (word_of (page_of ram page) i)
may-now e p [] ram page i = refl
may-now e p (s ∷ h) ram page i = inl refl

-- of a word that a step leaves as it is, what might be read before
pub may-kept : (e p : ℕ) (s : Step) (h : List Step) (page i v : ℕ) → word_of (page_of s.after page) i ≡ word_of (page_of s.before page) i
    → MayRead e p (s ∷ h) s.after page i v → MayRead e p h s.before page i v
may-kept e p s h page i v same (inl is) = subst (MayRead e p h s.before page i) (sym (is ∙ same)) (may-now e p h s.before page i)
may-kept e p s h page i v same (inr (off, before)) = before

-- behind a step that settled the page, what stands there alone
may-settled : (e p : ℕ) (f : Step) (earlier h : List Step) (ram : Ram) (page i v : ℕ) → h ≡ f ∷ earlier → Settles e p f
    → MayRead e p h ram page i v → v ≡ word_of (page_of ram page) i
may-settled e p f earlier h ram page i v is settles read = elim (subst (λ (g : List Step). MayRead e p g ram page i v) is read) [
  | inl now ↦ now
  | inr (off, before) ↦ absurd (off settles)
]

-- ---- pages of tables

pub table-apart : (tables b e e' t t' : ℕ) → t < table_pages b → t' < table_pages b → (e ≡ e' → ⊥) → table_page tables b e t ≢ table_page tables b e' t'
table-apart tables b e e' t t' ht ht' far same = elim (cases_lt e e') [
  | inl less ↦
      let rows : (e + 1) * (2 + b) ≤ e' * (2 + b) = mul-le-mul_right (2 + b) (omega (arith, less)) in
      absurd (omega (arith, rows, ht, ht', same))
  | inr more ↦ elim (cases_lt e' e) [
    | inl above ↦
        let rows : (e' + 1) * (2 + b) ≤ e * (2 + b) = mul-le-mul_right (2 + b) (omega (arith, above)) in
        absurd (omega (arith, rows, ht, ht', same))
    | inr below ↦ absurd (far (omega (arith, more, below)))
  ]
]

link-type : (base x : ℕ) → base % 0x200000 ≡ 0 → table_word (base + 4096 * x) % 4 ≡ 3
link-type base x aligned = omega (arith, aligned)

-- the words of a table that stands
pages-named : (word link : ℕ) (page : List ℕ) (address : ℕ) (rights : ℕ → Option Rights) → IsEither word link page address rights → word ≡ link → link % 4 ≡ 3
    → ArePages page address rights
pages-named word link page address rights (inl block) is typed =
    absurd (omega (arith, typed, block_word-type block.right address, ap (λ (w : ℕ). w % 4) (sym is ∙ block.is)))
pages-named word link page address rights (inr (inl table)) is typed = table.pages
pages-named word link page address rights (inr (inr gap)) is typed = absurd (omega (arith, typed, ap (λ (w : ℕ). w % 4) (sym is ∙ gap.is)))

-- ---- one step

-- pages of another endpoint's tables stay
pub other-page : (old : Ram) (tables b e e' t : ℕ) (Stays : ℕ → Type 0) (h : List Step) (s : Step) → t < table_pages b → (e ≡ e' → ⊥) → IsOrdered old tables b Stays e' h s
    → page_of s.after (table_page tables b e t) ≡ page_of s.before (table_page tables b e t)
other-page old tables b e e' t Stays h s ht far (inl same) = ap (λ (r : Ram). page_of r (table_page tables b e t)) same
other-page old tables b e e' t Stays h s ht far (inr (k, hk, _, inl leaf)) = leaf.write.pages (table_page tables b e t) (table-apart tables b e e' t (2 + k) ht (omega (arith, hk)) far)
other-page old tables b e e' t Stays h s ht far (inr (k, hk, _, inr block)) = block.write.pages (table_page tables b e t) (table-apart tables b e e' t 1 ht (omega arith) far)

-- at a page whose words stay
each-kept : (base tables b e k j : ℕ) (h : List Step) (s : Step) (Is : Option Rights → Type 0)
    → word_of (page_of s.after (table_page tables b e 1)) (level2_place base + k) ≡ word_of (page_of s.before (table_page tables b e 1)) (level2_place base + k)
    → word_of (page_of s.after (table_page tables b e (2 + k))) j ≡ word_of (page_of s.before (table_page tables b e (2 + k))) j
    → (ReadsBlock base tables b e k j h s.before Is ⊎ ReadsTable base tables b e k j h s.before Is)
    → ReadsBlock base tables b e k j (s ∷ h) s.after Is ⊎ ReadsTable base tables b e k j (s ∷ h) s.after Is
each-kept base tables b e k j h s Is middle leaf (inl x) =
    inl (record { middle = λ v read. x.middle v (may-kept e (512 * k + j) s h (table_page tables b e 1) (level2_place base + k) v middle read) })
each-kept base tables b e k j h s Is middle leaf (inr x) = inr (record {
  middle = λ v read. x.middle v (may-kept e (512 * k + j) s h (table_page tables b e 1) (level2_place base + k) v middle read);
  leaf = λ v read. x.leaf v (may-kept e (512 * k + j) s h (table_page tables b e (2 + k)) j v leaf read);
})

module _ (old : Ram) (n tables b : ℕ) (h : List Step) (s : Step) (Is : ℕ → ℕ → Option Rights → Type 0) (rights : ℕ → ℕ → Option Rights)
    (stands : IsStanding s.after n tables b rights) (place : s.after.base ≡ old.base) (are : (e p : ℕ) → e < n → p < 512 * b → Is e p (rights e p)) where
  abbrev origin : ℕ
  origin = old.base

  -- block k of endpoint e, as it stands behind the step
  at-block : (e k : ℕ) → e < n → k < b
      → IsEither (word_of (page_of s.after (table_page tables b e 1)) (level2_place origin + k)) (table_link origin tables b e (2 + k)) (page_of s.after (table_page tables b e (2 + k)))
      (origin + 0x200000 * k) (rights_of_block (rights e) k)
  at-block e k he hk =
      subst (λ (c : ℕ). IsEither (word_of (page_of s.after (table_page tables b e 1)) (level2_place c + k)) (table_link c tables b e (2 + k)) (page_of s.after (table_page tables b e (2 + k)))
      (c + 0x200000 * k) (rights_of_block (rights e) k)) place (stands.each e k he hk)

  typed : (e k : ℕ) → table_link origin tables b e (2 + k) % 4 ≡ 3
  typed e k = link-type origin (table_page tables b e (2 + k)) (subst (λ (c : ℕ). c % 0x200000 ≡ 0) place stands.fits.place)

  abbrev Before : ℕ → ℕ → ℕ → Type 0
  Before e k j = ReadsBlock origin tables b e k j h s.before (Is e (512 * k + j)) ⊎ ReadsTable origin tables b e k j h s.before (Is e (512 * k + j))

  abbrev After : ℕ → ℕ → ℕ → Type 0
  After e k j = ReadsBlock origin tables b e k j (s ∷ h) s.after (Is e (512 * k + j)) ⊎ ReadsTable origin tables b e k j (s ∷ h) s.after (Is e (512 * k + j))

  -- a word of the level 3 page is written, the one on the way
  leaf-here : (e k j : ℕ) → e < n → k < b → j < 512
      → IsLeafWrite (table_page tables b e 1) (level2_place origin + k) (table_link origin tables b e (2 + k)) (table_page tables b e (2 + k)) (origin + 0x200000 * k) s
      → word_of (page_of s.after (table_page tables b e 1)) (level2_place origin + k) ≡ word_of (page_of s.before (table_page tables b e 1)) (level2_place origin + k)
      → Before e k j → After e k j
  leaf-here e k j he hk hj leaf same (inl x) =
      inl (record { middle = λ v read. x.middle v (may-kept e (512 * k + j) s h (table_page tables b e 1) (level2_place origin + k) v same read) })
  leaf-here e k j he hk hj leaf same (inr x) = inr (record {
    middle = λ v read. x.middle v (may-kept e (512 * k + j) s h (table_page tables b e 1) (level2_place origin + k) v same read);
    leaf = λ v read. elim read [
      | inr (off, before) ↦ x.leaf v before
      | inl now ↦
          elim (x.middle (word_of (page_of s.before (table_page tables b e 1)) (level2_place origin + k)) (may-now e (512 * k + j) h s.before (table_page tables b e 1) (level2_place origin + k))) [
            | inl none ↦ absurd (leaf.stands none)
            | inr link ↦ (
              rights e (512 * k + j),
              are e (512 * k + j) he (omega (arith, hk, hj)),
              now ∙ pages-named _ _ _ _ _ (at-block e k he hk) (same ∙ link) (typed e k) j hj,
            )
          ]
    ];
  })

  -- the level 2 word on the way is written
  block-here : (e k j : ℕ) → e < n → k < b → j < 512
      → IsBlockWrite (table_page tables b e 1) (level2_place origin + k) (table_link origin tables b e (2 + k)) (origin + 0x200000 * k) e (512 * k) h s
      → word_of (page_of s.after (table_page tables b e (2 + k))) j ≡ word_of (page_of s.before (table_page tables b e (2 + k))) j
      → Before e k j → After e k j
  block-here e k j he hk hj block same before = elim block.order [
    | inl zero ↦ elim before [
      | inl x ↦ inl (record {
        middle = λ v read. elim read [ inl now ↦ inl (now ∙ block.write.here ∙ zero) | inr (off, was) ↦ x.middle v was ];
      })
      | inr x ↦ inr (record {
        middle = λ v read. elim read [ inl now ↦ inl (now ∙ block.write.here ∙ zero) | inr (off, was) ↦ x.middle v was ];
        leaf = λ v read. x.leaf v (may-kept e (512 * k + j) s h (table_page tables b e (2 + k)) j v same read);
      })
    ]
    | inr (inl (none, (f, earlier, is, settled), _)) ↦
        let settles : Settles e (512 * k + j) f =
        (record { endpoint = e; first = 512 * k; count = 512 }, settled, refl, to-run (512 * k) 512 (512 * k + j) (omega arith) (omega (arith, hj)))
        in
        elim (at-block e k he hk) [
          | inl it ↦ inl (record {
            middle = λ v read. elim read [
              | inl now ↦ inr (it.right, subst (Is e (512 * k + j)) (it.one j hj) (are e (512 * k + j) he (omega (arith, hk, hj))), now ∙ it.is)
              | inr (off, was) ↦ inl (may-settled e (512 * k + j) f earlier h s.before (table_page tables b e 1) (level2_place origin + k) v is settles was ∙ none)
            ];
          })
          | inr (inl it) ↦ inr (record {
            middle = λ v read. elim read [
              | inl now ↦ inr (now ∙ it.is)
              | inr (off, was) ↦ inl (may-settled e (512 * k + j) f earlier h s.before (table_page tables b e 1) (level2_place origin + k) v is settles was ∙ none)
            ];
            leaf = λ v read.
                let value : v ≡ word_of (page_of s.after (table_page tables b e (2 + k))) j = elim read [
                  | inl now ↦ now
                  | inr (off, was) ↦ may-settled e (512 * k + j) f earlier h s.before (table_page tables b e (2 + k)) j v is settles was ∙ sym same
                ] in
                (rights e (512 * k + j), are e (512 * k + j) he (omega (arith, hk, hj)), value ∙ it.pages j hj);
          })
          | inr (inr it) ↦ inl (record {
            middle = λ v read. elim read [
              | inl now ↦ inl (now ∙ it.is)
              | inr (off, was) ↦ inl (may-settled e (512 * k + j) f earlier h s.before (table_page tables b e 1) (level2_place origin + k) v is settles was ∙ none)
            ];
          })
        ]
    | inr (inr (r, q, was, is)) ↦ elim before [
      | inl x ↦ inl (record {
        middle = λ v read. elim read [
          | inr (off, old_one) ↦ x.middle v old_one
          | inl now ↦ elim (at-block e k he hk) [
            | inl it ↦ inr (it.right, subst (Is e (512 * k + j)) (it.one j hj) (are e (512 * k + j) he (omega (arith, hk, hj))), now ∙ it.is)
            | inr (inl it) ↦
                absurd (omega (arith, typed e k, block_word-type q (origin + 0x200000 * k), ap (λ (w : ℕ). w % 4) (sym it.is ∙ block.write.here ∙ is)))
            | inr (inr it) ↦ inl (now ∙ it.is)
          ]
        ];
      })
      | inr x ↦
          elim (x.middle (word_of (page_of s.before (table_page tables b e 1)) (level2_place origin + k)) (may-now e (512 * k + j) h s.before (table_page tables b e 1) (level2_place origin + k))) [
            | inl none ↦ absurd (omega (arith, block_word-type r (origin + 0x200000 * k), ap (λ (w : ℕ). w % 4) (sym none ∙ was)))
            | inr link ↦ absurd (omega (arith, typed e k, block_word-type r (origin + 0x200000 * k), ap (λ (w : ℕ). w % 4) (sym link ∙ was)))
          ]
    ]
  ]

  by-pages : (e k j : ℕ) → page_of s.after (table_page tables b e 1) ≡ page_of s.before (table_page tables b e 1)
      → page_of s.after (table_page tables b e (2 + k)) ≡ page_of s.before (table_page tables b e (2 + k)) → Before e k j → After e k j
  by-pages e k j middle leaf before =
      each-kept origin tables b e k j h s (Is e (512 * k + j)) (ap (λ (bytes : List ℕ). word_of bytes (level2_place origin + k)) middle) (ap (λ (bytes : List ℕ). word_of bytes j) leaf) before

  -- a step in the endpoint's own tables
  own : (Stays : ℕ → Type 0) (e k j : ℕ) → e < n → k < b → j < 512 → IsOrdered old tables b Stays e h s → Before e k j → After e k j
  own Stays e k j he hk hj (inl same) before =
      by-pages e k j (ap (λ (r : Ram). page_of r (table_page tables b e 1)) same) (ap (λ (r : Ram). page_of r (table_page tables b e (2 + k))) same) before
  own Stays e k j he hk hj (inr (k', hk', _, inl leaf)) before =
      let middle : page_of s.after (table_page tables b e 1) ≡ page_of s.before (table_page tables b e 1) =
      leaf.write.pages (table_page tables b e 1) (λ same. absurd (omega (arith, same)))
      in
      let word = ap (λ (bytes : List ℕ). word_of bytes (level2_place origin + k)) middle in
      elim (cases_eq k k') [
        | inr far ↦ by-pages e k j middle (leaf.write.pages (table_page tables b e (2 + k)) (λ same. far (omega (arith, same)))) before
        | inl here ↦ leaf-here e k j he hk hj
            (subst (λ (i : ℕ). IsLeafWrite (table_page tables b e 1) (level2_place origin + i) (table_link origin tables b e (2 + i)) (table_page tables b e (2 + i)) (origin + 0x200000 * i) s) (sym here) leaf)
            word before
      ]
  own Stays e k j he hk hj (inr (k', hk', _, inr block)) before =
      let leaf : page_of s.after (table_page tables b e (2 + k)) ≡ page_of s.before (table_page tables b e (2 + k)) =
      block.write.pages (table_page tables b e (2 + k)) (λ same. absurd (omega (arith, same)))
      in
      let word = ap (λ (bytes : List ℕ). word_of bytes j) leaf in
      elim (cases_eq k k') [
        | inr far ↦ each-kept origin tables b e k j h s (Is e (512 * k + j)) (block.write.words (level2_place origin + k) (λ same. far (omega (arith, same)))) word before
        | inl here ↦ block-here e k j he hk hj
            (subst (λ (i : ℕ). IsBlockWrite (table_page tables b e 1) (level2_place origin + i) (table_link origin tables b e (2 + i)) (origin + 0x200000 * i) e (512 * i) h s) (sym here) block)
            word before
      ]

  -- whatever might be read before, what may be read behind the step is right
  pub reads-behind : (Stays : ℕ → ℕ → Type 0) → IsInOrder old n tables b Stays h s → Reads origin n tables b h s.before Is → Reads origin n tables b (s ∷ h) s.after Is
  reads-behind Stays order reads = record {
    level1 = λ e p i v he hp hi read. elim read [
      | inr (off, was) ↦ reads.level1 e p i v he hp hi was
      | inl now ↦
          now ∙ subst (λ (c : ℕ). word_of (page_of s.after (table_page tables b e 0)) i ≡ (if i == level1_place c then table_link c tables b e 1 else 0)) place (stands.level1 e i he hi)
    ];
    outside = λ e p i v he hp hi off read. elim read [
      | inr (unsettled, was) ↦ reads.outside e p i v he hp hi off was
      | inl now ↦ now ∙ stands.outside e i he hi (subst (λ (c : ℕ). (i < level2_place c) ⊎ (level2_place c + b ≤ i)) (sym place) off)
    ];
    each = λ e k j he hk hj.
        let before = reads.each e k j he hk hj in
        elim order [
          | inl kept ↦
              let second = table_page-there n tables b e 1 he (omega arith) in
              let third = table_page-there n tables b e (2 + k) he (omega (arith, hk)) in
              by-pages e k j (kept (table_page tables b e 1) second.0 second.1) (kept (table_page tables b e (2 + k)) third.0 third.1) before
          | inr (e', he', ordered) ↦ elim (cases_eq e e') [
            | inl same ↦ own (Stays e') e k j he hk hj (subst (λ (x : ℕ). IsOrdered old tables b (Stays e') x h s) (sym same) ordered) before
            | inr far ↦
                by-pages e k j (other-page old tables b e e' 1 (Stays e') h s (omega arith) far ordered) (other-page old tables b e e' (2 + k) (Stays e') h s (omega (arith, hk)) far ordered) before
          ]
        ];
  }

-- ---- the walk of a mixture

-- what stands on the way to page j of block k: nothing, a block, or the descriptors of a table and of the page
abbrev IsWay : Ram → ℕ → ℕ → ℕ → ℕ → ℕ → (Option Rights → Type 0) → Type 0
IsWay m tables b e k j Is =
    (word_of (page_of m (table_page tables b e 1)) (level2_place m.base + k) ≡ 0)
    ⊎ (((r : Rights) × Is (Some r) × (word_of (page_of m (table_page tables b e 1)) (level2_place m.base + k) ≡ block_word (m.base + 0x200000 * k) r))
    ⊎ ((q : Option Rights) × Is q × (word_of (page_of m (table_page tables b e 1)) (level2_place m.base + k) ≡ table_link m.base tables b e (2 + k))
    × (word_of (page_of m (table_page tables b e (2 + k))) j ≡ page_word (m.base + 0x200000 * k + 4096 * j) q)))

-- nothing, or one of the rights
abbrev IsAnswered : Ram → ℕ → (Option Rights → Type 0) → Answer → Type 0
IsAnswered m a Is answer = (answer ≡ Err Translation) ⊎ ((q : Option Rights) × Is q × (m.base ≤ a) × (answer ≡ mapped_answer q a))

module _ (m : Ram) (n tables b e a : ℕ) (Is : Option Rights → Type 0) (fits : HasRoom m n tables b) (he : e < n) (ha : a < 2 ^ 32)
    (level1 : (i : ℕ) → i < 512 → word_of (page_of m (table_page tables b e 0)) i ≡ (if i == level1_place m.base then table_link m.base tables b e 1 else 0))
    (outside : (i : ℕ) → i < 512 → ((i < level2_place m.base) ⊎ (level2_place m.base + b ≤ i)) → word_of (page_of m (table_page tables b e 1)) i ≡ 0)
    (each : (k j : ℕ) → k < b → j < 512 → (a - m.base) / 4096 ≡ 512 * k + j → IsWay m tables b e k j Is) where
  in-block : (k : ℕ) → k < b → (r : Rights) (word : ℕ) → word ≡ block_word (m.base + 0x200000 * k) r
      → from_level2 m word a ≡ mapped_answer (Some r) (m.base + 4096 * (512 * k + bits 20 12 a) + a % 4096)
  in-block k hk r word is =
      let j : ℕ = bits 20 12 a in
      let g : ℕ = (m.base + 0x200000 * k) / 0x200000 in
      let aligned : m.base % 0x200000 ≡ 0 = fits.place in
      let one : m.base % 2 ^ 30 + 0x200000 * b ≤ 2 ^ 30 = fits.one_table in
      let within : m.base + 0x200000 * b ≤ 2 ^ 32 = fits.within in
      let address : m.base + 0x200000 * k ≡ 0x200000 * g = omega arith in
      let target : g * 2 ^ 21 + bits 20 0 a ≡ m.base + 4096 * (512 * k + j) + a % 4096 = omega arith in
      ap (λ (w : ℕ). from_level2 m w a) (is ∙ ap (λ (x : ℕ). block_word x r) address)
      ∙ from_level2-block_word m r g a (omega arith)
      ∙ ap (λ (x : ℕ). mapped_answer (Some r) x) target

  in-named : (k : ℕ) → k < b → (q : Option Rights) (word : ℕ) → word ≡ table_link m.base tables b e (2 + k)
      → word_of (page_of m (table_page tables b e (2 + k))) (bits 20 12 a) ≡ page_word (m.base + 0x200000 * k + 4096 * bits 20 12 a) q
      → from_level2 m word a ≡ mapped_answer q (m.base + 4096 * (512 * k + bits 20 12 a) + a % 4096)
  in-named k hk q word is leaf =
      let j : ℕ = bits 20 12 a in
      let f : ℕ = m.base / 4096 + (512 * k + j) in
      let t : ℕ = m.base + 4096 * table_page tables b e (2 + k) in
      let hj : j < 512 = omega arith in
      let aligned : m.base % 0x200000 ≡ 0 = fits.place in
      let one : m.base % 2 ^ 30 + 0x200000 * b ≤ 2 ^ 30 = fits.one_table in
      let within : m.base + 0x200000 * b ≤ 2 ^ 32 = fits.within in
      let size : length m.pages ≡ 512 * b = fits.size in
      let address : m.base + 0x200000 * k + 4096 * j ≡ 4096 * f = omega arith in
      let target : f * 2 ^ 12 + bits 11 0 a ≡ m.base + 4096 * (512 * k + j) + a % 4096 = omega arith in
      let small : f < 2 ^ 36 = omega arith in
      let below : table_page tables b e (2 + k) < length m.pages = table_page-below m n tables b e (2 + k) fits he (omega arith) in
      ap (λ (w : ℕ). from_level2 m w a) is
      ∙ from_level2-table m t a (omega arith) (omega arith) (table_page-address m n tables b e (2 + k) fits he (omega arith))
      ∙ ap (λ (w : ℕ). from_level3 w a) (entry-page m (table_page tables b e (2 + k)) j ∙ leaf ∙ ap (λ (x : ℕ). page_word x q) address)
      ∙ from_level3-page_word q f a small
      ∙ ap (λ (x : ℕ). mapped_answer q x) target

  in-way : (k : ℕ) → k < b → m.base + 4096 * (512 * k + bits 20 12 a) + a % 4096 ≡ a → (word : ℕ) → word ≡ word_of (page_of m (table_page tables b e 1)) (level2_place m.base + k)
      → IsWay m tables b e k (bits 20 12 a) Is → IsAnswered m a Is (from_level2 m word a)
  in-way k hk at word here (inl none) = inl (ap (λ (w : ℕ). from_level2 m w a) (here ∙ none) ∙ from_level2-zero m a)
  in-way k hk at word here (inr (inl (r, its, is))) =
      inr (Some r, its, omega (arith, at), in-block k hk r word (here ∙ is) ∙ ap (λ (x : ℕ). mapped_answer (Some r) x) at)
  in-way k hk at word here (inr (inr (q, its, is, leaf))) =
      inr (q, its, omega (arith, at), in-named k hk q word (here ∙ is) leaf ∙ ap (λ (x : ℕ). mapped_answer q x) at)

  in-second : bits 31 30 a ≡ level1_place m.base → IsAnswered m a Is (from_level2 m (entry m (m.base + 4096 * table_page tables b e 1) (bits 29 21 a)) a)
  in-second top =
      let first : ℕ = level2_place m.base in
      let j : ℕ = bits 29 21 a in
      let hj : j < 512 = omega arith in
      let aligned : m.base % 0x200000 ≡ 0 = fits.place in
      let one : m.base % 2 ^ 30 + 0x200000 * b ≤ 2 ^ 30 = fits.one_table in
      let few : b ≤ MOST_BLOCKS = fits.few in
      let within : m.base + 0x200000 * b ≤ 2 ^ 32 = fits.within in
      let read = entry-page m (table_page tables b e 1) j in
      elim (cases_lt j first) [
        | inl low ↦ inl (ap (λ (w : ℕ). from_level2 m w a) (read ∙ outside j hj (inl low)) ∙ from_level2-zero m a)
        | inr from ↦ elim (cases_lt j (first + b)) [
          | inr high ↦ inl (ap (λ (w : ℕ). from_level2 m w a) (read ∙ outside j hj (inr high)) ∙ from_level2-zero m a)
          | inl below ↦
              let k : ℕ = j - first in
              let hk : k < b = omega arith in
              let jk : j ≡ first + k = omega arith in
              in-way k hk (omega arith) _ (read ∙ ap (λ (i : ℕ). word_of (page_of m (table_page tables b e 1)) i) jk) (each k (bits 20 12 a) hk (omega arith) (omega arith))
        ]
      ]

  walk-way : IsAnswered m a Is (walk_at m tables b e a)
  unfolding walk
  walk-way =
      let base : ℕ = m.base in
      let j : ℕ = bits 31 30 a in
      let hj : j < 512 = omega arith in
      let aligned : m.base % 0x200000 ≡ 0 = fits.place in
      let one : m.base % 2 ^ 30 + 0x200000 * b ≤ 2 ^ 30 = fits.one_table in
      let few : b ≤ MOST_BLOCKS = fits.few in
      let within : m.base + 0x200000 * b ≤ 2 ^ 32 = fits.within in
      let size : length m.pages ≡ 512 * b = fits.size in
      let fits' : nat_lt a (2 ^ 32) ≡ true = grind (arith, nat_tests) in
      let root : root_of m.base tables b e ≡ m.base + 4096 * table_page tables b e 0 = omega arith in
      let word = ap (λ (t : ℕ). entry m t j) root ∙ entry-page m (table_page tables b e 0) j ∙ level1 j hj in
      rw fits' (elim (cases_eq j (level1_place base)) [
        | inl top ↦
            let t : ℕ = base + 4096 * table_page tables b e 1 in
            let below : table_page tables b e 1 < length m.pages = table_page-below m n tables b e 1 fits he (omega arith) in
            let here : (j == level1_place base) ≡ true = grind (arith, nat_tests) in
            subst (IsAnswered m a Is) (sym (ap (λ (w : ℕ). from_level1 m w a) (word ∙ rw here)
            ∙ from_level1-table m t a (omega arith) (omega arith) (table_page-address m n tables b e 1 fits he (omega arith))))
            (in-second top)
        | inr other ↦
            let off : (j == level1_place base) ≡ false = grind (arith, nat_tests) in
            inl (ap (λ (w : ℕ). from_level1 m w a) (word ∙ rw off) ∙ from_level1-zero m a)
      ])

-- in a mixture of what was read rightly
pub walk-mixed : (ram mixed : Ram) (n tables b e a : ℕ) (h : List Step) (Is : ℕ → ℕ → Option Rights → Type 0) → HasRoom ram n tables b → e < n → a < 2 ^ 32
    → Reads ram.base n tables b h ram Is → IsMixture tables b e (page_at ram a) h ram mixed → IsAnswered mixed a (Is e (page_at ram a)) (walk_at mixed tables b e a)
walk-mixed ram m n tables b e a h Is room he ha reads mix =
    let aligned : ram.base % 0x200000 ≡ 0 = room.place in
    let one : ram.base % 2 ^ 30 + 0x200000 * b ≤ 2 ^ 30 = room.one_table in
    let few : b ≤ MOST_BLOCKS = room.few in
    let small : page_at ram a < 2 ^ 20 = omega arith in
    walk-way m n tables b e a (Is e (page_at ram a)) (HasRoom-kept ram m n tables b room mix.base mix.size) he ha
    (λ i hi. rw mix.base (reads.level1 e (page_at ram a) i _ he small hi (mix.words 0 i (omega arith) hi)))
    (λ i hi off. reads.outside e (page_at ram a) i _ he small hi (rw mix.base at off) (mix.words 1 i (omega arith) hi))
    (λ k j hk hj at. subst (λ (c : ℕ). (word_of (page_of m (table_page tables b e 1)) (level2_place c + k) ≡ 0)
    ⊎ (((r : Rights) × Is e (page_at ram a) (Some r) × (word_of (page_of m (table_page tables b e 1)) (level2_place c + k) ≡ block_word (c + 0x200000 * k) r))
    ⊎ ((q : Option Rights) × Is e (page_at ram a) q × (word_of (page_of m (table_page tables b e 1)) (level2_place c + k) ≡ table_link c tables b e (2 + k))
    × (word_of (page_of m (table_page tables b e (2 + k))) j ≡ page_word (c + 0x200000 * k + 4096 * j) q)))) (sym mix.base)
    (way k j hk hj (ap (λ (c : ℕ). (a - c) / 4096) (sym mix.base) ∙ at)))
  where
    way : (k j : ℕ) → k < b → j < 512 → page_at ram a ≡ 512 * k + j
        → (word_of (page_of m (table_page tables b e 1)) (level2_place ram.base + k) ≡ 0)
        ⊎ (((r : Rights) × Is e (page_at ram a) (Some r) × (word_of (page_of m (table_page tables b e 1)) (level2_place ram.base + k) ≡ block_word (ram.base + 0x200000 * k) r))
        ⊎ ((q : Option Rights) × Is e (page_at ram a) q × (word_of (page_of m (table_page tables b e 1)) (level2_place ram.base + k) ≡ table_link ram.base tables b e (2 + k))
        × (word_of (page_of m (table_page tables b e (2 + k))) j ≡ page_word (ram.base + 0x200000 * k + 4096 * j) q)))
    way k j hk hj at =
        let aligned : ram.base % 0x200000 ≡ 0 = room.place in
        let one : ram.base % 2 ^ 30 + 0x200000 * b ≤ 2 ^ 30 = room.one_table in
        let few : b ≤ MOST_BLOCKS = room.few in
        let within : ram.base + 0x200000 * b ≤ 2 ^ 32 = room.within in
        let entry : level2_place ram.base + k < 512 = omega arith in
        let second : MayRead e (512 * k + j) h ram (table_page tables b e 1) (level2_place ram.base + k) (word_of (page_of m (table_page tables b e 1)) (level2_place ram.base + k)) =
        subst (λ (p : ℕ). MayRead e p h ram (table_page tables b e 1) (level2_place ram.base + k) (word_of (page_of m (table_page tables b e 1)) (level2_place ram.base + k))) at
        (mix.words 1 (level2_place ram.base + k) (omega arith) entry)
        in
        let third : MayRead e (512 * k + j) h ram (table_page tables b e (2 + k)) j (word_of (page_of m (table_page tables b e (2 + k))) j) =
        subst (λ (p : ℕ). MayRead e p h ram (table_page tables b e (2 + k)) j (word_of (page_of m (table_page tables b e (2 + k))) j)) at
        (mix.words (2 + k) j (omega (arith, hk)) hj)
        in
        elim (reads.each e k j he hk hj) [
          | inl x ↦ elim (x.middle _ second) [
            | inl none ↦ inl none
            | inr (r, its, is) ↦ inr (inl (r, subst (λ (p : ℕ). Is e p (Some r)) (sym at) its, is))
          ]
          | inr x ↦ elim (x.middle _ second) [
            | inl none ↦ inl none
            | inr link ↦ let (q, its, is) = x.leaf _ third in inr (inr (q, subst (λ (p : ℕ). Is e p q) (sym at) its, link, is))
          ]
        ]

-- in RAM that has the words of an endpoint's tables as they stand
pub walk-words : (ram m : Ram) (n tables b e a : ℕ) (rights : ℕ → ℕ → Option Rights) → IsStanding ram n tables b rights → e < n → a < 2 ^ 32 → m.base ≡ ram.base → length m.pages ≡ length ram.pages
    → ((t i : ℕ) → t < table_pages b → i < 512 → word_of (page_of m (table_page tables b e t)) i ≡ word_of (page_of ram (table_page tables b e t)) i)
    → IsAnswered m a (λ q. q ≡ rights e (page_at ram a)) (walk_at m tables b e a)
walk-words ram m n tables b e a rights stands he ha base size words =
    walk-way m n tables b e a (λ q. q ≡ rights e (page_at ram a)) (HasRoom-kept ram m n tables b stands.fits base size) he ha
    (λ i hi. rw base (words 0 i (omega arith) hi ∙ stands.level1 e i he hi))
    (λ i hi off. words 1 i (omega arith) hi ∙ stands.outside e i he hi (rw base at off))
    (λ k j hk hj at. subst (λ (c : ℕ). (word_of (page_of m (table_page tables b e 1)) (level2_place c + k) ≡ 0)
    ⊎ (((r : Rights) × (Some r ≡ rights e (page_at ram a)) × (word_of (page_of m (table_page tables b e 1)) (level2_place c + k) ≡ block_word (c + 0x200000 * k) r))
    ⊎ ((q : Option Rights) × (q ≡ rights e (page_at ram a)) × (word_of (page_of m (table_page tables b e 1)) (level2_place c + k) ≡ table_link c tables b e (2 + k))
    × (word_of (page_of m (table_page tables b e (2 + k))) j ≡ page_word (c + 0x200000 * k + 4096 * j) q)))) (sym base)
    (way k j hk hj (ap (λ (c : ℕ). (a - c) / 4096) (sym base) ∙ at)))
  where
    way : (k j : ℕ) → k < b → j < 512 → page_at ram a ≡ 512 * k + j
        → (word_of (page_of m (table_page tables b e 1)) (level2_place ram.base + k) ≡ 0)
        ⊎ (((r : Rights) × (Some r ≡ rights e (page_at ram a)) × (word_of (page_of m (table_page tables b e 1)) (level2_place ram.base + k) ≡ block_word (ram.base + 0x200000 * k) r))
        ⊎ ((q : Option Rights) × (q ≡ rights e (page_at ram a)) × (word_of (page_of m (table_page tables b e 1)) (level2_place ram.base + k) ≡ table_link ram.base tables b e (2 + k))
        × (word_of (page_of m (table_page tables b e (2 + k))) j ≡ page_word (ram.base + 0x200000 * k + 4096 * j) q)))
    way k j hk hj at =
        let aligned : ram.base % 0x200000 ≡ 0 = stands.fits.place in
        let one : ram.base % 2 ^ 30 + 0x200000 * b ≤ 2 ^ 30 = stands.fits.one_table in
        let few : b ≤ MOST_BLOCKS = stands.fits.few in
        let within : ram.base + 0x200000 * b ≤ 2 ^ 32 = stands.fits.within in
        let second = words 1 (level2_place ram.base + k) (omega arith) (omega arith) in
        let third = words (2 + k) j (omega (arith, hk)) hj in
        let here : rights e (512 * k + j) ≡ rights e (page_at ram a) = ap (rights e) (sym at) in
        elim (stands.each e k he hk) [
          | inl it ↦ inr (inl (it.right, sym (it.one j hj) ∙ here, second ∙ it.is))
          | inr (inl it) ↦ inr (inr (rights e (512 * k + j), here, second ∙ it.is, third ∙ it.pages j hj))
          | inr (inr it) ↦ inl (second ∙ it.is)
        ]

-- what walks give in one of two RAMs, or nothing
abbrev pub IsAsInEither : Ram → Ram → ℕ → ℕ → ℕ → ℕ → Option Rights → Type 0
IsAsInEither old new tables blocks e p right = IsAsIn old tables blocks e p right ⊎ IsAsIn new tables blocks e p right

-- so it gives what walks give in one of two, or nothing
pub mixed-between : (old new ram : Ram) (n tables b : ℕ) (h : List Step) → HasRoom ram n tables b → ram.base ≡ old.base → new.base ≡ old.base
    → Reads ram.base n tables b h ram (IsAsInEither old new tables b) → MixedBetween old new n tables b h ram
mixed-between old new ram n tables b h room base base' reads e a m he ha mix =
    elim (walk-mixed ram m n tables b e a h (IsAsInEither old new tables b) room he ha reads mix) [
      | inl none ↦ inr (inr none)
      | inr (q, its, low, is) ↦
          let aligned : ram.base % 0x200000 ≡ 0 = room.place in
          let one : ram.base % 2 ^ 30 + 0x200000 * b ≤ 2 ^ 30 = room.one_table in
          let low' : ram.base ≤ a = subst (λ (c : ℕ). c ≤ a) mix.base low in
          let at : ram.base + 4096 * page_at ram a + a % 4096 ≡ a = omega (arith, aligned, low') in
          elim its [
            | inl (inl none) ↦ inr (inr (is ∙ answer-none q a none))
            | inl (inr walked) ↦
                inl (is ∙ subst (λ (x : ℕ). mapped_answer q x ≡ walk_at old tables b e x) (ap (λ (c : ℕ). c + 4096 * page_at ram a + a % 4096) (sym base) ∙ at) (walked (a % 4096) (omega arith)))
            | inr (inl none) ↦ inr (inr (is ∙ answer-none q a none))
            | inr (inr walked) ↦
                inr (inl (is ∙ subst (λ (x : ℕ). mapped_answer q x ≡ walk_at new tables b e x) (ap (λ (c : ℕ). c + 4096 * page_at ram a + a % 4096) (base' ∙ sym base) ∙ at) (walked (a % 4096) (omega arith))))
          ]
    ]

-- nobody's walks differ but those of one endpoint
abbrev pub OneDiffers : Ram → Ram → ℕ → ℕ → ℕ → Type 0
OneDiffers old new endpoints tables blocks =
    (one : ℕ)
    × ((e address : ℕ) → e < endpoints → address < 2 ^ 32 → (e ≡ one → ⊥)
    → walk_at new tables blocks e address ≡ walk_at old tables blocks e address)

-- so it is for all endpoints at once
pub mixtures-between : (old new ram : Ram) (n tables b : ℕ) (h : List Step) → OneDiffers old new n tables b → MixedBetween old new n tables b h ram → MixturesBetween old new n tables b h ram
mixtures-between old new ram n tables b h (one, others) between a mixed ha each = elim (cases_lt one n) [
  | inr out ↦ inl (λ e he. as-old e he (λ same. absurd (omega (arith, out, he, same))))
  | inl lt ↦ elim (between one a (mixed one) lt ha (each one lt)) [
    | inl is ↦ inl (λ e he. elim (cases_eq e one) [ inl same ↦ inl (subst (λ (x : ℕ). walk_at (mixed x) tables b x a ≡ walk_at old tables b x a) (sym same) is) | inr far ↦ as-old e he far ])
    | inr (inl is) ↦ inr (λ e he. elim (cases_eq e one) [ inl same ↦ inl (subst (λ (x : ℕ). walk_at (mixed x) tables b x a ≡ walk_at new tables b x a) (sym same) is) | inr far ↦ as-new e he far ])
    | inr (inr none) ↦ inl (λ e he. elim (cases_eq e one) [ inl same ↦ inr (subst (λ (x : ℕ). walk_at (mixed x) tables b x a ≡ Err Translation) (sym same) none) | inr far ↦ as-old e he far ])
  ]
]
  where
    as-old : (e : ℕ) → e < n → (e ≡ one → ⊥) → (walk_at (mixed e) tables b e a ≡ walk_at old tables b e a) ⊎ (walk_at (mixed e) tables b e a ≡ Err Translation)
    as-old e he far = elim (between e a (mixed e) he ha (each e he)) [
      | inl is ↦ inl is
      | inr (inl is) ↦ inl (is ∙ others e a he ha far)
      | inr (inr none) ↦ inr none
    ]

    as-new : (e : ℕ) → e < n → (e ≡ one → ⊥) → (walk_at (mixed e) tables b e a ≡ walk_at new tables b e a) ⊎ (walk_at (mixed e) tables b e a ≡ Err Translation)
    as-new e he far = elim (between e a (mixed e) he ha (each e he)) [
      | inl is ↦ inl (is ∙ sym (others e a he ha far))
      | inr (inl is) ↦ inl is
      | inr (inr none) ↦ inr none
    ]
