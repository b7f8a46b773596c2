-- SPDX-License-Identifier: MIT OR Apache-2.0
-- Linking one endpoint's tables, write by write.
use Rattle.std.proofs.Common.{◌≡◌, ◌∙◌, ℕ, ◌+◌, ◌-◌, ◌*◌, ◌%◌, ◌^◌, ◌<◌, ◌≤◌, true, false, refl, ap, sym, arith, inl, inr, ◌==◌, ◌&&◌, nat_lt}
use Rattle.std.proofs.lemmas.Bool.{cases_eq, cases_lt}
use Rattle.std.proofs.lemmas.Bool.Decides.{nat_tests}
use Rattle.ffa_model.specs.declared.limits.TheConstants.{MOST_BLOCKS}
use Rattle.ffa_model.specs.Ram.{Ram, page_of, with_page, with_word}
use Rattle.ffa_model.specs.Descriptor.{page_word}
use Rattle.ffa_stage2.specs.Tables.{KeepsRest, table_page, table_link, level1_place, level2_place}
use Rattle.ffa_stage2.specs.Words.{TablesAre, built_word, no_access, linked, linking, is_linked}
use Rattle.ffa_stage2.proofs.Places.{table_page-below}
use Rattle.ffa_stage2.proofs.Words.{TablesAre-same, built_word-level1_here, built_word-level1_other, built_word-level2_here, built_word-level2_other, built_word-level3}
use Rattle.ffa_stage2.proofs.Writes.{put, TablesAre-written, KeepsOthers-written}
use Rattle.ffa_stage2.proofs.Kept.{KeepsRest-of_others, KeepsRest-then}

-- the level 1 word
put-level1 : (base tables b e e' s j : ℕ)
    → put (linked base tables b e) e 0 (level1_place base) (table_link base tables b e 1) e' s j ≡ linking base tables b e 0 e' s j
put-level1 base tables b e e' s j = elim (cases_eq e' e) [
  | inr far ↦
      let p : (e' == e && (s == 0 && j == level1_place base)) ≡ false = grind (arith, nat_tests) in
      let q : is_linked base e 0 e' s j ≡ nat_lt e' e = grind (arith, nat_tests) in
      rw (p, q)
  | inl same ↦
      let before : nat_lt e' e ≡ false = grind (arith, nat_tests) in
      elim (cases_eq s 0) [
        | inl top ↦
            let q : is_linked base e 0 e' s j ≡ true = grind (arith, nat_tests) in
            elim (cases_eq j (level1_place base)) [
              | inl at ↦
                  let p : (e' == e && (s == 0 && j == level1_place base)) ≡ true = grind (arith, nat_tests) in
                  rw (p, q) (rw (same, top) (sym (built_word-level1_here base tables b e j (no_access e) at)))
              | inr off ↦
                  let p : (e' == e && (s == 0 && j == level1_place base)) ≡ false = grind (arith, nat_tests) in
                  rw (p, q) (rw before (rw (same, top) (sym (built_word-level1_other base tables b e j (no_access e) off))))
            ]
        | inr low ↦
            let p : (e' == e && (s == 0 && j == level1_place base)) ≡ false = grind (arith, nat_tests) in
            elim (cases_eq s 1) [
              | inr lower ↦
                  let q : is_linked base e 0 e' s j ≡ false = grind (arith, nat_tests) in
                  rw (p, q) (rw before refl)
              | inl middle ↦ elim (cases_lt j (level2_place base)) [
                | inr high ↦
                    let q : is_linked base e 0 e' s j ≡ false = grind (arith, nat_tests) in
                    rw (p, q) (rw before refl)
                | inl less ↦
                    let q : is_linked base e 0 e' s j ≡ true = grind (arith, nat_tests) in
                    rw (p, q) (rw before (rw (same, middle) (sym (built_word-level2_other base tables b e j (no_access e) (λ from _. omega arith)))))
              ]
            ]
      ]
]

-- one word of level 2
put-level2 : (base tables b e k e' s j : ℕ) → k < b
    → put (linking base tables b e k) e 1 (level2_place base + k) (table_link base tables b e (2 + k)) e' s j ≡ linking base tables b e (k + 1) e' s j
put-level2 base tables b e k e' s j hk = elim (cases_eq e' e) [
  | inr far ↦
      let p : (e' == e && (s == 1 && j == level2_place base + k)) ≡ false = grind (arith, nat_tests) in
      let q : is_linked base e (k + 1) e' s j ≡ is_linked base e k e' s j = grind (arith, nat_tests) in
      rw (p, q)
  | inl same ↦ elim (cases_eq s 1) [
    | inr far ↦
        let p : (e' == e && (s == 1 && j == level2_place base + k)) ≡ false = grind (arith, nat_tests) in
        let q : is_linked base e (k + 1) e' s j ≡ is_linked base e k e' s j = grind (arith, nat_tests) in
        rw (p, q)
    | inl middle ↦ elim (cases_eq j (level2_place base + k)) [
      | inl at ↦
          let p : (e' == e && (s == 1 && j == level2_place base + k)) ≡ true = grind (arith, nat_tests) in
          let q : is_linked base e (k + 1) e' s j ≡ true = grind (arith, nat_tests) in
          rw (p, q) (rw (same, middle, at) (sym (built_word-level2_here base tables b e k (no_access e) hk)))
      | inr off ↦
          let p : (e' == e && (s == 1 && j == level2_place base + k)) ≡ false = grind (arith, nat_tests) in
          let q : is_linked base e (k + 1) e' s j ≡ is_linked base e k e' s j = grind (arith, nat_tests) in
          rw (p, q)
    ]
  ]
]

-- level 3 without rights is zeros
built_word-no_access : (base tables b e s j : ℕ) → 2 ≤ s → built_word base tables b e (no_access e) s j ≡ 0
unfolding page_word
built_word-no_access base tables b e s j h =
    let q : s ≡ 2 + (s - 2) = omega arith in
    ap (λ (i : ℕ). built_word base tables b e (no_access e) i j) q ∙ built_word-level3 base tables b e (s - 2) j (no_access e)

-- the last
linking-full : (base tables b e e' s j : ℕ) → linking base tables b e b e' s j ≡ linked base tables b (e + 1) e' s j
linking-full base tables b e e' s j = elim (cases_eq e' e) [
  | inr far ↦
      let q : is_linked base e b e' s j ≡ nat_lt e' (e + 1) = grind (arith, nat_tests) in
      rw q
  | inl same ↦
      let after : nat_lt e' (e + 1) ≡ true = grind (arith, nat_tests) in
      elim (cases_eq s 0) [
        | inl top ↦
            let q : is_linked base e b e' s j ≡ true = grind (arith, nat_tests) in
            rw (q, after)
        | inr low ↦ elim (cases_eq s 1) [
          | inr lower ↦
              let q : is_linked base e b e' s j ≡ false = grind (arith, nat_tests) in
              rw (q, after) (sym (built_word-no_access base tables b e' s j (omega arith)))
          | inl middle ↦ elim (cases_lt j (level2_place base + b)) [
            | inl less ↦
                let q : is_linked base e b e' s j ≡ true = grind (arith, nat_tests) in
                rw (q, after)
            | inr high ↦
                let q : is_linked base e b e' s j ≡ false = grind (arith, nat_tests) in
                rw (q, after) (rw middle (sym (built_word-level2_other base tables b e' j (no_access e') (λ _ under. omega arith))))
          ]
        ]
      ]
]

pub linked-full : (ram : Ram) (n tables b e base : ℕ) → TablesAre ram n tables b (linking base tables b e b) → TablesAre ram n tables b (linked base tables b (e + 1))
linked-full ram n tables b e base t = TablesAre-same ram n tables b _ _ t (λ e' s j _ _ _. linking-full base tables b e e' s j)

-- the tables on the way, and the other pages
pub record IsLinking (old new : Ram) (n tables b base e k : ℕ) : Type 0 where
  pub words : TablesAre new n tables b (linking base tables b e k)
  pub rest : KeepsRest old new n tables b

-- the code's write of the level 1 word
pub linking-first : (old new : Ram) (n tables b base e page place value : ℕ) → TablesAre old n tables b (linked base tables b e) → old.base ≡ base → e < n
    → new ≡ with_page old page (with_word (page_of old page) place value)
    → page ≡ table_page tables b e 0 → place ≡ level1_place base → value ≡ table_link base tables b e 1 → IsLinking old new n tables b base e 0
linking-first old new n tables b base e page place value t same he wrote p i w =
    let within : old.base + 0x200000 * b ≤ 2 ^ 32 = t.fits.within in
    let size = t.fits.size in
    let below = table_page-below old n tables b e 1 t.fits he (omega arith) in
    let fits : table_link base tables b e 1 < 2 ^ 64 = omega arith in
    record {
      words = TablesAre-same new n tables b _ _
          (TablesAre-written old n tables b (linked base tables b e) e 0 (level1_place base) (table_link base tables b e 1) t he (omega arith) (omega arith) fits new page place value wrote p i w)
          (λ e' s j _ _ _. put-level1 base tables b e e' s j);
      rest = KeepsRest-of_others old new n tables b e
          (KeepsOthers-written old n tables b (linked base tables b e) e 0 (level1_place base) (table_link base tables b e 1) t he (omega arith) (omega arith) fits new page place value wrote p i w)
          he;
    }

-- and of one word of level 2
pub linking-next : (first old new : Ram) (n tables b base e k page place value : ℕ) → IsLinking first old n tables b base e k → old.base ≡ base → e < n → k < b
    → new ≡ with_page old page (with_word (page_of old page) place value)
    → page ≡ table_page tables b e 1 → place ≡ level2_place base + k → value ≡ table_link base tables b e (2 + k) → IsLinking first new n tables b base e (k + 1)
linking-next first old new n tables b base e k page place value so_far same he hk wrote p i w =
    let t = so_far.words in
    let aligned : old.base % 0x200000 ≡ 0 = t.fits.place in
    let one : old.base % 2 ^ 30 + 0x200000 * b ≤ 2 ^ 30 = t.fits.one_table in
    let few : b ≤ MOST_BLOCKS = t.fits.few in
    let within : old.base + 0x200000 * b ≤ 2 ^ 32 = t.fits.within in
    let size = t.fits.size in
    let below = table_page-below old n tables b e (2 + k) t.fits he (omega arith) in
    let fits : table_link base tables b e (2 + k) < 2 ^ 64 = omega arith in
    let here : level2_place base + k < 512 = omega arith in
    record {
      words = TablesAre-same new n tables b _ _
          (TablesAre-written old n tables b (linking base tables b e k) e 1 (level2_place base + k) (table_link base tables b e (2 + k)) t he (omega arith) here fits new page place value wrote p i w)
          (λ e' s j _ _ _. put-level2 base tables b e k e' s j hk);
      rest = KeepsRest-then first old new n tables b so_far.rest (KeepsRest-of_others old new n tables b e
          (KeepsOthers-written old n tables b (linking base tables b e k) e 1 (level2_place base + k) (table_link base tables b e (2 + k)) t he (omega arith) here fits new page place value wrote p i w)
          he);
    }
