-- SPDX-License-Identifier: MIT OR Apache-2.0
-- How the machine stores a `Strip`, and what one is put together from and taken apart to. Assumes `Logic`.
use Rattle.ffa_lent.proofs.Steps.{◌≡◌, ℕ, List, [], ◌∷◌, refl, Val, ‵, ◌$◌, fsplit, RattleType, Ptr, ptr_val, block_ptr, null_ptr, in_a_block, never, fst∗, sem, ◌<◌, length, arith, RawPtr-plain, Ura, via, guard_i, Width, int_big, Env, Item, Goal, Seq, Step, Logic, Opd}
use mir.Val.{Fits, vint}
use Rattle.std.specs.Ptr.{points_to, ptr_add}
use Rattle.ffa_lent.specs.Strips.{strip_owns}
use Rattle.ffa_lent.specs.contracts.span.Strip as strip
use Rattle.ffa_lent.proofs.span.Strip.TheLaws.{lowers}
use Rattle.ffa_lent.proofs.Owners.{owner_in}
use Rattle.ffa_lent.proofs.Slots.{Page}

abbrev pub Strip : RattleType
Strip = strip.the_row

abbrev pub strip_vals : Strip.Denot → List Val
strip_vals d = lowers.lowered d ∷ []

module _ {M : Type 1} {𝓤 : Ura M} {𝓛 : Logic 𝓤} {K : Type 0} {Γ : List (Item 𝓤)} {G : Goal 𝓤 𝓛.H} where
  pub strip_in : K → (p : Ptr) (xs : List Page.Denot)
      → let d : Strip.Denot = record { at = p; pages = xs } in Step K 𝓛 (‵ (Strip.own_val d (strip_vals d)) ∷ Γ) G (‵ (strip_owns Page p xs) ∷ Γ) G
  strip_in t p xs = let d : Strip.Denot = record { at = p; pages = xs } in
      owner_in t strip.the_type (RawPtr-plain, tt) d (strip_vals d) ((ptr_val p ∷ [], tt), (refl, (refl, tt)))

  -- a strip that isn't empty owns its first value's memory, which lies in a block, and the strip behind that
  pub strip_out : K → (R : RattleType) (p : Ptr) (xs : List R.Denot) → 0 < length xs
      → ((x : R.Denot) (rest : List R.Denot) → xs ≡ x ∷ rest → (b o : ℕ) → p ≡ block_ptr b o
      → Seq K 𝓛 (‵ (points_to R (block_ptr b o) x) ∷ ‵ (strip_owns R (ptr_add R 1 (block_ptr b o)) rest) ∷ Γ) G)
      → Seq K 𝓛 (‵ (strip_owns R p xs) ∷ Γ) G
  strip_out t R p [] some k = absurd (omega (arith, some))
  strip_out t R p (x ∷ rest) some k =
      in_a_block t p (λ q. strip_owns R q (x ∷ rest)) (fst∗ 𝓤 (never 𝓤) (sem 𝓛 (strip_owns R null_ptr rest))) (λ b o at. fsplit t $ k x rest refl b o at)

module _ {M : Type 1} {𝓤 : Ura M} {𝓛 : Logic 𝓤} {K : Type 0} {Γ : List (Item 𝓤)} {E : Env 𝓤 𝓛.H} where
  -- a constant above 1023, as `lit` is one below
  pub big_lit : K → {w : Width} {n : ℕ} → Fits w n → Opd K 𝓛 Γ E (int_big w n) (vint w n)
  big_lit t {w} {n} fits = record { go = λ Kt h. via 𝓤 (Kt (vint w n)) h (guard_i 𝓤 (Fits w n) (Kt (vint w n)) fits) }
