-- SPDX-License-Identifier: MIT OR Apache-2.0
-- A struct that owns what lies behind a pointer, put together and taken apart. Assumes `Logic`.
use Rattle.ffa_lent.proofs.Steps.{◌≡◌, ℕ, List, [], ◌∷◌, Option, None, Some, refl, IsSome, Val, ‵, ◌$◌, fjoin, RattleType, Ptr, block_ptr, null_ptr, in_a_block, owned, bare, lone, never, fst∗, sem, Al, ftrue, Is, Fml, Laws, Struct, Plains, Struct-Makes, Ty, impl, tnil, dnil, Ura, Item, Goal, Seq, Step, step, Logic}
use Rattle.std.proofs.lemmas.Bool.{false≢true}
use Rattle.std.specs.Box.Ownership.{box_owns}
use Rattle.ffa_lent.specs.Slots.{slot_owns}
use denote.Struct.Owning.{Owning, fields, shape, to, row}

-- any type, as what `handle_tells` speaks of
abbrev pub as_handle : (R : RattleType) → Laws R → Al
as_handle R laws = record { row = R; laws = laws; g = record { dealloc_token = λ _ _ _. ftrue }; d = impl [] tnil dnil; drops = impl [] tnil dnil }

module _ {M : Type 1} {𝓤 : Ura M} {𝓛 : Logic 𝓤} {K : Type 0} {Γ : List (Item 𝓤)} {G : Goal 𝓤 𝓛.H} where
  -- a struct whose fields own nothing: what it owns beside them makes all of it
  pub owner_in : K → (S : Owning) → Plains (fields S) → (d : S.D) (vs : List Val) → Is (Struct (shape S)) (to S d) vs
      → Step K 𝓛 (‵ ((row S).own_val d vs) ∷ Γ) G (‵ (S.heap d) ∷ Γ) G
  owner_in t S plain d vs is = step (λ s. owned t (Struct (shape S)) (Is (Struct (shape S))) (Struct-Makes 𝓛 (shape S) plain) (to S d) vs is $ fjoin t $ s)

  -- what lies behind a box's pointer lies in a block, since nothing lies at null
  pub block_of : K → (holds : Ty → Ptr → Fml) (R : RattleType) (p : Ptr) (x : R.Denot)
      → ((b o : ℕ) → p ≡ block_ptr b o → Seq K 𝓛 (‵ (box_owns holds R (block_ptr b o) x) ∷ Γ) G)
      → Seq K 𝓛 (‵ (box_owns holds R p x) ∷ Γ) G
  block_of t holds R p x = in_a_block t p (λ q. box_owns holds R q x) (fst∗ 𝓤 (never 𝓤) (sem 𝓛 (holds (bare (lone R.mir)) null_ptr)))

module _ {M : Type 1} {𝓤 : Ura M} {𝓛 : Logic 𝓤} {K : Type 0} {Γ : List (Item 𝓤)} {G : Goal 𝓤 𝓛.H} where
  -- a slot that holds something owns its memory
  pub slot_out : K → (holds : Ty → Ptr → Fml) (R : RattleType) (p : Ptr) (v : Option R.Denot) → IsSome v
      → ((x : R.Denot) → v ≡ Some x → (b o : ℕ) → p ≡ block_ptr b o → Seq K 𝓛 (‵ (box_owns holds R (block_ptr b o) x) ∷ Γ) G)
      → Seq K 𝓛 (‵ (slot_owns holds R p v) ∷ Γ) G
  slot_out t holds R p None held k = absurd (false≢true held)
  slot_out t holds R p (Some x) held k = block_of t holds R p x (k x refl)
