-- SPDX-License-Identifier: MIT OR Apache-2.0
-- RAM in frames, as its clauses see it.
use Rattle.std.proofs.Common.{◌≡◌, ℕ, ◌≤◌, List, length, None, Some, Box, map, slice_get, ◌∙◌, refl, ap, sym, inl, inr}
use Rattle.std.proofs.lemmas.List.{length-map, map-set, set_past}
use Rattle.std.proofs.Math.Seq.{map-set_same}
use Rattle.std.proofs.lemmas.Option.{slice_get_cases}
use Rattle.std.specs.Vec.{with_item}
use Rattle.std.specs.Box.{with_value}
use Rattle.ffa_model.specs.Ram.{Ram, with_page}
use Rattle.ffa_physmem.specs.declared.frames.FrameRam.{FrameRam}

abbrev pub ram_of : {A L : Type 0} → FrameRam A L → Ram
ram_of m = record { base = m.base.0; pages = map (λ b. b.value) m.frames.items }

-- its frames
abbrev pub frames_of : {A L : Type 0} → FrameRam A L → List (Box (List ℕ) A)
frames_of m = m.frames.items

-- the same RAM with other bytes in one frame
abbrev pub with_frame : {A L : Type 0} → FrameRam A L → ℕ → List ℕ → FrameRam A L
with_frame m i bytes = elim (slice_get m.frames.items i) [
  | None ↦ m
  | Some b ↦ record m { frames = with_item m.frames i (with_value b bytes) }
]

-- only that page changes
pub ram_of-with_frame :
    {A L : Type 0} (m : FrameRam A L) (i : ℕ) (bytes : List ℕ)
    → ram_of (with_frame m i bytes) ≡ with_page (ram_of m) i bytes
ram_of-with_frame m i bytes =
    let pages = map (λ b. b.value) m.frames.items in
    elim (slice_get_cases m.frames.items i).1 [
      | inl (b, inside, there, read) ↦
          rw (there, with_frame) (ap (λ p. record { base = m.base.0; pages = p })
          (map-set (λ x. x.value) m.frames.items i (with_value b bytes)))
      | inr (outside, missing) ↦
          let past : length pages ≤ i = simp length-map outside in
          rw (missing, with_frame) (ap (λ p. record { base = m.base.0; pages = p }) (sym (set_past pages i bytes past)))
    ]

-- and of that frame its bytes alone
pub frames_of-with_frame :
    {A L B : Type 0} (f : Box (List ℕ) A → B) (m : FrameRam A L) (i : ℕ) (bytes : List ℕ)
    → ((b : Box (List ℕ) A) → f (with_value b bytes) ≡ f b) → map f (frames_of (with_frame m i bytes)) ≡ map f (frames_of m)
frames_of-with_frame f m i bytes same = elim (slice_get_cases m.frames.items i).1 [
  | inl (b, inside, there, read) ↦
      rw (there, with_frame) (map-set_same f m.frames.items i (with_value b bytes) b (same b ∙ ap f (sym read)))
  | inr (outside, missing) ↦ rw (missing, with_frame) refl
]
