-- SPDX-License-Identifier: MIT OR Apache-2.0
-- The box of one frame, as it is lent.
use Rattle.std.proofs.Common.{◌≡◌, ◌∙◌, ℕ, ◌+◌, ◌*◌, ◌%◌, ◌^◌, ◌<◌, ◌≤◌, List, [], Some, Box, length, slice_get, slice_index_or, vec_len, refl, ap, sym}
use Rattle.std.proofs.lemmas.List.{length-map, get_or-map}
use Rattle.std.proofs.lemmas.Option.{slice_get_read}
use Rattle.std.proofs.Math.Nat.{ℕ_set}
use Rattle.std.proofs.Math.Bridge.{le_prop}
use Rattle.std.specs.Vec.{with_item}
use Rattle.std.specs.Box.{with_value}
use Rattle.ffa_model.specs.Ram.{page_of}
use Rattle.ffa_physmem.specs.FrameRam.{ram_of, with_frame}
use Rattle.ffa_physmem.specs.declared.frames.FrameRam.{FrameRam}

module _ {A L : Type 0} (m : FrameRam A L) (i : ℕ) (b : Box (List ℕ) A) (inside : i < length (ram_of m).pages) (there : b ≡ slice_index_or m.frames.items i b) where
  -- it has the page's bytes
  pub page_of-there : page_of (ram_of m) i ≡ b.value
  page_of-there = get_or-map (λ x. x.value) m.frames.items i b [] (simp length-map at inside) ∙ ap (λ x. x.value) (sym there)

  -- written, it is that of the RAM with these bytes, whatever proves that this is RAM
  pub with_frame-there : (bytes : List ℕ) (aligned : m.base.0 % 4096 ≡ 0) (fits : m.base.0 + 4096 * vec_len m.frames ≤ 2 ^ 32) → record { base = m.base; frames = with_item m.frames i (with_value b bytes); aligned = aligned; fits = fits } ≡ with_frame m i bytes
  with_frame-there bytes aligned fits =
      let held : slice_get m.frames.items i ≡ Some b = slice_get_read m.frames.items _ i b refl (simp length-map at inside) there in
      rw (held, with_frame) (λ j. record { base = m.base; frames = with_item m.frames i (with_value b bytes); aligned = ℕ_set _ _ aligned m.aligned j; fits = le_prop fits m.fits j })
