-- SPDX-License-Identifier: MIT OR Apache-2.0
-- Whether a line meets what is wanted.
use Rattle.std.proofs.Common.{◌≡◌, ℕ, true, false, List, sym, ap, ◌∙◌, ◌||◌, bytes_eq}
use Rattle.std.proofs.lemmas.Bool.{or_left}
use Rattle.play_player.specs.Patterns.{fits, meets, pattern_of, told}
use Rattle.play_player.specs.declared.patterns.Came.{Came}

pub meets_same : (came : Came) (text line : List ℕ) → bytes_eq text line ≡ true → meets came text line ≡ true
unfolding meets
meets_same came text line same = or_left (bytes_eq text line) (fits text (told (pattern_of text) came line)) same

pub meets_other : (came : Came) (text line found : List ℕ) → bytes_eq text line ≡ false → found ≡ told (pattern_of text) came line → fits text found ≡ meets came text line
unfolding meets
meets_other came text line found other is =
    ap (fits text) is ∙ sym (ap (λ b. b || fits text (told (pattern_of text) came line)) other)
