-- SPDX-License-Identifier: MIT OR Apache-2.0
use Rattle.std.proofs.Common.{◌≡◌, ◌++◌, ℕ, List, length, flat_map}
use Rattle.play_trace.specs.TraceText.{spaced}
use Rattle.play_reasons.specs.Drafts.{Puts}
use Rattle.play_player.specs.Short.{filled, short_number}
use Rattle.play_player.proofs.short.put_filled.Given as goal

abbrev pub invariant-loop-rest : goal.invariant-loop-rest
invariant-loop-rest g l =
    (words : List ℕ) × Puts l.fn.text l.text words
    × (words ++ flat_map (λ v. spaced (short_number v)) (filled l.rest) ≡ flat_map (λ v. spaced (short_number v)) (filled l.x))

abbrev pub decreases-loop-rest : goal.decreases-loop-rest
decreases-loop-rest g l = length l.rest
