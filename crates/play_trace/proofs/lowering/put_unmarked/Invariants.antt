-- SPDX-License-Identifier: MIT OR Apache-2.0
use Rattle.std.proofs.Common.{◌≡◌, ◌++◌, flat_map}
use Rattle.play_trace.specs.TraceLines.{bare, words_of}
use Rattle.play_trace.specs.TraceText.{spaced}
use Rattle.play_trace.specs.Cuts.{left_length, words_left}
use Rattle.play_trace.specs.Words.{unmarked}
use Rattle.play_trace.proofs.lowering.put_unmarked.Given as goal

abbrev pub invariant-words : goal.invariant-words
invariant-words g l =
    l.fn.text.items ++ unmarked (words_of l.line) ≡ l.text.items ++ flat_map (λ word. spaced (bare word)) (words_left l.rest)

abbrev pub decreases-words : goal.decreases-words
decreases-words g l = left_length l.rest
