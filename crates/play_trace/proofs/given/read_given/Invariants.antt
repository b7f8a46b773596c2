-- SPDX-License-Identifier: MIT OR Apache-2.0
use Rattle.std.proofs.Common.{◌≡◌, ◌+◌, []}
use Rattle.play_trace.specs.Calls.{form_of}
use Rattle.play_trace.specs.Cuts.{left_length, words_left}
use Rattle.play_trace.specs.Words.{givens}
use Rattle.play_trace.proofs.given.read_given.Given as goal

abbrev pub invariant-words : goal.invariant-words
invariant-words g l = record {
  room : l.column + left_length l.rest ≡ l.fn.column + left_length l.fn.words;
  left : givens (form_of l.function) l.fn.column [] (words_left l.fn.words) ≡ givens (form_of l.function) l.column l.given.items (words_left l.rest);
}

abbrev pub decreases-words : goal.decreases-words
decreases-words g l = left_length l.rest
