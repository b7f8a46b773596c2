-- SPDX-License-Identifier: MIT OR Apache-2.0
-- FOR PROOFS ALONE
-- Words that are cut off one by one.
use Rattle.std.specs.Prelude.{ℕ, ◌+◌, List, [], length, Option, None, Some}
use Rattle.play_trace.specs.TraceLines.{words_of}
use Rattle.std.specs.Borrow.{Bor}

-- the words of what is left, and how many bytes that has with the space before it
abbrev pub words_left : Option (Bor (List ℕ)) → List (List ℕ)
words_left None = []
words_left (Some rest) = words_of rest.now

abbrev pub left_length : Option (Bor (List ℕ)) → ℕ
left_length None = 0
left_length (Some rest) = length rest.now + 1
