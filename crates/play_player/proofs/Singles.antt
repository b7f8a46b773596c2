-- SPDX-License-Identifier: MIT OR Apache-2.0
-- Words without an LF.
use Rattle.std.proofs.Common.{◌≡◌, ℕ, true, List, ◌++◌, ◌∙◌}
use Rattle.std.proofs.lemmas.Bool.{and_from}
use Rattle.std.proofs.lemmas.List.Folds.{list_all-append}
use Rattle.play_trace.specs.TraceLines.{has_no_feed}
use Rattle.play_trace.specs.TraceText.{hex}
use Rattle.play_player.proofs.Cuts.{inner_single}
use Rattle.play_player.proofs.PrintedWords.{inner_hex}

abbrev pub IsSingle : List ℕ → Type 0
IsSingle words = has_no_feed words ≡ true

pub single_append : (xs ys : List ℕ) → IsSingle xs → IsSingle ys → IsSingle (xs ++ ys)
single_append xs ys p q = list_all-append _ xs ys ∙ and_from _ _ p q

pub single_hex : (n x : ℕ) → IsSingle (hex n x)
single_hex n x = inner_single (hex n x) (inner_hex n x)
