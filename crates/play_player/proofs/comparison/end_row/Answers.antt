-- SPDX-License-Identifier: MIT OR Apache-2.0
use Rattle.std.proofs.Common.{◌≡◌, ◌≢◌, ◌++◌, ◌∷◌, ℕ, List, [], subst, MatchOption}
use Rattle.std.proofs.lemmas.Bool.Decides.{Decides-eqb}
use Rattle.std.proofs.lemmas.Slice.Eq.{strip_suffix_is}
use Rattle.play_trace.specs.TraceLines.{feed}
use Rattle.play_player.proofs.comparison.end_row.Goals as goal

pub returns-in-Some : goal.returns-in-Some
returns-in-Some c =
    let row = c.args.row.now in
    let ended = subst (λ r. MatchOption r ((line : List ℕ) → row ≢ line ++ feed ∷ []) (λ x. row ≡ x.now ++ feed ∷ [])) c.in-Some.is
    (strip_suffix_is Decides-eqb row (feed ∷ []) c.strip_suffix.result c.strip_suffix.ensures.cases) in
    (c.in-Some._line.now, ended)
