-- SPDX-License-Identifier: MIT OR Apache-2.0
use Rattle.std.proofs.Common.{◌≡◌, ◌≢◌, ◌++◌, ◌∷◌, ℕ, List, [], subst, MatchOption}
use Rattle.std.proofs.lemmas.Bool.Decides.{Decides-eqb}
use Rattle.std.proofs.lemmas.Slice.Eq.{strip_prefix_is, strip_suffix_is}
use Rattle.play_trace.specs.TraceLines.{feed}
use Rattle.play_player.proofs.Rows.{behind}
use Rattle.play_player.proofs.comparison.behind_row.Goals as goal

pub returns-in_default : goal.returns-in_default
returns-in_default c =
    let row = c.args.row.now in
    let unended = subst (λ r. MatchOption r ((line : List ℕ) → row ≢ line ++ feed ∷ []) (λ x. row ≡ x.now ++ feed ∷ [])) c.in_default.is
    (strip_suffix_is Decides-eqb row (feed ∷ []) c.strip_suffix.result c.strip_suffix.ensures.cases) in
    λ line rest same. absurd (unended line same)

pub returns : goal.returns
returns c =
    let text = c.args.text.now in
    let row = c.args.row.now in
    let ended = subst (λ r. MatchOption r ((line : List ℕ) → row ≢ line ++ feed ∷ []) (λ x. row ≡ x.now ++ feed ∷ [])) c.in-Some.is
    (strip_suffix_is Decides-eqb row (feed ∷ []) c.strip_suffix.result c.strip_suffix.ensures.cases) in
    behind text row c.in-Some._line.now ended c.strip_prefix.result (strip_prefix_is Decides-eqb text row c.strip_prefix.result c.strip_prefix.ensures.cases)
