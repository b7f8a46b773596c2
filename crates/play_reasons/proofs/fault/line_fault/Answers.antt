-- SPDX-License-Identifier: MIT OR Apache-2.0
use Rattle.std.proofs.Common.{◌≡◌, ◌≢◌, ◌++◌, ◌∷◌, ℕ, List, [], sym, ap, subst, refl}
use Rattle.std.specs.Option.{MatchOption}
use Rattle.std.specs.Prelude.{is_some}
use Rattle.std.proofs.lemmas.Bool.Decides.{Decides-eqb}
use Rattle.std.proofs.lemmas.Slice.Eq.{strip_suffix_is}
use Rattle.play_trace.specs.TraceLines.{feed}
use Rattle.play_reasons.proofs.fault.line_fault.Goals as goal

pub returns-in-Some-read_in : goal.returns-in-Some-read_in
returns-in-Some-read_in c =
    let bytes = c.args.bytes.now in
    let ends = subst (λ r. MatchOption r ((front : List ℕ) → bytes ≢ front ++ feed ∷ []) (λ x. bytes ≡ x.now ++ feed ∷ [])) c.in-Some.is
    (strip_suffix_is Decides-eqb bytes (feed ∷ []) c.strip_suffix.result c.strip_suffix.ensures.cases) in
    (λ _. (c.in-Some.line.now, ends, ap is_some (sym c.in-Some-read_in.ensures)), λ _. refl)
