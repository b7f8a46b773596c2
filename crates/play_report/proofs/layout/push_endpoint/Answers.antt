-- SPDX-License-Identifier: MIT OR Apache-2.0
use Rattle.std.proofs.Common.{[], ◌∷◌, ◌++◌, ◌+◌, ap, ◌∙◌}
use Rattle.play_trace.specs.TraceText.{hex, spaced}
use Rattle.play_report.specs.Layouts.{endpoint_line}
use Rattle.play_trace.proofs.Listed.{five_pieces}
use Rattle.play_report.proofs.layout.push_endpoint.Goals as goal

pub returns-clause-items : goal.returns-clause-items
unfolding endpoint_line
returns-clause-items c =
    let before = c.args.text.now.items in
    let root = c.args.root in
    let name = c.push_digits.ensures.items ∙ ap (λ v. before ++ hex 4 v) (c.from.ensures ∙ c.at.ensures) in
    let level1 = c.push_hex.ensures.items ∙ ap (λ l. l ++ spaced (hex 8 root)) name in
    let level2 = c.push_hex-2.ensures.items ∙ ap (λ l. l ++ spaced (hex 8 (root + 4096))) level1 in
    let level3 = c.push_hex-3.ensures.items ∙ ap (λ l. l ++ spaced (hex 8 (root + 8192))) level2 in
    c.push.ensures.items ∙ ap (λ l. l ++ 10 ∷ []) level3 ∙ five_pieces before _ _ _ _ (10 ∷ [])
