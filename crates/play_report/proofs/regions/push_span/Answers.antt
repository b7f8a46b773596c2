-- SPDX-License-Identifier: MIT OR Apache-2.0
use Rattle.std.proofs.Common.{[], ◌∷◌, ◌++◌, ◌-◌, ap, ◌∙◌}
use Rattle.play_trace.specs.TraceText.{hex, spaced}
use Rattle.play_trace.proofs.Listed.{four_pieces}
use Rattle.play_report.specs.Layouts.{span_line}
use Rattle.play_report.proofs.regions.push_span.Goals as goal

pub returns-clause-items : goal.returns-clause-items
unfolding span_line
returns-clause-items c =
    let before = c.args.lines.now.items in
    let first = c.push_hex.ensures.items ∙ ap (λ l. l ++ spaced (hex 8 c.args.first)) c.push_word.ensures.items in
    let last = c.push_hex-2.ensures.items
    ∙ ap (λ v. c.push_hex.new.text.items ++ spaced (hex 8 v)) c.saturating_sub.ensures
    ∙ ap (λ l. l ++ spaced (hex 8 (c.args.end - 1))) first in
    c.push.ensures.items ∙ ap (λ l. l ++ 10 ∷ []) last ∙ four_pieces before c.args.name.now _ _ (10 ∷ [])
