-- SPDX-License-Identifier: MIT OR Apache-2.0
use Rattle.std.proofs.Common.{◌+◌, ◌∷◌, ◌∙◌, ap, sym, take}
use Rattle.std.proofs.lemmas.List.{take_rest}
use Rattle.play_trace.specs.TraceLines.{words_of}
use Rattle.play_trace.proofs.Cutting.{cut_none, cut_some}
use Rattle.play_trace.proofs.given.cut_word.Goals as goal

pub returns-in-Some-clause-words : goal.returns-in-Some-clause-words
returns-in-Some-clause-words c =
    let text = c.args.text.now in
    let end = c.in-Some.end in
    cut_some text end (sym c.first_of.ensures ∙ c.in-Some.is)
    ∙ ap (λ rest. take end text ∷ words_of rest) (sym (take_rest text (end + 1)))

pub returns-in-None-clause-words : goal.returns-in-None-clause-words
returns-in-None-clause-words c = cut_none c.args.text.now (sym c.first_of.ensures ∙ c.in-None.is)
