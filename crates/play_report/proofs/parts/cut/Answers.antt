-- SPDX-License-Identifier: MIT OR Apache-2.0
use Rattle.std.proofs.Common.{Some, None, ◌==◌}
use Rattle.std.proofs.lemmas.Str.Pattern.{split_once_first}
use Rattle.play_report.proofs.Marks.{cut_first, whole}
use Rattle.play_report.proofs.parts.cut.Goals as goal

pub returns-in-Some-clause-parts : goal.returns-in-Some-clause-parts
returns-in-Some-clause-parts c =
    let parts = split_once_first c.args.mark c.args.text.now (Some (c.in-Some.before, c.in-Some.behind)) c.in-Some.ensures.cases c.requires in
    cut_first (λ x. x == c.args.mark) c.args.text.now c.in-Some.before.now c.in-Some.behind.now parts.0 parts.1 parts.2

pub returns-in-None-clause-parts : goal.returns-in-None-clause-parts
returns-in-None-clause-parts c =
    whole (λ x. x == c.args.mark) c.args.text.now (split_once_first c.args.mark c.args.text.now None c.in-None.ensures.cases c.requires)
