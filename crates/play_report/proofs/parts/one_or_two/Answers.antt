-- SPDX-License-Identifier: MIT OR Apache-2.0
use Rattle.play_report.proofs.Marks.{too_many_parts}
use Rattle.play_report.proofs.parts.one_or_two.Goals as goal

pub returns-in_default-Some : goal.returns-in_default-Some
returns-in_default-Some c =
    too_many_parts c.args.mark c.args.word.now _ _ _ _ c.in-Some.behind c.in_default-Some.field-0-1 c.cut.ensures.parts c.in-Some.is c.cut-2.ensures.parts c.in_default-Some.is-1
