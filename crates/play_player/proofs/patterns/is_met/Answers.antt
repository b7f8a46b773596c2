-- SPDX-License-Identifier: MIT OR Apache-2.0
use Rattle.std.proofs.Common.{◌∙◌, sym}
use Rattle.play_player.proofs.Meetings.{meets_other, meets_same}
use Rattle.play_player.proofs.patterns.is_met.Goals as goal

pub returns-then-eq : goal.returns-then-eq
returns-then-eq c = λ came is. c.if-eq.true ∙ sym (meets_same came c.args.text.now c.args.line.now (sym c.eq.ensures ∙ c.if-eq.true))

pub returns-else-eq : goal.returns-else-eq
returns-else-eq c = λ came is. c.text_fits.ensures ∙ meets_other came c.args.text.now c.args.line.now c.args.found.now (sym c.eq.ensures ∙ c.if-eq.false) is
