-- SPDX-License-Identifier: MIT OR Apache-2.0
use Rattle.std.proofs.Common.{◌∷◌, [], ◌∙◌, ap, arith}
use Rattle.play_player.specs.Guards.{guards_among}
use Rattle.play_commands.proofs.Counts.{counted_line, fewer}
use Rattle.play_commands.proofs.guards.count_lines.Goals as goal

pub overflow_add-guards : goal.overflow_add-guards
overflow_add-guards g c =
    let few = fewer _ _ _ _ c.loop-line.invariant in
    omega (arith, few, c.guards_in-guards.ensures.most, c.loop-line.auto.number-fits)

pub loop-line-preserved : goal.loop-line-preserved
loop-line-preserved g c =
    counted_line _ _ _ _ _ _ _ _ _ c.loop-line.invariant c.next_line.ensures c.in_ok-next_line.was c.if-branch.true
    (c.guards_in-guards.ensures.count ∙ ap (λ l. guards_among (l ∷ [])) c.deref.ensures.value)
