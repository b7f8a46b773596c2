-- SPDX-License-Identifier: MIT OR Apache-2.0
use Rattle.std.proofs.Common.{◌∙◌, sym}
use Rattle.play_player.proofs.ShortWords.{cut_few}
use Rattle.play_player.proofs.short.without_zeros.Goals as goal

pub returns-after-loop-rest : goal.returns-after-loop-rest
returns-after-loop-rest c = sym (cut_few c.loop-rest.rest.now c.loop-rest-test.false) ∙ c.loop-rest.invariant
