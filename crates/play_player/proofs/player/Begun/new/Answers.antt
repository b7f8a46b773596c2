-- SPDX-License-Identifier: MIT OR Apache-2.0
use Rattle.std.proofs.Common.{rules}
use Rattle.play_player.proofs.player.Begun.new.Goals as goal

pub returns-clause-number : goal.returns-clause-number
returns-clause-number g c = search rules
