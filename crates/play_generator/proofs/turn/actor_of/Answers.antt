-- SPDX-License-Identifier: MIT OR Apache-2.0
use Rattle.std.proofs.Common.{rules}
use Rattle.play_generator.proofs.turn.actor_of.Goals as goal

pub returns : goal.returns
returns c = search rules
