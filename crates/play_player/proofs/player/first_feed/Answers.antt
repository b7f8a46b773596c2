-- SPDX-License-Identifier: MIT OR Apache-2.0
use Rattle.play_player.proofs.Firsts.{first_place}
use Rattle.play_player.proofs.player.first_feed.Goals as goal

pub returns : goal.returns
returns c = first_place 10 c.args.bytes.now c.memchr.result c.memchr.ensures
