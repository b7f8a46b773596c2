-- SPDX-License-Identifier: MIT OR Apache-2.0
use Rattle.play_player.proofs.BadLines.{whole_told}
use Rattle.play_player.proofs.session.tell_or_lose.Goals as goal

pub returns-in-Ok : goal.returns-in-Ok
returns-in-Ok g c = whole_told c.args.processors c.args.number c.args.line.now _ _ c.in-Ok.ensures
