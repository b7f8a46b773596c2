-- SPDX-License-Identifier: MIT OR Apache-2.0
use Rattle.play_reasons.proofs.Together.{whole}
use Rattle.play_player.proofs.BadLines.{written_told}
use Rattle.play_player.proofs.session.tell_bad_line.Goals as goal

pub returns : goal.returns
returns g c =
    let told = whole _ _ _ _ c.clear.ensures c.in_ok-bytes.ensures.whole c.put_bad_line.ensures in
    written_told c.args.processors c.args.number c.args.line.now _ _ _ c.write_text.result (c.line_fault.result, c.line_fault.ensures, told) c.write_text.ensures
