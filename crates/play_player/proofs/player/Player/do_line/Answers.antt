-- SPDX-License-Identifier: MIT OR Apache-2.0
use Rattle.std.proofs.Common.{◌≡◌, get_or, arith}
use Rattle.play_trace.proofs.LineCommands.{empty_line, comment_line}
use Rattle.play_player.proofs.OneLine.{line_skipped}
use Rattle.play_player.proofs.player.Player.do_line.Goals as goal

pub returns-in-empty : goal.returns-in-empty
returns-in-empty g c = line_skipped _ _ c.args.number c.args.bytes.now (empty_line c.args.bytes.now c.in-empty.len_below)

pub returns-in-empty-2 : goal.returns-in-empty-2
returns-in-empty-2 g c =
    let first : get_or c.args.bytes.now 0 0 ≡ 35 = omega arith in
    line_skipped _ _ c.args.number c.args.bytes.now (comment_line c.args.bytes.now (omega arith) first)

pub returns-in-empty-3 : goal.returns-in-empty-3
returns-in-empty-3 g c =
    let first : get_or c.args.bytes.now 0 0 ≡ 35 = omega arith in
    line_skipped _ _ c.args.number c.args.bytes.now (comment_line c.args.bytes.now (omega arith) first)

pub returns-in-empty-4 : goal.returns-in-empty-4
returns-in-empty-4 g c =
    let first : get_or c.args.bytes.now 0 0 ≡ 35 = omega arith in
    line_skipped _ _ c.args.number c.args.bytes.now (comment_line c.args.bytes.now (omega arith) first)
