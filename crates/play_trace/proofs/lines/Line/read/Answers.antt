-- SPDX-License-Identifier: MIT OR Apache-2.0
use Rattle.std.proofs.Common.{◌≡◌, get_or, arith}
use Rattle.play_trace.proofs.LineCommands.{empty_line, comment_line}
use Rattle.play_trace.proofs.lines.Line.read.Goals as goal

pub returns-in-empty : goal.returns-in-empty
returns-in-empty c = empty_line c.args.bytes.now c.in-empty.len_below

pub returns-in-empty-2 : goal.returns-in-empty-2
returns-in-empty-2 c =
    let first : get_or c.args.bytes.now 0 0 ≡ 35 = omega arith in
    comment_line c.args.bytes.now (omega arith) first

pub returns-in-empty-3 : goal.returns-in-empty-3
returns-in-empty-3 c =
    let first : get_or c.args.bytes.now 0 0 ≡ 35 = omega arith in
    comment_line c.args.bytes.now (omega arith) first

pub returns-in-empty-4 : goal.returns-in-empty-4
returns-in-empty-4 c =
    let first : get_or c.args.bytes.now 0 0 ≡ 35 = omega arith in
    comment_line c.args.bytes.now (omega arith) first
