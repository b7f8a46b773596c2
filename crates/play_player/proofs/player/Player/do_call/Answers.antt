-- SPDX-License-Identifier: MIT OR Apache-2.0
use Rattle.std.proofs.Common.{◌∙◌, sym}
use Rattle.play_trace.specs.TraceLines.{operate}
use Rattle.play_trace.proofs.LineCommands.{call_line}
use Rattle.play_trace.proofs.LineActs.{bad_in, call_no_act, good_in}
use Rattle.play_player.proofs.OneLine.{line_written, line_bad}
use Rattle.play_player.proofs.player.Player.do_call.Goals as goal

pub returns-then-read_call : goal.returns-then-read_call
returns-then-read_call g c =
    let is = c.if-read_call.ensures ∙ sym (call_line c.args.words.now) in
    line_written _ _ _ _ c.args.number _ (operate c.read_call.new.op) (good_in _ _ _ is) c.operate.ensures.bench c.operate.result c.operate.ensures.text

pub returns-else-read_call : goal.returns-else-read_call
returns-else-read_call g c = line_bad _ _ c.args.number _ (bad_in _ _ (call_no_act c.args.words.now) (c.if-read_call.ensures ∙ sym (call_line c.args.words.now)))
