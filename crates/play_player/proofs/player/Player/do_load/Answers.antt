-- SPDX-License-Identifier: MIT OR Apache-2.0
use Rattle.std.proofs.Common.{◌∙◌, sym}
use Rattle.ffa_model.specs.declared.operation.Op.TheVariants.{Load}
use Rattle.play_trace.specs.TraceLines.{operate}
use Rattle.play_trace.proofs.LineCommands.{load_line}
use Rattle.play_trace.proofs.LineActs.{bad_in, load_no_act, good_in}
use Rattle.play_player.proofs.OneLine.{line_written, line_bad}
use Rattle.play_player.proofs.player.Player.do_load.Goals as goal

pub returns-in-Some : goal.returns-in-Some
returns-in-Some g c =
    let is = c.in-Some.ensures ∙ sym (load_line c.args.words.now) in
    line_written _ _ _ _ c.args.number _ (operate (Load c.in-Some.addr c.in-Some.size)) (good_in _ _ _ is) c.operate.ensures.bench c.operate.result c.operate.ensures.text

pub returns-in-None : goal.returns-in-None
returns-in-None g c = line_bad _ _ c.args.number _ (bad_in _ _ (load_no_act c.args.words.now) (c.in-None.ensures ∙ sym (load_line c.args.words.now)))
