-- SPDX-License-Identifier: MIT OR Apache-2.0
use Rattle.std.proofs.Common.{◌∙◌, option_map, sym, ap}
use Rattle.play_trace.specs.TraceLines.{line_in}
use Rattle.play_trace.specs.Lines.{meant}
use Rattle.play_trace.proofs.LineActs.{good_in, act_in, line_alone}
use Rattle.play_trace.proofs.lines.Line.read_in.Goals as goal

pub returns-in_err-processors-in-None : goal.returns-in_err-processors-in-None
returns-in_err-processors-in-None c =
    ap (option_map meant) c.from_residual.ensures ∙ c.in-None.ensures ∙ line_alone c.args.bytes.now
    ∙ ap (λ p. line_in p c.args.bytes.now) (sym c.in_err-processors-in-None.was)

pub returns-in-Some : goal.returns-in-Some
returns-in-Some c = good_in c.args.processors c.args.bytes.now _ c.in-Some.ensures

pub returns-in_ok-processors-in-None : goal.returns-in_ok-processors-in-None
returns-in_ok-processors-in-None c =
    c.read_act.ensures ∙ act_in c.in_ok-processors-in-None.field-0 c.args.bytes.now c.in-None.ensures
    ∙ ap (λ p. line_in p c.args.bytes.now) (sym c.in_ok-processors-in-None.was)
