-- SPDX-License-Identifier: MIT OR Apache-2.0
use Rattle.std.proofs.Common.{◌∙◌, option_map, ap, sym, refl}
use Rattle.ffa_model.specs.declared.operation.Op.TheVariants.{Load}
use Rattle.play_trace.specs.TraceLines.{operate}
use Rattle.play_trace.proofs.LineCommands.{load_is, no_load}
use Rattle.play_trace.proofs.line.load.Goals as goal

pub returns-in_err-size_named-in-More : goal.returns-in_err-size_named-in-More
returns-in_err-size_named-in-More c =
    let (word, are, number) = c.in-More.ensures in
    let none = sym c.in_err-size_named-in-More.was ∙ c.size_named.ensures in
    rw (c.from_residual.ensures, ← load_is c.args.words.now c.in-More.rest.now word c.in-More.addr are number, ← none) refl

pub returns-in_ok-size_named-in-More : goal.returns-in_ok-size_named-in-More
returns-in_ok-size_named-in-More c =
    let (word, are, number) = c.in-More.ensures in
    let sized = sym c.in_ok-size_named-in-More.was ∙ c.size_named.ensures in
    ap (option_map (λ size. operate (Load c.in-More.addr size))) sized ∙ load_is c.args.words.now c.in-More.rest.now word c.in-More.addr are number

pub returns-in-Last : goal.returns-in-Last
returns-in-Last c = no_load c.args.words.now c.read_front.result c.read_front.ensures c.in-Last.is
