-- SPDX-License-Identifier: MIT OR Apache-2.0
use Rattle.std.proofs.Common.{◌<◌, ◌++◌, length, sym, ap, ◌∙◌, arith, get_or, take, flat_map}
use Rattle.std.proofs.lemmas.List.{flat_map_more, take_more}
use Rattle.play_report.specs.Guarded.{near_line}
use Rattle.play_report.proofs.unmet.tell_near.Goals as goal

pub loop-number-preserved : goal.loop-number-preserved
loop-number-preserved g c =
    let near = c.args.near.now in
    let before = c.args.told.now.items in
    let i = c.loop-number.number-index in
    let inside : i < length near = omega (arith, c.loop-number-test.true, c.loop-number.auto.number-index-end) in
    c.in_ok-put_near.ensures.written
    ∙ ap (λ t. t ++ near_line (get_or near i 0)) c.loop-number.invariant
    ∙ flat_map_more near_line before (take i near) (get_or near i 0)
    ∙ ap (λ ns. before ++ flat_map near_line ns) (sym (take_more near i 0 inside))
