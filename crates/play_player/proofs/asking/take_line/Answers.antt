-- SPDX-License-Identifier: MIT OR Apache-2.0
use Rattle.std.proofs.Common.{◌≡◌, ◌∙◌, None, Some, ap, sym, drop, ◌==◌, position}
use Rattle.play_trace.specs.TraceLines.{feed}
use Rattle.play_player.specs.Guards.{lines_in}
use Rattle.play_player.proofs.TextLines.{lines_in-end, lines_in-some}
use Rattle.play_player.proofs.asking.take_line.Goals as goal

pub returns-in-Some : goal.returns-in-Some
returns-in-Some g c =
    let old = c.args.text.now.items in
    let end = c.in-Some.end in
    let at : position (λ c. c == feed) old ≡ Some end = ap (position (λ c. c == feed)) (sym c.deref.ensures.value) ∙ sym c.first_feed.ensures ∙ c.in-Some.is in
    ap lines_in c.take_front.ensures ∙ sym (ap (drop 1) (lines_in-some old end at))

pub returns-in_default : goal.returns-in_default
returns-in_default g c =
    let old = c.args.text.now.items in
    let none : position (λ c. c == feed) old ≡ None = ap (position (λ c. c == feed)) (sym c.deref.ensures.value) ∙ sym c.first_feed.ensures ∙ c.in_default.is in
    lines_in-end old none ∙ sym (ap (drop 1) (lines_in-end old none))
