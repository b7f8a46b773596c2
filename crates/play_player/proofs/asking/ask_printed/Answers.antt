-- SPDX-License-Identifier: MIT OR Apache-2.0
use Rattle.std.proofs.Common.{◌≡◌, ◌∙◌, ap, sym, take}
use Rattle.play_player.specs.Guards.{meets_first, told_first}
use Rattle.play_player.specs.Patterns.{told}
use Rattle.play_player.proofs.TextLines.{lines_in-end, lines_in-some}
use Rattle.play_player.proofs.asking.ask_printed.Goals as goal

pub returns-in_default-clause-met : goal.returns-in_default-clause-met
returns-in_default-clause-met g c = sym (ap (meets_first c.args.wants.now c.args.came) (lines_in-end c.args.text.now (sym c.first_feed.ensures ∙ c.in_default.is)))

pub returns-in_default-clause-found : goal.returns-in_default-clause-found
returns-in_default-clause-found g c =
    c.clear.ensures.items ∙ sym (ap (told_first c.args.wants.now c.args.came) (lines_in-end c.args.text.now (sym c.first_feed.ensures ∙ c.in_default.is)))

pub returns-clause-met : goal.returns-clause-met
returns-clause-met g c =
    let text = c.args.text.now in
    let came = c.args.came in
    let line = take c.in-Some.end text in
    let all = lines_in-some text c.in-Some.end (sym c.first_feed.ensures ∙ c.in-Some.is) in
    let finds : c.deref.result.now ≡ told _ came line = c.deref.ensures.value ∙ c.in_ok-put_told.ensures.written ∙ ap (λ p. told p came line) c.of.ensures in
    c.is_met.ensures came finds ∙ sym (ap (meets_first c.args.wants.now came) all)

pub returns-clause-found : goal.returns-clause-found
returns-clause-found g c =
    let text = c.args.text.now in
    let came = c.args.came in
    let line = take c.in-Some.end text in
    let all = lines_in-some text c.in-Some.end (sym c.first_feed.ensures ∙ c.in-Some.is) in
    c.in_ok-put_told.ensures.written ∙ ap (λ p. told p came line) c.of.ensures ∙ sym (ap (told_first c.args.wants.now came) all)
