-- SPDX-License-Identifier: MIT OR Apache-2.0
use Rattle.std.proofs.Common.{◌≡◌, ◌≢◌, ◌∙◌, ℕ, List, ◌++◌, codes, sym, ap, subst, true≢false, MatchOption}
use Rattle.std.proofs.lemmas.Bool.Decides.{Decides-eqb}
use Rattle.std.proofs.lemmas.Slice.Eq.{bytes_eq-Decides, strip_prefix_is}
use Rattle.play_trace.specs.TraceLines.{act_of, words_of}
use Rattle.play_trace.proofs.LineActs.{turn_line, interrupt_line, no_act}
use Rattle.play_trace.proofs.lines.read_act.Goals as goal

pub returns-in-Some : goal.returns-in-Some
returns-in-Some c =
    let is = subst (λ r. MatchOption r ((words : List ℕ) → c.args.bytes.now ≢ codes "on " ++ words) (λ x. c.args.bytes.now ≡ codes "on " ++ x.now)) c.in-Some.is
    (strip_prefix_is Decides-eqb c.args.bytes.now (codes "on ") c.strip_prefix.result c.strip_prefix.ensures.cases) in
    c.read_turn.ensures ∙ sym (turn_line c.args.count c.in-Some.words.now) ∙ ap (λ bytes. act_of c.args.count (words_of bytes)) (sym is)

pub returns-then-eq : goal.returns-then-eq
returns-then-eq c =
    let is = (bytes_eq-Decides c.args.bytes.now c.as_slice.result.now).0 (sym c.if-eq.ensures) ∙ c.as_slice.ensures in
    interrupt_line c.args.count ∙ ap (λ bytes. act_of c.args.count (words_of bytes)) (sym is)

pub returns-else-eq : goal.returns-else-eq
returns-else-eq c =
    let no_on = subst (λ r. MatchOption r ((words : List ℕ) → c.args.bytes.now ≢ codes "on " ++ words) (λ x. c.args.bytes.now ≡ codes "on " ++ x.now)) c.in_default.is
    (strip_prefix_is Decides-eqb c.args.bytes.now (codes "on ") c.strip_prefix.result c.strip_prefix.ensures.cases) in
    let no_interrupt = λ (is : c.args.bytes.now ≡ codes "interrupt"). true≢false (sym ((bytes_eq-Decides c.args.bytes.now c.as_slice.result.now).1 (is ∙ sym c.as_slice.ensures)) ∙ sym c.if-eq.ensures) in
    no_act c.args.count c.args.bytes.now no_on no_interrupt
