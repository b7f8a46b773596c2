-- SPDX-License-Identifier: MIT OR Apache-2.0
use Rattle.std.proofs.Common.{◌≡◌, ◌∙◌, false, ap, sym, refl, ◌&&◌, codes, not, option_map}
use Rattle.play_trace.specs.TraceLines.{words_of}
use Rattle.play_player.specs.Patterns.{fit}
use Rattle.play_player.proofs.WordsFit.{fit_alike, fit_rest, rest_loose, rest_zeros}
use Rattle.play_player.proofs.patterns.words_fit.Goals.{then-numbers, else-numbers}
use Rattle.play_player.proofs.patterns.words_fit.Goals as goal

pub returns-in-Some-None : goal.returns-in-Some-None
returns-in-Some-None c =
    let more = option_map (λ r. r.now) c.cut_word.result.1 in
    let rest = option_map (λ r. r.now) c.cut_word-in-loop-more.result.1 in
    let left : fit_rest c.args.numbers c.args.loose more rest ≡ false = rw (c.in-Some-None.is-0, c.in-Some-None.is-1) refl in
    sym (
    sym c.loop-more.invariant
    ∙ fit_alike c.args.numbers c.args.loose c.loop-more.wanted.now c.loop-more.own.now c.cut_word.result.0.now c.cut_word-in-loop-more.result.0.now more rest c.cut_word.ensures.words c.cut_word-in-loop-more.ensures.words
    (sym c.word_is_alike.ensures ∙ c.if-not-word_is_alike.false)
    ∙ left)

pub loop-more-preserved : goal.loop-more-preserved
loop-more-preserved c =
    let more = option_map (λ r. r.now) c.cut_word.result.1 in
    let rest = option_map (λ r. r.now) c.cut_word-in-loop-more.result.1 in
    let zeros : c.if-numbers.zeros ≡ (c.args.numbers && not c.args.loose) = elim c.if-numbers.branch [
      | then-numbers w ↦ w.zeros-is ∙ sym (ap (λ b. b && not c.args.loose) w.if-numbers.true)
      | else-numbers w ↦ w.zeros-is ∙ w.if-numbers.false ∙ sym (ap (λ b. b && not c.args.loose) w.if-numbers.false)
    ] in
    let left : fit_rest c.args.numbers c.args.loose more rest ≡ fit c.args.numbers c.args.loose (words_of (codes "0")) (words_of c.in-None-Some.rest.now) =
    rw (c.in-None-Some.is-0, c.in-None-Some.is-1) (rest_zeros c.args.numbers c.args.loose c.in-None-Some.rest.now (sym zeros ∙ c.if-zeros.true)) in
    sym left
    ∙ sym (fit_alike c.args.numbers c.args.loose c.loop-more.wanted.now c.loop-more.own.now c.cut_word.result.0.now c.cut_word-in-loop-more.result.0.now more rest c.cut_word.ensures.words c.cut_word-in-loop-more.ensures.words (sym c.word_is_alike.ensures ∙ c.if-not-word_is_alike.false))
    ∙ c.loop-more.invariant

pub returns-in-None-Some-2 : goal.returns-in-None-Some-2
returns-in-None-Some-2 c =
    let more = option_map (λ r. r.now) c.cut_word.result.1 in
    let rest = option_map (λ r. r.now) c.cut_word-in-loop-more.result.1 in
    let zeros : c.if-numbers.zeros ≡ (c.args.numbers && not c.args.loose) = elim c.if-numbers.branch [
      | then-numbers w ↦ w.zeros-is ∙ sym (ap (λ b. b && not c.args.loose) w.if-numbers.true)
      | else-numbers w ↦ w.zeros-is ∙ w.if-numbers.false ∙ sym (ap (λ b. b && not c.args.loose) w.if-numbers.false)
    ] in
    let left : fit_rest c.args.numbers c.args.loose more rest ≡ c.args.loose =
    rw (c.in-None-Some.is-0, c.in-None-Some.is-1) (rest_loose c.args.numbers c.args.loose c.in-None-Some.rest.now (sym zeros ∙ c.if-zeros.false)) in
    sym left
    ∙ sym (fit_alike c.args.numbers c.args.loose c.loop-more.wanted.now c.loop-more.own.now c.cut_word.result.0.now c.cut_word-in-loop-more.result.0.now more rest c.cut_word.ensures.words c.cut_word-in-loop-more.ensures.words (sym c.word_is_alike.ensures ∙ c.if-not-word_is_alike.false))
    ∙ c.loop-more.invariant
