-- SPDX-License-Identifier: MIT OR Apache-2.0
use Rattle.std.proofs.Common.{◌≡◌, sym, subst, arith}
use Rattle.play_trace.specs.TraceLines.{words_of}
use Rattle.play_trace.proofs.LineRegisters.{Reading, start, more, bad_word, ninth_word, all_words}
use Rattle.play_trace.proofs.LineWords.{some_word}
use Rattle.play_trace.proofs.line.registers.Goals as goal

pub loop-count-init : goal.loop-count-init
loop-count-init c = subst (λ x. Reading (words_of c.args.words.now) (words_of c.args.words.now) x 0) (sym c.requires) (start (words_of c.args.words.now))

pub returns-in-Last : goal.returns-in-Last
returns-in-Last c =
    let (one, number) = c.in-Last.ensures in
    let reading = subst (λ l. Reading (words_of c.args.words.now) l c.loop-count.x c.loop-count.count) one c.loop-count.invariant in
    all_words _ _ _ (more _ _ _ _ _ _ reading (omega arith) (sym number)) (omega arith)

pub returns-in-Other : goal.returns-in-Other
returns-in-Other c =
    let (word, words, are, none) = c.in-Other.ensures in
    bad_word _ words word _ _ (subst (λ l. Reading (words_of c.args.words.now) l c.loop-count.x c.loop-count.count) are c.loop-count.invariant) (sym none)

pub loop-count-preserved : goal.loop-count-preserved
loop-count-preserved c =
    let (word, are, number) = c.in-More.ensures in
    let reading = subst (λ l. Reading (words_of c.args.words.now) l c.loop-count.x c.loop-count.count) are c.loop-count.invariant in
    more _ _ word _ _ _ reading (omega arith) (sym number)

pub returns : goal.returns
returns c =
    let all : c.loop-count.count ≡ 8 = omega arith in
    let reading = subst (λ count. Reading (words_of c.args.words.now) (words_of c.loop-count.rest.now) c.loop-count.x count) all c.loop-count.invariant in
    ninth_word _ _ _ reading (some_word c.loop-count.rest.now)
