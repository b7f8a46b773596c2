-- SPDX-License-Identifier: MIT OR Apache-2.0
use Rattle.std.proofs.Common.{◌++◌, ℕ, List}
use Rattle.std.specs.Prelude.{codes, slice_index}
use Rattle.play_reasons.specs.Closer.{uuid_text, word_digits}
use Rattle.play_reasons.proofs.Together.{together}
use Rattle.play_reasons.proofs.closer.put_uuid.Goals as goal

pub returns : goal.returns
unfolding uuid_text
returns g c =
    let old = c.args.text.now in
    let word : ℕ → List ℕ = λ k. word_digits (slice_index c.args.uuid k) in
    let said = codes ": w1 to w4 hold " in
    let one = together old c.put.new.self c.put_word.new.text said (word 0) c.put.ensures c.put_word.ensures in
    let two = together old c.put_word.new.text c.put_word-2.new.text (said ++ word 0) (word 1) one c.put_word-2.ensures in
    let three = together old c.put_word-2.new.text c.put_word-3.new.text (said ++ word 0 ++ word 1) (word 2) two c.put_word-3.ensures in
    together old c.put_word-3.new.text c.put_word-4.new.text (said ++ word 0 ++ word 1 ++ word 2) (word 3) three c.put_word-4.ensures
