-- SPDX-License-Identifier: MIT OR Apache-2.0
use Rattle.std.proofs.Common.{◌*◌, ◌++◌, codes, sym, ap, ◌∙◌, subst, arith}
use Rattle.ffa_model.specs.declared.operation.Op.TheVariants.{Store}
use Rattle.ffa_model.specs.Memory.{size_of}
use Rattle.play_trace.specs.TraceText.{hex, spaced}
use Rattle.play_trace.specs.Script.{IsLineOf}
use Rattle.play_trace.proofs.Operations.{two_put, store_read}
use Rattle.play_trace.proofs.operation.push_store.Goals as goal

pub returns-clause-line : goal.returns-clause-line
returns-clause-line c =
    let digits = c.address_digits.result in
    let addr = c.args.addr in
    let size = c.args.size in
    let value = c.args.value in
    let name = c.push_word.ensures.items ∙ ap (λ l. l ++ codes "store") c.requires.empty in
    let first = c.push_hex.ensures.items ∙ ap (λ l. l ++ spaced (hex digits addr)) name in
    let second = c.push_hex-2.ensures.items ∙ ap (λ n. c.push_hex.new.text.items ++ spaced (hex (2 * n) value)) c.bytes.ensures in
    let word = hex (2 * size_of size) value in
    let whole = second ∙ ap (λ l. l ++ spaced word) first ∙ two_put (codes "store") (hex digits addr) word in
    subst (λ l. IsLineOf l (Store addr size value)) (sym whole)
    (store_read digits addr size value (omega (arith, c.address_digits.ensures.some)) c.address_digits.ensures.few c.address_digits.ensures.enough c.requires.fits)
