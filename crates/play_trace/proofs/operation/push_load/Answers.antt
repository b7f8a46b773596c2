-- SPDX-License-Identifier: MIT OR Apache-2.0
use Rattle.std.proofs.Common.{◌++◌, codes, sym, ap, ◌∙◌, subst, arith}
use Rattle.ffa_model.specs.declared.operation.Op.TheVariants.{Load}
use Rattle.ffa_model.specs.Memory.{size_of}
use Rattle.play_trace.specs.TraceText.{hex, spaced}
use Rattle.play_trace.specs.Script.{IsLineOf}
use Rattle.play_trace.proofs.Operations.{two_put, load_read}
use Rattle.play_trace.proofs.operation.push_load.Goals as goal

pub returns-clause-line : goal.returns-clause-line
returns-clause-line c =
    let digits = c.address_digits.result in
    let addr = c.args.addr in
    let size = c.args.size in
    let name = c.push_word.ensures.items ∙ ap (λ l. l ++ codes "load") c.requires in
    let first = c.push_hex.ensures.items ∙ ap (λ l. l ++ spaced (hex digits addr)) name in
    let second = c.push_hex-2.ensures.items ∙ ap (λ n. c.push_hex.new.text.items ++ spaced (hex 1 n)) c.bytes.ensures in
    let whole = second ∙ ap (λ l. l ++ spaced (hex 1 (size_of size))) first ∙ two_put (codes "load") (hex digits addr) (hex 1 (size_of size)) in
    subst (λ l. IsLineOf l (Load addr size)) (sym whole)
    (load_read digits addr size (omega (arith, c.address_digits.ensures.some)) c.address_digits.ensures.few c.address_digits.ensures.enough)
