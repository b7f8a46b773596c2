-- SPDX-License-Identifier: MIT OR Apache-2.0
use Rattle.std.proofs.Common.{◌++◌, codes, sym, ap, ◌∙◌, subst, arith}
use Rattle.ffa_model.specs.declared.operation.Op.TheVariants.{Fetch}
use Rattle.play_trace.specs.TraceText.{hex, spaced}
use Rattle.play_trace.specs.Script.{IsLineOf}
use Rattle.play_trace.proofs.Operations.{one_put, fetch_read}
use Rattle.play_trace.proofs.operation.push_fetch.Goals as goal

pub returns-clause-line : goal.returns-clause-line
returns-clause-line c =
    let digits = c.address_digits.result in
    let name = c.push_word.ensures.items ∙ ap (λ l. l ++ codes "fetch") c.requires in
    let whole = c.push_hex.ensures.items ∙ ap (λ l. l ++ spaced (hex digits c.args.addr)) name ∙ one_put (codes "fetch") (hex digits c.args.addr) in
    subst (λ l. IsLineOf l (Fetch c.args.addr)) (sym whole)
    (fetch_read digits c.args.addr (omega (arith, c.address_digits.ensures.some)) c.address_digits.ensures.few c.address_digits.ensures.enough)
