-- SPDX-License-Identifier: MIT OR Apache-2.0
use Rattle.std.proofs.Common.{◌≡◌, ℕ, ◌∙◌, arith, eqb, sym, ap, true}
use Rattle.ffa_model.specs.DescriptorPlaces.{in_version}
use Rattle.ffa_memdesc.specs.Reading.{named_after}
use Rattle.ffa_memdesc.proofs.Listed.{none_again, some_again}
use Rattle.ffa_memdesc.proofs.names.is_among_first.Goals as goal

pub returns-then-eq : goal.returns-then-eq
returns-then-eq g c =
    let b = in_version c.args.version (g.B.Bytes.bytes c.args.bytes.now) in
    let here : eqb (named_after b c.args.array c.loop-i.i) c.args.endpoint.0 ≡ true =
    ap (λ (e : ℕ). eqb e c.args.endpoint.0) (sym c.endpoint_named.ensures) ∙ sym c.eq.ensures ∙ c.if-eq.true in
    sym (some_again (λ e. eqb e c.args.endpoint.0) (named_after b c.args.array) c.args.count c.loop-i.i c.loop-i-test.true here)

pub returns : goal.returns
returns g c =
    let b = in_version c.args.version (g.B.Bytes.bytes c.args.bytes.now) in
    let end = c.loop-i-test.false in
    sym (none_again (λ e. eqb e c.args.endpoint.0) (named_after b c.args.array) c.args.count (λ i lt. c.loop-i.invariant i (omega arith)))
