-- SPDX-License-Identifier: MIT OR Apache-2.0
use Rattle.std.proofs.Common.{◌≡◌, ℕ, ◌∙◌, arith, eqb, sym, ap, true}
use Rattle.ffa_model.specs.DescriptorPlaces.{in_version}
use Rattle.ffa_memdesc.specs.Reading.{named_after}
use Rattle.ffa_memdesc.proofs.Listed.{position_here, position_none}
use Rattle.ffa_memdesc.proofs.names.index_of.Goals as goal

pub returns-then-eq-clause-value : goal.returns-then-eq-clause-value
returns-then-eq-clause-value g c =
    let b = in_version c.args.version (g.B.Bytes.bytes c.args.bytes.now) in
    let here : eqb (named_after b c.args.header.now.array c.loop-i.i) c.args.endpoint.0 ≡ true =
    ap (λ (e : ℕ). eqb e c.args.endpoint.0) (sym c.endpoint_named.ensures) ∙ sym c.eq.ensures ∙ c.if-eq.true in
    position_here (λ e. eqb e c.args.endpoint.0) (named_after b c.args.header.now.array) c.args.header.now.count c.loop-i.i c.loop-i-test.true c.loop-i.invariant here

pub returns-clause-value : goal.returns-clause-value
returns-clause-value g c =
    let b = in_version c.args.version (g.B.Bytes.bytes c.args.bytes.now) in
    let end = c.loop-i-test.false in
    position_none (λ e. eqb e c.args.endpoint.0) (named_after b c.args.header.now.array) c.args.header.now.count (λ i lt. c.loop-i.invariant i (omega arith))
