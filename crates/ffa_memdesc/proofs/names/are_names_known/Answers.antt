-- SPDX-License-Identifier: MIT OR Apache-2.0
use Rattle.std.proofs.Common.{◌≡◌, ℕ, ◌∙◌, arith, sym, ap, false}
use Rattle.ffa_model.specs.DescriptorPlaces.{in_version}
use Rattle.ffa_model.specs.SendDescriptor.{is_named}
use Rattle.ffa_memdesc.specs.Reading.{named_after}
use Rattle.ffa_memdesc.proofs.Listed.{all_again, not_all}
use Rattle.ffa_memdesc.proofs.names.are_names_known.Goals as goal

pub returns-then-not-is_named : goal.returns-then-not-is_named
returns-then-not-is_named g c =
    let b = in_version c.args.version (g.B.Bytes.bytes c.args.bytes.now) in
    let here : is_named (named_after b c.args.array c.loop-i.i) c.args.receivers.now ≡ false =
    ap (λ (e : ℕ). is_named e c.args.receivers.now) (sym c.endpoint_named.ensures) ∙ sym c.is_named.ensures ∙ c.if-not-is_named.true in
    sym (not_all (λ e. is_named e c.args.receivers.now) (named_after b c.args.array) c.args.count c.loop-i.i c.loop-i-test.true here)

pub returns : goal.returns
returns g c =
    let b = in_version c.args.version (g.B.Bytes.bytes c.args.bytes.now) in
    let end = c.loop-i-test.false in
    sym (all_again (λ e. is_named e c.args.receivers.now) (named_after b c.args.array) c.args.count (λ i lt. c.loop-i.invariant i (omega arith)))
