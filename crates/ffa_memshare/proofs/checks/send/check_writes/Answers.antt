-- SPDX-License-Identifier: MIT OR Apache-2.0
use Rattle.std.proofs.Common.{◌∙◌, true, false, sym, ap, refl}
use Rattle.ffa_model.specs.SendDescriptor.{send_record}
use Rattle.ffa_memshare.specs.Offers.{grants_writes}
use Rattle.ffa_memshare.proofs.Offered.{first-unwritable, own-entries}
use Rattle.ffa_memshare.proofs.checks.send.check_writes.Goals as goal

pub returns-then-not-asks_for_writes : goal.returns-then-not-asks_for_writes
returns-then-not-asks_for_writes c = λ table base e own writable.
    first-unwritable table base (send_record c.args.offer.now) (own-entries own) false c.args.is_writable _
    (sym c.if-not-asks_for_writes.true ∙ c.asks_for_writes.ensures) writable refl

pub returns-then-is_writable : goal.returns-then-is_writable
returns-then-is_writable c = λ table base e own writable.
    first-unwritable table base (send_record c.args.offer.now) (own-entries own) true true _
    (sym c.if-not-asks_for_writes.false ∙ c.asks_for_writes.ensures) (sym c.if-is_writable.true ∙ writable) refl

pub returns-then-grants_writes : goal.returns-then-grants_writes
returns-then-grants_writes c = λ table base e own writable.
    first-unwritable table base (send_record c.args.offer.now) (own-entries own) true false true
    (sym c.if-not-asks_for_writes.false ∙ c.asks_for_writes.ensures) (sym c.if-is_writable.false ∙ writable) (sym c.if-grants_writes.true ∙ c.grants_writes.ensures ∙ ap grants_writes c.as_slice.ensures.value)

pub returns : goal.returns
returns c = λ table base e own writable.
    first-unwritable table base (send_record c.args.offer.now) (own-entries own) true false false
    (sym c.if-not-asks_for_writes.false ∙ c.asks_for_writes.ensures) (sym c.if-is_writable.false ∙ writable) (sym c.if-grants_writes.false ∙ c.grants_writes.ensures ∙ ap grants_writes c.as_slice.ensures.value)
