-- SPDX-License-Identifier: MIT OR Apache-2.0
use Rattle.std.proofs.Common.{◌≡◌, ◌<◌, [], ◌∷◌, ◌++◌, length, take, get_or, sym, subst, arith, length-take-le, take_all}
use Rattle.std.proofs.lemmas.List.{take_more}
use Rattle.play_trace.proofs.Operations.{Told, one_told, call_read}
use Rattle.play_trace.proofs.operation.push_call.Goals as goal

pub loop-value-preserved : goal.loop-value-preserved
loop-value-preserved c =
    let xs = take c.registers_told.result c.args.x.now in
    let i = c.loop-value.value-index in
    let counted : length xs ≡ c.registers_told.result = length-take-le c.registers_told.result c.args.x.now (omega (arith, c.registers_told.ensures.few)) in
    let inside : i < length xs = omega (arith, c.loop-value-test.true) in
    let digits = c.digits_of.ensures in
    let more = one_told c.loop-value.line.items (take i xs) c.digits_of.result (get_or xs i 0) c.loop-value.invariant.told digits.some digits.few digits.enough in
    record {
      told = subst (Told c.push_hex.new.text.items) (sym (take_more xs i 0 inside)) (subst (λ t. Told t (take i xs ++ get_or xs i 0 ∷ [])) (sym c.push_hex.ensures.items) more);
      len = omega (arith, c.loop-value.invariant.len, c.push_hex.ensures.len, digits.few);
    }

pub returns-clause-line : goal.returns-clause-line
returns-clause-line c =
    let xs = take c.registers_told.result c.args.x.now in
    let i = c.loop-value.value-index in
    let counted : length xs ≡ c.registers_told.result = length-take-le c.registers_told.result c.args.x.now (omega (arith, c.registers_told.ensures.few)) in
    let all : take i xs ≡ xs = take_all i xs (omega (arith, c.loop-value-test.false)) in
    let told = subst (Told c.loop-value.line.items) all c.loop-value.invariant.told in
    call_read c.loop-value.line.items xs c.args.x.now told (omega (arith, counted, c.registers_told.ensures.some)) (omega (arith, counted, c.registers_told.ensures.few)) c.registers_told.ensures.rest
