-- SPDX-License-Identifier: MIT OR Apache-2.0
use Rattle.std.proofs.Common.{ℕ, ◌+◌, Bool, sym, ap, arith, not, option_map}
use Rattle.ffa_model.specs.About.{numbered}
use Rattle.ffa_model.specs.Buffers.{is_usable}
use Rattle.ffa_model.proofs.Finds.{find-listed, find-none}
use Rattle.ffa_rxtx.specs.Parts.{ownership_in}
use Rattle.ffa_rxtx.proofs.reasons.first_unusable.Goals as goal

pub returns-then-not-is_usable : goal.returns-then-not-is_usable
returns-then-not-is_usable g c =
    let test : ℕ → Bool = λ p. not (is_usable c.args.endpoint.0 (ownership_in c.args.table.now 0) p) in
    ap (option_map numbered)
    (sym (find-listed test c.args.pages c.loop-i.i (λ k. c.args.first.0 + k) c.loop-i-test.true (λ k lt. ap not (c.loop-i.invariant k lt)) (ap not (sym c.if-not-is_usable.ensures))))

pub returns : goal.returns
returns g c =
    let test : ℕ → Bool = λ p. not (is_usable c.args.endpoint.0 (ownership_in c.args.table.now 0) p) in
    ap (option_map numbered)
    (sym (find-none test c.args.pages (λ k. c.args.first.0 + k) (λ k lt. ap not (c.loop-i.invariant k (let test = c.loop-i-test.false in omega arith)))))
