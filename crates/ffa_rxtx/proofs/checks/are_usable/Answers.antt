-- SPDX-License-Identifier: MIT OR Apache-2.0
use Rattle.std.proofs.Common.{ℕ, Bool, sym, arith}
use Rattle.ffa_model.specs.Buffers.{is_usable}
use Rattle.ffa_model.proofs.Runs.{run-all, run-fails}
use Rattle.ffa_rxtx.specs.Parts.{ownership_in}
use Rattle.ffa_rxtx.proofs.checks.are_usable.Goals as goal

pub returns-then-not-is_usable : goal.returns-then-not-is_usable
returns-then-not-is_usable g c =
    let test : ℕ → Bool = λ p. is_usable c.args.endpoint.0 (ownership_in c.args.table.now 0) p in
    sym (run-fails test c.args.first.0 c.args.pages c.loop-i.i c.loop-i-test.true (sym c.if-not-is_usable.ensures))

pub returns : goal.returns
returns g c =
    let test : ℕ → Bool = λ p. is_usable c.args.endpoint.0 (ownership_in c.args.table.now 0) p in
    sym (run-all test c.args.first.0 c.args.pages (λ k lt. c.loop-i.invariant k (let test = c.loop-i-test.false in let auto = c.loop-i.auto.i-end in omega arith)))
