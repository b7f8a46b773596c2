-- SPDX-License-Identifier: MIT OR Apache-2.0
use Rattle.std.proofs.Common.{arith}
use Rattle.ffa_spmc.proofs.Readings.{all-bytes}
use Rattle.ffa_spmc.proofs.manager.readings.holds_bytes.Goals as goal

pub returns : goal.returns
returns c =
    all-bytes c.args.page.now (λ k lt. c.loop-index.invariant k (omega (arith, lt, c.told-page, c.loop-index-test.false)))
