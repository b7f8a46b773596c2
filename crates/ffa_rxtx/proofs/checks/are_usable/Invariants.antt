-- SPDX-License-Identifier: MIT OR Apache-2.0
use Rattle.std.proofs.Common.{◌≡◌, ℕ, ◌+◌, ◌<◌, true}
use Rattle.ffa_model.specs.Buffers.{is_usable}
use Rattle.ffa_rxtx.specs.Parts.{ownership_in}
use Rattle.ffa_rxtx.proofs.checks.are_usable.Given as goal

abbrev pub invariant-loop-i : goal.invariant-loop-i
invariant-loop-i g l = (k : ℕ) → k < l.i → is_usable l.endpoint.0 (ownership_in l.table 0) (l.first.0 + k) ≡ true
