-- SPDX-License-Identifier: MIT OR Apache-2.0
use Rattle.std.proofs.Common.{◌≡◌, ℕ, ◌+◌, ◌*◌, ◌<◌}
use Rattle.ffa_model.specs.Ram.{word_of}
use Rattle.ffa_stage2.proofs.runs.is_uniform.Given as goal

-- the words so far
abbrev pub invariant-loop-run : goal.invariant-loop-run
invariant-loop-run l = (i : ℕ) → i < 8 * l.run → word_of l.page i ≡ word_of l.page 0 + 4096 * i
