-- SPDX-License-Identifier: MIT OR Apache-2.0
use Rattle.std.proofs.Common.{◌≡◌, ◌+◌, ◌<◌, ℕ, length}
use Rattle.ffa_model.specs.Ram.{page_of}
use Rattle.ffa_memshare.proofs.page_run.PageRun.new.Given as goal

abbrev pub invariant-loop-i : goal.invariant-loop-i
invariant-loop-i g l = (k : ℕ) → k < l.i → length (page_of (g.M.PhysMem.ram l.ram) (l.first.0 + k)) ≡ 4096
