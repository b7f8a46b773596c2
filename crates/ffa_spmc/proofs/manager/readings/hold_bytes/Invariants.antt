-- SPDX-License-Identifier: MIT OR Apache-2.0
use Rattle.std.proofs.Common.{ℕ, ◌<◌, ◌≤◌}
use Rattle.ffa_model.specs.Ram.{page_of}
use Rattle.ffa_model.specs.SoundState.{are_bytes}
use Rattle.ffa_spmc.proofs.manager.readings.hold_bytes.Given as goal

abbrev pub invariant-loop-page : goal.invariant-loop-page
invariant-loop-page g l = (p : ℕ) → l.fn.run.first.0 ≤ p → p < l.page → are_bytes (page_of (g.M.PhysMem.ram l.ram) p)
