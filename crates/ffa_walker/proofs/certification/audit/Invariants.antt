-- SPDX-License-Identifier: MIT OR Apache-2.0
use Rattle.std.proofs.Common.{ℕ, ◌<◌, ◌^◌, get_or}
use Rattle.ffa_model.specs.Walk.{walk}
use Rattle.ffa_walker.specs.Spans.{AreCertified}
use Rattle.ffa_walker.proofs.certification.audit.Given as goal

-- the walks from the roots so far
abbrev pub invariant-loop-place : goal.invariant-loop-place
invariant-loop-place g l =
    let ram = g.M.PhysMem.ram l.memory in
    (place : ℕ) → place < l.place → AreCertified ram l.runs place 0 (2 ^ 32) (walk ram (get_or l.roots place 0))
