-- SPDX-License-Identifier: MIT OR Apache-2.0
use Rattle.std.proofs.Common.{◌<◌, ℕ, true}
use Rattle.ffa_memdesc.specs.Reading.{IsApartAt}
use Rattle.ffa_memdesc.proofs.ranges.first_overlap.Given as goal

abbrev pub invariant-loop-place : goal.invariant-loop-place
invariant-loop-place l = (i : ℕ) → i < l.place → IsApartAt l.ranges i true
