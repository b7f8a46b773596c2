-- SPDX-License-Identifier: MIT OR Apache-2.0
use Rattle.std.proofs.Common.{◌≡◌, true, take}
use Rattle.ffa_manifest.specs.Regions.{is_free}
use Rattle.ffa_manifest.proofs.met.first_met.Given as goal

-- none so far has a page of the region
abbrev pub invariant-loop-place : goal.invariant-loop-place
invariant-loop-place l = is_free (take l.place l.others) l.region ≡ true
