-- SPDX-License-Identifier: MIT OR Apache-2.0
use Rattle.std.proofs.Common.{◌≡◌, ℕ, ◌<◌, None, length}
use Rattle.std.specs.Prelude.{slice_index_or}
use Rattle.ffa_model.specs.declared.limits.TheConstants.{MOST_ENDPOINTS}
use Rattle.ffa_c.specs.Border.{access_code}
use Rattle.ffa_c.proofs.certificate.access_codes.Given as goal

-- the codes so far
abbrev pub invariant-loop-place : goal.invariant-loop-place
invariant-loop-place l = record {
  long : length l.codes ≡ MOST_ENDPOINTS;
  so_far : (i : ℕ) → i < l.place → slice_index_or l.codes i 0 ≡ access_code (slice_index_or l.access i None);
}
