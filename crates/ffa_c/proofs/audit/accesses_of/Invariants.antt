-- SPDX-License-Identifier: MIT OR Apache-2.0
use Rattle.std.proofs.Common.{◌≡◌, [], drop, length, take}
use Rattle.ffa_model.specs.declared.limits.TheConstants.{MOST_ENDPOINTS}
use Rattle.ffa_c.specs.Audit.{access_given, all_given}
use Rattle.ffa_c.proofs.audit.accesses_of.Given as goal

-- the codes that are left, told after the access so far, give what all codes give
abbrev pub invariant-loop-place : goal.invariant-loop-place
invariant-loop-place l = record {
  long : length l.accesses ≡ MOST_ENDPOINTS;
  rest : all_given access_given (take l.place l.accesses) (drop l.place l.codes) ≡ all_given access_given [] l.codes;
}
