-- SPDX-License-Identifier: MIT OR Apache-2.0
use Rattle.std.proofs.Common.{◌≡◌, drop}
use Rattle.ffa_c.specs.Refusing.{untold_from}
use Rattle.ffa_c.proofs.refusing.untold_among.Given as goal

-- the place in the endpoints that are left, counted from there, is that in all
abbrev pub invariant-loop-index : goal.invariant-loop-index
invariant-loop-index l = untold_from l.index (drop l.index l.endpoints) ≡ untold_from 0 l.endpoints
