-- SPDX-License-Identifier: MIT OR Apache-2.0
use Rattle.std.proofs.Common.{◌≡◌}
use Rattle.ffa_spmc.proofs.Certificates.{accesses_below}
use Rattle.ffa_model.specs.Lists.{listed}
use Rattle.ffa_spmc.proofs.machine.Machine.accesses.Given as goal

-- the endpoints so far
abbrev pub invariant-loop-place : goal.invariant-loop-place
invariant-loop-place g l = l.accesses ≡ listed 8 (accesses_below l.self.state l.page.0 l.place)
