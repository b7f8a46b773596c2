-- SPDX-License-Identifier: MIT OR Apache-2.0
use Rattle.ffa_c.proofs.HeldSteps.{keeper, mut_met, to_seat}
use Rattle.ffa_c.specs.contracts.held.Held.seat_mut as f
use Rattle.ffa_c.proofs.held.Held.seat_mut.Statement.{statement}
use Rattle.ffa_c.proofs.held.Held.seat_mut.Code as code

pub seat_mut_spec : {M : Type 1} → statement M
seat_mut_spec 𝓤 𝓛 𝓜 𝓡 wired = mut_met keeper to_seat 𝓤 𝓛 𝓜 𝓡 f.Key.name _ _ _ (code.unfolded 𝓤 𝓛.H 𝓜 𝓡 wired)
