-- SPDX-License-Identifier: MIT OR Apache-2.0
use Rattle.ffa_c.proofs.HeldSteps.{keeper, none_met, to_seat}
use Rattle.ffa_c.specs.contracts.held.Held.none as f
use Rattle.ffa_c.proofs.held.Held.none.Statement.{statement}
use Rattle.ffa_c.proofs.held.Held.none.Code as code

pub none_spec : {M : Type 1} → statement M
none_spec 𝓤 𝓛 𝓜 𝓡 wired = none_met keeper to_seat 𝓤 𝓛 𝓜 𝓡 f.Key.name (code.unfolded 𝓤 𝓛.H 𝓜 𝓡 wired)
