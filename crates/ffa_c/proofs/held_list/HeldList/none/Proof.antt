-- SPDX-License-Identifier: MIT OR Apache-2.0
use Rattle.ffa_c.proofs.HeldSteps.{keeper, none_met, to_list}
use Rattle.ffa_c.specs.contracts.held_list.HeldList.none as f
use Rattle.ffa_c.proofs.held_list.HeldList.none.Statement.{statement}
use Rattle.ffa_c.proofs.held_list.HeldList.none.Code as code

pub none_spec : {M : Type 1} → statement M
none_spec 𝓤 𝓛 𝓜 𝓡 wired = none_met keeper to_list 𝓤 𝓛 𝓜 𝓡 f.Key.name (code.unfolded 𝓤 𝓛.H 𝓜 𝓡 wired)
