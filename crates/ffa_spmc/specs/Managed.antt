-- SPDX-License-Identifier: MIT OR Apache-2.0
-- FOR PROOFS ALONE
-- What a contract sees of the manager: its state, its RAM with every byte, and what that has been through.
use Rattle.std.specs.Prelude.{refl}
use Rattle.std.specs.Coded.{Coded, code_by, coded×}
use Rattle.ffa_model.specs.Ram.{Ram}
use Rattle.ffa_model.specs.State.{State}
use Rattle.ffa_model.specs.Codes.{coded_state}
use Rattle.ffa_physmem.specs.Codes.{coded_past, coded_ram}
use Rattle.ffa_physmem.specs.Moments.{Past}

pub record Managed : Type 0 where
  pub state : State
  pub ram : Ram
  pub past : Past

abbrev pub coded_managed : Coded Managed
coded_managed =
    code_by (State × (Ram × Past)) (coded× coded_state (coded× coded_ram coded_past))
    (λ s. (s.state, (s.ram, s.past))) (λ p. record { state = p.0; ram = p.1.0; past = p.1.1 }) (λ _. refl)
