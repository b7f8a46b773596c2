-- SPDX-License-Identifier: MIT OR Apache-2.0
-- What everyone may know of a state.
use Rattle.std.specs.Prelude.{◌≡◌, ◌≢◌, ◌⊎◌, ℕ, Bool, List, map, Option, refl}
use Rattle.std.specs.Option.{option_map}
use Rattle.ffa_model.specs.declared.schedule.Status.{Status}
use Rattle.ffa_model.specs.declared.schedule.Work.{Work}
use Rattle.ffa_model.specs.Numbers.{Identifier}
use Rattle.ffa_model.specs.State.{State, Buffers}
use Rattle.ffa_model.proofs.Equal.{equal_by, equal_list, equal_number, equal_option, equal_pair, equal_status, equal_truth, equal_work}

-- who runs, each status and work, and of mapped buffers how many pages they have and whether RX is full
pub record PublicPart : Type 0 where
  pub runner : Identifier
  pub statuses : List Status
  pub works : List (Option Work)
  pub buffers : List (Option (ℕ × Bool))

abbrev pub public_buffers : Option Buffers → Option (ℕ × Bool)
public_buffers b = option_map (λ (q : Buffers). (q.pages, q.full)) b

abbrev pub public_part : State → PublicPart
public_part s =
    record { runner = s.runner; statuses = s.statuses; works = s.works; buffers = map public_buffers s.buffers }

-- two public parts are equal, or they aren't: which, the type says, whatever stands behind it.
-- Numbers that encode the public parts would be 11 more lines to believe.
abbrev pub same_public : (a b : PublicPart) → (a ≡ b) ⊎ (a ≢ b)
same_public =
    equal_by (λ (p : PublicPart). ((p.runner, p.statuses), (p.works, p.buffers)))
    (λ p. record { runner = p.0.0; statuses = p.0.1; works = p.1.0; buffers = p.1.1 }) (λ p. refl)
    (equal_pair (equal_pair equal_number (equal_list equal_status)) (equal_pair (equal_list (equal_option equal_work)) (equal_list (equal_option (equal_pair equal_number equal_truth)))))
