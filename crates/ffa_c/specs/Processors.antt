-- SPDX-License-Identifier: MIT OR Apache-2.0
-- What C sees of a processor that it selects, and of an interrupt that the selected one takes.
use Rattle.std.specs.Prelude.{◌≡◌, ℕ, Bool, false, nat_lt, Option, None, Some, if◌then◌else◌}
use Rattle.ffa_model.specs.declared.limits.TheConstants.{MOST_PROCESSORS}
use Rattle.ffa_model.specs.Agreement.{Agrees}
use Rattle.ffa_model.specs.Processors.{interrupt, turned}
use Rattle.ffa_model.specs.SoundState.{IsSoundState}
use Rattle.ffa_spmc.specs.Clustered.{Clustered, in_state, seen_by}
use Rattle.ffa_c.specs.declared.outcome.COutcome.{COutcome}
use Rattle.ffa_c.specs.Boarded.{Boarded, boarded_by, cluster_of}
use Rattle.ffa_c.specs.Border.{nothing_done, packed}

-- another processor is selected
abbrev pub selected : ℕ → Clustered → Clustered
selected p c = record { machine = seen_by p c; processors = turned c.processors p c.machine.state }

-- of what C holds, if there is such a processor
abbrev pub with_selected : ℕ → Boarded → Boarded
with_selected p b =
    if nat_lt p MOST_PROCESSORS then boarded_by (selected p (cluster_of b)) b.is_lent else b

-- where there is a machine
abbrev pub Selected : Option Boarded → Option Boarded → ℕ → Bool → Type 0
Selected None new p told = (new ≡ None) × (told ≡ false)
Selected (Some old) new p told = (new ≡ Some (with_selected p old)) × (told ≡ nat_lt p MOST_PROCESSORS)

-- the selected processor took an interrupt, and C was told the outcome
pub record HasInterrupted (old new : Clustered) (told : COutcome) : Type 0 where
  pub outcome : told ≡ packed (interrupt old.machine.state).outcome
  -- all but run states is as it was: RAM and tables, and what is told
  pub machine : new.machine ≡ in_state old.machine (interrupt old.machine.state).state
  pub processors : new.processors ≡ old.processors
  pub agrees : Agrees new.machine.ram new.machine.state
  pub sound : IsSoundState new.machine.state

-- the same of what C holds, which may be no machine
abbrev pub Interrupted : Option Boarded → Option Boarded → COutcome → Type 0
Interrupted None new told = (new ≡ None) × (told ≡ nothing_done 4)
Interrupted (Some old) new told =
    (c : Clustered) × (new ≡ Some (boarded_by c old.is_lent)) × HasInterrupted (cluster_of old) c told
