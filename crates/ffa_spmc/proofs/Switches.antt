-- SPDX-License-Identifier: MIT OR Apache-2.0
-- A machine whose runner stops with its work, and in which another goes on: all but the run states is as it was.
use Rattle.std.proofs.Common.{◌≡◌, ◌∙◌, ℕ, sym, ap, subst}
use Rattle.ffa_model.specs.declared.schedule.Status.{Status}
use Rattle.ffa_model.specs.Processors.{with_switch}
use Rattle.ffa_model.specs.RunStates.{Schedule, switched, with_schedule}
use Rattle.ffa_model.specs.Sound.{MayGoOn, MayStop}
use Rattle.ffa_model.specs.SoundState.{IsSoundState}
use Rattle.ffa_model.specs.State.{State}
use Rattle.ffa_laws.proofs.ProcessorLaws.{sound-switched}
use Rattle.ffa_physmem.specs.Moments.{Past}
use Rattle.ffa_spmc.specs.Cached.{AreWalks}
use Rattle.ffa_spmc.specs.Clustered.{in_state}
use Rattle.ffa_spmc.specs.Managed.{Managed}
use Rattle.ffa_spmc.specs.Meaning.{IsManager, Parts, state_of}
use Rattle.ffa_spmc.specs.Mixtures.{TablesRest}
use Rattle.ffa_spmc.specs.Snapshot.{Snapshot}
use Rattle.ffa_spmc.proofs.Replied.{managed_of}
use Rattle.ffa_spmc.proofs.Schedules.{with_chain-is}

module _ (x : Parts) (status : Status) (e : ℕ) (new : Schedule) (is : new ≡ switched x.kept.chain status e) where
  abbrev pub with_new : Parts
  with_new = record x { kept = record x.kept { chain = new } }

  state-switched : state_of with_new ≡ with_switch (state_of x) status e
  state-switched = with_chain-is x new ∙ ap (with_schedule (state_of x)) is

  pub machine-switched : IsManager x → MayStop x.kept.chain status → MayGoOn x.kept.chain e → IsManager with_new
  machine-switched machine stops goes = record {
    laws = machine.laws;
    tables = machine.tables;
    layout = machine.layout;
    owners = machine.owners;
    open_transactions = machine.open_transactions;
    sound = subst IsSoundState (sym state-switched) (sound-switched (state_of x) machine.sound status e stops goes);
  }

  pub view-switched : (past : Past) (now : Managed) → managed_of x past ≡ now → managed_of with_new past ≡ record now { state = with_switch now.state status e }
  view-switched past now seen =
      ap (λ (s : State). let m : Managed = record { state = s; ram = x.ram; past = past } in m) state-switched
      ∙ ap (λ (m : Managed). let n : Managed = record m { state = with_switch m.state status e } in n) seen

-- walks don't ask who runs
pub walks-switched : (seen : Snapshot) (status : Status) (e : ℕ) → AreWalks seen → AreWalks (in_state seen (with_switch seen.state status e))
walks-switched seen status e walks f p leaf is = let walk = walks f p leaf is in record { known = walk.known; page = walk.page; walk = walk.walk }

-- nor do tables at rest
pub rest-switched : (seen : Snapshot) (status : Status) (e : ℕ) → TablesRest seen.state seen.ram seen.past → TablesRest (with_switch seen.state status e) seen.ram seen.past
unfolding TablesRest
rest-switched seen status e rest = rest
