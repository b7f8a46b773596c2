-- SPDX-License-Identifier: MIT OR Apache-2.0
-- FOR PROOFS ALONE
-- What holds of every manager, and of every machine.
use Rattle.ffa_model.specs.Agreement.{Agrees}
use Rattle.ffa_model.specs.SoundState.{IsSoundState}
use Rattle.ffa_laws.specs.OwnAccess.{AreApart}
use Rattle.ffa_physmem.specs.Moments.{TurnsIn}
use Rattle.ffa_spmc.specs.Cached.{AreWalks}
use Rattle.ffa_spmc.specs.Managed.{Managed}
use Rattle.ffa_spmc.specs.Mixtures.{TablesRest}
use Rattle.ffa_spmc.specs.Snapshot.{Snapshot}
use Rattle.ffa_spmc.specs.Unowned.{OwnsNoTables}

-- The tables give the access of the state, which is sound, and in which nobody is offered what it has sent itself. The steps of RAM's
-- history follow one another, and nobody owns a page of the tables.
pub record IsManaged (m : Managed) : Type 0 where
  pub agrees : Agrees m.ram m.state
  pub sound : IsSoundState m.state
  pub apart : AreApart m.state
  pub turn : TurnsIn m.ram m.past
  pub tables : OwnsNoTables m.state

-- what a machine has of its manager
abbrev pub managed_in : Snapshot → Managed
managed_in x = record { state = x.state; ram = x.ram; past = x.past }

-- so it is of a machine's; and no translation that it holds is stale, and its tables are at rest
pub record IsMachine (x : Snapshot) : Type 0 where
  pub managed : IsManaged (managed_in x)
  pub walks : AreWalks x
  pub rest : TablesRest x.state x.ram x.past
