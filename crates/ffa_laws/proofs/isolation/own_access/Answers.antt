-- SPDX-License-Identifier: MIT OR Apache-2.0
use Rattle.ffa_laws.proofs.Apart.{first_apart, stays_apart}
use Rattle.ffa_laws.proofs.OwnAccesses.{own_access}
use Rattle.ffa_laws.proofs.isolation.own_access.Goals as goal

pub returns-clause-access : goal.returns-clause-access
returns-clause-access c = own_access

pub returns-clause-stays : goal.returns-clause-stays
returns-clause-stays c = stays_apart

pub returns-clause-first : goal.returns-clause-first
returns-clause-first c = first_apart
