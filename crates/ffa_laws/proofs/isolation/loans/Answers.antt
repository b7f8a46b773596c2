-- SPDX-License-Identifier: MIT OR Apache-2.0
use Rattle.ffa_laws.proofs.Forgotten.{zeroed_is_forgotten}
use Rattle.ffa_laws.proofs.Waiting.{offer_says_nothing}
use Rattle.ffa_laws.proofs.isolation.loans.Goals as goal

pub returns-clause-zeroed : goal.returns-clause-zeroed
returns-clause-zeroed c = zeroed_is_forgotten

pub returns-clause-offered : goal.returns-clause-offered
returns-clause-offered c = offer_says_nothing
