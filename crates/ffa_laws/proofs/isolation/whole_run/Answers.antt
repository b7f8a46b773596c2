-- SPDX-License-Identifier: MIT OR Apache-2.0
use Rattle.ffa_laws.proofs.Replays.{isolated, replays}
use Rattle.ffa_laws.proofs.Shows.{shown}
use Rattle.ffa_laws.proofs.isolation.whole_run.Goals as goal

pub returns-clause-isolated : goal.returns-clause-isolated
returns-clause-isolated c = isolated

pub returns-clause-replays : goal.returns-clause-replays
returns-clause-replays c = replays

pub returns-clause-shown : goal.returns-clause-shown
returns-clause-shown c = shown
