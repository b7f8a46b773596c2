-- SPDX-License-Identifier: MIT OR Apache-2.0
use Rattle.ffa_laws.proofs.NoMore.{reads_no_more}
use Rattle.ffa_laws.proofs.OwnTx.{leaves_tx}
use Rattle.ffa_laws.proofs.Stores.{same-beside}
use Rattle.ffa_laws.proofs.isolation.reads_no_more.Goals as goal

pub returns-clause-reads : goal.returns-clause-reads
returns-clause-reads c = reads_no_more

pub returns-clause-leaves : goal.returns-clause-leaves
returns-clause-leaves c = leaves_tx

pub returns-clause-same : goal.returns-clause-same
returns-clause-same c = same-beside
