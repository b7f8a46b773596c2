-- SPDX-License-Identifier: MIT OR Apache-2.0
use Rattle.ffa_laws.proofs.ReadRuns.{run_confidential}
use Rattle.ffa_laws.proofs.Readings.{confidential}
use Rattle.ffa_laws.proofs.isolation.confidential.Goals as goal

pub returns-clause-step : goal.returns-clause-step
returns-clause-step c = confidential

pub returns-clause-run : goal.returns-clause-run
returns-clause-run c = run_confidential
