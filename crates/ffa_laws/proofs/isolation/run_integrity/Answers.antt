-- SPDX-License-Identifier: MIT OR Apache-2.0
use Rattle.ffa_laws.proofs.Alone.{run_integrity}
use Rattle.ffa_laws.proofs.isolation.run_integrity.Goals as goal

pub returns : goal.returns
returns c = run_integrity
