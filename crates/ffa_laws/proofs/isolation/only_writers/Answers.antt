-- SPDX-License-Identifier: MIT OR Apache-2.0
use Rattle.ffa_laws.proofs.Writers.{only_writers}
use Rattle.ffa_laws.proofs.isolation.only_writers.Goals as goal

pub returns : goal.returns
returns c = only_writers
