-- SPDX-License-Identifier: MIT OR Apache-2.0
use Rattle.ffa_laws.proofs.Integrities.{integrity}
use Rattle.ffa_laws.proofs.isolation.integrity.Goals as goal

pub returns : goal.returns
returns c = integrity
