-- SPDX-License-Identifier: MIT OR Apache-2.0
use Rattle.ffa_laws.proofs.ElsewhereLaws.{integrity_as}
use Rattle.ffa_laws.proofs.elsewhere.integrity_as.Goals as goal

pub returns : goal.returns
returns c = integrity_as
