-- SPDX-License-Identifier: MIT OR Apache-2.0
use Rattle.ffa_laws.proofs.ElsewhereLaws.{confidential_as}
use Rattle.ffa_laws.proofs.elsewhere.confidential_as.Goals as goal

pub returns : goal.returns
returns c = confidential_as
