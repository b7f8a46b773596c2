-- SPDX-License-Identifier: MIT OR Apache-2.0
use Rattle.ffa_laws.proofs.ElsewhereLaws.{own_access_as}
use Rattle.ffa_laws.proofs.elsewhere.own_access_as.Goals as goal

pub returns : goal.returns
returns c = own_access_as
