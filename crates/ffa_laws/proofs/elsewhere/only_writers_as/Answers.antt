-- SPDX-License-Identifier: MIT OR Apache-2.0
use Rattle.ffa_laws.proofs.ElsewhereLaws.{only_writers_as}
use Rattle.ffa_laws.proofs.elsewhere.only_writers_as.Goals as goal

pub returns : goal.returns
returns c = only_writers_as
