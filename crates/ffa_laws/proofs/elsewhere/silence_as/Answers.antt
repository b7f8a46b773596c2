-- SPDX-License-Identifier: MIT OR Apache-2.0
use Rattle.ffa_laws.proofs.ElsewhereLaws.{silence_as}
use Rattle.ffa_laws.proofs.elsewhere.silence_as.Goals as goal

pub returns : goal.returns
returns c = silence_as
