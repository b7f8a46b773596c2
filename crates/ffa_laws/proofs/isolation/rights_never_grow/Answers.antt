-- SPDX-License-Identifier: MIT OR Apache-2.0
use Rattle.ffa_laws.proofs.Growth.{never_grow}
use Rattle.ffa_laws.proofs.isolation.rights_never_grow.Goals as goal

pub returns : goal.returns
returns c = never_grow
