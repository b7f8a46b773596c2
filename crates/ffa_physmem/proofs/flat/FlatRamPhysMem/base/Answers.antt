-- SPDX-License-Identifier: MIT OR Apache-2.0
use Rattle.std.proofs.Common.{rules}
use Rattle.ffa_physmem.proofs.flat.FlatRamPhysMem.base.Goals as goal

pub returns-clause-value : goal.returns-clause-value
returns-clause-value g c = search rules
