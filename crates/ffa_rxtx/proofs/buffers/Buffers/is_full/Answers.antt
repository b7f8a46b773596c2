-- SPDX-License-Identifier: MIT OR Apache-2.0
use Rattle.std.proofs.Common.{rules}
use Rattle.ffa_rxtx.proofs.buffers.Buffers.is_full.Goals as goal

pub returns-in-None : goal.returns-in-None
returns-in-None c = search rules
