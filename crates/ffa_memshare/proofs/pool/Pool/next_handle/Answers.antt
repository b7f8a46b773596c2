-- SPDX-License-Identifier: MIT OR Apache-2.0
use Rattle.std.proofs.Common.{rules}
use Rattle.ffa_memshare.proofs.pool.Pool.next_handle.Goals as goal

pub returns : goal.returns
returns g c = search rules
