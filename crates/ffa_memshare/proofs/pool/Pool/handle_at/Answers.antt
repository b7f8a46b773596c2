-- SPDX-License-Identifier: MIT OR Apache-2.0
use Rattle.std.proofs.Common.{rules}
use Rattle.ffa_memshare.proofs.pool.Pool.handle_at.Goals as goal

pub returns-in_err-slot : goal.returns-in_err-slot
returns-in_err-slot g c = search rules

pub returns-in_err-open : goal.returns-in_err-open
returns-in_err-open g c = search rules

pub returns : goal.returns
returns g c = search rules
