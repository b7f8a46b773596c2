-- SPDX-License-Identifier: MIT OR Apache-2.0
use Rattle.std.proofs.Common.{rules}
use Rattle.ffa_walker.proofs.access.fetch_at.Goals as goal

pub returns-in_err-physical : goal.returns-in_err-physical
returns-in_err-physical g c = search rules

pub returns : goal.returns
returns g c = search rules
