-- SPDX-License-Identifier: MIT OR Apache-2.0
use Rattle.std.proofs.Common.{rules}
use Rattle.ffa_lent.proofs.frames.Frames.take_back.Goals as goal

pub returns-clause-none : goal.returns-clause-none
returns-clause-none c = search rules
