-- SPDX-License-Identifier: MIT OR Apache-2.0
use Rattle.ffa_spmc.proofs.Left.{left-operated, safe-amid}
use Rattle.ffa_spmc.proofs.lists.left_among_others.Goals as goal

pub returns-clause-operated : goal.returns-clause-operated
returns-clause-operated c = left-operated

pub returns-clause-list : goal.returns-clause-list
returns-clause-list c = safe-amid
