-- SPDX-License-Identifier: MIT OR Apache-2.0
use Rattle.std.proofs.Common.{rules}
use Rattle.ffa_notify.proofs.words.clear_front.Goals as goal

pub returns-clause-cleared : goal.returns-clause-cleared
returns-clause-cleared c = search rules
