-- SPDX-License-Identifier: MIT OR Apache-2.0
use Rattle.std.proofs.Common.{rules}
use Rattle.ffa_memshare.proofs.transaction.OpenTransaction.check_reclaim.Goals as goal

pub returns-then-not-is_unheld : goal.returns-then-not-is_unheld
returns-then-not-is_unheld g c = search rules

pub returns-then-not-common : goal.returns-then-not-common
returns-then-not-common g c = search rules

pub returns : goal.returns
returns g c = search rules
