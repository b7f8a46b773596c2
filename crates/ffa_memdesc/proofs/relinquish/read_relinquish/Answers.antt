-- SPDX-License-Identifier: MIT OR Apache-2.0
use Rattle.std.proofs.Common.{rules}
use Rattle.ffa_memdesc.proofs.relinquish.read_relinquish.Goals as goal

pub returns-then-flags-gt1-clause-none : goal.returns-then-flags-gt1-clause-none
returns-then-flags-gt1-clause-none g c = search rules

pub returns-then-flags-gt1-clause-broken : goal.returns-then-flags-gt1-clause-broken
returns-then-flags-gt1-clause-broken g c = search rules

pub returns-clause-found : goal.returns-clause-found
returns-clause-found g c = search rules
