-- SPDX-License-Identifier: MIT OR Apache-2.0
use Rattle.std.proofs.Common.{rules}
use Rattle.ffa_c.proofs.lending.take_page.Goals as goal

pub invariant_of-slot : goal.invariant_of-slot
invariant_of-slot c = search rules
