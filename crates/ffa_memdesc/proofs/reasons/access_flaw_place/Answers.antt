-- SPDX-License-Identifier: MIT OR Apache-2.0
use Rattle.std.proofs.Common.{rules}
use Rattle.ffa_memdesc.proofs.reasons.access_flaw_place.Goals as goal

pub returns-in-Permissions : goal.returns-in-Permissions
returns-in-Permissions c = search rules
