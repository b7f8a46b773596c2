-- SPDX-License-Identifier: MIT OR Apache-2.0
use Rattle.std.proofs.Common.{rules}
use Rattle.ffa_memdesc.proofs.respond.write_response.Goals as goal

pub returns-in-Compact-clause-size : goal.returns-in-Compact-clause-size
returns-in-Compact-clause-size c = search rules

pub returns-in-Compact-clause-bytes : goal.returns-in-Compact-clause-bytes
returns-in-Compact-clause-bytes c = search rules
