-- SPDX-License-Identifier: MIT OR Apache-2.0
use Rattle.std.proofs.Common.{rules}
use Rattle.ffa_model.specs.FirstFlaws.{send_header_flaw}
use Rattle.ffa_memdesc.proofs.send.check_header.Goals as goal

pub returns-then-header-ne0-clause-first : goal.returns-then-header-ne0-clause-first
unfolding send_header_flaw
returns-then-header-ne0-clause-first c = search rules
