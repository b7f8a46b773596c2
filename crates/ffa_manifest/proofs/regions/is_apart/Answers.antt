-- SPDX-License-Identifier: MIT OR Apache-2.0
use Rattle.std.proofs.Common.{rules}
use Rattle.ffa_manifest.proofs.regions.is_apart.Goals as goal

pub returns-then-end-from : goal.returns-then-end-from
returns-then-end-from c = search rules
