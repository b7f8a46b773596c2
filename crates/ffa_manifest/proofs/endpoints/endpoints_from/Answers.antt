-- SPDX-License-Identifier: MIT OR Apache-2.0
use Rattle.std.proofs.Common.{rules}
use Rattle.ffa_manifest.proofs.endpoints.endpoints_from.Goals as goal

pub loop-value-preserved : goal.loop-value-preserved
loop-value-preserved c = search rules
