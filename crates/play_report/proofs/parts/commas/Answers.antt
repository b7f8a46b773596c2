-- SPDX-License-Identifier: MIT OR Apache-2.0
use Rattle.std.proofs.Common.{arith, ◌==◌}
use Rattle.std.proofs.lemmas.Grind.{common_steps}
use Rattle.std.proofs.lemmas.List.Splits.{length-slice_split}
use Rattle.play_report.specs.Members.{comma}
use Rattle.play_report.proofs.parts.commas.Goals as goal

pub returns : goal.returns
returns c = grind (arith, common_steps, length-slice_split (λ b. b == comma) c.args.text.now)
