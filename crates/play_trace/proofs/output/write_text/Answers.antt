-- SPDX-License-Identifier: MIT OR Apache-2.0
use Rattle.std.proofs.lemmas.Grind.{common_steps}
use Rattle.std.proofs.Common.{arith}
use Rattle.play_trace.proofs.Fronts.{writes_on}
use Rattle.play_trace.proofs.output.write_text.Goals as goal

pub returns-in-Ok-2 : goal.returns-in-Ok-2
returns-in-Ok-2 g c = writes_on _ _ _ c.args.text.now c.in-Ok.count c.write_rest.result c.in-Ok.ensures.bytes c.write_rest.ensures

pub returns-in-Ok : goal.returns-in-Ok
returns-in-Ok g c = grind (arith, common_steps)
