-- SPDX-License-Identifier: MIT OR Apache-2.0
use Rattle.std.proofs.KnownBytes.{Keeps-refl}
use Rattle.play_commands.proofs.program.tell_guards.Goals as goal

pub returns-else-is_strict : goal.returns-else-is_strict
returns-else-is_strict g c = λ loose. Keeps-refl (g.E.Write.contents c.args.err.now)
