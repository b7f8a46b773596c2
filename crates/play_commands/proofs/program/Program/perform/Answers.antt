-- SPDX-License-Identifier: MIT OR Apache-2.0
use Rattle.std.proofs.Common.{subst}
use Rattle.std.specs.Io.KnownBytes.{Keeps}
use Rattle.play_commands.proofs.Performs.{told_bad, told_unmet}
use Rattle.play_commands.proofs.program.Program.perform.Goals as goal

pub returns-in-Ok-clause-quiet : goal.returns-in-Ok-clause-quiet
returns-in-Ok-clause-quiet g c =
    λ done silent loose. subst (λ err. Keeps (g.E.Write.contents err) (g.E.Write.contents c.tell_guards.new.err)) (c.in-Ok.ensures.quiet silent) (c.tell_guards.ensures loose)

pub returns-in-Err-clause-bad : goal.returns-in-Err-clause-bad
returns-in-Err-clause-bad g c = told_bad _ _ c.in-Err.failure c.tell-status.result c.tell-status.ensures c.in-Err.ensures.failed c.in-Err.ensures.read

pub returns-in-Err-clause-unmet : goal.returns-in-Err-clause-unmet
returns-in-Err-clause-unmet g c = told_unmet _ _ c.in-Err.failure c.tell-status.result c.tell-status.ensures c.in-Err.ensures.failed c.in-Err.ensures.read
