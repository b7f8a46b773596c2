-- SPDX-License-Identifier: MIT OR Apache-2.0
use Rattle.std.proofs.Common.{None, subst, sym}
use Rattle.play_commands.specs.Plays.{PlayFails}
use Rattle.play_commands.specs.declared.task.Task.TheVariants.{Plain}
use Rattle.play_commands.proofs.Plays.{played_whole, play_failed}
use Rattle.play_commands.proofs.listeners.play_plainly.Goals as goal

pub returns-in-Ok : goal.returns-in-Ok
returns-in-Ok g c = record { played = played_whole c.in-Ok.field-0 _ _ _ _ _ _ c.in-Ok.ensures; failed = tt }

pub returns : goal.returns
returns g c = record {
  played = tt;
  failed = subst (PlayFails Plain c.args.trace.path _ _) (sym c.of_play.ensures) (play_failed _ _ _ _ _ _ c.args.trace.path None c.in-Err.error c.in-Err.ensures);
}
