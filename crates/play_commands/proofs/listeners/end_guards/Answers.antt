-- SPDX-License-Identifier: MIT OR Apache-2.0
use Rattle.play_commands.proofs.Plays.{first_rest}
use Rattle.play_commands.proofs.listeners.end_guards.Goals as goal

pub returns-in_ok-tell_unmet-in-len1-up-clause-ended : goal.returns-in_ok-tell_unmet-in-len1-up-clause-ended
returns-in_ok-tell_unmet-in-len1-up-clause-ended g c = first_rest c.args.unmet.now c.in-len1-up.len_at_least
