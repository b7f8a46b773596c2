-- SPDX-License-Identifier: MIT OR Apache-2.0
use Rattle.std.proofs.Common.{ap, ◌∙◌}
use Rattle.std.proofs.KnownBytes.{prepend_known-nil}
use Rattle.play_commands.proofs.listeners.buffer.Goals as goal

pub returns-in-Ok-clause-unread : goal.returns-in-Ok-clause-unread
returns-in-Ok-clause-unread g c = rw (c.in-Ok.ensures.capacity, c.in-Ok.ensures.empty) (prepend_known-nil _ ∙ ap g.R.Read.remaining c.in-Ok.ensures.inner)
