-- SPDX-License-Identifier: MIT OR Apache-2.0
use Rattle.play_generator.proofs.Growing.{grown_nothing}
use Rattle.play_generator.proofs.writing.put_nothing.Goals as goal

pub returns-in-Ok-clause-line : goal.returns-in-Ok-clause-line
returns-in-Ok-clause-line g c = grown_nothing _ _ c.in-Ok.ensures.items
