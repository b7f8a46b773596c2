-- SPDX-License-Identifier: MIT OR Apache-2.0
use Rattle.play_arguments.proofs.request.Goals as goal

pub returns-clause-asked : goal.returns-clause-asked
returns-clause-asked c = c.match_words.ensures.asked c.in_ok-command.ensures

pub returns-clause-refused : goal.returns-clause-refused
returns-clause-refused c = c.match_words.ensures.refused c.in_ok-command.ensures
