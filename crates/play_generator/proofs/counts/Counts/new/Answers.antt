-- SPDX-License-Identifier: MIT OR Apache-2.0
use Rattle.std.proofs.Common.{rules}
use Rattle.play_generator.proofs.counts.Counts.new.Goals as goal

pub returns : goal.returns
returns c = search rules
