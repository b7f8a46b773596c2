-- SPDX-License-Identifier: MIT OR Apache-2.0
use Rattle.std.proofs.Common.{rules}
use Rattle.play_generator.proofs.counts.column_of_number.Goals as goal

pub returns-in-4294967292-clause-column : goal.returns-in-4294967292-clause-column
returns-in-4294967292-clause-column c = search rules
