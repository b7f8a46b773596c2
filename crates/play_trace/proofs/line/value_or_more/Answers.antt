-- SPDX-License-Identifier: MIT OR Apache-2.0
use Rattle.std.proofs.Common.{sym}
use Rattle.play_trace.proofs.DigitTable.{tells_value, entry_few}
use Rattle.play_trace.proofs.line.value_or_more.Goals as goal

pub returns-clause-value : goal.returns-clause-value
returns-clause-value c = sym (tells_value c.args.byte c.ranges.byte.fits)

pub returns-clause-few : goal.returns-clause-few
returns-clause-few c = entry_few c.args.byte c.ranges.byte.fits
