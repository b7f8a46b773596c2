-- SPDX-License-Identifier: MIT OR Apache-2.0
use Rattle.std.proofs.Common.{arith}
use Rattle.play_trace.proofs.Digits.{fits_in}
use Rattle.play_trace.proofs.number.number_in.Goals as goal

pub returns-else-written-most-clause-fits : goal.returns-else-written-most-clause-fits
returns-else-written-most-clause-fits c = fits_in c.digits.result _ c.args.most c.digits.ensures.fits (omega (arith, c.if-written-most.false))
