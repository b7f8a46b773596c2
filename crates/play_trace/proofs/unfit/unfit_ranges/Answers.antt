-- SPDX-License-Identifier: MIT OR Apache-2.0
use Rattle.play_trace.proofs.unfit.unfit_ranges.Goals as goal

pub returns : goal.returns
returns c = cc
