-- SPDX-License-Identifier: MIT OR Apache-2.0
use Rattle.ffa_laws.proofs.News.{silence}
use Rattle.ffa_laws.proofs.isolation.silence.Goals as goal

pub returns : goal.returns
returns c = silence
