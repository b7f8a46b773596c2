-- SPDX-License-Identifier: MIT OR Apache-2.0
use Rattle.play_report.proofs.telling.tell.Goals as goal

pub returns : goal.returns
returns g c = c.status.ensures
