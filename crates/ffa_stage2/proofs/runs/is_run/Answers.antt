-- SPDX-License-Identifier: MIT OR Apache-2.0
use Rattle.ffa_stage2.proofs.Lanes.{lanes_run}
use Rattle.ffa_stage2.proofs.runs.is_run.Goals as goal

pub returns : goal.returns
returns c = lanes_run c.args.page.now c.args.at c.args.first c.requires c.type_inv.page
