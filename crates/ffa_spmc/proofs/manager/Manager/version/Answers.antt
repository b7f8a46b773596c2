-- SPDX-License-Identifier: MIT OR Apache-2.0
use Rattle.std.proofs.Common.{◌∙◌}
use Rattle.ffa_spmc.proofs.Information.{version-seen}
use Rattle.ffa_spmc.proofs.Inside.{parts_of}
use Rattle.ffa_spmc.proofs.manager.Manager.version.Goals as goal

pub returns : goal.returns
returns g c =
    let x = parts_of g.M.PhysMem.ram c.self.inside in
    c.of_endpoint.ensures ∙ version-seen x c.args.self.now c.self.view_is c.runner.result.0 c.runner.ensures.runner
