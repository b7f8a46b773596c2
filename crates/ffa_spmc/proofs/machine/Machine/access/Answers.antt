-- SPDX-License-Identifier: MIT OR Apache-2.0
use Rattle.std.proofs.Common.{◌∙◌, ap}
use Rattle.ffa_model.specs.Access.{access}
use Rattle.ffa_spmc.specs.Snapshot.{Snapshot}
use Rattle.ffa_spmc.proofs.machine.Machine.access.Goals as goal

pub returns : goal.returns
returns g c = c.access.ensures ∙ ap (λ (seen : Snapshot). access seen.state c.args.endpoint.0 c.args.page.0) c.self.view_is
