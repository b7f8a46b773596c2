-- SPDX-License-Identifier: MIT OR Apache-2.0
use Rattle.std.proofs.Common.{◌∙◌, ap}
use Rattle.ffa_mend.specs.Offered.{offered}
use Rattle.ffa_model.specs.State.{State}
use Rattle.ffa_reasons.proofs.telling.offered.Goals as goal

pub returns : goal.returns
returns g c = c.offered.ensures ∙ ap (λ (s : State). offered s c.args.endpoint.0 c.args.page.0) c.of.ensures
