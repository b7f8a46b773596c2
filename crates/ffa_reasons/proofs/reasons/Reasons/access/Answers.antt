-- SPDX-License-Identifier: MIT OR Apache-2.0
use Rattle.std.proofs.Common.{◌∙◌, ap}
use Rattle.ffa_model.specs.Access.{access}
use Rattle.ffa_model.specs.State.{State}
use Rattle.ffa_reasons.proofs.reasons.Reasons.access.Goals as goal

pub returns : goal.returns
returns g c = c.access.ensures ∙ ap (λ (s : State). access s c.args.endpoint.0 c.args.page.0) c.self.view_is
