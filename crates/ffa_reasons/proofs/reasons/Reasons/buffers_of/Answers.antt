-- SPDX-License-Identifier: MIT OR Apache-2.0
use Rattle.std.proofs.Common.{◌∙◌}
use Rattle.std.specs.Option.{option_map}
use Rattle.ffa_model.specs.First.{first}
use Rattle.ffa_model.specs.State.{State, buffers_of}
use Rattle.ffa_rxtx.specs.Stored as kept
use Rattle.ffa_reasons.proofs.Told.{seen-in}
use Rattle.ffa_spmc.specs.Lent.{lent_parts}
use Rattle.ffa_reasons.proofs.reasons.Reasons.buffers_of.Goals as goal

pub returns : goal.returns
unfolding first
returns g c =
    let x = lent_parts g.M.PhysMem.ram c.self.inside.parts in
    let view = c.self.invariant.state ∙ c.self.view_is in
    seen-in x c.args.self.now view (λ (s : State). buffers_of s c.args.endpoint.0) (option_map kept.buffers_of c.of.result) c.of.ensures
