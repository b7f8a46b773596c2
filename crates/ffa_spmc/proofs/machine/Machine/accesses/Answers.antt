-- SPDX-License-Identifier: MIT OR Apache-2.0
use Rattle.std.proofs.Common.{◌∙◌, ap}
use Rattle.std.specs.Prelude.{slice_set}
use Rattle.ffa_model.specs.Access.{access}
use Rattle.ffa_spmc.proofs.Certificates.{accesses-more}
use Rattle.ffa_spmc.proofs.machine.Machine.accesses.Goals as goal

pub loop-place-preserved : goal.loop-place-preserved
loop-place-preserved g c =
    ap (λ accesses. slice_set accesses c.loop-place.place c.access.result) c.loop-place.invariant
    ∙ accesses-more c.args.self.now.state c.args.page.0 c.loop-place.place c.access.result
    (c.access.ensures ∙ ap (λ e. access c.args.self.now.state e c.args.page.0) c.at.ensures)
