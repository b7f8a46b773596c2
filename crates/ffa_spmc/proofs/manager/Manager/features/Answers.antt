-- SPDX-License-Identifier: MIT OR Apache-2.0
use Rattle.std.proofs.Common.{◌≡◌, ◌∙◌, ap, sym}
use Rattle.ffa_model.specs.Setup.{features_reply}
use Rattle.ffa_model.specs.State.{version_of}
use Rattle.ffa_spmc.specs.Managed.{Managed}
use Rattle.ffa_spmc.proofs.Inside.{parts_of}
use Rattle.ffa_spmc.proofs.Versions.{ffa-is}
use Rattle.ffa_spmc.proofs.manager.Manager.features.Goals as goal

pub returns : goal.returns
returns g c =
    let x = parts_of g.M.PhysMem.ram c.self.inside in
    let s = c.args.self.now.state in
    let runner : c.runner-runner.result.0 ≡ s.runner = c.runner-runner.ensures.runner ∙ ap (λ (seen : Managed). seen.state.runner) c.self.view_is in
    c.features.ensures
    ∙ ap (λ e. features_reply x.manifest.ffa e c.version.result c.args.function) runner
    ∙ ap (λ version. features_reply x.manifest.ffa s.runner version c.args.function) c.version.ensures
    ∙ ap (λ ffa. features_reply ffa s.runner (version_of s s.runner) c.args.function) (sym (ffa-is x))
    ∙ ap (λ (seen : Managed). features_reply seen.state.ffa s.runner (version_of s s.runner) c.args.function) c.self.view_is
