-- SPDX-License-Identifier: MIT OR Apache-2.0
use Rattle.std.proofs.Common.{◌∙◌, ap, sym}
use Rattle.ffa_model.specs.Setup.{ffa_version}
use Rattle.ffa_spmc.specs.Managed.{Managed}
use Rattle.ffa_spmc.proofs.Inside.{parts_of}
use Rattle.ffa_spmc.proofs.Replied.{replied-still}
use Rattle.ffa_spmc.proofs.Versions.{ffa-is, replied-still-so}
use Rattle.ffa_spmc.proofs.manager.Manager.ffa_version.Goals as goal

pub keep_version-requires : goal.keep_version-requires
keep_version-requires g c =
    let x = parts_of g.M.PhysMem.ram c.self.inside in
    sym (ap (λ (seen : Managed). seen.state.ffa) c.self.view_is) ∙ ffa-is x ∙ c.in-V1_2.is

pub returns-in-V1_1 : goal.returns-in-V1_1
returns-in-V1_1 g c =
    let x = parts_of g.M.PhysMem.ram c.self.inside in
    let ffa = sym (ap (λ (seen : Managed). seen.state.ffa) c.self.view_is) ∙ ffa-is x ∙ c.in-V1_1.is in
    replied-still c.args.self.now (ffa_version c.args.self.now.state c.args.word) c.version.result
    (replied-still-so c.args.self.now.state c.args.word c.version.result ffa c.version.ensures)
