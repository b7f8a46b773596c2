-- SPDX-License-Identifier: MIT OR Apache-2.0
use Rattle.std.proofs.Common.{◌≡◌, ◌∙◌, ℕ, List, sym, ap, subst}
use Rattle.ffa_model.specs.declared.certificate.CertRun.{CertRun}
use Rattle.ffa_model.specs.Agreement.{roots_of}
use Rattle.ffa_model.specs.Certificate.{certificate}
use Rattle.ffa_model.specs.Certified.{IsCertified}
use Rattle.ffa_spmc.specs.Managed.{Managed}
use Rattle.ffa_spmc.specs.Meaning.{state_of}
use Rattle.ffa_spmc.proofs.Certificates.{own-certified}
use Rattle.ffa_spmc.proofs.Inside.{parts_of}
use Rattle.ffa_spmc.proofs.manager.Manager.audit.Goals as goal

pub returns-clause-own : goal.returns-clause-own
returns-clause-own g c is =
    let x = parts_of g.M.PhysMem.ram c.self.inside in
    let roots : c.as_slice.result.now ≡ roots_of (state_of x) =
    c.as_slice.ensures.value ∙ c.roots-roots.ensures.value ∙ sym (ap (λ (seen : Managed). roots_of seen.state) c.self.view_is)
    in
    let runs : c.args.runs.now ≡ certificate (state_of x) = is ∙ sym (ap (λ (seen : Managed). certificate seen.state) c.self.view_is) in
    c.audit.ensures.1
    (subst (λ (rs : List ℕ). IsCertified x.ram rs c.args.runs.now) (sym roots)
    (subst (λ (rs : List CertRun). IsCertified x.ram (roots_of (state_of x)) rs) (sym runs) (own-certified x c.self.invariant)))
