-- SPDX-License-Identifier: MIT OR Apache-2.0
use Rattle.std.proofs.Common.{◌∙◌, ap, refl, sym, set}
use Rattle.std.proofs.lemmas.Bool.{true≢false}
use Rattle.ffa_model.specs.Refusals.{is_error}
use Rattle.ffa_model.specs.Identifiers.{place}
use Rattle.ffa_model.specs.Setup.{ffa_version, is_served_version}
use Rattle.ffa_model.specs.State.{State}
use Rattle.ffa_spmc.specs.Managed.{Managed}
use Rattle.ffa_spmc.proofs.Inside.{parts_of}
use Rattle.ffa_spmc.proofs.Replied.{replied-beside, replied-still}
use Rattle.ffa_spmc.proofs.Versions.{machine-keeps, replied-kept, replied-refused}
use Rattle.ffa_spmc.proofs.manager.Manager.keep_version.Goals as goal

pub returns-then-not-is_served_version : goal.returns-then-not-is_served_version
returns-then-not-is_served_version g c =
    replied-still c.args.self.now (ffa_version c.args.self.now.state c.args.word) c.answer.result
    (replied-refused c.args.self.now.state c.args.word c.requires c.answer.result c.answer.ensures
    (sym c.is_served_version.ensures ∙ c.if-not-is_served_version.true))

pub invariant_of-self : goal.invariant_of-self
invariant_of-self g c =
    let x = parts_of g.M.PhysMem.ram c.self.inside in
    machine-keeps x c.args.word (ap (λ (seen : Managed). seen.state.ffa) c.self.view_is ∙ c.requires) c.keep.new.self
    (c.keep.ensures ∙ (λ i. set x.kept.versions (place (c.runner-runner.ensures.runner i)) (c.form_of-form.ensures i)))
    (ap (λ (seen : Managed). is_served_version seen.state c.args.word) c.self.view_is ∙ sym c.is_served_version.ensures ∙ c.if-not-is_served_version.false)
    c.self.invariant

pub returns : goal.returns
returns g c =
    let x = parts_of g.M.PhysMem.ram c.self.inside in
    replied-beside x (record x { kept = record x.kept { versions = c.keep.new.self } }) c.args.self.now c.self.view_is (λ (s : State). ffa_version s c.args.word) c.answer-2.result
    (replied-kept x c.args.word (ap (λ (seen : Managed). seen.state.ffa) c.self.view_is ∙ c.requires) c.keep.new.self
    (c.keep.ensures ∙ (λ i. set x.kept.versions (place (c.runner-runner.ensures.runner i)) (c.form_of-form.ensures i)))
    (ap (λ (seen : Managed). is_served_version seen.state c.args.word) c.self.view_is ∙ sym c.is_served_version.ensures ∙ c.if-not-is_served_version.false)
    c.answer-2.result c.answer-2.ensures)
    (λ error. absurd (true≢false (sym error ∙ ap is_error c.answer-2.ensures))) refl
