-- SPDX-License-Identifier: MIT OR Apache-2.0
use Rattle.std.proofs.Common.{◌≡◌, ◌∙◌, ◌%◌, ◌/◌, None, sym, subst, arith}
use Rattle.std.specs.Option.{option_map}
use Rattle.std.specs.Prelude.{slice_index}
use Rattle.std.proofs.lemmas.Bool.Decides.{nat_tests}
use Rattle.ffa_model.specs.Bits.{high_half, low_half}
use Rattle.ffa_model.specs.declared.call.Call.TheVariants.{Run}
use Rattle.ffa_model.specs.declared.endpoint.EndpointId.{EndpointId}
use Rattle.ffa_model.specs.declared.function.TheConstants.{FFA_RUN}
use Rattle.ffa_model.specs.declared.operation.Op.{Op}
use Rattle.ffa_model.specs.Processors.{resumed_by, resumed_by_call}
use Rattle.ffa_model.specs.Registers.{low}
use Rattle.ffa_spmc.proofs.Readers.{resumes-named, resumes-none}
use Rattle.ffa_spmc.proofs.manager.Manager.resumed_by.Goals as goal

pub returns-then-low : goal.returns-then-low
returns-then-low g c =
    let s = c.args.self.now.state in
    subst (λ (o : Op). None ≡ resumed_by s o) (sym c.in-Call.is)
    (sym (resumes-none s _ (grind (arith, nat_tests, c.low.ensures, c.if-low.true))))

pub returns : goal.returns
returns g c =
    let s = c.args.self.now.state in
    let is : low (slice_index c.in-Call.x 0) ≡ FFA_RUN = grind (arith, nat_tests, c.low.ensures, c.if-low.false) in
    let word = c.low-word.result in
    let high : word / 0x10000 ≡ high_half word = omega (arith, c.low-word.type_inv) in
    let behind : word % 0x10000 ≡ low_half word = omega arith in
    let same : word ≡ low (slice_index c.in-Call.x 1) = c.low-word.ensures in
    subst (λ (o : Op). option_map (λ (e : EndpointId). e.0) c.resumed_by_run.result ≡ resumed_by s o) (sym c.in-Call.is)
    (c.resumed_by_run.ensures
    ∙ (λ t. resumed_by_call s (Run (record { 0 = high t }) (behind t)))
    ∙ (λ t. resumed_by_call s (Run (record { 0 = high_half (same t) }) (low_half (same t))))
    ∙ sym (resumes-named s c.in-Call.x is))
