-- SPDX-License-Identifier: MIT OR Apache-2.0
use Rattle.std.proofs.Common.{◌≡◌, ◌∙◌, [], true, Some, ap, arith, subst, sym}
use Rattle.std.specs.Prelude.{if◌then◌else◌}
use Rattle.ffa_model.specs.Agreement.{roots_of}
use Rattle.ffa_model.specs.Certificate.{certificate}
use Rattle.ffa_model.specs.Certified.{IsCertified}
use Rattle.ffa_c.specs.Audit.{all_given, run_given}
use Rattle.ffa_c.proofs.Audits.{own-again, runs-again}
use Rattle.ffa_c.proofs.audit.audit_board.Goals as goal

pub returns-in-Ok-Some-clause-own : goal.returns-in-Ok-Some-clause-own
returns-in-Ok-Some-clause-own c is says =
    let s = c.args.board.now.machine in
    let runs = c.in-Ok-Some.runs.items in
    let told : all_given run_given [] c.args.given.now ≡ Some runs = sym (rw c.in-Ok-Some.field-0-is at c.in-Ok-Some.ensures) in
    let certified : IsCertified s.ram (roots_of s.state) runs = own-again s.ram s.state c.audit.ensures.agrees c.audit.ensures.few c.args.given.now runs is told in
    let yes : c.audit.result ≡ true = c.audit.ensures.certified.1 (subst (IsCertified s.ram (roots_of s.state)) (sym c.as_slice.ensures.value) certified) in
    let ok : c.answer_of.result ≡ 0 = c.answer_of.ensures ∙ ap (λ b. if b then 0 else 21) yes in
    absurd (omega (arith, ok, says))

pub returns-in-Ok-None-clause-own : goal.returns-in-Ok-None-clause-own
returns-in-Ok-None-clause-own c is _ =
    cc (rw c.in-Ok-None.field-0-is at c.in-Ok-None.ensures, runs-again (certificate c.args.board.now.machine.state))
