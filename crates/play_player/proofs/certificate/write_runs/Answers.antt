-- SPDX-License-Identifier: MIT OR Apache-2.0
use Rattle.std.proofs.Common.{◌∙◌, sym, subst}
use Rattle.std.proofs.lemmas.Result.{err_from_is_err_and}
use Rattle.play_trace.specs.TraceText.{cert_run_text}
use Rattle.play_trace.specs.Output.{TookFront}
use Rattle.play_player.proofs.CertRuns.{parts_at}
use Rattle.play_trace.proofs.Fronts.{front_after, front_before, writes_failed}
use Rattle.play_player.proofs.certificate.write_runs.Goals as goal

pub returns-in_err-write_text : goal.returns-in_err-write_text
returns-in_err-write_text g c =
    let p = err_from_is_err_and c.from_residual.result c.from_residual.ensures.1 in
    rw (p.1, p.2) (writes_failed c.in_err-write_text.field-0.0 _ _ _ _ _ c.in_err-write_text.ensures
    (λ w. subst (TookFront _ _) (sym (parts_at (cert_run_text (g.P.Playable.bench c.args.machine.now).state) c.args.runs.now c.loop-run.run-index _ c.loop-run-test.true))
    (front_before _ _ _ _ (front_after _ _ _ _ _ c.loop-run.invariant (subst (TookFront _ _) (c.as_slice.ensures.value ∙ c.push_run.ensures) w)))))
