-- SPDX-License-Identifier: MIT OR Apache-2.0
use Rattle.std.proofs.Common.{◌<◌, length, sym, ◌∙◌, arith, subst}
use Rattle.std.proofs.lemmas.Result.{err_from_is_err_and}
use Rattle.std.specs.Io.KnownBytes.{Appends}
use Rattle.play_trace.specs.Output.{TookFront}
use Rattle.play_trace.proofs.Fronts.{writes_failed}
use Rattle.play_player.proofs.ShowRuns.{runner_written, runner_failed, no_run, run_written, run_failed, all_shown}
use Rattle.play_player.proofs.show.write_show.Goals as goal
use Rattle.play_player.proofs.show.write_show.Goals.{then-ends_run+in_ok-write_text-2, else-ends_run}

pub returns-in_err-write_text : goal.returns-in_err-write_text
returns-in_err-write_text g c =
    let p = err_from_is_err_and c.from_residual.result c.from_residual.ensures.1 in
    rw (p.1, p.2) (writes_failed c.in_err-write_text.field-0.0 _ _ _ _ _ c.in_err-write_text.ensures
    (λ w. runner_failed _ _ _ (subst (TookFront _ _) (c.as_slice.ensures.value ∙ c.push_runner.ensures) w)))

pub loop-last-init : goal.loop-last-init
loop-last-init g c = record {
  order = omega arith;
  shown = runner_written _ _ _ (subst (Appends _ _) (c.as_slice.ensures.value ∙ c.push_runner.ensures) c.in_ok-write_text.ensures);
}

pub returns-in_err-write_text-2 : goal.returns-in_err-write_text-2
returns-in_err-write_text-2 g c =
    let p = err_from_is_err_and c.from_residual-in_err-write_text-2.result c.from_residual-in_err-write_text-2.ensures.1 in
    let inside : c.loop-last.last < length (g.P.Playable.bench c.args.machine.now).state.pages = omega (arith, c.ram_pages-last-end.ensures) in
    let ended = sym c.ends_run.ensures ∙ c.if-ends_run.true in
    rw (p.1, p.2) (writes_failed c.in_err-write_text-2.field-0.0 _ _ _ _ _ c.in_err-write_text-2.ensures
    (λ w. run_failed _ _ _ _ _ inside c.loop-last.invariant.shown _ ended (subst (TookFront _ _) (c.as_slice-then-ends_run.ensures.value ∙ c.push_run.ensures) w)))

pub loop-last-preserved : goal.loop-last-preserved
loop-last-preserved g c =
    let inside : c.loop-last.last < length (g.P.Playable.bench c.args.machine.now).state.pages = omega (arith, c.ram_pages-last-end.ensures) in
    elim c.if-ends_run.branch [
      | then-ends_run+in_ok-write_text-2 w ↦ record {
        order = omega (arith, w.first-is);
        shown = rw (w.writer-is, w.first-is) (run_written _ _ _ _ _ inside c.loop-last.invariant.shown _ (sym c.ends_run.ensures ∙ w.if-ends_run.true)
            (subst (Appends _ _) (w.as_slice-then-ends_run.ensures.value ∙ w.push_run.ensures) w.in_ok-write_text-2.ensures));
      }
      | else-ends_run w ↦ record {
        order = omega (arith, w.first-is);
        shown = rw (w.writer-is, w.first-is) (no_run _ _ _ _ _ inside c.loop-last.invariant.shown (sym c.ends_run.ensures ∙ w.if-ends_run.false));
      }
    ]

pub returns : goal.returns
returns g c =
    all_shown _ _ _ _ _ (omega (arith, c.ram_pages-last-end.ensures)) c.loop-last.invariant.shown
