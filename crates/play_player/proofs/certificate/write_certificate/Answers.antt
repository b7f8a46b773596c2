-- SPDX-License-Identifier: MIT OR Apache-2.0
use Rattle.std.proofs.Common.{◌≡◌, ◌∙◌, ◌++◌, length, ap}
use Rattle.std.specs.List.{flat_map, range_with_len}
use Rattle.std.proofs.lemmas.Result.{err_from_is_err_and}
use Rattle.play_trace.specs.TraceText.{root_text}
use Rattle.play_player.proofs.CertRuns.{head, head_failed, runs_failed, verdict_left}
use Rattle.play_trace.proofs.Fronts.{writes_failed}
use Rattle.play_player.proofs.certificate.write_certificate.Goals as goal

pub returns-in_err-write_text : goal.returns-in_err-write_text
returns-in_err-write_text g c =
    let s = (g.P.Playable.bench c.args.machine.now).state in
    let text : c.as_slice.result.now ≡ head s =
    c.as_slice.ensures.value ∙ c.push_roots.ensures ∙ ap (λ l. l ++ flat_map (root_text s) (range_with_len 0 (length s.parties))) c.push_cert.ensures.items
    in
    let p = err_from_is_err_and c.from_residual.result c.from_residual.ensures.1 in
    rw (p.1, p.2) (writes_failed c.in_err-write_text.field-0.0 _ _ _ _ _ c.in_err-write_text.ensures (head_failed s _ _ _ text))

pub returns-in_err-write_runs : goal.returns-in_err-write_runs
returns-in_err-write_runs g c =
    let s = (g.P.Playable.bench c.args.machine.now).state in
    let text : c.as_slice.result.now ≡ head s =
    c.as_slice.ensures.value ∙ c.push_roots.ensures ∙ ap (λ l. l ++ flat_map (root_text s) (range_with_len 0 (length s.parties))) c.push_cert.ensures.items
    in
    let p = err_from_is_err_and c.from_residual-in_err-write_runs.result c.from_residual-in_err-write_runs.ensures.1 in
    rw (p.1, p.2) (writes_failed c.in_err-write_runs.field-0.0 _ _ _ _ _ c.in_err-write_runs.ensures
    (runs_failed s _ _ _ text _ c.in_ok-write_text.ensures c.args.runs.now c.requires))

pub returns : goal.returns
returns g c =
    let s = (g.P.Playable.bench c.args.machine.now).state in
    let text : c.as_slice.result.now ≡ head s =
    c.as_slice.ensures.value ∙ c.push_roots.ensures ∙ ap (λ l. l ++ flat_map (root_text s) (range_with_len 0 (length s.parties))) c.push_cert.ensures.items
    in
    verdict_left s _ _ _ text _ c.in_ok-write_text.ensures c.args.runs.now c.requires _ c.verdict.result.now c.write_text-2.result
    c.in_ok-write_runs.ensures c.verdict.ensures c.write_text-2.ensures
