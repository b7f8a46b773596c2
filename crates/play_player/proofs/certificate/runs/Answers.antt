-- SPDX-License-Identifier: MIT OR Apache-2.0
use Rattle.std.proofs.Common.{◌≡◌, ◌∙◌, ℕ, ◌+◌, ◌-◌, ◌<◌, List, [], ◌∷◌, ◌++◌, length, sym, ap, arith, append_assoc, append-nil, length-append}
use Rattle.ffa_model.specs.declared.certificate.CertRun.{CertRun}
use Rattle.ffa_model.specs.Certificate.{run_from, runs_from}
use Rattle.play_player.proofs.CertRuns.{runs_begin, runs_on, runs_over}
use Rattle.play_player.proofs.certificate.runs.Goals as goal

pub loop-from-init : goal.loop-from-init
loop-from-init g c =
    let s = (g.P.Playable.bench c.args.machine.now).state in
    let all : length s.pages - 0 ≡ length s.pages = omega arith in
    record {
      passed = omega (arith, ap length c.new-runs.ensures.items);
      inside = omega arith;
      all =
          runs_begin s ∙ sym (ap (runs_from s 0) all)
          ∙ sym (ap (λ (rs : List CertRun). rs ++ runs_from s 0 (length s.pages - length rs)) c.new-runs.ensures.items);
    }

pub overflow_add-from : goal.overflow_add-from
overflow_add-from g c =
    let s = (g.P.Playable.bench c.args.machine.now).state in
    let size = c.ram_pages-pages.ensures in
    omega (arith, c.cert_run-run.ensures.run.inside, size, c.ram_pages-pages.type_inv)

pub loop-from-smaller : goal.loop-from-smaller
loop-from-smaller g c =
    let s = (g.P.Playable.bench c.args.machine.now).state in
    let size = c.ram_pages-pages.ensures in
    let lt : c.loop-from.from < length s.pages = omega (arith, c.loop-from-test.true, size) in
    omega (arith, c.cert_run-run.ensures.run.order, lt)

pub loop-from-preserved : goal.loop-from-preserved
loop-from-preserved g c =
    let s = (g.P.Playable.bench c.args.machine.now).state in
    let runs = c.loop-from.runs.items in
    let run = c.cert_run-run.result in
    let size = c.ram_pages-pages.ensures in
    let lt : c.loop-from.from < length s.pages = omega (arith, c.loop-from-test.true, size) in
    let items : c.push.new.self.items ≡ runs ++ run ∷ [] = c.in_ok-push.ensures.items in
    let len : length runs + 1 ≡ length c.push.new.self.items = omega (arith, ap length items, length-append runs (run ∷ [])) in
    record {
      passed = omega (arith, len, c.loop-from.invariant.passed, c.cert_run-run.ensures.run.order);
      inside = omega (arith, c.cert_run-run.ensures.run.inside);
      all =
          c.loop-from.invariant.all
          ∙ ap (λ rs. runs ++ rs) (runs_on s c.loop-from.from (length runs) lt c.loop-from.invariant.passed)
          ∙ sym (append_assoc runs (run_from s c.loop-from.from ∷ []) (runs_from s ((run_from s c.loop-from.from).last.0 + 1) (length s.pages - (length runs + 1))))
          ∙ ap (λ (r : CertRun). (runs ++ r ∷ []) ++ runs_from s (r.last.0 + 1) (length s.pages - (length runs + 1))) (sym c.cert_run-run.ensures.computed)
          ∙ ap (λ (n : ℕ). (runs ++ run ∷ []) ++ runs_from s (run.last.0 + 1) (length s.pages - n)) len
          ∙ ap (λ (rs : List CertRun). rs ++ runs_from s (run.last.0 + 1) (length s.pages - length c.push.new.self.items)) (sym items);
    }

pub returns : goal.returns
returns g c =
    let s = (g.P.Playable.bench c.args.machine.now).state in
    let size = c.ram_pages-pages.ensures in
    sym (c.loop-from.invariant.all ∙ ap (λ rs. c.loop-from.runs.items ++ rs) (runs_over s c.loop-from.from _ (omega (arith, c.loop-from-test.false, size))) ∙ append-nil c.loop-from.runs.items)
