-- SPDX-License-Identifier: MIT OR Apache-2.0
use Rattle.std.proofs.Common.{refl, arith}
use Rattle.std.proofs.lemmas.Bool.{both_ways, false≢true}
use Rattle.ffa_stage2.proofs.Lanes.{no_room, run_next, run_of}
use Rattle.ffa_stage2.proofs.runs.is_uniform.Goals as goal

pub returns-then-first : goal.returns-then-first
returns-then-first c =
    (λ no. absurd (false≢true no), λ h. absurd (no_room c.args.page.now c.read_u64-first.result c.fits-page c.read_u64-first.ensures (omega (arith, c.if-first.true)) h))

pub loop-run-preserved : goal.loop-run-preserved
loop-run-preserved c =
    run_next c.args.page.now c.loop-run.run c.read_u64-first.result c.read_u64-first.ensures (omega arith) (omega arith) c.loop-run.invariant (c.is_run.ensures.0 c.if-not-is_run.false)

pub returns-then-not-is_run : goal.returns-then-not-is_run
returns-then-not-is_run c = (
  λ no. absurd (false≢true no),
  λ h. absurd (both_ways _ c.if-not-is_run.true (c.is_run.ensures.1 (run_of c.args.page.now c.loop-run.run c.read_u64-first.result c.read_u64-first.ensures (omega arith) (omega arith) h))),
)

pub returns : goal.returns
returns c = (λ _ i hi. c.loop-run.invariant i (omega (arith, hi)), λ _. refl)
