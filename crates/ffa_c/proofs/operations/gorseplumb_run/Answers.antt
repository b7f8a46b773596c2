-- SPDX-License-Identifier: MIT OR Apache-2.0
use Rattle.std.proofs.Common.{◌≡◌, ◌∙◌, ◌+◌, ◌<◌, arith, drop, length}
use Rattle.std.proofs.lemmas.List.{drop-set-lt, drop_more}
use Rattle.ffa_c.proofs.RunSteps.{run-taken}
use Rattle.ffa_c.proofs.operations.gorseplumb_run.Goals as goal

pub loop-place-preserved : goal.loop-place-preserved
loop-place-preserved c =
    let i = c.loop-place.place in
    let given = c.args.operations.now in
    let before = c.args.outcomes.now in
    let so_far = c.loop-place.outcomes in
    let told = c.do_given.result in
    let inside : i < length given = omega (arith, c.loop-place-test.true, c.min-count.ensures) in
    let place : i < length before = omega (arith, c.loop-place-test.true, c.min-count.ensures) in
    let room : i < length so_far = omega (arith, place, c.loop-place.auto.outcomes) in
    let behind : drop (i + 1) so_far ≡ drop (i + 1) before = cc (drop_more so_far i told room, drop_more before i told place, c.loop-place.invariant.rest) in
    record {
      run = run-taken c.args.machine.now.held.value c.loop-place.machine.held.value c.do_given.new.machine.held.value given so_far i _ told inside room c.loop-place.invariant.run c.do_given.ensures;
      rest = drop-set-lt (i + 1) so_far i told (omega arith) ∙ behind;
    }
