-- SPDX-License-Identifier: MIT OR Apache-2.0
use Rattle.std.proofs.Common.{◌≡◌, ◌≢◌, vec_len, sym, ◌∙◌, arith, rules}
use Rattle.std.proofs.lemmas.Bool.{eqb-true, eqb-false}
use Rattle.std.proofs.lemmas.Result.{err_from_is_err_and}
use Rattle.play_player.proofs.Plays.{playing_none, block_more, block_failed, all_played, cut_short}
use Rattle.play_player.proofs.player.Player.play.Goals as goal

pub loop-init : goal.loop-init
loop-init g c = rw (c.new-begun.ensures.bytes, c.new-begun.ensures.number) (playing_none _ _ _)

pub returns-in_err-begun-in-Ok : goal.returns-in_err-begun-in-Ok
returns-in_err-begun-in-Ok g c =
    let p = err_from_is_err_and c.from_residual.result c.from_residual.ensures.1 in
    rw (p.1, p.2) (block_failed _ _ _ _ _ _ _ _ c.loop.invariant _ _ c.in_err-begun-in-Ok.field-0.0 _ _ c.in-Ok.ensures.bytes.0 c.in_err-begun-in-Ok.ensures.failed)

pub loop-preserved : goal.loop-preserved
loop-preserved g c = block_more _ _ _ _ _ _ _ _ c.loop.invariant _ _ _ _ _ _ c.in-Ok.ensures.bytes.0 c.in_ok-begun-in-Ok.ensures.fed

pub returns-in-Ok-eq0 : goal.returns-in-Ok-eq0
returns-in-Ok-eq0 g c =
    let none : vec_len c.loop.begun.bytes ≡ 0 = eqb-true _ _ (sym c.is_empty.ensures ∙ c.if-is_empty.true) in
    all_played _ _ _ _ _ _ _ _ c.loop.invariant _ c.in-Ok-eq0.field-0 c.read.new.buf c.in-Ok-eq0.field-0-test c.in-Ok-eq0.ensures.bytes.0 c.in-Ok-eq0.ensures.bytes.1
    (omega arith) (omega (arith, none, c.loop.begun.bytes.ok.0))

pub returns-in-Ok-eq0-2 : goal.returns-in-Ok-eq0-2
returns-in-Ok-eq0-2 g c =
    let some : vec_len c.loop.begun.bytes ≢ 0 = eqb-false _ _ (sym c.is_empty.ensures ∙ c.if-is_empty.false) in
    cut_short _ _ _ _ _ _ _ _ c.loop.invariant _ c.in-Ok-eq0.field-0 c.read.new.buf c.in-Ok-eq0.field-0-test c.in-Ok-eq0.ensures.bytes.0 c.in-Ok-eq0.ensures.bytes.1
    (omega arith) (omega (arith, some, c.loop.begun.bytes.ok.0))

pub returns-in-Err : goal.returns-in-Err
returns-in-Err g c = search rules
