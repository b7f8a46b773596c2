-- SPDX-License-Identifier: MIT OR Apache-2.0
use Rattle.std.proofs.Common.{◌++◌, ◌∷◌, [], Ok, Err, ◌∙◌, subst, arith, length-append}
use Rattle.std.proofs.lemmas.Result.{err_from_is_err_and}
use Rattle.ffa_playable.specs.Bench.{processors_of}
use Rattle.play_trace.specs.Lines.{meant}
use Rattle.play_player.specs.Reading.{TakesLine, TakesNext}
use Rattle.play_player.specs.declared.listening.Event.{Event}
use Rattle.play_player.proofs.Listens.{done_more, done_none, heard_more, untaken, unwritten}
use Rattle.play_player.proofs.listening.play.Goals as goal

pub loop-text-init : goal.loop-text-init
loop-text-init g c = ([], done_none _ _, c.requires, omega (arith, c.new-lines.ensures.number), c.new-lines.ensures.processors ∙ c.processors.ensures)

pub returns-in_err-number : goal.returns-in_err-number
returns-in_err-number g c =
    let i = c.loop-text.invariant in
    let has = g.R.Read.remaining c.loop-text.reader in
    let then = g.R.Read.remaining c.next.new.reader in
    let bytes = c.next.new.bytes.items in
    let error = c.in_err-number.field-0.0 in
    let taken = subst (λ p. TakesLine p has then bytes c.loop-text.lines.number (Err error)) i.4 c.in_err-number.ensures.taken in
    let p = err_from_is_err_and c.from_residual.result c.from_residual.ensures.1 in
    rw (p.1, p.2) (untaken g.L.Listener.heard _ _ _ has i.0 i.1 _ _ error then bytes c.loop-text.lines.number i.3 taken _ _ i.2)

pub loop-text-preserved : goal.loop-text-preserved
loop-text-preserved g c =
    let i = c.loop-text.invariant in
    let start = c.args.player.now.bench in
    let mid = c.loop-text.player.bench in
    let has = g.R.Read.remaining c.loop-text.reader in
    let then = g.R.Read.remaining c.next.new.reader in
    let bytes = c.next.new.bytes.items in
    let line = c.in-Some.line in
    let one = subst (λ o. TakesNext (processors_of start) c.loop-text.lines.number c.next.new.self.number has then bytes (Ok o)) c.in-Some.is
    (subst (λ p. TakesNext p c.loop-text.lines.number c.next.new.self.number has then bytes (Ok c.in_ok-number.field-0)) i.4 c.in_ok-number.ensures.taken) in
    let did = c.in_ok-outcome.ensures in
    let event : Event = record { number = c.in-Some.number; bytes = c.deref.result; line = line; outcome = c.in_ok-outcome.outcome; text = c.deref-in-Some.result } in
    let done = done_more _ _ _ _ i.0 i.1 c.do_line.new.player.bench then bytes (meant line) one.2.0 one.2.1 one.2.2 did.0 in
    let heard = heard_more g.L.Listener.heard _ _ _ _ i.0 i.1 _ _ c.do_line.new.player.bench event bytes c.deref.ensures.value (one.0 ∙ i.3) (omega (arith, one.0, one.1, c.in_ok-number.ensures.fits)) one.2.1 one.2.2 did.0 (c.deref-in-Some.ensures.value ∙ did.1) did.2 c.loop-text.listener c.hear.new.self _ _ i.2 (Ok c.in_ok-stop.field-0) c.in_ok-stop.ensures in (
      i.0 ++ bytes ∷ [],
      done,
      subst (λ o. g.L.Listener.heard start (i.0 ++ bytes ∷ []) c.args.listener.now c.hear.new.self (g.W.Write.contents c.args.out.now) (g.W.Write.contents c.hear.new.out) (Ok o)) c.in_default-2.is heard,
      omega (arith, i.3, one.1, length-append i.0 (bytes ∷ [])),
      c.in_ok-number.ensures.processors ∙ i.4,
    )

pub returns-in_err-stop : goal.returns-in_err-stop
returns-in_err-stop g c =
    let i = c.loop-text.invariant in
    let start = c.args.player.now.bench in
    let mid = c.loop-text.player.bench in
    let has = g.R.Read.remaining c.loop-text.reader in
    let then = g.R.Read.remaining c.next.new.reader in
    let bytes = c.next.new.bytes.items in
    let line = c.in-Some.line in
    let one = subst (λ o. TakesNext (processors_of start) c.loop-text.lines.number c.next.new.self.number has then bytes (Ok o)) c.in-Some.is
    (subst (λ p. TakesNext p c.loop-text.lines.number c.next.new.self.number has then bytes (Ok c.in_ok-number.field-0)) i.4 c.in_ok-number.ensures.taken) in
    let did = c.in_ok-outcome.ensures in
    let event : Event = record { number = c.in-Some.number; bytes = c.deref.result; line = line; outcome = c.in_ok-outcome.outcome; text = c.deref-in-Some.result } in
    let done = done_more _ _ _ _ i.0 i.1 c.do_line.new.player.bench then bytes (meant line) one.2.0 one.2.1 one.2.2 did.0 in
    let heard = heard_more g.L.Listener.heard _ _ _ _ i.0 i.1 _ _ c.do_line.new.player.bench event bytes c.deref.ensures.value (one.0 ∙ i.3) (omega (arith, one.0, one.1, c.in_ok-number.ensures.fits)) one.2.1 one.2.2 did.0 (c.deref-in-Some.ensures.value ∙ did.1) did.2 c.loop-text.listener c.hear.new.self _ _ i.2 (Err c.in_err-stop.field-0.0) c.in_err-stop.ensures in
    let p = err_from_is_err_and c.from_residual-in_err-stop.result c.from_residual-in_err-stop.ensures.1 in
    rw (p.1, p.2) (unwritten g.L.Listener.heard _ _ _ _ i.0 i.1 _ _ c.in_err-stop.field-0.0 _ then bytes done _ _ heard)

pub returns-in-Some-2 : goal.returns-in-Some-2
returns-in-Some-2 g c =
    let i = c.loop-text.invariant in
    let start = c.args.player.now.bench in
    let mid = c.loop-text.player.bench in
    let has = g.R.Read.remaining c.loop-text.reader in
    let then = g.R.Read.remaining c.next.new.reader in
    let bytes = c.next.new.bytes.items in
    let line = c.in-Some.line in
    let one = subst (λ o. TakesNext (processors_of start) c.loop-text.lines.number c.next.new.self.number has then bytes (Ok o)) c.in-Some.is
    (subst (λ p. TakesNext p c.loop-text.lines.number c.next.new.self.number has then bytes (Ok c.in_ok-number.field-0)) i.4 c.in_ok-number.ensures.taken) in
    let did = c.in_ok-outcome.ensures in
    let event : Event = record { number = c.in-Some.number; bytes = c.deref.result; line = line; outcome = c.in_ok-outcome.outcome; text = c.deref-in-Some.result } in
    let done = done_more _ _ _ _ i.0 i.1 c.do_line.new.player.bench then bytes (meant line) one.2.0 one.2.1 one.2.2 did.0 in
    let heard = heard_more g.L.Listener.heard _ _ _ _ i.0 i.1 _ _ c.do_line.new.player.bench event bytes c.deref.ensures.value (one.0 ∙ i.3) (omega (arith, one.0, one.1, c.in_ok-number.ensures.fits)) one.2.1 one.2.2 did.0 (c.deref-in-Some.ensures.value ∙ did.1) did.2 c.loop-text.listener c.hear.new.self _ _ i.2 (Ok c.in_ok-stop.field-0) c.in_ok-stop.ensures in
    (i.0, done, subst (λ o. g.L.Listener.heard start (i.0 ++ bytes ∷ []) c.args.listener.now c.hear.new.self (g.W.Write.contents c.args.out.now) (g.W.Write.contents c.hear.new.out) (Ok o)) c.in-Some-2.is heard)
