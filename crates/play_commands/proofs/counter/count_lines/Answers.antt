-- SPDX-License-Identifier: MIT OR Apache-2.0
use Rattle.std.proofs.Common.{◌++◌, ◌∷◌, [], Ok, Err, ◌∙◌, subst, arith, length-append, refl}
use Rattle.std.proofs.lemmas.Result.{err_from_is_err_and}
use Rattle.ffa_playable.specs.Bench.{processors_of}
use Rattle.play_trace.specs.Lines.{meant}
use Rattle.play_player.specs.Forms.{line_text_in, plain}
use Rattle.play_player.specs.Reading.{TakesLine, TakesNext}
use Rattle.play_player.proofs.Follows.{followed_none, followed_more}
use Rattle.play_commands.specs.Counted.{tally_of}
use Rattle.play_commands.proofs.Tallies.{counted_more, counts_untaken}
use Rattle.play_commands.proofs.counter.count_lines.Goals as goal

pub loop-bytes-init : goal.loop-bytes-init
loop-bytes-init g c = ([], [], followed_none _ _ _, c.new-lines.ensures.number, c.new-lines.ensures.processors ∙ c.processors.ensures, refl)

pub returns-in_err-line : goal.returns-in_err-line
returns-in_err-line g c =
    let i = c.loop-bytes.invariant in
    let p = err_from_is_err_and c.from_residual.result c.from_residual.ensures.1 in
    rw (p.1, p.2) (counts_untaken _ _ _ _ i.0 i.1 i.2 _ _ i.5 c.in_err-line.field-0.0 c.loop-bytes.lines.number (g.R.Read.remaining c.next.new.reader) c.next.new.bytes.items i.3
    (subst (λ p. TakesLine p (g.R.Read.remaining c.loop-bytes.reader) (g.R.Read.remaining c.next.new.reader) c.next.new.bytes.items c.loop-bytes.lines.number (Err c.in_err-line.field-0.0)) i.4 c.in_err-line.ensures.taken))

pub loop-bytes-preserved : goal.loop-bytes-preserved
loop-bytes-preserved g c =
    let i = c.loop-bytes.invariant in
    let start = c.args.player.now.bench in
    let mid = c.loop-bytes.player.bench in
    let bytes = c.next.new.bytes.items in
    let one = subst (λ o. TakesNext (processors_of start) c.loop-bytes.lines.number c.next.new.self.number (g.R.Read.remaining c.loop-bytes.reader) (g.R.Read.remaining c.next.new.reader) bytes (Ok o)) c.in-Some.is
    (subst (λ p. TakesNext p c.loop-bytes.lines.number c.next.new.self.number (g.R.Read.remaining c.loop-bytes.reader) (g.R.Read.remaining c.next.new.reader) bytes (Ok c.in_ok-line.field-0)) i.4 c.in_ok-line.ensures.taken) in
    let its = meant c.in-Some.line in
    let number = c.loop-bytes.lines.number in (
      i.0 ++ bytes ∷ [],
      i.1 ++ line_text_in plain number mid its,
      followed_more _ _ _ _ _ i.0 i.1 i.2 number i.3 _ _ bytes its _ one.2.0 one.2.1 one.2.2 c.in_ok-count_line.ensures.state refl,
      omega (arith, i.3, one.1, length-append i.0 (bytes ∷ [])),
      c.in_ok-line.ensures.processors ∙ i.4,
      counted_more _ _ _ _ i.0 i.1 i.2 _ _ i.5 bytes its (tally_of c.count_line.new.counts) one.2.2 c.in_ok-count_line.ensures.counted,
    )
