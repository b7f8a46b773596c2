-- SPDX-License-Identifier: MIT OR Apache-2.0
use Rattle.std.proofs.Common.{subst, sym}
use Rattle.std.specs.Io.KnownBytes.{Appends}
use Rattle.play_generator.proofs.Growing.{wrote_text}
use Rattle.play_generator.proofs.writing.write_turn.Goals as goal

pub returns-clause-lines : goal.returns-clause-lines
returns-clause-lines g c =
    wrote_text _ _ _ _ _ (sym c.in_ok-count.ensures.count) c.in_ok-count.ensures.lines
    (subst (Appends (g.W.Write.contents c.args.out.now) (g.W.Write.contents c.write_text.new.out)) c.deref.ensures.value c.in_ok-write_text.ensures)
