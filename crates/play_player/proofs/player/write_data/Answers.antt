-- SPDX-License-Identifier: MIT OR Apache-2.0
use Rattle.std.proofs.Common.{ℕ, List, ap, sym, subst}
use Rattle.play_trace.specs.TraceText.{outcome_words, outcome_text}
use Rattle.ffa_model.specs.declared.operation.Op.{Op}
use Rattle.ffa_model.specs.declared.operation.Outcome.TheVariants.{Data}
use Rattle.play_trace.specs.Output.{Writes}
use Rattle.play_player.proofs.player.write_data.Goals as goal

pub returns-in-Fetch : goal.returns-in-Fetch
unfolding outcome_words
returns-in-Fetch g c =
    let line = ap (λ (op : Op). outcome_text op (Data c.args.value)) (sym c.in-Fetch.is) in
    subst (λ (text : List ℕ). Writes (g.W.Write.contents c.args.writer.now) (g.W.Write.contents c.write_bytes.new.writer) text c.write_bytes.result)
    line c.write_bytes.ensures
