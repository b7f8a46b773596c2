-- SPDX-License-Identifier: MIT OR Apache-2.0
use Rattle.std.proofs.Common.{◌∙◌, ℕ, ◌*◌, List, ◌++◌, ap, sym, subst}
use Rattle.std.specs.Prelude.{codes}
use Rattle.ffa_model.specs.Memory.{size_of}
use Rattle.play_trace.specs.TraceText.{hex, spaced, ended}
use Rattle.ffa_model.specs.declared.operation.Size.{Size}
use Rattle.play_trace.specs.Output.{Writes}
use Rattle.play_player.proofs.player.write_bytes.Goals as goal

-- the line of data of a size
abbrev data_line : ℕ → Size → List ℕ
data_line value size = ended (codes "data" ++ spaced (hex (2 * size_of size) value))

pub returns-in-B4 : goal.returns-in-B4
returns-in-B4 g c =
    let line = c.four_byte_line.ensures ∙ ap (data_line c.args.value) (sym c.in-B4.is) in
    subst (λ (text : List ℕ). Writes (g.W.Write.contents c.args.writer.now) (g.W.Write.contents c.write_text-in-B4.new.writer) text c.write_text-in-B4.result)
    line c.write_text-in-B4.ensures

pub returns-in-B8 : goal.returns-in-B8
returns-in-B8 g c =
    let line = c.eight_byte_line.ensures ∙ ap (data_line c.args.value) (sym c.in-B8.is) in
    subst (λ (text : List ℕ). Writes (g.W.Write.contents c.args.writer.now) (g.W.Write.contents c.write_text-in-B8.new.writer) text c.write_text-in-B8.result)
    line c.write_text-in-B8.ensures
