-- SPDX-License-Identifier: MIT OR Apache-2.0
use Rattle.std.proofs.Common.{◌∙◌, ◌+◌, ◌<◌, ap, sym, length, get_or, arith, eq-eqb, ne_eqb}
use Rattle.ffa_manifest.proofs.TextPlaces.{column-begins, column-on, column-stays, line-ended, line-stays}
use Rattle.ffa_manifest.proofs.text_place.TextPlace.of.Goals as goal
use Rattle.ffa_manifest.proofs.text_place.TextPlace.of.Goals.{then-byte-eq10, else-byte-eq10+then-is_first_byte, else-byte-eq10+else-is_first_byte}

pub loop-index-preserved : goal.loop-index-preserved
loop-index-preserved c =
    let text = c.args.text.now in
    let i = c.loop-index.index in
    let within : i < length text = omega (arith, c.loop-index-test.true, c.requires) in
    let so_far = c.loop-index.invariant in
    elim c.if-byte-eq10.branch [
      | then-byte-eq10 w ↦ record {
        lines = omega (arith, w.line-is, so_far.lines);
        columns = omega (arith, w.column-is);
        line = w.line-is ∙ (ap (λ n. n + 1) so_far.line ∙ sym (line-ended text i within (eq-eqb (get_or text i 0) 10 w.if-byte-eq10.true)));
        column = w.column-is ∙ sym (column-begins text i within (eq-eqb (get_or text i 0) 10 w.if-byte-eq10.true));
      }
      | else-byte-eq10+then-is_first_byte w ↦ record {
        lines = omega (arith, w.line-is, so_far.lines);
        columns = omega (arith, w.column-is, so_far.columns);
        line = w.line-is ∙ (so_far.line ∙ sym (line-stays text i within (ne_eqb (get_or text i 0) 10 w.if-byte-eq10.false)));
        column = w.column-is
            ∙ (ap (λ n. n + 1) so_far.column
            ∙ sym (column-on text i within (ne_eqb (get_or text i 0) 10 w.if-byte-eq10.false) (sym w.is_first_byte.ensures ∙ w.if-is_first_byte.true)));
      }
      | else-byte-eq10+else-is_first_byte w ↦ record {
        lines = omega (arith, w.line-is, so_far.lines);
        columns = omega (arith, w.column-is, so_far.columns);
        line = w.line-is ∙ (so_far.line ∙ sym (line-stays text i within (ne_eqb (get_or text i 0) 10 w.if-byte-eq10.false)));
        column = w.column-is
            ∙ (so_far.column ∙ sym (column-stays text i within (ne_eqb (get_or text i 0) 10 w.if-byte-eq10.false) (sym w.is_first_byte.ensures ∙ w.if-is_first_byte.false)));
      }
    ]
