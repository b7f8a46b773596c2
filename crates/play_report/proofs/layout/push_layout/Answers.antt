-- SPDX-License-Identifier: MIT OR Apache-2.0
use Rattle.std.proofs.Common.{[], ◌++◌, ap, ◌∙◌, arith}
use Rattle.ffa_manifest.specs.Document.{parts_of}
use Rattle.play_report.specs.Layouts.{endpoint_line, layout_line}
use Rattle.play_trace.proofs.Listed.{parts_more}
use Rattle.play_report.proofs.layout.push_layout.Goals as goal

pub loop-place-preserved : goal.loop-place-preserved
loop-place-preserved c = record {
  lines = parts_more (layout_line (parts_of c.args.manifest.now)) (λ place. place) c.loop-place.place [] c.loop-place.text.items _ c.loop-place.invariant.lines (c.push_endpoint.ensures.items ∙ ap (λ r. c.loop-place.text.items ++ endpoint_line c.loop-place.place r) (c.from.ensures ∙ c.root.ensures));
  room = omega (arith, c.push_endpoint.ensures.len, c.loop-place.invariant.room);
}
