-- SPDX-License-Identifier: MIT OR Apache-2.0
use Rattle.std.proofs.Common.{◌≡◌, ◌*◌, flat_map}
use Rattle.arrayvec.specs.ArrayVec.{array_vec_len}
use Rattle.ffa_model.specs.Lists.{listed}
use Rattle.ffa_manifest.specs.Document.{parts_of}
use Rattle.play_report.specs.Layouts.{layout_line}
use Rattle.play_report.proofs.layout.push_layout.Given as goal

-- the lines of the endpoints so far
abbrev pub invariant-loop-place : goal.invariant-loop-place
invariant-loop-place l = record {
  lines : l.text.items ≡ flat_map (layout_line (parts_of l.manifest)) (listed l.place (λ place. place));
  room : array_vec_len l.text ≡ 32 * l.place;
}
