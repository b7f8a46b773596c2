-- SPDX-License-Identifier: MIT OR Apache-2.0
use Rattle.std.proofs.Common.{◌≡◌, ◌≤◌, ◌+◌, take}
use Rattle.ffa_manifest.specs.TextPlaces.{column_behind, line_behind}
use Rattle.ffa_manifest.proofs.text_place.TextPlace.of.Given as goal

-- line and column behind the bytes so far, of which there are as many at most
abbrev pub invariant-loop-index : goal.invariant-loop-index
invariant-loop-index l = record {
  lines : l.line ≤ l.index + 1;
  columns : l.column ≤ l.index + 1;
  line : l.line ≡ line_behind (take l.index l.text);
  column : l.column ≡ column_behind (take l.index l.text);
}
