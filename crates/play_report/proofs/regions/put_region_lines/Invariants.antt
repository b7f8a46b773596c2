-- SPDX-License-Identifier: MIT OR Apache-2.0
use Rattle.std.proofs.Common.{◌≡◌, ◌++◌, flat_map}
use Rattle.ffa_model.specs.Lists.{listed}
use Rattle.ffa_manifest.specs.Document.{parts_of}
use Rattle.play_report.specs.Layouts.{endpoint_regions}
use Rattle.play_report.proofs.regions.put_region_lines.Given as goal

-- the lines of the endpoints so far
abbrev pub invariant-loop-place : goal.invariant-loop-place
invariant-loop-place l = l.text.items ≡ l.fn.text.items ++ flat_map (endpoint_regions (parts_of l.manifest)) (listed l.place (λ place. place))
