-- SPDX-License-Identifier: MIT OR Apache-2.0
use Rattle.std.proofs.Common.{◌≡◌, ◌++◌, take, flat_map}
use Rattle.play_report.specs.Layouts.{region_line}
use Rattle.play_report.proofs.regions.put_endpoint.Given as goal

-- the lines of the regions so far
abbrev pub invariant-loop-region : goal.invariant-loop-region
invariant-loop-region l = l.text.items ≡ l.fn.text.items ++ flat_map (region_line l.place) (take l.region-index l.regions)
