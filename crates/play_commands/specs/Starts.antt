-- SPDX-License-Identifier: MIT OR Apache-2.0
-- The machines on which tasks are done.
use Rattle.std.specs.Prelude.{ℕ, nat_le, Option, Some, None, if◌then◌else◌}
use Rattle.ffa_model.specs.First.{first}
use Rattle.ffa_model.specs.State.{State}
use Rattle.ffa_model.specs.declared.limits.TheConstants.{MOST_PROCESSORS}
use Rattle.ffa_model.specs.declared.manifest.Manifest.{Manifest}
use Rattle.ffa_playable.specs.Bench.{Bench, alone, run_by}

-- as many processors, where there is room for so many, and else as there is room for
abbrev pub processors_for : ℕ → ℕ
processors_for count = if nat_le count MOST_PROCESSORS then count else MOST_PROCESSORS

-- where a play of a machine in this state starts: so many processors run it, or one alone
abbrev pub begun_by : Option ℕ → State → Bench
begun_by None s = alone s
begun_by (Some count) s = run_by (processors_for count) s

-- where one of the machine of a manifest starts
abbrev pub start_of : Option ℕ → Manifest → Bench
start_of processors manifest =
    begun_by processors (first manifest.ffa manifest.ram_base.0 manifest.tables.0 manifest.ram_blocks manifest.endpoints.items)
