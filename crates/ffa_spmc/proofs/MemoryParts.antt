-- SPDX-License-Identifier: MIT OR Apache-2.0
-- The parts of a manager that calls on memory work on.
use Rattle.ffa_memshare.specs.Memory.{Memory, MemoryParts, memory_of, memory_parts}
use Rattle.ffa_spmc.specs.Meaning.{Parts}

abbrev pub memory_in : Parts → Memory
memory_in x = memory_of x.ram x.kept.layout x.kept.pages

abbrev pub memory_parts_in : Parts → MemoryParts
memory_parts_in x = memory_parts x.ram x.kept.layout x.kept.pages x.kept.buffers x.kept.pool
