-- SPDX-License-Identifier: MIT OR Apache-2.0
-- Lent memory, as its clauses see it.
use Rattle.std.specs.Prelude.{ℕ, List, ◌∷◌}
use Rattle.ffa_physmem.specs.FrameRam.{with_frame}
use Rattle.ffa_lent.specs.History.{Event}
use Rattle.ffa_lent.specs.declared.memory.Memory.{Memory}

-- the same memory with one more event
abbrev pub with_event : Memory → Event → Memory
with_event m e = record m { history = record { events = e ∷ m.history.events } }

-- the same memory with other bytes in one frame
abbrev pub with_frame_bytes : Memory → ℕ → List ℕ → Memory
with_frame_bytes m i bytes = record m { frames = with_frame m.frames i bytes }
