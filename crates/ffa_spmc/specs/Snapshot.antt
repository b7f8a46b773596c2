-- SPDX-License-Identifier: MIT OR Apache-2.0
-- What a contract sees of a machine: its state, its RAM with every byte, the leaves that its cache holds, what its RAM has been
-- through, and what it tells of access that changed.
use Rattle.std.specs.Prelude.{List, Option, refl}
use Rattle.std.specs.Coded.{Coded, code_by, coded×, coded_option}
use Rattle.ffa_model.specs.Ram.{Ram}
use Rattle.ffa_model.specs.State.{State}
use Rattle.ffa_model.specs.Codes.{coded_state}
use Rattle.ffa_memshare.specs.Codes.{coded_changed}
use Rattle.ffa_memshare.specs.declared.changed.Changed.{Changed}
use Rattle.ffa_physmem.specs.Codes.{coded_past, coded_ram}
use Rattle.ffa_physmem.specs.Moments.{Past, memory_of}
use Rattle.ffa_tlb.specs.Codes.{coded_entries}
use Rattle.ffa_tlb.specs.declared.translations.Entry.{Entry}
use Rattle.ffa_spmc.specs.Managed.{Managed}

pub record Snapshot : Type 0 where
  pub state : State
  pub ram : Ram
  pub held : List Entry
  pub past : Past
  pub told : Option Changed

-- the bytes of memory itself
abbrev pub memory_in : Snapshot → Ram
memory_in s = memory_of s.ram s.past

-- what a machine keeps: its manager, the leaves in its cache, and what it tells
abbrev pub snapshot_of : Managed → List Entry → Option Changed → Snapshot
snapshot_of m held told = record { state = m.state; ram = m.ram; held = held; past = m.past; told = told }

abbrev pub coded_snapshot : Coded Snapshot
coded_snapshot =
    code_by (State × (Ram × (List Entry × (Past × Option Changed))))
    (coded× coded_state (coded× coded_ram (coded× coded_entries (coded× coded_past (coded_option coded_changed)))))
    (λ s. (s.state, (s.ram, (s.held, (s.past, s.told)))))
    (λ p. record { state = p.0; ram = p.1.0; held = p.1.1.0; past = p.1.1.1.0; told = p.1.1.1.1 }) (λ _. refl)
