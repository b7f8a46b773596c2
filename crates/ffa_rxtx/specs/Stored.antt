-- SPDX-License-Identifier: MIT OR Apache-2.0
-- FOR PROOFS ALONE
-- What the code stores, as clauses see it.
use Rattle.std.specs.Prelude.{List, map, Option, option_map}
use Rattle.ffa_model.specs.State.{Buffers}
use Rattle.ffa_rxtx.specs.declared.buffers.Mapped.{Mapped}

abbrev pub buffers_of : Mapped → Buffers
buffers_of mapped = record { tx = mapped.tx.0; rx = mapped.rx.0; pages = mapped.pages; full = mapped.is_full }

abbrev pub list_of : List (Option Mapped) → List (Option Buffers)
list_of entries = map (option_map buffers_of) entries
