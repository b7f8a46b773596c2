-- SPDX-License-Identifier: MIT OR Apache-2.0
-- The parts of a machine that a call on memory works on.
use Rattle.std.specs.Prelude.{ℕ, List, Option}
use Rattle.arrayvec.specs.ArrayVec.{array_vec_len}
use Rattle.ffa_model.specs.declared.endpoint.Region.{Region}
use Rattle.ffa_model.specs.Ram.{Ram}
use Rattle.ffa_model.specs.State.{Buffers}
use Rattle.ffa_pages.specs.Entry.{Entry}
use Rattle.ffa_stage2.specs.declared.layout.Layout.{Layout}
use Rattle.ffa_stage2.specs.Layout.{normal_in}
use Rattle.ffa_memshare.specs.Stored.{Pooled}

-- RAM at an address, with the tables of this many endpoints over its blocks of 2 MiB from a page on, the entries of its pages, and which
-- regions are non-secure, where worlds are told apart
pub record Memory : Type 0 where
  pub ram : Ram
  pub base : ℕ
  pub endpoints : ℕ
  pub tables : ℕ
  pub blocks : ℕ
  pub entries : List (Option Entry)
  pub normal : Option (List Region)

abbrev pub memory_of : Ram → Layout → List (Option Entry) → Memory
memory_of ram layout entries =
    record {
      ram = ram;
      base = layout.base.0;
      endpoints = array_vec_len layout.regions;
      tables = layout.tables.0;
      blocks = layout.blocks;
      entries = entries;
      normal = normal_in layout;
    }

-- with the buffers of endpoints, and what is open.
-- In the pool's code, RAM, layout, pages and buffers are four parameters. With a struct of four borrows, each clause
-- would have to say that each borrow remains the same.
pub record MemoryParts : Type 0 where
  pub memory : Memory
  pub buffers : List (Option Buffers)
  pub pool : Pooled

abbrev pub memory_parts : Ram → Layout → List (Option Entry) → List (Option Buffers) → Pooled → MemoryParts
memory_parts ram layout entries buffers pool =
    record { memory = memory_of ram layout entries; buffers = buffers; pool = pool }
