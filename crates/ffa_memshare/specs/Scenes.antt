-- SPDX-License-Identifier: MIT OR Apache-2.0
-- What the checks of a call whose descriptor stands in TX read, over the parts of the machine.
use Rattle.std.specs.Prelude.{ℕ, List, take, Option}
use Rattle.ffa_model.specs.Buffers.{buffers_in}
use Rattle.ffa_model.specs.DescriptorPlaces.{Versioned, in_version}
use Rattle.ffa_model.specs.Ram.{Ram}
use Rattle.ffa_model.specs.State.{Buffers}
use Rattle.ffa_model.specs.Transactions.{Scene}
use Rattle.ffa_rxtx.specs.Parts.{tx_in, ownership_in}
use Rattle.ffa_memshare.specs.declared.descriptor_call.DescriptorCall.{DescriptorCall}
use Rattle.ffa_memshare.specs.Memory.{MemoryParts}
use Rattle.ffa_memshare.specs.Stored.{open_in}

-- the first bytes of e's TX, as many as its descriptor has, in e's version
abbrev pub descriptor_in : Ram → List (Option Buffers) → ℕ → DescriptorCall → Versioned
descriptor_in ram buffers e x = in_version x.version (take x.transfer.total (tx_in ram (buffers_in buffers e)))

-- what the checks read
abbrev pub scene_in : MemoryParts → Scene
scene_in parts =
    record {
      endpoints = parts.memory.endpoints;
      ram = ownership_in parts.memory.entries parts.memory.base;
      normal = parts.memory.normal;
      buffers = parts.buffers;
      open_transactions = open_in parts.pool;
    }
