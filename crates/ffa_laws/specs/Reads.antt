-- SPDX-License-Identifier: MIT OR Apache-2.0
-- Which bytes of memory an operation depends on: it reads these and no other.
use Rattle.std.specs.Prelude.{◌≡◌, ⊤, ℕ, ◌+◌, ◌*◌, ◌/◌, Bool, nat_lt, length, take, if◌then◌else◌}
use Rattle.std.specs.Option.{option_map_or}
use Rattle.ffa_model.specs.declared.call.Call as calls
use Rattle.ffa_model.specs.declared.call.Call.TheVariants.{MemDonate, MemLend, MemShare, MemRetrieve, MemRelinquish, MsgSend2}
use Rattle.ffa_model.specs.declared.operation.Op.{Op}
use Rattle.ffa_model.specs.declared.operation.Op.TheVariants.{Call, Load, Store, Fetch}
use Rattle.ffa_model.specs.Numbers.{PageIndex}
use Rattle.ffa_model.specs.Memory.{number_at, page_bytes, size_of}
use Rattle.ffa_model.specs.Messages.{tx_bytes}
use Rattle.ffa_model.specs.Registers.{decode}
use Rattle.ffa_model.specs.SoundState.{IsSoundState}
use Rattle.ffa_model.specs.State.{State, Buffers, buffers_of}
use Rattle.ffa_model.specs.Step.{step}
use Rattle.ffa_laws.specs.Readable.{blank}

-- how many bytes of a TX of so many a call reads, its first ones: those of its descriptor, whose length is in w1 or always the
-- same, and for a message all
abbrev pub bytes_read : calls.Call → ℕ → ℕ
bytes_read MsgSend2 room = room
bytes_read (MemDonate x) room = x.total
bytes_read (MemLend x) room = x.total
bytes_read (MemShare x) room = x.total
bytes_read (MemRetrieve x) room = x.total
bytes_read MemRelinquish room = 18
bytes_read call room = 0

-- how many pages hold so many bytes, but no more than there are
abbrev pub pages_holding : ℕ → ℕ → ℕ
pages_holding pages bytes = if nat_lt pages ((bytes + 4095) / 4096) then pages else (bytes + 4095) / 4096

-- how many pages of a TX a call reads, its first ones
abbrev pub tx_pages_read : Buffers → calls.Call → ℕ
tx_pages_read b call = pages_holding b.pages (bytes_read call (4096 * b.pages))

-- how many bytes of its TX a call of the runner reads, its first ones
abbrev pub tx_bytes_read : State → calls.Call → ℕ
tx_bytes_read s call = option_map_or (λ (b : Buffers). bytes_read call (4096 * b.pages)) (buffers_of s s.runner) 0

-- two states have the same first bytes in the runner's TX
abbrev pub HaveInTx : State → State → ℕ → Type 0
HaveInTx s t count = take count (tx_bytes t s.runner) ≡ take count (tx_bytes s s.runner)

-- what an operation of the runner reads is the same in two states: for a call these bytes of its TX, for a load and a fetch
-- what stands at the address
abbrev pub AreReadSame : State → State → Op → Type 0
AreReadSame s t (Call x) = HaveInTx s t (tx_bytes_read s (decode x))
AreReadSame s t (Load address size) = number_at t address (size_of size) ≡ number_at s address (size_of size)
AreReadSame s t (Store address size value) = ⊤
AreReadSame s t (Fetch address) = number_at t address 4 ≡ number_at s address 4

-- two states differ at most in the bytes of pages that are named, of which each has as many
pub record AreBeside (s t : State) (named : PageIndex → Bool) : Type 0 where
  pub same : blank named s ≡ blank named t
  pub whole : (p : ℕ) → length (page_bytes t p) ≡ length (page_bytes s p)

-- An operation reads no other byte: from another sound state, with other bytes that it doesn't read, it has the same
-- outcome, and leaves a state with other bytes in the same pages at most.
pub record ReadsNoMore (s : State) (op : Op) : Type 0 where
  pub outcome :
      (t : State) (named : PageIndex → Bool) → IsSoundState t → AreBeside s t named → AreReadSame s t op
      → (step t op).outcome ≡ (step s op).outcome
  pub state :
      (t : State) (named : PageIndex → Bool) → IsSoundState t → AreBeside s t named → AreReadSame s t op
      → AreBeside (step s op).state (step t op).state named
