-- SPDX-License-Identifier: MIT OR Apache-2.0
-- Who may change the bytes of a page.
use Rattle.std.specs.Prelude.{◌≡◌, ℕ, Bool, true, false, ◌&&◌, Some}
use Rattle.ffa_model.specs.declared.call.Call as calls
use Rattle.ffa_model.specs.declared.call.Call.TheVariants.{MemReclaim}
use Rattle.ffa_model.specs.Lists.{is_in_run}
use Rattle.ffa_model.specs.Numbers.{PageIndex}
use Rattle.ffa_model.specs.Rights.{may_store}
use Rattle.ffa_model.specs.State.{State, Buffers, buffers_of}
use Rattle.ffa_model.specs.Access.{access}
use Rattle.ffa_model.specs.Memory.{page_bytes}
use Rattle.ffa_model.specs.Step.{serve}
use Rattle.ffa_laws.specs.Isolation.{fills}
use Rattle.ffa_laws.specs.Move.{Move}

-- whether a call is FFA_MEM_RECLAIM
abbrev pub is_reclaim : calls.Call → Bool
is_reclaim (MemReclaim handle flags) = true
is_reclaim call = false

-- whether a move is a reclaim after which the actor may write to this page, which it may zero then
abbrev pub is_reclaimed : {Result : Type 0} → Move Result → PageIndex → Bool
is_reclaimed m p = m.asks is_reclaim && may_store (access m.after m.from.runner p)

-- A page keeps its bytes over a move where the actor may not write to it before, but for a page that the actor
-- reclaims and may write to after, and for an indirect message into its receiver's RX. So zeros, information and
-- responses go only into pages to which the actor may write already, and the zeros of a reclaim into pages that it
-- then may write to.
abbrev pub OnlyWriters : {Result : Type 0} → (State → Move Result) → State → Type 0
OnlyWriters m s =
    (p : ℕ) → may_store (access s (m s).from.runner p) ≡ false → is_reclaimed (m s) p ≡ false → ((e : ℕ) → fills (m s) e p ≡ false)
    → page_bytes (m s).after p ≡ page_bytes s p

-- a call changes no byte of its caller's TX
abbrev pub LeavesTx : State → calls.Call → Type 0
LeavesTx s call =
    (b : Buffers) (p : ℕ) → buffers_of s s.runner ≡ Some b → is_in_run b.tx b.pages p ≡ true
    → page_bytes (serve s call).state p ≡ page_bytes s p
