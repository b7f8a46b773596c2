-- SPDX-License-Identifier: MIT OR Apache-2.0
-- FFA_MEM_RELINQUISH, by which a receiver gives up what it holds, and FFA_MEM_RECLAIM, by which the sender ends the
-- transaction (DEN0077A, 5 and 16).
use Rattle.std.specs.Prelude.{ℕ, ◌==◌, Bool, false, not, ◌&&◌, ◌||◌, nat_le, is_some, is_none, List, [], ◌∷◌, Option, Some, None}
use Rattle.std.specs.List.{list_all}
use Rattle.std.specs.FinMap as map
use Rattle.ffa_model.specs.declared.refusal.Refusal.{Refusal}
use Rattle.ffa_model.specs.declared.refusal.Refusal.TheVariants.{EndpointIsAnother, NotOffered, NotHeld, ZerosNotAllowed, DescriptorMalformed, BuffersMissing, FlagsReserved, NotTheSenders, StillHeld, ZerosUnwritable}
use Rattle.ffa_model.specs.declared.descriptor.RelinquishDesc.{RelinquishDesc}
use Rattle.ffa_model.specs.declared.transaction.Range.{Range}
use Rattle.ffa_model.specs.declared.transaction.Receiver.{Receiver}
use Rattle.ffa_model.specs.Numbers.{HandleNumber, Identifier}
use Rattle.ffa_model.specs.Bits.{is_set}
use Rattle.ffa_model.specs.Rights.{is_lend, may_store}
use Rattle.ffa_model.specs.State.{State, Transaction, Buffers, transaction_of, buffers_of}
use Rattle.ffa_model.specs.Access.{Ownership, ownership_of, is_from, is_offered, is_held_by, held_by}
use Rattle.ffa_model.specs.Memory.{zeroed_if}
use Rattle.ffa_model.specs.Messages.{tx_bytes}
use Rattle.ffa_model.specs.RelinquishDescriptor.{relinquish_of}
use Rattle.ffa_model.specs.Transactions.{OpenTransactions, are_writable, closed, not_holding, with_transaction, open_of, with_open}
use Rattle.ffa_model.specs.Calls.{Service, success}

-- FFA_MEM_RELINQUISH

-- whether e may zero the pages: it holds a lend, and may write to them
abbrev pub is_zeroable : Identifier → Option Transaction → Bool
is_zeroable e None = false
is_zeroable e (Some t) = is_lend t.kind && may_store (held_by t e)

-- the checks of the transaction that e gives up, in order
abbrev pub holder_guards : Identifier → RelinquishDesc → Option Transaction → List (Bool × Refusal)
holder_guards e d t =
    (d.endpoint.0 == e, EndpointIsAnother)
    ∷ (is_offered e t, NotOffered)
    ∷ (is_held_by e t, NotHeld)
    ∷ (not d.zero || is_zeroable e t, ZerosNotAllowed)
    ∷ []

abbrev pub returned_guards : OpenTransactions → Identifier → Option RelinquishDesc → List (Bool × Refusal)
returned_guards open_transactions e None = (false, DescriptorMalformed) ∷ []
returned_guards open_transactions e (Some d) = holder_guards e d (map.get open_transactions.transactions d.handle)

-- the checks of an e with these buffers in order, with what the descriptor says, or None where the bytes are none
abbrev pub relinquish_guards : Option Buffers → OpenTransactions → Identifier → Option RelinquishDesc
    → List (Bool × Refusal)
relinquish_guards own open_transactions e d = (is_some own, BuffersMissing) ∷ returned_guards open_transactions e d

abbrev pub relinquished_from : State → RelinquishDesc → Option Transaction → State
relinquished_from s d None = s
relinquished_from s d (Some t) =
    zeroed_if d.zero (with_open s (with_transaction (open_of s) d.handle (not_holding t s.runner))) t.ranges

abbrev pub relinquished : State → Option RelinquishDesc → State
relinquished s None = s
relinquished s (Some d) = relinquished_from s d (transaction_of s d.handle)

-- what stands in the runner's TX
abbrev pub relinquish_read : State → Option RelinquishDesc
relinquish_read s = relinquish_of (tx_bytes s s.runner)

abbrev pub memory_relinquish : State → Service
memory_relinquish s =
    record {
      guards = relinquish_guards (buffers_of s s.runner) (open_of s) s.runner (relinquish_read s);
      state = relinquished s (relinquish_read s);
      reply = success 0 0;
    }

-- FFA_MEM_RECLAIM

-- whether no receiver holds the transaction
abbrev pub is_unheld : Option Transaction → Bool
is_unheld None = false
is_unheld (Some t) = list_all (λ (r : Receiver). is_none (held_by t r.endpoint.0)) t.receivers

abbrev pub named_ranges : Option Transaction → List Range
named_ranges None = []
named_ranges (Some t) = t.ranges

-- the checks of a reclaim by e in order, of the transaction of the handle, if it is open
abbrev pub reclaim_guards : Ownership → Identifier → ℕ → Option Transaction → List (Bool × Refusal)
reclaim_guards ram e flags t =
    (nat_le flags 1, FlagsReserved)
    ∷ (is_from e t, NotTheSenders)
    ∷ (is_unheld t, StillHeld)
    ∷ (not (is_set 0 flags) || are_writable ram (named_ranges t), ZerosUnwritable)
    ∷ []

abbrev pub reclaimed : State → HandleNumber → Bool → State
reclaimed s h zero = zeroed_if zero (with_open s (closed (open_of s) h)) (named_ranges (transaction_of s h))

abbrev pub memory_reclaim : State → HandleNumber → ℕ → Service
memory_reclaim s handle flags =
    record {
      guards = reclaim_guards (ownership_of s) s.runner flags (transaction_of s handle);
      state = reclaimed s handle (is_set 0 flags);
      reply = success 0 0;
    }
