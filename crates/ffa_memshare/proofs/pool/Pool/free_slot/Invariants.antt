-- SPDX-License-Identifier: MIT OR Apache-2.0
use Rattle.std.proofs.Common.{◌≡◌, ◌*◌, ◌<◌, ◌≤◌, ℕ, Some}
use Rattle.ffa_model.specs.declared.limits.TheConstants.{MOST_OPEN}
use Rattle.ffa_model.specs.Identifiers.{place}
use Rattle.ffa_model.specs.State.{Transaction}
use Rattle.ffa_memshare.specs.Stored.{pool_slot}
use Rattle.ffa_memshare.proofs.pool.Pool.free_slot.Given as goal

-- the slots so far have transactions
abbrev pub invariant-loop-slot : goal.invariant-loop-slot
invariant-loop-slot g l = record {
  from : MOST_OPEN * place l.fn.sender.0 ≤ l.slot;
  taken : (k : ℕ) → MOST_OPEN * place l.fn.sender.0 ≤ k → k < l.slot → (x : ℕ × Transaction) × (pool_slot l.self.slots k ≡ Some x);
}
