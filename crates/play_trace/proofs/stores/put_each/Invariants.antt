-- SPDX-License-Identifier: MIT OR Apache-2.0
use Rattle.std.proofs.Common.{ℕ, ◌+◌, ◌^◌, ◌<◌, ◌≤◌, length, get_or}
use Rattle.play_trace.proofs.Storing.{IsReady, Storing}
use Rattle.play_trace.proofs.stores.put_each.Given as goal

abbrev pub invariant-loop-rest : goal.invariant-loop-rest
invariant-loop-rest g l = record {
  stored : Storing l.fn.address l.addr l.fn.bytes l.rest l.fn.text.items l.text.items;
  ready : IsReady l.addr (length l.rest);
  small : (k : ℕ) → get_or l.rest k 0 < 256;
  inside : l.addr + length l.rest ≤ 2 ^ 32;
}

abbrev pub decreases-loop-rest : goal.decreases-loop-rest
decreases-loop-rest g l = length l.rest
