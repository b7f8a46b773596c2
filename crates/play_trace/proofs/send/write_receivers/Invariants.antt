-- SPDX-License-Identifier: MIT OR Apache-2.0
use Rattle.std.proofs.Common.{◌≡◌, ℕ, ◌+◌, ◌++◌, ◌^◌, ◌<◌, List, take, length, get_or, flat_map}
use Rattle.ffa_model.specs.declared.transaction.Receiver.{Receiver}
use Rattle.ffa_model.specs.DescriptorPlaces.{accesses_size}
use Rattle.play_trace.specs.Composed.{receiver_bytes}
use Rattle.ffa_memdesc.specs.Writing.{Wrote}
use Rattle.play_trace.proofs.send.write_receivers.Given as goal

abbrev pub invariant-loop-i : goal.invariant-loop-i
invariant-loop-i l =
    (length l.page ≡ length l.fn.page)
    × (l.place ≡ l.at + accesses_size l.version l.i)
    × ((old front : List ℕ) → Wrote old front l.at l.fn.page → Wrote old (front ++ flat_map (receiver_bytes l.version l.composite) (take l.i l.receivers)) l.place l.page)
    × ((k : ℕ) → k < l.i → (d : Receiver) → (get_or l.receivers k d).endpoint.0 < 2 ^ 16)
