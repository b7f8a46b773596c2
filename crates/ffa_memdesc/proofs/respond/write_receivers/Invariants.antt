-- SPDX-License-Identifier: MIT OR Apache-2.0
use Rattle.std.proofs.Common.{◌≡◌, ◌+◌, ◌++◌, ℕ, List, length, map, take}
use Rattle.std.specs.List.{flat_map}
use Rattle.ffa_model.specs.DescriptorPlaces.{accesses_size, header_size}
use Rattle.ffa_model.specs.HypervisorRetrieve.{access_granted}
use Rattle.ffa_model.specs.ResponseBytes.{access_bytes}
use Rattle.ffa_memdesc.specs.Writing.{Wrote}
use Rattle.ffa_memdesc.proofs.respond.write_receivers.Given as goal

abbrev pub invariant-loop-i : goal.invariant-loop-i
invariant-loop-i l =
    (length l.out ≡ length l.fn.out)
    × ((old front : List ℕ) → Wrote old front (header_size l.version) l.fn.out
    → Wrote old (front ++ flat_map (access_bytes l.version (length l.receivers)) (map access_granted (take l.i l.receivers))) (header_size l.version + accesses_size l.version l.i) l.out)
