-- SPDX-License-Identifier: MIT OR Apache-2.0
use Rattle.std.proofs.Common.{◌≡◌}
use Rattle.arrayvec.specs.ArrayVec.{array_vec_len}
use Rattle.ffa_model.specs.DescriptorPlaces.{in_version}
use Rattle.ffa_memdesc.specs.Reading.{is_receiver_after, receiver_after}
use Rattle.ffa_memdesc.proofs.Entries.{Passed}
use Rattle.ffa_memdesc.proofs.receivers.read_receivers.Given as goal

abbrev pub invariant-loop-i : goal.invariant-loop-i
invariant-loop-i g l =
    (array_vec_len l.receivers ≡ l.i) × Passed (receiver_after (in_version l.version (g.B.Bytes.bytes l.bytes)) l.header.array) (is_receiver_after l.kind l.header.sender.0 l.composite (in_version l.version (g.B.Bytes.bytes l.bytes)) l.header.array) l.i l.receivers.items
