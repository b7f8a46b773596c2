-- SPDX-License-Identifier: MIT OR Apache-2.0
use Rattle.std.proofs.Common.{◌≡◌, ◌<◌, ℕ, true}
use Rattle.ffa_model.specs.DescriptorPlaces.{in_version}
use Rattle.ffa_model.specs.SendDescriptor.{is_named}
use Rattle.ffa_memdesc.specs.Reading.{named_after}
use Rattle.ffa_memdesc.proofs.names.are_names_known.Given as goal

abbrev pub invariant-loop-i : goal.invariant-loop-i
invariant-loop-i g l =
    (k : ℕ) → k < l.i → is_named (named_after (in_version l.version (g.B.Bytes.bytes l.bytes)) l.array k) l.receivers ≡ true
