-- SPDX-License-Identifier: MIT OR Apache-2.0
use Rattle.std.proofs.Common.{◌≡◌, ◌<◌, ℕ, false, eqb}
use Rattle.ffa_model.specs.DescriptorPlaces.{in_version}
use Rattle.ffa_memdesc.specs.Reading.{named_after}
use Rattle.ffa_memdesc.proofs.names.is_among_first.Given as goal

abbrev pub invariant-loop-i : goal.invariant-loop-i
invariant-loop-i g l =
    (k : ℕ) → k < l.i → eqb (named_after (in_version l.version (g.B.Bytes.bytes l.bytes)) l.array k) l.endpoint.0 ≡ false
