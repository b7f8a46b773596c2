-- SPDX-License-Identifier: MIT OR Apache-2.0
use Rattle.std.proofs.Common.{◌≡◌, ◌<◌, ℕ, None}
use Rattle.ffa_model.specs.DescriptorPlaces.{in_version}
use Rattle.ffa_memdesc.specs.Reading.{naming_flaw_at}
use Rattle.ffa_memdesc.proofs.names.check_each_name.Given as goal

abbrev pub invariant-loop-i : goal.invariant-loop-i
invariant-loop-i g l =
    (k : ℕ) → k < l.i → None ≡ naming_flaw_at (in_version l.version (g.B.Bytes.bytes l.bytes)) l.header.array k
