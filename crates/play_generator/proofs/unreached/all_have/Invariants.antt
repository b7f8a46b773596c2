-- SPDX-License-Identifier: MIT OR Apache-2.0
use Rattle.std.proofs.Common.{◌≡◌, ◌==◌, bit_and, true, take}
use Rattle.std.specs.List.{list_all}
use Rattle.play_generator.proofs.unreached.all_have.Given as goal

-- the endpoints so far
abbrev pub invariant-loop-endpoint : goal.invariant-loop-endpoint
invariant-loop-endpoint l =
    list_all (λ e. bit_and e.properties.0 l.wanted.0 == l.wanted.0) (take l.endpoint-index l.endpoints) ≡ true
