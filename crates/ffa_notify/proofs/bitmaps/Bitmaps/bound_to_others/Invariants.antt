-- SPDX-License-Identifier: MIT OR Apache-2.0
use Rattle.std.proofs.Common.{◌≡◌, ◌<◌, ℕ}
use Rattle.std.specs.Prelude.{◌==◌, ◌&&◌, not}
use Rattle.std.specs.List.{list_any}
use Rattle.ffa_model.specs.Bits.{is_set}
use Rattle.ffa_model.specs.Identifiers.{identifier}
use Rattle.ffa_model.specs.Lists.{listed}
use Rattle.ffa_model.specs.Notifications.{class_of, is_bound}
use Rattle.ffa_notify.proofs.bitmaps.Bitmaps.bound_to_others.Given as goal

-- the bits of the endpoints so far
abbrev pub invariant-loop-place : goal.invariant-loop-place
invariant-loop-place l =
    (k : ℕ) → k < 64
    → is_set k l.bits ≡ list_any (λ f. not (f == l.sender.0) && is_bound l.self l.receiver.0 (class_of l.sender.0) k f) (listed l.place identifier)
