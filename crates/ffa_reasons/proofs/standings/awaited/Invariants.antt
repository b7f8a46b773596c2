-- SPDX-License-Identifier: MIT OR Apache-2.0
use Rattle.std.proofs.Common.{◌≡◌, ℕ, ◌<◌, false}
use Rattle.ffa_model.specs.Identifiers.{identifier}
use Rattle.ffa_playable.specs.Standing.{is_asked_by}
use Rattle.ffa_reasons.proofs.standings.awaited.Given as goal

-- no endpoint so far works on the request
abbrev pub invariant-loop-place : goal.invariant-loop-place
invariant-loop-place l = (k : ℕ) → k < l.place → is_asked_by l.chain l.sender.0 (identifier k) ≡ false
