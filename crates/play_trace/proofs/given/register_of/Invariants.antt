-- SPDX-License-Identifier: MIT OR Apache-2.0
use Rattle.std.proofs.Common.{◌≡◌, fold, take}
use Rattle.play_trace.specs.Calls.{form_of}
use Rattle.play_trace.specs.Words.{with_share}
use Rattle.play_trace.proofs.given.register_of.Given as goal

abbrev pub invariant-loop-argument : goal.invariant-loop-argument
invariant-loop-argument l =
    l.held ≡ fold (with_share (form_of l.function) l.given l.number) 0 (take l.argument-index l.argument-items)
