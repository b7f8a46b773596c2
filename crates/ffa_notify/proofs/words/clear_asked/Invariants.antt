-- SPDX-License-Identifier: MIT OR Apache-2.0
use Rattle.std.proofs.Common.{◌≡◌, ℕ, get_or}
use Rattle.std.specs.Prelude.{if◌then◌else◌}
use Rattle.ffa_notify.specs.Stored.{is_asked}
use Rattle.ffa_notify.proofs.words.clear_asked.Given as goal

-- the classes so far
abbrev pub invariant-loop-class : goal.invariant-loop-class
invariant-loop-class g l = (k : ℕ) → get_or l.items k l.empty ≡ (if is_asked l.first l.class l.flags k then l.empty else get_or l.fn.items k l.empty)
