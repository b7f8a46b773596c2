-- SPDX-License-Identifier: MIT OR Apache-2.0
use Rattle.std.proofs.Common.{◌≡◌, ◌+◌, ◌*◌, ◌++◌, take, drop, codes, flat_map}
use Rattle.play_trace.specs.TraceText.{hex, spaced}
use Rattle.play_trace.proofs.text.put_registers.Given as goal

-- the registers so far, and the line's end
abbrev pub invariant-loop-place : goal.invariant-loop-place
invariant-loop-place l = record {
  so_far : take (9 + 17 * l.place) l.line ≡ (codes "regs" ++ spaced (hex 4 l.runner)) ++ flat_map (λ v. spaced (hex 16 v)) (take l.place l.x);
  end : drop 145 l.line ≡ codes "\n";
}
