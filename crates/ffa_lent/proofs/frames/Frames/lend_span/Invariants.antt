-- SPDX-License-Identifier: MIT OR Apache-2.0
use Rattle.std.proofs.Common.{◌≡◌, ◌+◌, ◌≤◌, ◌++◌, length}
use Rattle.ffa_lent.specs.Places.{places_in}
use Rattle.ffa_lent.proofs.frames.Frames.lend_span.Given as goal

abbrev pub invariant-loop-rest : goal.invariant-loop-rest
invariant-loop-rest l = record {
  pages : l.self.pages ++ l.rest.strip.pages ≡ l.fn.self.pages ++ l.fn.span.strip.pages;
  places : l.self.places ++ places_in l.rest.strip ≡ l.fn.self.places ++ places_in l.fn.span.strip;
  fits : length l.self.pages + length l.rest.strip.pages ≤ l.self.room;
  room : l.fn.self.room ≤ l.self.room;
  ready : l.self.is_ready ≡ l.fn.self.is_ready;
}

abbrev pub decreases-loop-rest : goal.decreases-loop-rest
decreases-loop-rest l = length l.rest.strip.pages
