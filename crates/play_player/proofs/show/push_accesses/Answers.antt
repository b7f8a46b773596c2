-- SPDX-License-Identifier: MIT OR Apache-2.0
use Rattle.std.proofs.Common.{ℕ, ◌++◌, ap, ◌∙◌, arith}
use Rattle.ffa_model.specs.Identifiers.{identifier}
use Rattle.ffa_model.specs.Access.{access}
use Rattle.play_trace.specs.TraceText.{spaced, rights_text}
use Rattle.play_trace.proofs.Listed.{parts_more}
use Rattle.play_player.proofs.show.push_accesses.Goals as goal

pub loop-place-preserved : goal.loop-place-preserved
loop-place-preserved g c = record {
  so_far = parts_more (λ (e : ℕ). spaced (rights_text (access (g.P.Playable.bench c.args.machine.now).state e c.args.page.0))) identifier c.loop-place.place c.args.text.now.items c.loop-place.text.items _ c.loop-place.invariant.so_far
      (c.push_right.ensures.items ∙ ap (λ r. c.loop-place.text.items ++ spaced (rights_text r)) c.access.ensures);
  room = omega (arith, c.push_right.ensures.len, c.loop-place.invariant.room);
}
