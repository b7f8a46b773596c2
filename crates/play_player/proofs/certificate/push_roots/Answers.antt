-- SPDX-License-Identifier: MIT OR Apache-2.0
use Rattle.std.proofs.Common.{◌∙◌, ◌++◌, sym, ap, arith, append_assoc}
use Rattle.std.specs.List.{flat_map, range_with_len}
use Rattle.play_trace.specs.TraceText.{root_text}
use Rattle.play_player.proofs.CertRuns.{range_parts}
use Rattle.play_player.proofs.certificate.push_roots.Goals as goal

pub loop-place-preserved : goal.loop-place-preserved
loop-place-preserved g c =
    let s = (g.P.Playable.bench c.args.machine.now).state in
    record {
      so_far = c.push_root.ensures.items ∙ ap (λ l. l ++ root_text s c.loop-place.place) c.loop-place.invariant.so_far
          ∙ append_assoc c.args.text.now.items (flat_map (root_text s) (range_with_len 0 c.loop-place.place)) (root_text s c.loop-place.place)
          ∙ ap (λ l. c.args.text.now.items ++ l) (sym (range_parts (root_text s) c.loop-place.place));
      room = omega (arith, c.push_root.ensures.len, c.loop-place.invariant.room);
    }
