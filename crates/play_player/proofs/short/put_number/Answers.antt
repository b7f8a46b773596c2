-- SPDX-License-Identifier: MIT OR Apache-2.0
use Rattle.std.proofs.Common.{◌++◌, ap, subst, ◌∙◌}
use Rattle.play_trace.specs.TraceText.{hex}
use Rattle.play_reasons.specs.Drafts.{Puts}
use Rattle.play_player.specs.Short.{cut_zeros, short_number}
use Rattle.play_player.proofs.short.put_number.Goals as goal

pub returns : goal.returns
unfolding short_number
returns g c =
    let digits = c.push_digits.ensures.items ∙ ap (λ w. w ++ hex 16 c.args.value) c.new-word.ensures in
    subst (Puts c.args.text.now c.put_bytes.new.self) (c.without_zeros.ensures ∙ ap cut_zeros (c.as_slice.ensures.value ∙ digits)) c.put_bytes.ensures
