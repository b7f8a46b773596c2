-- SPDX-License-Identifier: MIT OR Apache-2.0
use Rattle.std.proofs.Common.{ℕ, List, subst}
use Rattle.play_reasons.specs.Closer.{end_text}
use Rattle.play_reasons.specs.Drafts.{Puts}
use Rattle.play_reasons.specs.Mends.{short_text}
use Rattle.play_reasons.proofs.Together.{together}
use Rattle.play_reasons.proofs.closer.put_end.Goals as goal

pub returns : goal.returns
unfolding end_text
returns g c =
    let part = subst (λ (words : List ℕ). Puts c.args.text.now c.put.new.self words) c.part.ensures c.put.ensures in
    let end = subst (λ (n : ℕ). Puts c.put.new.self c.put_short.new.self (short_text n)) c.capped.ensures c.put_short.ensures in
    together _ _ _ _ _ (together _ _ _ _ _ (together _ _ _ _ _ (together _ _ _ _ _ part end) c.put-2.ensures) c.put_short-2.ensures) c.put-3.ensures
