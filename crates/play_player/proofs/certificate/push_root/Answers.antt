-- SPDX-License-Identifier: MIT OR Apache-2.0
use Rattle.std.proofs.Common.{◌∙◌, ℕ, [], ◌∷◌, ◌++◌, codes, ap, ap₂}
use Rattle.play_trace.specs.TraceText.{ended, hex, root_text, spaced}
use Rattle.play_trace.proofs.Listed.{four_pieces}
use Rattle.play_player.proofs.certificate.push_root.Goals as goal

pub returns-clause-items : goal.returns-clause-items
unfolding root_text
returns-clause-items g c =
    let old = c.args.text.now.items in
    c.push.ensures.items
    ∙ ap (λ l. l ++ 10 ∷ []) (c.push_hex-2.ensures.items
    ∙ ap (λ l. l ++ spaced (hex 8 c.from-2.result)) (c.push_hex.ensures.items ∙ ap (λ l. l ++ spaced (hex 4 c.from.result)) c.push_word.ensures.items))
    ∙ four_pieces old (codes "root") (spaced (hex 4 c.from.result)) (spaced (hex 8 c.from-2.result)) (10 ∷ [])
    ∙ ap₂ (λ (e : ℕ) (r : ℕ). old ++ ended (codes "root" ++ spaced (hex 4 e) ++ spaced (hex 8 r))) (c.from.ensures ∙ c.at.ensures) (c.from-2.ensures ∙ c.root_at.ensures)
