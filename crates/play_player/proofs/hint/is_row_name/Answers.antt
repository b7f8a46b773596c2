-- SPDX-License-Identifier: MIT OR Apache-2.0
use Rattle.std.proofs.Common.{◌∙◌, ap, refl, rules, tests, bytes_eq}
use Rattle.std.specs.List.{list_any}
use Rattle.std.proofs.lemmas.Iterator.{YieldsList-from_slice}
use Rattle.std.proofs.lemmas.Iterator.Search.{any_from_yields_List}
use Rattle.play_player.proofs.hint.is_row_name.Goals as goal

pub returns : goal.returns
returns c =
    let all = c.iter.result.rest.now in
    any_from_yields_List (λ row. bytes_eq c.args.word.now row.1.now) _ _ c.any.result c.any.ensures.ran (YieldsList-from_slice all refl) (λ x b q k. search (rules, tests))
    ∙ ap (list_any (λ row. bytes_eq c.args.word.now row.1.now)) c.iter.ensures.rest
