-- SPDX-License-Identifier: MIT OR Apache-2.0
use Rattle.std.proofs.Common.{◌∙◌, rules, tests, bytes_eq}
use Rattle.std.proofs.lemmas.Iterator.{YieldsList-from_slice}
use Rattle.std.proofs.lemmas.Iterator.Search.{find_from_yields_List}
use Rattle.play_trace.specs.Names.{name_text}
use Rattle.play_trace.proofs.given.argument_named.Goals as goal

pub returns : goal.returns
returns c =
    c.copied.ensures
    ∙ find_from_yields_List (λ argument. bytes_eq (name_text argument.0) c.args.name.now) _ _ c.find.result c.find.ensures.ran (YieldsList-from_slice c.args.arguments.now cc) (λ x b q k. search (rules, tests))
