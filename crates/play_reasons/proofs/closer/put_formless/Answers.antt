-- SPDX-License-Identifier: MIT OR Apache-2.0
use Rattle.std.proofs.Common.{◌++◌}
use Rattle.std.specs.Prelude.{codes}
use Rattle.play_reasons.specs.Closer.{no_form_text}
use Rattle.play_reasons.proofs.Together.{together}
use Rattle.play_reasons.proofs.closer.put_formless.Goals as goal

pub returns : goal.returns
unfolding no_form_text
returns g c =
    let old = c.args.text.now in
    let name = c.args.name.now in
    let named = together old c.put.new.self c.put-2.new.self (codes ", and ") name c.put.ensures c.put-2.ensures in
    together old c.put-2.new.self c.put-3.new.self (codes ", and " ++ name) (codes " has no 64-bit form") named c.put-3.ensures
