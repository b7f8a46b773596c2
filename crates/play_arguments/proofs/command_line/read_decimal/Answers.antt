-- SPDX-License-Identifier: MIT OR Apache-2.0
use Rattle.std.proofs.Common.{◌∙◌, refl, sym}
use Rattle.play_arguments.proofs.Numbers.{parsed_number, signed_number}
use Rattle.play_arguments.proofs.command_line.read_decimal.Goals as goal

pub returns-then-has_sign : goal.returns-then-has_sign
returns-then-has_sign c = signed_number 10 c.args.text.now refl (sym c.has_sign.ensures ∙ c.if-has_sign.true)

pub returns-else-has_sign : goal.returns-else-has_sign
returns-else-has_sign c =
    c.ok.ensures.value
    ∙ parsed_number 10 c.args.text.now _ (sym c.has_sign.ensures ∙ c.if-has_sign.false) c.parse.ensures.value.0
