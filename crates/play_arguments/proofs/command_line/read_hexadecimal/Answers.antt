-- SPDX-License-Identifier: MIT OR Apache-2.0
use Rattle.std.proofs.Common.{◌≡◌, ◌+◌, ◌∙◌, Some, None, ap, arith, drop, sym}
use Rattle.std.proofs.lemmas.Str.Pattern.{split_once_first}
use Rattle.play_arguments.specs.Commands.{numeral_of}
use Rattle.play_arguments.proofs.Numbers.{behind_mark}
use Rattle.play_arguments.proofs.command_line.read_hexadecimal.Goals as goal

pub returns-in-Some : goal.returns-in-Some
returns-in-Some c =
    let parts = split_once_first 120 c.args.text.now (Some (c.in-Some.field-0-0, c.in-Some.digits)) c.in-Some.ensures.cases (omega arith) in
    let mark = behind_mark c.args.text.now c.requires in
    let digits : c.in-Some.digits.now ≡ drop 2 c.args.text.now = parts.2 ∙ ap (λ n. drop (n + 1) c.args.text.now) mark.0 in
    c.read_digits.ensures ∙ ap (numeral_of 16) digits

pub returns-in-None : goal.returns-in-None
returns-in-None c =
    let none = split_once_first 120 c.args.text.now None c.in-None.ensures.cases (omega arith) in
    let mark = behind_mark c.args.text.now c.requires in
    absurd (omega (arith, sym none ∙ mark.0, mark.1))
