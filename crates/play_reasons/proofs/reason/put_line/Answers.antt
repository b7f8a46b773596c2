-- SPDX-License-Identifier: MIT OR Apache-2.0
use Rattle.std.proofs.Common.{◌++◌, ℕ, List}
use Rattle.std.specs.Prelude.{codes}
use Rattle.play_reasons.specs.Details.{detailed_text}
use Rattle.play_reasons.specs.Reasons.{reason_line, reason_mark, value_digits, why_text}
use Rattle.play_reasons.proofs.Together.{together}
use Rattle.play_reasons.proofs.reason.put_line.Goals as goal

pub returns : goal.returns
unfolding reason_line
returns g c =
    let old = c.args.text.now in
    let why : List ℕ = why_text c.args.base.0 c.args.op c.args.why in
    let detailed : List ℕ = detailed_text (value_digits c.args.why) c.args.detail in
    let first = together old c.put.new.self c.put_why.new.text reason_mark why c.put.ensures c.put_why.ensures in
    let both = together old c.put_why.new.text c.put_detailed.new.text (reason_mark ++ why) detailed first (rw (← c.value_digits.ensures.digits) c.put_detailed.ensures) in
    together old c.put_detailed.new.text c.put-2.new.self (reason_mark ++ why ++ detailed) (codes "\n") both c.put-2.ensures
