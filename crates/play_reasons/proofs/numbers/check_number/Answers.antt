-- SPDX-License-Identifier: MIT OR Apache-2.0
use Rattle.std.proofs.Common.{ap, sym, ◌∙◌}
use Rattle.std.specs.Prelude.{is_some}
use Rattle.play_reasons.specs.Checks.{number_of, place_number}
use Rattle.play_reasons.proofs.Numbered.{numbered}
use Rattle.play_reasons.proofs.numbers.check_number.Goals as goal

pub returns-clause-numbered : goal.returns-clause-numbered
returns-clause-numbered c = λ s x is first.
    let refusal = c.args.refusal in
    ap is_some (c.number_in.ensures ∙ ap (λ list. place_number list refusal) c.checks.ensures.listed ∙ ap (λ w0. number_of w0 refusal) (sym is))
    ∙ numbered s x refusal first
