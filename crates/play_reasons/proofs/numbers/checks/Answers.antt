-- SPDX-License-Identifier: MIT OR Apache-2.0
use Rattle.std.proofs.Common.{ap, subst, sym, ◌∙◌}
use Rattle.ffa_model.specs.Registers.{decode}
use Rattle.ffa_model.specs.Checks.{AreListed, checks_of}
use Rattle.ffa_model.proofs.Served.{listed}
use Rattle.play_reasons.proofs.numbers.checks.Goals as goal

pub returns-clause-guards : goal.returns-clause-guards
returns-clause-guards c = λ s x is.
    subst (AreListed s (decode x)) (ap checks_of is ∙ sym c.check_list.ensures) (listed s x)
