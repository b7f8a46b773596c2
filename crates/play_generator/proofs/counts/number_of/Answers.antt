-- SPDX-License-Identifier: MIT OR Apache-2.0
use Rattle.std.proofs.Common.{◌≤◌, subst, sym, IfSome}
use Rattle.play_generator.proofs.Numbers.{number-few, number-some}
use Rattle.play_generator.proofs.counts.number_of.Goals as goal

pub returns-clause-some : goal.returns-clause-some
returns-clause-some c = subst (λ number. IfSome number (λ n. 1 ≤ n)) (sym c.check_number.ensures.number) (number-some _ c.args.refusal)

pub returns-clause-few : goal.returns-clause-few
returns-clause-few c = subst (λ number. IfSome number (λ n. n ≤ 16)) (sym c.check_number.ensures.number) (number-few _ c.args.refusal)
