-- SPDX-License-Identifier: MIT OR Apache-2.0
-- One operation more was done.
use Rattle.std.proofs.Common.{ℕ, ◌+◌, ◌<◌, List, [], ◌∷◌, ◌++◌, Option, get_or, length, refl, set, subst, take}
use Rattle.std.proofs.lemmas.List.{take_more, take_more_set}
use Rattle.ffa_c.specs.Boarded.{Boarded}
use Rattle.ffa_c.specs.Operations.{HaveRun, OperatedGiven, op_given}
use Rattle.ffa_c.specs.declared.operations.COperation.{COperation}
use Rattle.ffa_c.specs.declared.outcome.COutcome.{COutcome}

run-more : (old mid new : Option Boarded) (os : List COperation) (tolds : List COutcome) (o : COperation) (told : COutcome)
    → HaveRun old os tolds mid → OperatedGiven (op_given o) mid new told → HaveRun old (os ++ o ∷ []) (tolds ++ told ∷ []) new
run-more old mid new [] [] o told so_far done = (new, subst (λ (held : Option Boarded). OperatedGiven (op_given o) held new told) so_far done, refl)
run-more old mid new (p ∷ os) (t ∷ tolds) o told so_far done = (so_far.0, so_far.1, run-more so_far.0 mid new os tolds o told so_far.2 done)
run-more old mid new [] (t ∷ tolds) o told so_far done = absurd so_far
run-more old mid new (p ∷ os) [] o told so_far done = absurd so_far

-- so it was in a loop over both lists
pub run-taken : (old mid new : Option Boarded) (os : List COperation) (tolds : List COutcome) (i : ℕ) (d : COperation) (told : COutcome)
    → i < length os → i < length tolds → HaveRun old (take i os) (take i tolds) mid → OperatedGiven (op_given (get_or os i d)) mid new told
    → HaveRun old (take (i + 1) os) (take (i + 1) (set tolds i told)) new
run-taken old mid new os tolds i d told inside room so_far done =
    rw (take_more os i d inside, take_more_set tolds i told room) (run-more old mid new (take i os) (take i tolds) (get_or os i d) told so_far done)
