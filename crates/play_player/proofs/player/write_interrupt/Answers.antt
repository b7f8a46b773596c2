-- SPDX-License-Identifier: MIT OR Apache-2.0
use Rattle.std.proofs.Common.{◌≡◌, List, ℕ, replicate, refl, subst}
use Rattle.ffa_model.specs.declared.operation.Op.TheVariants.{Call}
use Rattle.ffa_model.specs.declared.operation.Outcome.{Outcome}
use Rattle.ffa_model.specs.declared.operation.Outcome.TheVariants.{Done, Data, Regs, Fault}
use Rattle.play_trace.specs.TraceText.{interrupt_text, outcome_text, outcome_words}
use Rattle.play_trace.specs.Output.{Writes}
use Rattle.play_player.proofs.player.write_interrupt.Goals as goal

-- what a call prints is told by its outcome
called : (outcome : Outcome) → outcome_text (Call (replicate 8 0)) outcome ≡ interrupt_text outcome
unfolding outcome_words
called Done = refl
called (Data value) = refl
called (Regs runner x) = refl
called (Fault fault) = refl

pub returns : goal.returns
returns g c =
    subst (λ (text : List ℕ). Writes (g.W.Write.contents c.args.writer.now) (g.W.Write.contents c.write_outcome.new.writer) text c.write_outcome.result)
    (called c.args.outcome.now) c.write_outcome.ensures
