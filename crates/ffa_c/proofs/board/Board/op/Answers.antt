-- SPDX-License-Identifier: MIT OR Apache-2.0
use Rattle.std.proofs.Common.{◌∙◌, Bool, true, false, ap, subst, sym}
use Rattle.ffa_spmc.specs.Clustered.{Clustered}
use Rattle.ffa_c.specs.Boarded.{Boarded, boarded, cluster_of}
use Rattle.ffa_c.specs.Border.{HasDone}
use Rattle.ffa_c.specs.contracts.board.Board.{the_view}
use Rattle.ffa_c.proofs.board.Board.op.Goals.{in-Heap, in-Lent}
use Rattle.ffa_c.proofs.board.Board.op.Goals as goal

pub returns-clause-done : goal.returns-clause-done
returns-clause-done c = elim c.match-self.branch [
  | in-Heap w ↦
      subst (λ (b : Boarded). HasDone b.is_lent (cluster_of b) (cluster_of (the_view c.match-self.self-inside)) c.args.op.now c.match-self.outcome) (ap boarded (sym w.in-Heap.is) ∙ c.self.view_is)
      (subst (λ inside. HasDone false w.in-Heap.cluster (cluster_of (the_view inside)) c.args.op.now c.match-self.outcome) (sym w.self-inside-is)
      (subst (λ o. HasDone false w.in-Heap.cluster w.operate.new.cluster c.args.op.now o) (sym w.outcome-is) w.operate.ensures))
  | in-Lent w ↦
      subst (λ (b : Boarded). HasDone b.is_lent (cluster_of b) (cluster_of (the_view c.match-self.self-inside)) c.args.op.now c.match-self.outcome) (ap boarded (sym w.in-Lent.is) ∙ c.self.view_is)
      (subst (λ inside. HasDone true w.in-Lent.cluster (cluster_of (the_view inside)) c.args.op.now c.match-self.outcome) (sym w.self-inside-is)
      (subst (λ o. HasDone true w.in-Lent.cluster w.operate-in-Lent.new.cluster c.args.op.now o) (sym w.outcome-is) w.operate-in-Lent.ensures))
]
