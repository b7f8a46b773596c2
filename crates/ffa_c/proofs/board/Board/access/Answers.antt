-- SPDX-License-Identifier: MIT OR Apache-2.0
use Rattle.std.proofs.Common.{ap, sym, ◌∙◌}
use Rattle.ffa_model.specs.Access.{access}
use Rattle.ffa_spmc.specs.Snapshot.{Snapshot}
use Rattle.ffa_c.specs.declared.kind.BoardMachine.{BoardMachine}
use Rattle.ffa_c.specs.Boarded.{Boarded, boarded}
use Rattle.ffa_c.specs.Border.{access_code}
use Rattle.ffa_c.proofs.board.Board.access.Goals as goal

pub returns-in-Heap : goal.returns-in-Heap
returns-in-Heap c =
    c.code_of.ensures ∙ (ap access_code c.access.ensures
    ∙ ap (λ (x : Snapshot). access_code (access x.state c.args.endpoint c.args.page)) c.machine-machine.ensures.machine
    ∙ ap (λ (b : Boarded). access_code (access b.machine.state c.args.endpoint c.args.page))
    (ap (λ (kind : BoardMachine). boarded kind) (sym c.in-Heap.is) ∙ c.self.view_is))

pub returns-in-Lent : goal.returns-in-Lent
returns-in-Lent c =
    c.code_of-in-Lent.ensures ∙ (ap access_code c.access-in-Lent.ensures
    ∙ ap (λ (x : Snapshot). access_code (access x.state c.args.endpoint c.args.page)) c.machine-machine-in-Lent.ensures.machine
    ∙ ap (λ (b : Boarded). access_code (access b.machine.state c.args.endpoint c.args.page))
    (ap (λ (kind : BoardMachine). boarded kind) (sym c.in-Lent.is) ∙ c.self.view_is))
