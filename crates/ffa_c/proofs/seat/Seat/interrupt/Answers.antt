-- SPDX-License-Identifier: MIT OR Apache-2.0
use Rattle.std.proofs.Common.{◌≡◌, ◌∙◌, Some, sym}
use Rattle.ffa_c.specs.Boarded.{cluster_of}
use Rattle.ffa_c.proofs.Boards.{kept-kind}
use Rattle.ffa_c.proofs.seat.Seat.interrupt.Goals as goal

pub returns-clause-done : goal.returns-clause-done
returns-clause-done c =
    let new = c.interrupt.new.self in
    let was : c.args.self.now ≡ Some c.in-Some.board = sym c.self.view_is ∙ c.in-Some.is in
    rw was (cluster_of new, kept-kind c.in-Some.board new c.interrupt.ensures.kind, c.interrupt.ensures.done)
