-- SPDX-License-Identifier: MIT OR Apache-2.0
use Rattle.std.proofs.Common.{◌≡◌, ◌∙◌, List, ℕ, length, ap, sym}
use Rattle.ffa_model.specs.Ram.{Ram}
use Rattle.ffa_physmem.specs.Moments.{Past}
use Rattle.ffa_lent.proofs.Pages.{memory-seen}
use Rattle.ffa_spmc.specs.Clustered.{Clustered}
use Rattle.ffa_spmc.specs.Snapshot.{Snapshot}
use Rattle.ffa_c.specs.declared.kind.BoardMachine.{BoardMachine}
use Rattle.ffa_c.specs.Boarded.{Boarded, boarded}
use Rattle.ffa_c.proofs.board.Board.into_frames.Goals as goal

-- the pages of memory are those of the machine's RAM
given : (c : goal.After-into_frames) → c.into_frames.result.pages ≡ c.into_machine.result.ram.pages
given c =
    let free = ap (λ (p : Past). p.site.copies.beneath) c.into_parts-ram.ensures.past ∙ c.into_machine.ensures.free in
    c.into_frames.ensures.pages
    ∙ ap (λ (r : Ram). r.pages) (memory-seen c.into_parts-ram.result.0 free ∙ c.into_parts-ram.ensures.ram)

pub returns-clause-pages : goal.returns-clause-pages
returns-clause-pages c =
    given c ∙ ap (λ (s : Snapshot). s.ram.pages) c.into_machine.ensures.machine ∙ ap (λ (x : Clustered). x.machine.ram.pages) c.in-Lent.cluster-is
    ∙ ap (λ (b : Boarded). b.machine.ram.pages) (ap (λ (kind : BoardMachine). boarded kind) (sym c.in-Lent.is) ∙ c.self.view_is)

pub returns-clause-room : goal.returns-clause-room
returns-clause-room c = c.into_parts-ram.ensures.pages ∙ sym (ap (λ (pages : List (List ℕ)). length pages) (given c))
