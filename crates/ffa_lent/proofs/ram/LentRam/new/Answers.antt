-- SPDX-License-Identifier: MIT OR Apache-2.0
use Rattle.std.proofs.Common.{◌∙◌, List, ℕ, map, sym, ap}
use Rattle.ffa_model.specs.Ram.{Ram}
use Rattle.ffa_physmem.specs.FrameRam.{frames_of, ram_of as frame_ram}
use Rattle.ffa_lent.specs.Places.{place_of}
use Rattle.ffa_lent.specs.Listed.{Listed}
use Rattle.ffa_lent.specs.Beneath.{beneath-seen}
use Rattle.ffa_lent.proofs.ram.LentRam.new.Goals as goal

pub returns-clause-memory : goal.returns-clause-memory
returns-clause-memory c =
    ap frame_ram c.new.ensures.frames ∙ c.of.ensures.ram
    ∙ ap (λ (p : List (List ℕ)). let r : Ram = record { base = c.args.base.0; pages = p } in r) (ap (λ (l : Listed). l.pages) c.frames.view_is)

pub returns-clause-ram : goal.returns-clause-ram
returns-clause-ram c = sym (beneath-seen (frame_ram c.new.result.frames) c.in-Ok.copies.items 0 0) ∙ returns-clause-memory c

pub returns-clause-places : goal.returns-clause-places
returns-clause-places c =
    ap (λ f. map place_of (frames_of f)) c.new.ensures.frames ∙ ap (map place_of) c.of.ensures.frames ∙ ap (λ (l : Listed). l.places) c.frames.view_is
