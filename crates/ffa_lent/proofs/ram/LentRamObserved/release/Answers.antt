-- SPDX-License-Identifier: MIT OR Apache-2.0
use Rattle.std.proofs.Common.{◌≡◌, ◌∙◌, ◌+◌, ◌<◌, ℕ, [], ap, get_or, length, refl, subst, sym}
use Rattle.ffa_model.specs.Lists.{is_in_run}
use Rattle.ffa_model.specs.Ram.{Ram, page_of}
use Rattle.ffa_physmem.specs.FrameRam.{ram_of as frame_ram}
use Rattle.ffa_physmem.specs.Moments.{IsBeside}
use Rattle.ffa_lent.specs.Beneath.{seen_ram, went-back}
use Rattle.ffa_lent.specs.LentRam.{memory_of, ram_of}
use Rattle.ffa_lent.specs.Memory.{with_event}
use Rattle.ffa_lent.proofs.Doings.{noted, noted-memory}
use Rattle.ffa_lent.proofs.Pages.{released-beside, released-whole}
use Rattle.ffa_lent.proofs.ram.LentRamObserved.release.Goals as goal

pub returns-clause-memory : goal.returns-clause-memory
returns-clause-memory c = λ _. noted-memory c.args.self.now c.note.new.self c.note.ensures

pub returns-clause-beside : goal.returns-clause-beside
returns-clause-beside c =
    subst (λ (r : Ram). IsBeside (ram_of c.args.self.now) (seen_ram c.args.self.now.copies.items c.args.self.now.first.0 0 r) (is_in_run c.args.first.0 c.args.count)) (sym (noted-memory c.args.self.now c.note.new.self c.note.ensures))
    (released-beside c.args.self.now c.args.first.0 c.args.count c.requires.only)

pub returns-clause-whole : goal.returns-clause-whole
returns-clause-whole c =
    let m = c.args.self.now in
    let whole : (k : ℕ) → k < m.count → m.first.0 + k < length (memory_of m).pages → length (get_or m.copies.items k []) ≡ length (page_of (memory_of m) (m.first.0 + k)) =
    subst (λ (r : Ram). (k : ℕ) → k < m.count → m.first.0 + k < length r.pages → length (get_or m.copies.items k []) ≡ length (page_of r (m.first.0 + k))) (noted-memory c.args.self.now c.note.new.self c.note.ensures)
    c.look_at_copies.ensures in
    subst (λ (r : Ram). (p : ℕ) → length (page_of (seen_ram c.args.self.now.copies.items c.args.self.now.first.0 0 r) p) ≡ length (page_of (ram_of m) p)) (sym (noted-memory c.args.self.now c.note.new.self c.note.ensures)) (released-whole m whole)

pub returns-clause-step : goal.returns-clause-step
returns-clause-step c =
    noted c.args.self.now (seen_ram c.args.self.now.copies.items c.args.self.now.first.0 0 (frame_ram c.note.new.self.frames)) c.note.new.self (c.note.ensures ∙ ap (with_event c.args.self.now.memory) c.doing-done.ensures)
    (went-back (ram_of c.args.self.now) (seen_ram c.args.self.now.copies.items c.args.self.now.first.0 0 (frame_ram c.note.new.self.frames)) c.args.first.0 c.args.count (returns-clause-beside c))
    (record { before = refl; after = refl; none = refl; reading = refl; words = refl; loans = refl })
