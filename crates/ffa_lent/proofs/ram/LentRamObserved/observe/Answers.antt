-- SPDX-License-Identifier: MIT OR Apache-2.0
use Rattle.std.proofs.Common.{◌≡◌, ◌∙◌, ◌-◌, ◌*◌, ◌+◌, ◌<◌, ◌≤◌, ℕ, [], ap, arith, drop, get_or, length, refl, subst, sym, take}
use Rattle.std.specs.Vec.{with_items}
use Rattle.ffa_model.specs.Lists.{is_in_run}
use Rattle.ffa_model.specs.Ram.{Ram, page_of}
use Rattle.ffa_physmem.specs.FrameRam.{ram_of as frame_ram}
use Rattle.ffa_physmem.specs.Moments.{AgreeInFirst, IsBeside}
use Rattle.ffa_lent.specs.Beneath.{seen_ram, went-back}
use Rattle.ffa_lent.specs.LentRam.{memory_of, ram_of}
use Rattle.ffa_lent.specs.Memory.{with_event}
use Rattle.ffa_lent.proofs.Doings.{noted, noted-memory}
use Rattle.ffa_lent.proofs.Pages.{copied-all, copied-in, copied-off, copied-size, copied-whole, pages-seen}
use Rattle.ffa_lent.proofs.ram.LentRamObserved.observe.Goals as goal

pub copy_frames-requires-clause-within : goal.copy_frames-requires-clause-within
copy_frames-requires-clause-within c =
    let inside : c.args.first.0 + c.args.count ≤ length (memory_of c.args.self.now).pages = let same = pages-seen c.args.self.now in omega (arith, c.requires.within, same) in
    subst (λ (r : Ram). c.args.first.0 + c.args.count ≤ length r.pages) (sym (ap frame_ram c.frames.ensures ∙ noted-memory c.args.self.now c.note.new.self c.note.ensures)) inside

pub returns-clause-memory : goal.returns-clause-memory
returns-clause-memory c = λ _. noted-memory c.args.self.now c.note.new.self c.note.ensures

pub returns-clause-seen : goal.returns-clause-seen
returns-clause-seen c = λ p at.
    subst (λ (r : Ram). AgreeInFirst c.args.bytes c.args.first.0 p (page_of (seen_ram (with_items c.args.self.now.copies c.copy_frames.new.copies).items c.args.first.0 c.args.count r) p) (page_of r p)) (sym (noted-memory c.args.self.now c.note.new.self c.note.ensures))
    (copied-in c.args.self.now c.requires.free c.args.first.0 c.args.count c.copy_frames.new.copies (c.copy_frames.ensures.room ∙ c.deref_mut.ensures.len)
    c.requires.within c.args.bytes p at
    (subst (λ (r : Ram). (k : ℕ) → k < c.args.count → take (c.args.bytes - 4096 * k) (get_or c.copy_frames.new.copies k []) ≡ take (c.args.bytes - 4096 * k) (page_of r (c.args.first.0 + k))) (ap frame_ram c.frames.ensures ∙ noted-memory c.args.self.now c.note.new.self c.note.ensures) c.copy_frames.ensures.copied))

pub returns-clause-copied : goal.returns-clause-copied
returns-clause-copied c =
    ap (λ (r : Ram). length (take c.args.count (drop c.args.first.0 r.pages))) (noted-memory c.args.self.now c.note.new.self c.note.ensures)
    ∙ copied-all c.args.self.now c.requires.free c.args.first.0 c.args.count c.copy_frames.new.copies (c.copy_frames.ensures.room ∙ c.deref_mut.ensures.len)
    c.requires.within

pub returns-clause-beside : goal.returns-clause-beside
returns-clause-beside c =
    let room = c.copy_frames.ensures.room ∙ c.deref_mut.ensures.len in
    subst (λ (r : Ram). IsBeside (ram_of c.args.self.now) (seen_ram (with_items c.args.self.now.copies c.copy_frames.new.copies).items c.args.first.0 c.args.count r) (is_in_run c.args.first.0 c.args.count)) (sym (noted-memory c.args.self.now c.note.new.self c.note.ensures))
    (record {
      base = refl;
      size = copied-size c.args.self.now c.requires.free c.args.first.0 c.args.count c.copy_frames.new.copies room c.requires.within;
      pages = copied-off c.args.self.now c.requires.free c.args.first.0 c.args.count c.copy_frames.new.copies room c.requires.within;
    })

pub returns-clause-whole : goal.returns-clause-whole
returns-clause-whole c =
    subst (λ (r : Ram). (p : ℕ) → length (page_of (seen_ram (with_items c.args.self.now.copies c.copy_frames.new.copies).items c.args.first.0 c.args.count r) p) ≡ length (page_of (ram_of c.args.self.now) p)) (sym (noted-memory c.args.self.now c.note.new.self c.note.ensures))
    (copied-whole c.args.self.now c.requires.free c.args.first.0 c.args.count c.copy_frames.new.copies (c.copy_frames.ensures.room ∙ c.deref_mut.ensures.len)
    c.requires.within
    (subst (λ (r : Ram). (k : ℕ) → k < c.args.count → length (get_or c.copy_frames.new.copies k []) ≡ length (page_of r (c.args.first.0 + k))) (ap frame_ram c.frames.ensures ∙ noted-memory c.args.self.now c.note.new.self c.note.ensures) c.copy_frames.ensures.whole))

pub returns-clause-step : goal.returns-clause-step
returns-clause-step c =
    noted c.args.self.now (seen_ram (with_items c.args.self.now.copies c.copy_frames.new.copies).items c.args.first.0 c.args.count (frame_ram c.note.new.self.frames)) c.note.new.self (c.note.ensures ∙ ap (with_event c.args.self.now.memory) c.doing-done.ensures)
    (went-back (ram_of c.args.self.now) (seen_ram (with_items c.args.self.now.copies c.copy_frames.new.copies).items c.args.first.0 c.args.count (frame_ram c.note.new.self.frames)) c.args.first.0 c.args.count (returns-clause-beside c))
    (record { before = refl; after = refl; none = refl; reading = refl; words = refl; loans = refl })
