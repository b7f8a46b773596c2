-- SPDX-License-Identifier: MIT OR Apache-2.0
use Rattle.std.proofs.Common.{◌∙◌, ◌<◌, length, ℕ, List, [], ◌∷◌, take, get_or, refl, sym, ap, arith}
use Rattle.std.proofs.lemmas.List.{drop_more, get_or_read}
use Rattle.ffa_lent.specs.History.{Event}
use Rattle.ffa_lent.specs.LentRam.{begun}
use Rattle.ffa_lent.specs.Memory.{with_event, with_frame_bytes}
use Rattle.ffa_lent.specs.declared.memory.Memory.{Memory}
use Rattle.ffa_lent.proofs.Pages.{frame-inside, observed-at, observed-no, page_of-copy, page_of-frame, with_copy-there, with_frame-there}
use Rattle.ffa_lent.proofs.ram.LentRamPhysMem.page_mut.Goals as goal

pub returns-in-Some : goal.returns-in-Some
returns-in-Some c =
    let m = c.args.self.now in
    let (at, place) = observed-at m c.args.page.0 c.in-Some.place (sym c.in-Some.is ∙ c.place.ensures.value) in
    let inside : c.in-Some.place < length m.copies.items = omega (arith, c.in-Some.ensures.within, m.copies.ok) in
    let value = get_or_read m.copies.items _ _ inside c.index_mut.ensures.value [] ∙ ap (λ k. get_or m.copies.items k []) place ∙ sym (page_of-copy m c.args.page.0 c.requires at) in (
      (
        refl,
        λ w. with_copy-there (begun m c.args.page.0) c.args.page.0 w 0 _ _ c.note-in-Some.new.self
            (c.note-in-Some.ensures ∙ ap (λ (x : Memory). with_event x c.doing-done.result.event) c.note.ensures ∙ (λ j. with_event (with_event m.memory (c.doing-begun.ensures j)) (c.doing-done.ensures j))) at c.in-Some.place place,
      ),
      record { value = value; writes_back = tt },
    )

pub lend-requires : goal.lend-requires
lend-requires c = frame-inside c.args.self.now c.args.page.0 c.requires

pub returns : goal.returns
returns c =
    let m = c.args.self.now in
    let off = observed-no m c.args.page.0 (sym c.in_default.is ∙ c.place.ensures.value) in (
      (
        refl,
        λ w. with_frame-there (begun m c.args.page.0) c.args.page.0 w 0 _ _ _
            (λ j. with_frame_bytes (with_event (with_event m.memory (c.doing-begun.ensures j)) (c.doing-done.ensures j)) c.args.page.0 w) off,
      ),
      record { value = c.lend.ensures.value ∙ sym (page_of-frame m c.args.page.0 c.requires off); writes_back = tt },
    )
