-- SPDX-License-Identifier: MIT OR Apache-2.0
use Rattle.std.proofs.Common.{◌∙◌, ◌<◌, List, [], ℕ, ap, arith, get_or, length, refl, subst, sym}
use Rattle.std.proofs.lemmas.List.{get_or_read}
use Rattle.ffa_model.specs.Ram.{page_of, with_page, with_word}
use Rattle.ffa_physmem.specs.Moments.{IsStore, One}
use Rattle.ffa_lent.specs.History.{Event}
use Rattle.ffa_lent.specs.LentRam.{memory_of, one-write, past_of, ram_of, ram_of-written}
use Rattle.ffa_lent.specs.Memory.{with_event, with_frame_bytes}
use Rattle.ffa_lent.specs.declared.ram.LentRam.{LentRam}
use Rattle.ffa_lent.proofs.Pages.{frame-inside, observed-at, observed-no, page_of-copy, page_of-frame, with_copy-there, with_frame-there}
use Rattle.ffa_lent.proofs.ram.LentRamPhysMem.write_word.Goals as goal

pub store-requires-clause-page : goal.store-requires-clause-page
store-requires-clause-page c = frame-inside c.args.self.now c.args.page.0 c.requires.page

pub returns-in-Some-clause-ram : goal.returns-in-Some-clause-ram
returns-in-Some-clause-ram c =
    let m = c.args.self.now in
    let (at, place) = observed-at m c.args.page.0 c.in-Some.place (sym c.in-Some.is ∙ c.place.ensures.value) in
    let inside : c.in-Some.place < length m.copies.items = omega (arith, c.in-Some.ensures.within, m.copies.ok) in
    let value = get_or_read m.copies.items _ _ inside c.index_mut.ensures.value [] ∙ ap (λ k. get_or m.copies.items k []) place ∙ sym (page_of-copy m c.args.page.0 c.requires.page at) in
    ap ram_of (with_copy-there m c.args.page.0 c.put_word.new.page 1 m.room m.held c.note.new.self (c.note.ensures ∙ ap (with_event m.memory) c.doing-done.ensures) at c.in-Some.place place)
    ∙ ram_of-written m c.args.page.0 c.put_word.new.page 1
    ∙ ap (with_page (ram_of m) c.args.page.0) (c.put_word.ensures ∙ ap (λ (b : List ℕ). with_word b c.args.index c.args.value) value)

pub returns-in-Some-clause-steps : goal.returns-in-Some-clause-steps
returns-in-Some-clause-steps c =
    let m = c.args.self.now in
    let (at, place) = observed-at m c.args.page.0 c.in-Some.place (sym c.in-Some.is ∙ c.place.ensures.value) in
    let inside : c.in-Some.place < length m.copies.items = omega (arith, c.in-Some.ensures.within, m.copies.ok) in
    let value = get_or_read m.copies.items _ _ inside c.index_mut.ensures.value [] ∙ ap (λ k. get_or m.copies.items k []) place ∙ sym (page_of-copy m c.args.page.0 c.requires.page at) in
    let P = IsStore (ram_of m) c.args.page.0 c.args.index c.args.value in
    subst (λ (x : LentRam). One (past_of m) (past_of x) P)
    (sym (with_copy-there m c.args.page.0 c.put_word.new.page 1 m.room m.held c.note.new.self (c.note.ensures ∙ ap (with_event m.memory) c.doing-done.ensures) at c.in-Some.place place))
    (one-write m c.args.page.0 c.put_word.new.page 1 P (record {
      before = refl;
      after = ap (with_page (ram_of m) c.args.page.0) (c.put_word.ensures ∙ ap (λ (b : List ℕ). with_word b c.args.index c.args.value) value);
      none = refl;
      unread = refl;
      words = refl;
      loans = refl;
    }))

pub returns-clause-ram : goal.returns-clause-ram
returns-clause-ram c =
    let m = c.args.self.now in
    let off = observed-no m c.args.page.0 (sym c.in_default.is ∙ c.place.ensures.value) in
    let word : List ℕ = with_word (page_of (memory_of m) c.args.page.0) c.args.index c.args.value in
    ap ram_of (with_frame-there m c.args.page.0 word 1 m.room m.held c.store.new.self (c.store.ensures ∙ ap (λ (e : Event). with_frame_bytes (with_event m.memory e) c.args.page.0 word) c.doing-done.ensures) off)
    ∙ ram_of-written m c.args.page.0 word 1
    ∙ ap (λ (b : List ℕ). with_page (ram_of m) c.args.page.0 (with_word b c.args.index c.args.value)) (sym (page_of-frame m c.args.page.0 c.requires.page off))

pub returns-clause-steps : goal.returns-clause-steps
returns-clause-steps c =
    let m = c.args.self.now in
    let off = observed-no m c.args.page.0 (sym c.in_default.is ∙ c.place.ensures.value) in
    let word : List ℕ = with_word (page_of (memory_of m) c.args.page.0) c.args.index c.args.value in
    let P = IsStore (ram_of m) c.args.page.0 c.args.index c.args.value in
    subst (λ (x : LentRam). One (past_of m) (past_of x) P)
    (sym (with_frame-there m c.args.page.0 word 1 m.room m.held c.store.new.self (c.store.ensures ∙ ap (λ (e : Event). with_frame_bytes (with_event m.memory e) c.args.page.0 word) c.doing-done.ensures) off))
    (one-write m c.args.page.0 word 1 P (record {
      before = refl;
      after = ap (λ (b : List ℕ). with_page (ram_of m) c.args.page.0 (with_word b c.args.index c.args.value)) (sym (page_of-frame m c.args.page.0 c.requires.page off));
      none = refl;
      unread = refl;
      words = refl;
      loans = refl;
    }))
