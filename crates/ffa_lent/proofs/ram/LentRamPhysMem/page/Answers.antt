-- SPDX-License-Identifier: MIT OR Apache-2.0
use Rattle.std.proofs.Common.{◌∙◌, ◌<◌, Global, length, [], get_or, subst, sym, ap, arith}
use Rattle.std.proofs.lemmas.Grind.{common_steps}
use Rattle.std.proofs.lemmas.List.{get_or_read}
use Rattle.ffa_model.specs.Ram.{page_of}
use Rattle.ffa_physmem.specs.declared.frames.FrameRam.{FrameRam}
use Rattle.ffa_physmem.specs.FrameRam.{ram_of as frame_ram}
use Rattle.ffa_lent.specs.declared.lent.Lent.{Lent}
use Rattle.ffa_lent.proofs.Pages.{frame-inside, observed-at, observed-no, page_of-copy, page_of-frame}
use Rattle.ffa_lent.proofs.ram.LentRamPhysMem.page.Goals as goal

pub returns-in-Some-clause-value : goal.returns-in-Some-clause-value
returns-in-Some-clause-value c =
    let m = c.args.self.now in
    let (at, place) = observed-at m c.args.page.0 c.in-Some.place (sym c.in-Some.is ∙ c.place.ensures.value) in
    let inside : c.in-Some.place < length m.copies.items = omega (arith, c.in-Some.ensures.within, m.copies.ok) in
    get_or_read m.copies.items _ _ inside c.index-copy.ensures []
    ∙ ap (λ k. get_or m.copies.items k []) place ∙ sym (page_of-copy m c.args.page.0 c.requires at)

pub returns-in-Some-clause-whole : goal.returns-in-Some-clause-whole
returns-in-Some-clause-whole c = ap length (sym (returns-in-Some-clause-value c)) ∙ grind (arith, common_steps)

pub page-requires : goal.page-requires
page-requires c =
    subst (λ (x : FrameRam Lent Global). c.args.page.0 < length (frame_ram x).pages) (sym c.frames.ensures) (frame-inside c.args.self.now c.args.page.0 c.requires)

pub returns-clause-value : goal.returns-clause-value
returns-clause-value c =
    let m = c.args.self.now in
    let off = observed-no m c.args.page.0 (sym c.in_default.is ∙ c.place.ensures.value) in
    c.page.ensures.value ∙ ap (λ (x : FrameRam Lent Global). page_of (frame_ram x) c.args.page.0) c.frames.ensures
    ∙ sym (page_of-frame m c.args.page.0 c.requires off)

pub returns-clause-whole : goal.returns-clause-whole
returns-clause-whole c =
    let m = c.args.self.now in
    let off = observed-no m c.args.page.0 (sym c.in_default.is ∙ c.place.ensures.value) in
    ap length (page_of-frame m c.args.page.0 c.requires off)
    ∙ ap (λ (x : FrameRam Lent Global). length (page_of (frame_ram x) c.args.page.0)) (sym c.frames.ensures) ∙ c.page.ensures.whole
