-- SPDX-License-Identifier: MIT OR Apache-2.0
use Rattle.std.proofs.Common.{◌≡◌, ◌∙◌, List, ℕ, refl, ap}
use Rattle.ffa_model.specs.Ram.{Ram, page_of, with_page, with_word}
use Rattle.ffa_physmem.specs.Moments.{IsStore}
use Rattle.ffa_recorded.specs.Loans.{noted_in}
use Rattle.ffa_recorded.specs.declared.recorded.Noted.TheVariants.{Stored}
use Rattle.ffa_recorded.proofs.Records.{page-back, recorded-step}
use Rattle.ffa_recorded.proofs.recorded.RecordedPhysMem.write_word.Goals as goal

pub returns-clause-steps : goal.returns-clause-steps
returns-clause-steps c =
    let m = c.args.self.now in
    let old : Ram = record { base = m.ram.base.0; pages = m.ram.pages.items } in
    let new : Ram = record { base = c.write_word.new.self.base.0; pages = c.write_word.new.self.pages.items } in
    let page = c.args.page.0 in
    let bytes : List ℕ = c.page-bytes.result.now in
    let wrote : new ≡ with_page old page (with_word (page_of old page) c.args.index c.args.value) =
    c.write_word.ensures.ram ∙ ap (λ ram. let r : Ram = record { base = ram.base.0; pages = ram.pages.items } in with_page r page (with_word (page_of r page) c.args.index c.args.value)) c.note.ensures.ram in
    let back : with_page new page bytes ≡ old =
    ap (λ (r : Ram). with_page r page bytes) wrote ∙ ap (with_page (with_page old page (with_word (page_of old page) c.args.index c.args.value)) page) c.page-bytes.ensures.value
    ∙ page-back old page (with_word (page_of old page) c.args.index c.args.value) in
    recorded-step old new (noted_in m) (noted_in c.note.new.self) (Stored (record { page = c.args.page; bytes = bytes })) (λ s. IsStore old page c.args.index c.args.value s)
    back (record { before = back; after = wrote; none = refl; unread = refl; words = refl; loans = refl }) m.is_kept c.note.new.self.is_kept c.note.ensures.kept c.note.ensures.noted
