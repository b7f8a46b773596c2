-- SPDX-License-Identifier: MIT OR Apache-2.0
use Rattle.std.proofs.Common.{◌≡◌, ◌∙◌, replicate, ap}
use Rattle.ffa_model.specs.Ram.{Ram, with_page}
use Rattle.ffa_recorded.specs.Loans.{noted_in, ram_of}
use Rattle.ffa_recorded.proofs.Records.{loan-spends, loan-step}
use Rattle.ffa_recorded.proofs.recorded.RecordedPhysMem.clear_page.Goals as goal

pub returns-clause-steps : goal.returns-clause-steps
returns-clause-steps c =
    let m = c.args.self.now in
    let old : Ram = ram_of m in
    let new : Ram = record { base = c.clear_page.new.self.base.0; pages = c.clear_page.new.self.pages.items } in
    let wrote : new ≡ with_page old c.args.page.0 (replicate 4096 0) =
    c.clear_page.ensures.ram ∙ ap (λ ram. let r : Ram = record { base = ram.base.0; pages = ram.pages.items } in with_page r c.args.page.0 (replicate 4096 0)) c.note.ensures.ram in
    (loan-step old new (noted_in m) (noted_in c.note.new.self) c.args.page c.page-bytes.result.now _ c.page-bytes.ensures.value wrote
    m.is_kept c.note.new.self.is_kept c.note.ensures.kept c.note.ensures.noted)

pub returns-clause-spent : goal.returns-clause-spent
returns-clause-spent c =
    let m = c.args.self.now in
    let old : Ram = ram_of m in
    let new : Ram = record { base = c.clear_page.new.self.base.0; pages = c.clear_page.new.self.pages.items } in
    let wrote : new ≡ with_page old c.args.page.0 (replicate 4096 0) =
    c.clear_page.ensures.ram ∙ ap (λ ram. let r : Ram = record { base = ram.base.0; pages = ram.pages.items } in with_page r c.args.page.0 (replicate 4096 0)) c.note.ensures.ram in
    (loan-spends old new (noted_in m) (noted_in c.note.new.self) c.args.page c.page-bytes.result.now _ c.page-bytes.ensures.value wrote
    m.is_kept c.note.new.self.is_kept c.note.ensures.kept c.note.ensures.noted)
