-- SPDX-License-Identifier: MIT OR Apache-2.0
use Rattle.std.proofs.Common.{◌≡◌, ◌∙◌, ℕ, Some, ap, length, sym}
use Rattle.std.specs.Prelude.{is_some}
use Rattle.ffa_c.specs.LentPages.{LentPages}
use Rattle.ffa_c.specs.Readiness.{ready_pages}
use Rattle.ffa_c.proofs.Ready.{ram-fits, ready-for-none, ready-without-seat}
use Rattle.ffa_c.proofs.lent_list.LentList.«open».Goals as goal

pub returns-in_default-clause-unready : goal.returns-in_default-clause-unready
returns-in_default-clause-unready c =
    ready-for-none c.args.manifest.now _ _
    (ap (λ l. l.ready_for) (sym c.self.view_is)
    ∙ (ap (λ seat. ready_pages c.self.inside.frames.is_ready (is_some seat) c.self.inside.storage) c.in_default.ensures.lacking
    ∙ ready-without-seat c.self.inside.frames.is_ready c.self.inside.storage))
    c.requires

pub new-requires-clause-fits : goal.new-requires-clause-fits
new-requires-clause-fits c =
    ram-fits c.args.manifest.now _ (ap (λ f. length f.pages) c.replace-frames.ensures.value ∙ (ap (λ l. length l.pages) c.self.view_is ∙ c.requires))

pub returns-in-Err-clause-unready : goal.returns-in-Err-clause-unready
returns-in-Err-clause-unready c =
    ready-for-none c.args.manifest.now _ _
    (ap (λ l. l.ready_for) (sym c.self.view_is)
    ∙ ap (λ copies. ready_pages copies (is_some c.self.inside.seat) c.self.inside.storage) (sym (ap (λ f. f.is_ready) c.replace-frames.ensures.value) ∙ c.in-Err.ensures.unready))
    c.requires

-- without a seat no list is ready, whatever room it has
pub returns-in_default-clause-refused : goal.returns-in_default-clause-refused
returns-in_default-clause-refused c =
    let frames = c.self.inside.frames in
    let none : ready_pages frames.is_ready (is_some c.seat_in.new.own) (Some c.in_ok-storage.storage) ≡ 0 =
    ap (λ seat. ready_pages frames.is_ready (is_some seat) (Some c.in_ok-storage.storage)) c.in_default.ensures.none_left
    ∙ ready-without-seat frames.is_ready (Some c.in_ok-storage.storage)
    in
    let before : ready_pages frames.is_ready (is_some c.self.inside.seat) c.self.inside.storage ≡ 0 =
    ap (λ seat. ready_pages frames.is_ready (is_some seat) c.self.inside.storage) c.in_default.ensures.lacking
    ∙ ready-without-seat frames.is_ready c.self.inside.storage
    in
    ap (λ (ready : ℕ). let list : LentPages = record { pages = frames.pages; places = frames.places; room = frames.room; ready_for = ready } in list) (none ∙ sym before)
    ∙ c.self.view_is
