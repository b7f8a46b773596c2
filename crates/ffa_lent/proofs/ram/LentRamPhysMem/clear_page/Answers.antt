-- SPDX-License-Identifier: MIT OR Apache-2.0
use Rattle.std.proofs.Common.{◌∙◌, ap, refl, sym, replicate, None}
use Rattle.ffa_physmem.proofs.Moments.{Only-map, Only-one, Only-then}
use Rattle.ffa_physmem.specs.Work.{loans_of, no_work}
use Rattle.ffa_physmem.proofs.Work.{none-of, one-spends, spends-then}
use Rattle.ffa_lent.specs.LentRam.{in_loan, one_loan, past_of, ram_of-with_bytes, with_bytes}
use Rattle.ffa_lent.specs.Memory.{with_event}
use Rattle.ffa_lent.specs.Settling.{request_of}
use Rattle.ffa_lent.proofs.Doings.{noted-beside, noted-ram}
use Rattle.ffa_lent.proofs.ram.LentRamPhysMem.clear_page.Goals as goal

pub doing-done-requires : goal.doing-done-requires
doing-done-requires c = c.ask.ensures ∙ c.request-request.ensures ∙ ap (λ base. request_of 0 base c.args.page.0 0) c.base.ensures.value

pub returns-clause-ram : goal.returns-clause-ram
returns-clause-ram c =
    let zeroed = with_bytes c.args.self.now c.args.page.0 (replicate 4096 0) in
    noted-ram zeroed c.note.new.self c.note.ensures ∙ ram_of-with_bytes c.args.self.now c.args.page.0 (replicate 4096 0)

pub returns-clause-shown : goal.returns-clause-shown
returns-clause-shown c =
    let zeroed = with_bytes c.args.self.now c.args.page.0 (replicate 4096 0) in
    let stays = noted-ram zeroed c.note.new.self c.note.ensures in
    noted-beside zeroed c.note.new.self (c.note.ensures ∙ ap (with_event zeroed.memory) c.doing-done.ensures) refl
    (record { before = sym stays; after = sym stays; none = refl; unread = refl; words = refl; loans = refl })

pub returns-clause-steps : goal.returns-clause-steps
returns-clause-steps c =
    let zeros = returns-clause-ram c in
    Only-then
    (in_loan c.args.self.now c.args.page.0 (replicate 4096 0))
    (Only-map (Only-one (returns-clause-shown c)) (λ _ s barrier. record {
      from = replicate 4096 0;
      to = replicate 4096 0;
      before = barrier.before ∙ zeros;
      after = barrier.after ∙ zeros;
      none = barrier.none;
      unread = barrier.unread;
    }))
    (λ _ s its. its)

-- the barrier counts nothing
pub returns-clause-spent : goal.returns-clause-spent
returns-clause-spent c =
    let zeroed = with_bytes c.args.self.now c.args.page.0 (replicate 4096 0) in
    spends-then (loans_of 1) no_work (loans_of 1) refl (one_loan c.args.self.now c.args.page.0 (replicate 4096 0))
    (one-spends (past_of zeroed) _ no_work (returns-clause-shown c).each (λ s is. none-of 0 0 None None s is.words is.loans is.none is.unread))
