-- SPDX-License-Identifier: MIT OR Apache-2.0
use Rattle.std.proofs.Common.{◌≡◌, ◌∙◌, ℕ, ◌+◌, Bool, true, false, List, vec_len, sym, ap, arith, if◌then◌else◌, lt-ltb}
use Rattle.std.specs.Vec.{with_item}
use Rattle.ffa_recorded.specs.Loans.{has_room, held_in}
use Rattle.ffa_recorded.specs.declared.recorded.Noted.TheVariants.{Written}
use Rattle.ffa_recorded.specs.declared.recorded.Recorded.{Recorded}
use Rattle.ffa_recorded.proofs.recorded.Recorded.note_loan.Goals as goal

pub returns-then-self-len : goal.returns-then-self-len
returns-then-self-len c =
    let m = c.args.self.now in
    let room : has_room m ≡ true = lt-ltb m.noted (vec_len m.places) (omega (arith, c.if-self-len.true, c.len.ensures)) in
    ap (λ (bytes : List ℕ).
    let x : Recorded = record m {
      places = with_item m.places m.noted (Written (record { page = c.args.page; bytes = bytes }));
      noted = m.noted + 1;
    } in x)
    c.page-bytes.ensures.value
    ∙ ap (λ (b : Bool).
    let x : Recorded = record m {
      places = if b then with_item m.places m.noted (held_in m c.args.page.0) else m.places;
      noted = if b then m.noted + 1 else m.noted;
      is_kept = if b then m.is_kept else false;
    } in x)
    (sym room)
