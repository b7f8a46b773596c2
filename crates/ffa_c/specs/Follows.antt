-- SPDX-License-Identifier: MIT OR Apache-2.0
-- FOR PROOFS ALONE
-- What becomes of a pointer that holds a machine or a list while what is behind it is lent.
use Rattle.std.specs.Prelude.{◌≡◌, Option, Some}
use Rattle.std.specs.Borrow.{Fml, Lends, MutBor}
use Rattle.std.specs.Io.BufRead.{Rests}
use Rattle.ffa_c.specs.Boarded.{Boarded}
use Rattle.ffa_c.specs.LentPages.{LentPages}
use Rattle.ffa_c.specs.contracts.held.Held as held
use Rattle.ffa_c.specs.contracts.held_list.HeldList as held_list
use Rattle.ffa_c.specs.contracts.lent_list.LentList as list
use Rattle.ffa_c.specs.contracts.seat.Seat as seat
use Rattle.ffa_c.specs.declared.held.Held.{Held}
use Rattle.ffa_c.specs.declared.held_list.HeldList.{HeldList}

-- it holds in the end what is left in the seat
abbrev pub seat_follows : MutBor Held → MutBor (Option Boarded) → Fml
seat_follows h lent = Lends held.the_row seat.the_row h lent (λ v. record { at = h.now.at; alloc = h.now.alloc; value = v })

-- it holds in the end what is left of the list
abbrev pub list_follows : MutBor HeldList → MutBor LentPages → Fml
list_follows h lent = Lends held_list.the_row list.the_row h lent (λ l. record { at = h.now.at; alloc = h.now.alloc; value = Some l })

-- it holds in the end what it held
abbrev pub keeps_value : MutBor Held → Fml
keeps_value h = Rests held.the_row h (λ (last : Held). last.value ≡ h.now.value)

abbrev pub keeps_list : MutBor HeldList → Fml
keeps_list h = Rests held_list.the_row h (λ (last : HeldList). last.value ≡ h.now.value)
