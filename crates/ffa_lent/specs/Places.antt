-- SPDX-License-Identifier: MIT OR Apache-2.0
-- Where pages lie.
use Rattle.std.specs.Prelude.{ℕ, zero, suc, List, [], ◌∷◌, Option, Some, Box, length, option_map}
use Rattle.std.specs.Borrow.{Array, u8}
use Rattle.std.specs.Box.{box_allocator}
use Rattle.std.specs.Ptr.{Ptr, ptr_add}
use Rattle.ffa_lent.specs.declared.lent.Lent.{Lent}
use Rattle.ffa_lent.specs.declared.slot.Slot.{Slot}
use Rattle.ffa_lent.specs.declared.span.Strip.{Strip}

-- where a page lies that is lent: its box owns the memory there, and can own no other
abbrev pub place_of : {X : Type 0} → Box X Lent → Ptr
place_of page = (box_allocator page).at

-- the slot of a page
abbrev pub slot_of : Box (List ℕ) Lent → Slot
slot_of page = record { at = place_of page; lent = box_allocator page; bytes = Some page.value }

-- where the page of a slot lies, if there is one
abbrev pub place_held : Slot → Option Ptr
place_held slot = option_map (λ _. slot.at) slot.bytes

-- where so many pages lie, the first here, and each 4096 bytes behind the one before it
abbrev pub places_from : Ptr → ℕ → List Ptr
places_from p zero = []
places_from p (suc n) = p ∷ places_from (ptr_add (Array u8 4096) 1 p) n

-- where the pages of a strip lie
abbrev pub places_in : Strip → List Ptr
places_in s = places_from s.at (length s.pages)
