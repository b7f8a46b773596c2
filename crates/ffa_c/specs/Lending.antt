-- SPDX-License-Identifier: MIT OR Apache-2.0
-- What lending pages does to what C holds.
use Rattle.std.specs.Prelude.{◌≡◌, ℕ, ◌≤◌, List, [], ◌∷◌, ◌++◌, length, Option, None, Some, if◌then◌else◌}
use Rattle.std.specs.Option.{option_map}
use Rattle.std.specs.Ptr.{Ptr}
use Rattle.ffa_c.specs.LentPages.{LentPages}
use Rattle.ffa_c.specs.Boarded.{Boarded}

-- the pages of a list, where there is a list
abbrev pub pages_of : Option LentPages → Option (List (List ℕ))
pages_of list = option_map (λ l. l.pages) list

-- and where each lies
abbrev pub places_of : Option LentPages → Option (List Ptr)
places_of list = option_map (λ l. l.places) list

-- the bytes of its pages in order; nothing where there is no list
abbrev pub bytes_of : Option LentPages → List (List ℕ)
bytes_of None = []
bytes_of (Some l) = l.pages

-- for how many pages a list has room
abbrev pub room_of : Option LentPages → ℕ
room_of None = 0
room_of (Some l) = l.room

-- how many pages a list may have so that a boot in them takes no memory, but what a text takes while it is read
abbrev pub ready_for : Option LentPages → ℕ
ready_for None = 0
ready_for (Some l) = l.ready_for

-- a page goes from a slot to the end of a list: it is there once, and the slot is empty; by the bytes of pages, or by where they lie
pub record IsLent {X : Type 0} (old new : Option (List X)) (slot slot_after : Option X) : Type 0 where
  pub pages : List X
  pub page : X
  pub list : old ≡ Some pages
  pub given : slot ≡ Some page
  pub added : new ≡ Some (pages ++ page ∷ [])
  pub emptied : slot_after ≡ None

-- whether a list can begin, as C is told: there is none
abbrev pub begun_answer : Option (List (List ℕ)) → ℕ
begun_answer None = 0
begun_answer (Some pages) = 15

-- whether a page can go from a slot to a list, as C is told: there has to be a list, and a page in the slot
abbrev pub lent_answer : Option (List (List ℕ)) → Option (List ℕ) → ℕ
lent_answer None slot = 16
lent_answer (Some pages) None = 17
lent_answer (Some pages) (Some page) = 0

-- there is a list, and it has no room for one page more
abbrev pub IsFull : Option LentPages → Type 0
IsFull None = ⊥
IsFull (Some l) = l.room ≤ length l.pages

-- whether there is an empty list, as C is told
abbrev pub list_answer : Option (List (List ℕ)) → ℕ
list_answer None = 16
list_answer (Some []) = 0
list_answer (Some (page ∷ pages)) = 18

-- whether a page can go from a list to a slot, as C is told: the slot has to be empty, and the list to have a page
abbrev pub taken_answer : Option (List (List ℕ)) → Option (List ℕ) → ℕ
taken_answer None slot = 16
taken_answer (Some pages) (Some page) = 15
taken_answer (Some []) None = 17
taken_answer (Some (page ∷ pages)) None = 0

-- what C is told where it ends what it holds: RAM that was lent needs an empty list
abbrev pub freed_answer : Option Boarded → Option (List (List ℕ)) → ℕ
freed_answer None list = 19
freed_answer (Some b) list = if b.is_lent then list_answer list else 0

-- the list afterwards: it has the pages of RAM that was lent, and else those of before; by what is seen of the pages of each
abbrev pub given_back : {X : Type 0} → (Boarded → List X) → Option Boarded → Option (List X) → Option (List X)
given_back pages None list = list
given_back pages (Some b) list = if b.is_lent then Some (pages b) else list

-- how many pages a list has
abbrev pub page_count : Option (List (List ℕ)) → ℕ
page_count None = 0
page_count (Some pages) = length pages
