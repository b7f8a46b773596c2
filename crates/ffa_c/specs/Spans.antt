-- SPDX-License-Identifier: MIT OR Apache-2.0
-- What lending pages side by side does to what C holds.
use Rattle.std.specs.Prelude.{◌≡◌, ℕ, ◌+◌, ◌<◌, List, [], ◌∷◌, ◌++◌, length, Option, None, Some}
use Rattle.ffa_c.specs.LentPages.{LentPages}

-- pages go to the end of a list, in order: each is there once, and none is left where they were; by the bytes of pages, or by where
-- they lie
pub record AreLent {X : Type 0} (old new : Option (List X)) (span span_after : List X) : Type 0 where
  pub pages : List X
  pub list : old ≡ Some pages
  pub added : new ≡ Some (pages ++ span)
  pub emptied : span_after ≡ []

-- whether the pages of a span can go to a list, as C is told: there has to be a list, and a page in the span
abbrev pub span_answer : Option (List (List ℕ)) → List (List ℕ) → ℕ
span_answer None span = 16
span_answer (Some pages) [] = 17
span_answer (Some pages) (page ∷ others) = 0

-- there is a list, and it has no room for so many pages more
abbrev pub LacksRoom : ℕ → Option LentPages → Type 0
LacksRoom more None = ⊥
LacksRoom more (Some l) = l.room < length l.pages + more
