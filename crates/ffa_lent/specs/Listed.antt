-- SPDX-License-Identifier: MIT OR Apache-2.0
-- What a contract sees of a list of lent pages: the bytes of each, where each lies, for how many pages its own memory has room, and
-- whether it has all the memory that is taken beside the pages by what is made of them.
use Rattle.std.specs.Prelude.{ℕ, Bool, true, false, List, [], refl}
use denote.RawPtr.{Ptr, coded_ptr}
use Rattle.std.specs.Coded.{Coded, code_by, coded_bool, coded_list, coded_ℕ, coded×}

pub record Listed : Type 0 where
  pub pages : List (List ℕ)
  pub places : List Ptr
  pub room : ℕ
  pub is_ready : Bool

abbrev pub coded_listed : Coded Listed
coded_listed =
    code_by (List (List ℕ) × (List Ptr × (ℕ × Bool)))
    (coded× (coded_list (coded_list coded_ℕ)) (coded× (coded_list coded_ptr) (coded× coded_ℕ coded_bool)))
    (λ l. (l.pages, (l.places, (l.room, l.is_ready))))
    (λ p. record { pages = p.0; places = p.1.0; room = p.1.1.0; is_ready = p.1.1.1 }) (λ _. refl)

-- no pages, and room for so many
abbrev pub empty : ℕ → Listed
empty room = record { pages = []; places = []; room = room; is_ready = true }

-- no pages, and no memory for any or for what is made of them
abbrev pub nothing_listed : Listed
nothing_listed = record { pages = []; places = []; room = 0; is_ready = false }
