-- SPDX-License-Identifier: MIT OR Apache-2.0
-- What a contract sees of a list of lent pages and of what stands beside them for a machine: the bytes of each page,
-- where it lies, for how many pages the list's own memory has room, and how many pages RAM may have so that a boot in it takes no
-- memory.
use Rattle.std.specs.Prelude.{ℕ, List, [], min, refl}
use denote.RawPtr.{Ptr, coded_ptr}
use Rattle.std.specs.Coded.{Coded, code_by, coded_list, coded_ℕ, coded×}
use Rattle.ffa_model.specs.declared.limits.TheConstants.{MOST_PAGES}

pub record LentPages : Type 0 where
  pub pages : List (List ℕ)
  pub places : List Ptr
  pub room : ℕ
  pub ready_for : ℕ

abbrev pub coded_lent_pages : Coded LentPages
coded_lent_pages =
    code_by (List (List ℕ) × (List Ptr × (ℕ × ℕ)))
    (coded× (coded_list (coded_list coded_ℕ)) (coded× (coded_list coded_ptr) (coded× coded_ℕ coded_ℕ)))
    (λ l. (l.pages, (l.places, (l.room, l.ready_for))))
    (λ p. record { pages = p.0; places = p.1.0; room = p.1.1.0; ready_for = p.1.1.1 }) (λ _. refl)

-- no pages, and room for so many, and for a machine in them
abbrev pub empty : ℕ → LentPages
empty room = record { pages = []; places = []; room = room; ready_for = min room MOST_PAGES }
