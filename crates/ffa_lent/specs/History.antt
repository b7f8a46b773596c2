-- SPDX-License-Identifier: MIT OR Apache-2.0
-- The history of lent RAM, from which the steps follow.
use Rattle.std.specs.Prelude.{ℕ, List, [], ◌∷◌, Option, None, drop, take, refl}
use Rattle.std.specs.Coded.{Coded, code_by, coded×, coded_list, coded_option, coded_ℕ}
use Rattle.ffa_model.specs.Ram.{Ram}
use Rattle.ffa_physmem.specs.Codes.{coded_reading, coded_settled}
use Rattle.ffa_physmem.specs.Moments.{Reading, Settled, Step, with_beneath}

-- An event: the bytes that pages from `first` on had before; what the library settled or read at once, if the event is a settle or a
-- reading; and how many words it stores, and how many loans it begins. An event says how to go back. So the steps are a function of the present RAM, and each history leads to this RAM.
pub record Event : Type 0 where
  pub first : ℕ
  pub had : List (List ℕ)
  pub settled : Option Settled
  pub reading : Option Reading
  pub words : ℕ
  pub loans : ℕ

abbrev pub coded_event : Coded Event
coded_event =
    code_by (ℕ × (List (List ℕ) × ((Option Settled × Option Reading) × (ℕ × ℕ))))
    (coded× coded_ℕ (coded× (coded_list (coded_list coded_ℕ)) (coded× (coded× (coded_option coded_settled) (coded_option coded_reading)) (coded× coded_ℕ coded_ℕ))))
    (λ e. (e.first, (e.had, ((e.settled, e.reading), (e.words, e.loans)))))
    (λ p. record { first = p.0; had = p.1.0; settled = p.1.1.0.0; reading = p.1.1.0.1; words = p.1.1.1.0; loans = p.1.1.1.1 }) (λ _. refl)

abbrev pub coded_events : Coded (List Event)
coded_events = coded_list coded_event

-- the event that may change `count` pages of a RAM from `first` on
abbrev pub changed : Ram → ℕ → ℕ → Event
changed ram first count = record { first = first; had = take count (drop first ram.pages); settled = None; reading = None; words = 0; loans = 0 }

-- the event that stores a word of a page, and the one that begins a loan of its bytes
abbrev pub stored : Ram → ℕ → Event
stored ram page = record (changed ram page 1) { words = 1 }

abbrev pub lent : Ram → ℕ → Event
lent ram page = record (changed ram page 1) { loans = 1 }

-- RAM before an event
abbrev pub before : Ram → Event → Ram
before ram e = with_beneath ram e.first e.had

-- the steps that led to a RAM, the last step first
abbrev pub steps_of : Ram → List Event → List Step
steps_of ram [] = []
steps_of ram (e ∷ earlier) =
    record { before = before ram e; after = ram; settled = e.settled; reading = e.reading; words = e.words; loans = e.loans } ∷ steps_of (before ram e) earlier
