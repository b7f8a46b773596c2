-- SPDX-License-Identifier: MIT OR Apache-2.0
-- What each check of a call finds where it fails, in words.
use Rattle.std.specs.Prelude.{ℕ, List, [], map, slice_index_or}
use Rattle.ffa_model.specs.declared.refusal.Refusal.{Refusal}
use Rattle.ffa_model.specs.declared.refusal.TheConstants.{WORDS}
use Rattle.ffa_model.specs.contracts.refusal.Refusal.{the_type}
use denote.Enum.Declared.{tag_of}

-- where a name stands among all, by which two names are told apart
abbrev pub place_of : Refusal → ℕ
place_of refusal = tag_of the_type refusal

-- the words in the row at a place, where each row has a name and its words
abbrev pub words_at : {A : Type 0} → List (A × record { now : List ℕ }) → ℕ → List ℕ
words_at rows place = slice_index_or (map (λ row. row.1.now) rows) place []

abbrev pub words_of : Refusal → List ℕ
words_of refusal = words_at WORDS.now (place_of refusal)
