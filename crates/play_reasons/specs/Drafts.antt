-- SPDX-License-Identifier: MIT OR Apache-2.0
-- FOR PROOFS ALONE
-- A text that is being made, or nothing where there was no memory for it.
use Rattle.std.specs.Prelude.{◌≡◌, ℕ, List, ◌++◌, Option, None, Some, ⊤}

-- words were put behind a text: where it isn't short, it is the old one and these words
abbrev pub Puts : (old new : Option (List ℕ)) → List ℕ → Type 0
Puts old None words = ⊤
Puts None (Some text) words = ⊥
Puts (Some before) (Some text) words = text ≡ before ++ words
