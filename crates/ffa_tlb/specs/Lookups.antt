-- SPDX-License-Identifier: MIT OR Apache-2.0
-- What is held for the pages of endpoints, from a list of entries.
use Rattle.std.specs.Prelude.{◌≡◌, ◌⊎◌, ℕ, ◌==◌, Bool, ◌&&◌, List, [], ◌∷◌, Option, Some, None, if◌then◌else◌}
use Rattle.ffa_model.specs.declared.leaf.Leaf.{Leaf}
use Rattle.ffa_tlb.specs.declared.translations.Entry.{Entry}

-- whether endpoint f and page q are endpoint e and page p
abbrev pub is_pair : ℕ → ℕ → ℕ → ℕ → Bool
is_pair f q e p = (f == e) && (q == p)

-- the leaf of the first entry that is held for a page of an endpoint.
-- A list serves instead of a function, because a value that clauses see needs a code, and a function has no code.
abbrev pub lookup : List Entry → ℕ → ℕ → Option Leaf
lookup [] e p = None
lookup (entry ∷ entries) e p = if is_pair entry.endpoint.0 entry.page.0 e p then Some entry.leaf else lookup entries e p

-- a leaf was given for a page of an endpoint: what is held now was held before, or is that leaf
abbrev pub IsFilled : List Entry → List Entry → ℕ → ℕ → Leaf → Type 0
IsFilled old new e p leaf =
    (f q : ℕ) → (lookup new f q ≡ None) ⊎ (lookup new f q ≡ (if is_pair f q e p then Some leaf else lookup old f q))

-- a page of an endpoint has nothing held for it any more, and each other has what it had
abbrev pub IsForgotten : List Entry → List Entry → ℕ → ℕ → Type 0
IsForgotten old new e p = (f q : ℕ) → lookup new f q ≡ (if is_pair f q e p then None else lookup old f q)
