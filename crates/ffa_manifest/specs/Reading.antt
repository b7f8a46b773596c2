-- SPDX-License-Identifier: MIT OR Apache-2.0
-- Reading in order: a cause that applies ends it.
use Rattle.std.specs.Prelude.{◌≡◌, ℕ, suc, Bool, List, [], ◌∷◌, ◌++◌, Option, Some, None, Result, Ok, Err, if◌then◌else◌}
use Rattle.toml.specs.Data.{Data, Items, no_items, item}
use Rattle.ffa_manifest.specs.declared.error.ManifestError.{ManifestError}

-- what follows, where no cause applied so far
infixl 10 ◌>>=◌
abbrev pub ◌>>=◌ : {A B : Type 0} → Result A ManifestError → (A → Result B ManifestError) → Result B ManifestError
(Ok x) >>= f = f x
(Err e) >>= f = Err e

-- the value, or this cause where there is none
abbrev pub or_cause : {A : Type 0} → ManifestError → Option A → Result A ManifestError
or_cause e None = Err e
or_cause e (Some x) = Ok x

-- the number, or this cause where there is none or it fails the test
abbrev pub tested : (ℕ → Bool) → ManifestError → Option ℕ → Result ℕ ManifestError
tested test e None = Err e
tested test e (Some n) = if test n then Ok n else Err e

-- what was read before, and then these items in order, each read in the light of what was read before it
abbrev pub read_each : {A : Type 0} → (List A → Data → Result A ManifestError) → List A → Items
    → Result (List A) ManifestError
read_each one before no_items = Ok before
read_each one before (item d ds) = one before d >>= λ a. read_each one (before ++ a ∷ []) ds

abbrev pub item_count : Items → ℕ
item_count no_items = 0
item_count (item d ds) = suc (item_count ds)

-- an answer is what the definition says, as this function sees it
abbrev pub Exact : {X Y : Type 0} → (X → Y) → Result X ManifestError → Result Y ManifestError → Type 0
Exact seen (Ok x) read = read ≡ Ok (seen x)
Exact seen (Err e) read = read ≡ Err e
