-- SPDX-License-Identifier: MIT OR Apache-2.0
-- The keys of a table, and what stands at one: its presence first, then its kind, then its value.
use Rattle.std.specs.Prelude.{ℕ, ℤ, pos, negsuc, Bool, true, ◌&&◌, List, Option, Some, None, Result, Ok, Err, if◌then◌else◌, bytes_eq}
use Rattle.std.specs.List.{list_any}
use Rattle.toml.specs.Data.{Data, Items, Members, no_members, member, get_member, as_str, as_integer, as_array}
use Rattle.ffa_model.specs.Manifest.{is_from_to}
use Rattle.ffa_manifest.specs.declared.error.ManifestError.{ManifestError}
use Rattle.ffa_manifest.specs.declared.error.ManifestError.TheVariants.{UnknownKey, MissingKey, WrongKind}
use Rattle.ffa_manifest.specs.Reading.{◌>>=◌, or_cause, item_count}

abbrev pub is_among : List (List ℕ) → List ℕ → Bool
is_among names key = list_any (λ name. bytes_eq key name) names

abbrev pub are_among : List (List ℕ) → Members → Bool
are_among names no_members = true
are_among names (member key d ms) = is_among names key && are_among names ms

-- a table has no key but these
unfoldable pub only_keys : List (List ℕ) → Members → Result (Unit {0}) ManifestError
only_keys names ms = if are_among names ms then Ok tt else Err UnknownKey

unfoldable pub value_at : List ℕ → Members → Result Data ManifestError
value_at key ms = or_cause MissingKey (get_member key ms)

unfoldable pub text_at : List ℕ → Members → Result (List ℕ) ManifestError
text_at key ms = do
  d ← value_at key ms
  or_cause WrongKind (as_str d)

-- the number that an integer is, where it's at least 0
unfoldable pub natural : ℤ → Option ℕ
natural (pos n) = Some n
natural (negsuc n) = None

unfoldable pub integer_at : List ℕ → Members → Result (Option ℕ) ManifestError
integer_at key ms = do
  d ← value_at key ms
  z ← or_cause WrongKind (as_integer d)
  Ok (natural z)

-- the items of an array, at least one and at most this many, or else this cause
unfoldable pub items_at : List ℕ → ℕ → ManifestError → Members → Result Items ManifestError
items_at key most cause ms = do
  d ← value_at key ms
  ds ← or_cause WrongKind (as_array d)
  if is_from_to 1 most (item_count ds) then Ok ds else Err cause
