-- SPDX-License-Identifier: MIT OR Apache-2.0
-- Tables and arrays of the code beside the data that they stand for.
use Rattle.std.proofs.Common.{◌≡◌, ℕ, List, [], ◌∷◌, ◌||◌, map, length, Bor, String, Global, string_bytes, refl, ap, suc, bytes_eq}
use Rattle.std.specs.List.{list_all, list_any}
use Rattle.std.specs.Map.{keys_of}
use Rattle.toml.specs.View.{members_view, items_view}
use Rattle.toml.specs.declared.value.Value.{Value}
use Rattle.ffa_manifest.specs.Reading.{item_count}
use Rattle.ffa_manifest.specs.Keys.{are_among, is_among}

is_among-now : (names : List (Bor (List ℕ))) (key : List ℕ) → is_among (map (λ n. n.now) names) key ≡ list_any (λ n. bytes_eq key n.now) names
is_among-now [] key = refl
is_among-now (n ∷ names) key = ap (λ b. bytes_eq key n.now || b) (is_among-now names key)

pub are_among_view : (names : List (Bor (List ℕ))) (es : List (String Global × Value)) → are_among (map (λ n. n.now) names) (members_view es) ≡ list_all (λ k. list_any (λ n. bytes_eq (string_bytes k) n.now) names) (keys_of es)
are_among_view names [] = refl
are_among_view names (e ∷ es) = rw (is_among-now names (string_bytes e.0), are_among_view names es) refl

pub item_count_view : (vs : List Value) → item_count (items_view vs) ≡ length vs
item_count_view [] = refl
item_count_view (v ∷ vs) = ap suc (item_count_view vs)
