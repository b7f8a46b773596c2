-- SPDX-License-Identifier: MIT OR Apache-2.0
-- Who is a receiver.
use Rattle.std.proofs.Common.{◌≡◌, Bool, true, false, cond, List, [], ◌∷◌, Some, refl}
use Rattle.std.specs.Prelude.{◌||◌, find, is_some}
use Rattle.std.specs.List.{list_any}

-- one is found that passes a test where any does
pub found_any : {X : Type 0} (test : X → Bool) (xs : List X) → is_some (find test xs) ≡ list_any test xs
found_any test [] = refl
found_any test (x ∷ xs) = of (test x) (found_any test xs)
  where
    of : (b : Bool) → is_some (find test xs) ≡ list_any test xs → is_some (cond b (Some x) (find test xs)) ≡ (b || list_any test xs)
    of true rest = refl
    of false rest = rest
