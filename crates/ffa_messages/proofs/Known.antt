-- SPDX-License-Identifier: MIT OR Apache-2.0
-- Which endpoints have a place in a list.
use Rattle.std.proofs.Common.{◌≡◌, ℕ, zero, suc, ◌<◌, true, List, [], ◌∷◌, length, get_or, Option, None, is_some, sym, arith, true≢false}
use Rattle.std.proofs.lemmas.Bool.Decides.{nat_tests}
use Rattle.ffa_model.specs.Buffers.{buffers_in}
use Rattle.ffa_model.specs.Identifiers.{place}
use Rattle.ffa_model.specs.State.{Buffers, is_known_among}

inside : (list : List (Option Buffers)) (k : ℕ) → is_some (get_or list k None) ≡ true → k < length list
inside [] k has = absurd (true≢false (sym has))
inside (b ∷ list) zero has = omega arith
inside (b ∷ list) (suc k) has = omega (arith, inside list k has)

-- an endpoint of a machine that has buffers in a list is known among those of the list
pub known_with_buffers : (n : ℕ) (list : List (Option Buffers)) (e : ℕ) → is_known_among n e ≡ true → is_some (buffers_in list e) ≡ true → is_known_among (length list) e ≡ true
known_with_buffers n list e known has = let within = inside list (place e) has in grind (arith, nat_tests)
