-- SPDX-License-Identifier: MIT OR Apache-2.0
-- Single bits of a word.
use Rattle.std.proofs.Common.{◌≡◌, ℕ, ◌==◌, arith, bit_and}
use Rattle.std.proofs.lemmas.Bool.Decides.{nat_tests}
use Rattle.std.proofs.lemmas.Nat.Bits.{and_pow}
use Rattle.ffa_model.specs.Bits.{is_set}

pub contains_first : (n : ℕ) → (bit_and n 1 == 1) ≡ is_set 0 n
contains_first n = let e = and_pow n 0 in rw e (grind (arith, nat_tests))

pub contains_fourth : (n : ℕ) → (bit_and n 8 == 8) ≡ is_set 3 n
contains_fourth n = let e = and_pow n 3 in rw e (grind (arith, nat_tests))
