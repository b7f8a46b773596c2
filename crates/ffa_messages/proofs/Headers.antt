-- SPDX-License-Identifier: MIT OR Apache-2.0
-- Headers by their fields, and where they stand.
use Rattle.std.proofs.Common.{◌≡◌, ◌∙◌, ℕ, zero, suc, ◌+◌, ◌≤◌, List, ◌++◌, length, drop, sym, ap, subst, arith}
use Rattle.std.specs.List.{flat_map}
use Rattle.std.proofs.lemmas.List.{drop-append-le, length-drop}
use Rattle.byteorder.specs.Endian.{little_number}
use Rattle.byteorder.specs.Numbers.{little_from-append}
use Rattle.ffa_model.specs.Lists.{run}
use Rattle.ffa_model.specs.Messages.{header_in}
use Rattle.ffa_model.specs.Ram.{number_in}

-- a header of the numbers that stand at its fields' places
pub header_of_numbers : (tx : List ℕ) (flags reserved offset receiver sender size : ℕ)
    → flags ≡ number_in tx 0 4 → reserved ≡ number_in tx 4 4 → offset ≡ number_in tx 8 4
    → receiver ≡ number_in tx 12 2 → sender ≡ number_in tx 14 2 → size ≡ number_in tx 16 4
    → record { flags = flags; reserved = reserved; offset = offset; receiver = receiver; sender = sender; size = size } ≡ header_in tx
header_of_numbers tx flags reserved offset receiver sender size e0 e4 e8 e12 e14 e16 = rw (e0, e4, e8, e12, e14, e16)

-- a number in the front is that of the whole, and so is a header
number-front : (xs ys : List ℕ) (at n : ℕ) → at + n ≤ length xs → number_in (xs ++ ys) at n ≡ number_in xs at n
number-front xs ys at n within =
    let behind = length-drop at xs in
    ap (little_number n) (drop-append-le at xs ys (omega (arith, within))) ∙ little_from-append n (drop at xs) ys (omega (arith, within, behind))

header-front : (xs ys : List ℕ) → 20 ≤ length xs → header_in (xs ++ ys) ≡ header_in xs
header-front xs ys long =
    λ i. record {
      flags = number-front xs ys 0 4 (omega (arith, long)) i;
      reserved = number-front xs ys 4 4 (omega (arith, long)) i;
      offset = number-front xs ys 8 4 (omega (arith, long)) i;
      receiver = number-front xs ys 12 2 (omega (arith, long)) i;
      sender = number-front xs ys 14 2 (omega (arith, long)) i;
      size = number-front xs ys 16 4 (omega (arith, long)) i;
    }

-- and so is that of pages in a row
pub header-run : (page : ℕ → List ℕ) (first n : ℕ) → 1 ≤ n → length (page first) ≡ 4096 → header_in (flat_map page (run first n)) ≡ header_in (page first)
header-run page first zero some whole = absurd (omega arith)
header-run page first (suc n) some whole =
    let same : first + 0 ≡ first = omega arith in
    let long : 20 ≤ length (page (first + 0)) = subst (λ p. 20 ≤ length (page p)) (sym same) (omega (arith, whole)) in
    header-front (page (first + 0)) _ long ∙ ap (λ p. header_in (page p)) same
