-- SPDX-License-Identifier: MIT OR Apache-2.0
-- FOR PROOFS ALONE
-- Bytes that stand in pages in a row.
use Rattle.std.specs.Prelude.{◌≡◌, ℕ, ◌+◌, ◌*◌, ◌^◌, ◌<◌, ◌≤◌, List, length, take}
use Rattle.ffa_model.specs.Ram.{Ram, page_of}
use Rattle.ffa_rxtx.specs.Parts.{run_in}

-- the first bytes of n pages in a row
abbrev pub run_front : Ram → ℕ → ℕ → ℕ → List ℕ
run_front ram first n len = take len (run_in ram first n)

-- the pages are in RAM, each has its bytes, and these are enough
pub record IsPageRun (ram : Ram) (first n len : ℕ) : Type 0 where
  pub inside : first + n ≤ length ram.pages
  pub word : first + n < 2 ^ 32
  pub fits : len ≤ 4096 * n
  pub whole : (i : ℕ) → i < n → length (page_of ram (first + i)) ≡ 4096
