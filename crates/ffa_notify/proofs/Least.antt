-- SPDX-License-Identifier: MIT OR Apache-2.0
-- The least bit of a word, and the least that fails a test.
use Rattle.std.proofs.Common.{◌≡◌, ◌∙◌, ℕ, ◌^◌, ◌<◌, Bool, true, Some, None, sym, ap}
use Rattle.std.specs.Prelude.{◌==◌, ◌&&◌, find, not, if◌then◌else◌}
use Rattle.std.specs.Option.{option_map}
use Rattle.std.specs.Int.{trailing_zeros, w64}
use Rattle.std.proofs.lemmas.Nat.Bits.{bit_at-trailing_zeros}
use lib.Bits.{bit_and}
use Rattle.ffa_model.specs.declared.why.About.TheVariants.{Bit}
use Rattle.ffa_model.specs.AboutContents.{first_bit}
use Rattle.ffa_model.specs.Bits.{is_set}
use Rattle.ffa_model.specs.Lists.{listed}
use Rattle.ffa_model.proofs.Finds.{find-filtered, find-listed, find-same}
use Rattle.ffa_notify.proofs.Bits.{is_set-at, set-and}

pub least : (mask : ℕ) → 0 < mask → mask < 2 ^ 64 → find (λ k. is_set k mask) (listed 64 (λ k. k)) ≡ Some (trailing_zeros w64 mask)
least mask some fits =
    let is = bit_at-trailing_zeros w64 mask some fits in
    find-listed (λ k. is_set k mask) 64 (trailing_zeros w64 mask) (λ k. k) is.0
    (λ k lt. is_set-at k mask ∙ ap (λ d. d == 1) (is.2 k lt))
    (is_set-at (trailing_zeros w64 mask) mask ∙ ap (λ d. d == 1) is.1)

-- of those bits of a bitmap that others have too, which are those that fail a test, where an endpoint is known
pub least-failing : (known : Bool) → known ≡ true → (test : ℕ → Bool) (bitmap others : ℕ) → ((k : ℕ) → k < 64 → is_set k others ≡ not (test k))
    → option_map (λ (k : ℕ). Bit k) (find (λ k. is_set k (bit_and bitmap others)) (listed 64 (λ k. k))) ≡ (if known then first_bit test bitmap else None)
least-failing known is test bitmap others are =
    ap (option_map (λ (k : ℕ). Bit k))
    (find-same (λ k. is_set k (bit_and bitmap others)) (λ k. is_set k bitmap && not (test k)) 64 (λ k. k) (λ k lt. set-and k bitmap others ∙ ap (λ b. is_set k bitmap && b) (are k lt))
    ∙ sym (find-filtered (λ k. not (test k)) (λ k. is_set k bitmap) (listed 64 (λ k. k))))
    ∙ ap (λ b. if b then first_bit test bitmap else None) (sym is)
