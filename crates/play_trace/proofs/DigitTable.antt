-- SPDX-License-Identifier: MIT OR Apache-2.0
-- The table of digits says of each byte what the definition says.
use Rattle.std.proofs.Common.{◌≡◌, ℕ, ◌^◌, ◌<◌, ◌≤◌, true, Option, Some, None, get_or, refl, ap, arith, ◌==◌, nat_le, unwrap_or}
use Rattle.std.proofs.lemmas.Bool.{agree_below_at, eqb-true, leb-true}
use Rattle.play_trace.specs.TraceLines.{digit_value}
use Rattle.play_trace.specs.Parsed.{value_of}
use Rattle.play_trace.specs.declared.line.TheConstants.{DIGIT_VALUES}

-- what stands in the table for a byte
abbrev entry : ℕ → ℕ
entry b = get_or DIGIT_VALUES b 0

pub tells_value : (b : ℕ) → b < 256 → value_of b ≡ entry b
unfolding digit_value
tells_value b h = eqb-true (value_of b) (entry b) (agree_below_at (λ b. value_of b == entry b) (λ b. true) 256 b refl h)

pub entry_few : (b : ℕ) → b < 256 → entry b ≤ 2 ^ 32
entry_few b h = leb-true (entry b) (2 ^ 32) (agree_below_at (λ b. nat_le (entry b) (2 ^ 32)) (λ b. true) 256 b refl h)

pub digit_small : (o : Option ℕ) (v : ℕ) → v ≡ unwrap_or o (2 ^ 32) → v < 2 ^ 32 → Some v ≡ o
digit_small None v e h = absurd (omega (arith, e, h))
digit_small (Some d) v e h = ap Some e
