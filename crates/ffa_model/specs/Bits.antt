-- SPDX-License-Identifier: MIT OR Apache-2.0
-- Fields of words.
use Rattle.std.specs.Prelude.{ℕ, zero, suc, ◌+◌, ◌-◌, ◌*◌, ◌/◌, ◌%◌, ◌^◌, ◌==◌, Bool, List, filter, if◌then◌else◌}
use Rattle.ffa_model.specs.Lists.{listed}

-- bits high down to low of a word
abbrev pub bits : ℕ → ℕ → ℕ → ℕ
bits high low word = word / 2 ^ low % 2 ^ (high + 1 - low)

abbrev pub is_set : ℕ → ℕ → Bool
is_set k word = bits k k word == 1

-- the halves of a 32-bit word that names two endpoints, and that word
abbrev pub high_half : ℕ → ℕ
high_half word = bits 31 16 word

abbrev pub low_half : ℕ → ℕ
low_half word = bits 15 0 word

abbrev pub word_of_two : ℕ → ℕ → ℕ
word_of_two high low = high * 0x10000 + low

-- the 64-bit word of two halves
abbrev pub word_of_halves : ℕ → ℕ → ℕ
word_of_halves low high = high * 2 ^ 32 + low

-- which of the 64 bits of a word are set
abbrev pub bits_of : ℕ → List ℕ
bits_of word = filter (λ k. is_set k word) (listed 64 (λ k. k))

-- the number in which those of the lowest n bits are set that pass a test
abbrev pub word_where : ℕ → (ℕ → Bool) → ℕ
word_where zero test = 0
word_where (suc n) test = word_where n test + (if test n then 2 ^ n else 0)
