-- SPDX-License-Identifier: MIT OR Apache-2.0
-- Kinds of numbers, so that a signature says which number is which. What is none of these, as a count or an address, is a ℕ.
use Rattle.std.specs.Prelude.{ℕ}

-- They are other words for ℕ. Types of their own would need a conversion at each map, list and sum that uses such a
-- number.

-- of an endpoint, or of the manager (DEN0077A, 6.1)
abbrev pub Identifier : Type 0
Identifier = ℕ

-- of a page of RAM, counted from its first
abbrev pub PageIndex : Type 0
PageIndex = ℕ

-- of a memory management transaction (DEN0077A, 5.10.2): the number in a `Handle`
abbrev pub HandleNumber : Type 0
HandleNumber = ℕ

-- of a bit in a word of 64 bits, from 0: a notification of a class
abbrev pub Bit : Type 0
Bit = ℕ

-- of the notifications that one kind of sender sets (DEN0077A, 10)
abbrev pub Class : Type 0
Class = ℕ
