-- SPDX-License-Identifier: MIT OR Apache-2.0
-- The place of an address in its page, which a walk keeps.
use Rattle.std.specs.Prelude.{◌≡◌, ℕ, ◌%◌, IfOk}
use Rattle.ffa_model.specs.Walk.{Answer}

-- a leaf in the answer has the address's place in its page
abbrev pub KeepsOffset : ℕ → Answer → Type 0
KeepsOffset address answer = IfOk answer (λ leaf. leaf.phys % 4096 ≡ address % 4096)
