-- SPDX-License-Identifier: MIT OR Apache-2.0
use Rattle.std.proofs.Common.{◌≡◌, ◌∙◌, ℕ, ◌+◌, ◌<◌, ◌≤◌, Bool, true, List, Option, arith, sym, ap, inl, inr}
use Rattle.std.specs.Prelude.{◌↔◌, IsTrue}
use Rattle.std.proofs.lemmas.Bool.{cases_Bool, both_ways}
use Rattle.ffa_model.specs.MemorySend.{is_buffer}
use Rattle.ffa_model.specs.State.{Buffers}
use Rattle.ffa_memshare.proofs.reasons.failing.is_buffer.Goals as goal

-- of the pages from one on up to the next
buffer-here : (buffers : List (Option Buffers)) (page : ℕ) (any : Bool) → (IsTrue any ↔ ((p : ℕ) × (page ≤ p) × (p < page + 1) × (is_buffer buffers p ≡ true)))
    → any ≡ is_buffer buffers page
buffer-here buffers page any is = elim (cases_Bool any) [
  | inl some ↦
      let (p, low, high, buffer) = is.0 some in
      let same : page ≡ p = omega (arith, low, high) in
      some ∙ sym (ap (is_buffer buffers) same ∙ buffer)
  | inr none ↦ elim (cases_Bool (is_buffer buffers page)) [
    | inl buffer ↦ absurd (both_ways any none (is.1 (page, omega arith, omega arith, buffer)))
    | inr out ↦ none ∙ sym out
  ]
]

pub returns : goal.returns
returns c = buffer-here c.args.buffers.now c.args.page.0 c.is_any_buffer.result c.is_any_buffer.ensures
