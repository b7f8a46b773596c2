-- SPDX-License-Identifier: MIT OR Apache-2.0
-- RX, between two writes.
use Rattle.std.proofs.Common.{◌≡◌, ◌≤◌, ℕ, List, length, true, Option, Some, sym, subst, arith, IsSomeAnd}
use Rattle.std.proofs.lemmas.Bool.Decides.{nat_tests}
use Rattle.ffa_model.specs.Lists.{is_in_run}
use Rattle.ffa_model.specs.Ram.{Ram, with_page}
use Rattle.ffa_model.specs.State.{Buffers}
use Rattle.ffa_physmem.specs.Moments.{IsInLoan, Step}
use Rattle.ffa_physmem.proofs.Moments.{loan-writing, page-beside}
use Rattle.ffa_rxtx.specs.Parts.{IsBesideRx, IsInRam, IsRxWriting}

-- RX begins with a page
run-first : (first n : ℕ) → 1 ≤ n → is_in_run first n first ≡ true
run-first first n some = grind (arith, nat_tests)

module _ (ram : Ram) (own : Option Buffers) (b : Buffers) (is : Some b ≡ own) (inside : IsSomeAnd own (λ b. IsInRam (length ram.pages) b)) where
  first-page : is_in_run b.rx b.pages b.rx ≡ true
  first-page =
      let its : IsInRam (length ram.pages) b = subst (λ (o : Option Buffers). IsSomeAnd o (λ b. IsInRam (length ram.pages) b)) (sym is) inside in
      run-first b.rx b.pages its.some

  -- which is lent
  pub rx-loan : (s : Step) → IsInLoan ram b.rx s → IsRxWriting ram own s
  rx-loan s loan = record { buffers = b; are = sym is; writing = loan-writing ram b.rx s (is_in_run b.rx b.pages) first-page loan }

  -- or was written
  pub rx-written : (new : Ram) (bytes : List ℕ) → new ≡ with_page ram b.rx bytes → IsBesideRx ram new own
  rx-written new bytes wrote = record { buffers = b; are = sym is; beside = page-beside ram new b.rx bytes (is_in_run b.rx b.pages) first-page wrote }
