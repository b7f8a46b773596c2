-- SPDX-License-Identifier: MIT OR Apache-2.0
-- What an endpoint may do with a page changes by its own calls alone.
use Rattle.std.specs.Prelude.{◌≡◌, ◌≢◌, ◌⊎◌, ℕ, Bool, true, false, Option, None, Some}
use Rattle.ffa_model.specs.declared.operation.Op.{Op}
use Rattle.ffa_model.specs.declared.operation.Op.TheVariants.{Call}
use Rattle.ffa_model.specs.declared.call.Call as calls
use Rattle.ffa_model.specs.declared.call.Call.TheVariants.{MemDonate, MemLend, MemShare, MemRetrieve, MemRelinquish, MemReclaim}
use Rattle.ffa_model.specs.Rights.{is_within}
use Rattle.ffa_model.specs.declared.rights.Rights.{Rights}
use Rattle.ffa_model.specs.State.{State, Transaction, transaction_of}
use Rattle.ffa_model.specs.Access.{access, is_receiver}
use Rattle.ffa_model.specs.Registers.{decode}
use Rattle.ffa_model.specs.SoundState.{is_secure}
use Rattle.ffa_laws.specs.Move.{Move}

-- the calls by which a caller may get a right to a page, and those by which it may lose one
abbrev pub gives_access : calls.Call → Bool
gives_access (MemRetrieve x) = true
gives_access (MemReclaim handle flags) = true
gives_access call = false

abbrev pub takes_access : calls.Call → Bool
takes_access (MemDonate x) = true
takes_access (MemLend x) = true
takes_access MemRelinquish = true
takes_access call = false

-- the calls on memory
abbrev pub is_memory_call : calls.Call → Bool
is_memory_call (MemDonate x) = true
is_memory_call (MemLend x) = true
is_memory_call (MemShare x) = true
is_memory_call (MemRetrieve x) = true
is_memory_call MemRelinquish = true
is_memory_call (MemReclaim handle flags) = true
is_memory_call call = false

-- whether an operation is a call of which a test holds
abbrev pub is_call : (calls.Call → Bool) → Op → Bool
is_call test (Call x) = test (decode x)
is_call test op = false

-- Nobody is offered what it has sent itself. So it is at first and after each operation, but not in every sound state.
abbrev pub AreApart : State → Type 0
AreApart s = (h : ℕ) (t : Transaction) → transaction_of s h ≡ Some t → is_receiver t.sender t ≡ false

-- where worlds are told apart, the normal world reaches no page that is not of non-secure memory
abbrev pub AreWorldsApart : State → Type 0
AreWorldsApart s = (p : ℕ) → is_secure s p ≡ true → access s 0 p ≡ None

-- nothing behind, or nothing before, or the same right
abbrev pub IsSameOrNone : Option Rights → Option Rights → Type 0
IsSameOrNone before behind = (behind ≡ None) ⊎ ((before ≡ None) ⊎ (behind ≡ before))

-- One move, in a state in which nobody is offered what it has sent itself: nobody's access changes but the actor's.
-- The actor's grows only by FFA_MEM_RETRIEVE_REQ and FFA_MEM_RECLAIM, and shrinks only by FFA_MEM_DONATE,
-- FFA_MEM_LEND and FFA_MEM_RELINQUISH. Who is offered its own share would get its rights back by giving it up, and lose
-- them by taking it. No right gives way to another one.
pub record OwnAccess {Result : Type 0} (m : State → Move Result) (s : State) : Type 0 where
  pub others : (e p : ℕ) → (m s).from.runner ≢ e → access (m s).after e p ≡ access s e p
  pub grows : (p : ℕ) → (m s).asks gives_access ≡ false
      → is_within (access (m s).after (m s).from.runner p) (access s (m s).from.runner p) ≡ true
  pub shrinks : (p : ℕ) → (m s).asks takes_access ≡ false
      → is_within (access s (m s).from.runner p) (access (m s).after (m s).from.runner p) ≡ true
  pub keeps : (p : ℕ) → IsSameOrNone (access s (m s).from.runner p) (access (m s).after (m s).from.runner p)
