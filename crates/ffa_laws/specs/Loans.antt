-- SPDX-License-Identifier: MIT OR Apache-2.0
-- What stays of a loan, and what an offer says. A borrower that stores into a loan, and by its next call zeroes it and gives
-- it up, leaves no trace of what it stored; and the bytes in the pages of an offer make no difference to a receiver before
-- it retrieves them. Both follow from what can be read (Readable), and are laws of their own: `readably` and `revealed` are
-- definitions, and ones that told or showed more would meet all other laws.
use Rattle.std.specs.Prelude.{◌≡◌, ◌≢◌, ℕ, Bool, true, false, List, [], ◌∷◌, ◌++◌, Some, None}
use Rattle.std.specs.List.{list_all}
use Rattle.std.specs.Option.{option_map_or}
use Rattle.ffa_model.specs.declared.call.Call.TheVariants.{MemRelinquish}
use Rattle.ffa_model.specs.declared.descriptor.RelinquishDesc.{RelinquishDesc}
use Rattle.ffa_model.specs.declared.operation.Op.{Op}
use Rattle.ffa_model.specs.declared.operation.Op.TheVariants.{Call, Load, Store, Fetch}
use Rattle.ffa_model.specs.Numbers.{HandleNumber, Identifier, PageIndex}
use Rattle.ffa_model.specs.State.{State, transaction_of}
use Rattle.ffa_model.specs.Access.{is_held_by, is_naming, is_offered}
use Rattle.ffa_model.specs.Calls.{first_failure}
use Rattle.ffa_model.specs.Memory.{page_of_address}
use Rattle.ffa_model.specs.MemoryReturn.{memory_relinquish, relinquish_read}
use Rattle.ffa_model.specs.Registers.{decode}
use Rattle.ffa_model.specs.Step.{state_after, step}
use Rattle.ffa_laws.specs.Events.{seen}
use Rattle.ffa_laws.specs.Readable.{blank, readable, readings}

-- a page that the open transaction of a handle names
abbrev pub is_page_of : State → HandleNumber → PageIndex → Bool
is_page_of s h p = is_naming s p (transaction_of s h)

-- A LOAN THAT IS ZEROED

-- a load, a fetch, or a store into a page of the transaction; an address outside RAM is in no page
abbrev pub is_in_loan : State → HandleNumber → Op → Bool
is_in_loan s h (Call x) = false
is_in_loan s h (Load addr size) = true
is_in_loan s h (Store addr size value) = option_map_or (is_page_of s h) (page_of_address s addr) false
is_in_loan s h (Fetch addr) = true

-- a call by which the runner gives up a transaction and zeroes its pages, and that nothing refuses
pub record IsZeroing (s : State) (h : ℕ) (x : List ℕ) : Type 0 where
  pub call : decode x ≡ MemRelinquish
  pub passes : first_failure (memory_relinquish s).guards ≡ None
  pub asked : RelinquishDesc
  pub read : relinquish_read s ≡ Some asked
  pub handle : asked.handle ≡ h
  pub zero : asked.zero ≡ true

-- from one state e sees the same of two runs, and reads the same
pub record AreAlike (e : ℕ) (s : State) (ops others : List Op) : Type 0 where
  pub seen : seen e s ops ≡ seen e s others
  pub readings : readings e s ops ≡ readings e s others

-- Whichever of the two is done before the call, the state after it is the same. And to whoever doesn't hold the loan both
-- runs are alike: what comes before the call, the call, and all that comes later.
pub record AreForgotten (s : State) (h : ℕ) (x : List ℕ) (writes others : List Op) : Type 0 where
  pub state : state_after s (writes ++ Call x ∷ []) ≡ state_after s (others ++ Call x ∷ [])
  pub alike :
      (e : ℕ) (later : List Op) → s.runner ≢ e → is_held_by e (transaction_of s h) ≡ false
      → AreAlike e s (writes ++ Call x ∷ later) (others ++ Call x ∷ later)

-- What the runner does in a loan, which it then zeroes as it gives it up, is forgotten.
abbrev pub ZeroedIsForgotten : State → Type 0
ZeroedIsForgotten s =
    (h : ℕ) (x : List ℕ) (writes others : List Op) → IsZeroing s h x
    → list_all (is_in_loan s h) writes ≡ true → list_all (is_in_loan s h) others ≡ true
    → AreForgotten s h x writes others

-- AN OFFER THAT ISN'T RETRIEVED

-- a transaction that is offered to e, and that e doesn't hold
pub record IsWaiting (e h : ℕ) (s : State) : Type 0 where
  pub offered : is_offered e (transaction_of s h) ≡ true
  pub unheld : is_held_by e (transaction_of s h) ≡ false

-- it waits at first, and after each of the operations
abbrev pub IsSealed : Identifier → HandleNumber → State → List Op → Type 0
IsSealed e h s [] = IsWaiting e h s
IsSealed e h s (op ∷ ops) = IsWaiting e h s × IsSealed e h (step s op).state ops

-- from two states e sees the same of a run, reads the same, and can read the same after it
pub record SaysNothing (e : ℕ) (s t : State) (ops : List Op) : Type 0 where
  pub seen : seen e t ops ≡ seen e s ops
  pub readings : readings e t ops ≡ readings e s ops
  pub readable : readable e (state_after t ops) ≡ readable e (state_after s ops)

-- An operation of another endpoint opens a transaction that is offered to e. While the transaction is open and e doesn't
-- hold it, the bytes that its pages had make no difference to e: t is s except for these.
abbrev pub OfferSaysNothing : State → Op → Type 0
OfferSaysNothing s op =
    (e h : ℕ) (later : List Op) (t : State) → s.runner ≢ e → transaction_of s h ≡ None
    → IsSealed e h (step s op).state later
    → blank (is_page_of (step s op).state h) t ≡ blank (is_page_of (step s op).state h) s
    → SaysNothing e s t (op ∷ later)
