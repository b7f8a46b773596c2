-- SPDX-License-Identifier: MIT OR Apache-2.0
-- What isolation asks of a state: less than that it is sound.
use Rattle.std.specs.Prelude.{◌≡◌, ◌≢◌, ℕ, ◌≤◌, ◌<◌, Bool, true, ◌&&◌, ◌||◌, nat_le, List, length, Some, None, slice_index_or}
use Rattle.std.specs.FinSet as finite_set
use Rattle.ffa_model.specs.declared.limits.TheConstants.{MOST_ENDPOINTS}
use Rattle.ffa_model.specs.Numbers.{Identifier}
use Rattle.ffa_model.specs.Lists.{is_in_run}
use Rattle.ffa_model.specs.Transactions.{ceiling, handle_of, most_sends}
use Rattle.ffa_model.specs.declared.rights.Kind.TheVariants.{Donate}
use Rattle.ffa_model.specs.declared.rights.Rights.{Rights}
use Rattle.ffa_model.specs.Rights.{is_share, is_lend, is_within}
use Rattle.ffa_model.specs.State.{State, Transaction, Buffers, is_known, owner_of, buffers_of, sent_by, transaction_of, own_right_of}
use Rattle.ffa_model.specs.Access.{handle_at, names, is_naming, is_receiver, held_by, ownership_of}
use Rattle.ffa_model.specs.RunStates.{requester}
use Rattle.ffa_model.specs.Notifications.{binding, class_of}

-- whether a transaction lets several endpoints have its pages: a share, or a lend to several
abbrev pub is_joint : Transaction → Bool
is_joint t = is_share t.kind || (is_lend t.kind && nat_le 2 (length t.receivers))

-- An open transaction is of pages of its sender. Who holds it is one of its receivers, has no more than the owner's right,
-- and is alone with it, unless the transaction lets several have the pages. Nobody could hold more than the owner's right, and
-- a donate is to one: without these two a retrieve would break what isolation asks.
pub record IsSteadyTransaction (s : State) (t : Transaction) : Type 0 where
  pub owned : (p : ℕ) → names s t.ranges p ≡ true → owner_of s p ≡ t.sender
  pub receiver : (e : ℕ) (right : Rights) → held_by t e ≡ Some right → is_receiver e t ≡ true
  pub within : (p e : ℕ) (right : Rights) → names s t.ranges p ≡ true → held_by t e ≡ Some right
      → is_within (Some right) (own_right_of s p) ≡ true
  pub alone : (e f : ℕ) (one other : Rights) → e ≢ f → held_by t e ≡ Some one → held_by t f ≡ Some other
      → is_joint t ≡ true
  pub ceilings : (p e : ℕ) → names s t.ranges p ≡ true
      → is_within (Some (ceiling (ownership_of s) t e)) (own_right_of s p) ≡ true
  pub taker : (e f : ℕ) → t.kind ≡ Donate → is_receiver e t ≡ true → is_receiver f t ≡ true → e ≡ f

-- a page that its owner has alone: no open transaction names it
pub record IsAlone (s : State) (e p : ℕ) : Type 0 where
  pub owner : owner_of s p ≡ e
  pub unnamed : handle_at s p ≡ None

-- an endpoint has each page of its buffers alone
pub record AreSteadyBuffers (s : State) (e : ℕ) (b : Buffers) : Type 0 where
  pub tx : (p : ℕ) → is_in_run b.tx b.pages p ≡ true → IsAlone s e p
  pub rx : (p : ℕ) → is_in_run b.rx b.pages p ≡ true → IsAlone s e p

-- a bit that is bound is of the class of its sender
pub record IsSteadyBinding (entry : List ℕ) : Type 0 where
  pub receiver : Identifier
  pub bit : ℕ
  pub sender : Identifier
  pub is : entry ≡ binding receiver (class_of sender) bit sender
  pub in_word : bit < 64

-- A page stands in one open transaction at most, and a buffer's pages in none. Whoever runs, and whoever waits for an
-- answer, is an endpoint. A handle is its sender's, of a send that it has made: else a send could take the place of
-- another.
pub record IsSteady (s : State) : Type 0 where
  pub some : 1 ≤ length s.parties
  pub few : length s.parties ≤ MOST_ENDPOINTS
  pub each : length s.buffers ≡ length s.parties
  pub runner : is_known s s.runner ≡ true
  pub requesters : (i by : ℕ) → requester (slice_index_or s.works i None) ≡ Some by → is_known s by ≡ true
  pub one : (p h k : ℕ) → is_naming s p (transaction_of s h) ≡ true → is_naming s p (transaction_of s k) ≡ true → h ≡ k
  pub transactions : (h : ℕ) (t : Transaction) → transaction_of s h ≡ Some t → IsSteadyTransaction s t
  pub sends : length s.sent ≡ length s.parties
  pub numbers :
      (h : ℕ) (t : Transaction) → transaction_of s h ≡ Some t
      → (n : ℕ) × (h ≡ handle_of t.sender n) × (n ≤ sent_by s t.sender) × (n ≤ most_sends s.ffa)
  pub buffers : (e : ℕ) (b : Buffers) → is_known s e ≡ true → buffers_of s e ≡ Some b → AreSteadyBuffers s e b
  pub bound : (entry : List ℕ) → finite_set.contains s.bound entry ≡ true → IsSteadyBinding entry
