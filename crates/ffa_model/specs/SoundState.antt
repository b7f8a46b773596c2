-- SPDX-License-Identifier: MIT OR Apache-2.0
-- What a sound state is: the first state is one, and each operation keeps it so.
use Rattle.std.specs.Prelude.{◌≡◌, ◌≢◌, ◌<◌, ◌≤◌, ℕ, ◌+◌, ◌*◌, ◌%◌, ◌^◌, Bool, true, false, not, ◌&&◌, is_some, nat_lt, List, length, Some, None, slice_get}
use Rattle.std.specs.List.{list_all}
use Rattle.std.specs.FinSet as finite_set
use Rattle.ffa_model.specs.declared.limits.TheConstants.{MOST_BLOCKS, MOST_BUFFER_PAGES, MOST_ENDPOINTS, MOST_OPEN, MOST_RANGES}
use Rattle.ffa_model.specs.declared.rights.Rights.{Rights}
use Rattle.ffa_model.specs.declared.rights.Kind.TheVariants.{Donate}
use Rattle.ffa_model.specs.Numbers.{Identifier, PageIndex}
use Rattle.ffa_model.specs.Lists.{is_in_run}
use Rattle.ffa_model.specs.Manifest.{has_tables, is_from_to, is_ram_base}
use Rattle.ffa_model.specs.Regions.{is_normal}
use Rattle.ffa_model.specs.Rights.{is_at_most}
use Rattle.ffa_model.specs.State.{State, Page, Party, Transaction, Buffers, buffers_of, is_known, owner_of, page_at, sent_by, transaction_of}
use Rattle.ffa_model.specs.Access.{ownership_of, held_by, is_naming, is_receiver, names}
use Rattle.ffa_model.specs.Buffers.{are_runs_apart, is_usable}
use Rattle.ffa_model.specs.SendDescriptor.{most_receivers}
use Rattle.ffa_model.specs.RunStates.{schedule_of}
use Rattle.ffa_model.specs.Sound.{IsSound}
use Rattle.ffa_model.specs.Transactions.{are_writable, ceiling, handle_of, most_sends, open_of, open_count, pages_in}
use Rattle.ffa_model.specs.MemorySend.{are_grants_within, are_known, is_inside, is_told_normal}
use Rattle.ffa_model.specs.Notifications.{binding, class_of, has_bitmaps_in, is_bound, manager_class, notifications_of, receiver_bit}

-- numbers that are bytes
abbrev pub are_bytes : List ℕ → Type 0
are_bytes numbers = list_all (λ b. nat_lt b 256) numbers ≡ true

abbrev pub IsKnown : State → Identifier → Type 0
IsKnown s e = is_known s e ≡ true

-- a page that is not of non-secure memory, where worlds are told apart
abbrev pub is_secure : State → PageIndex → Bool
is_secure s p = is_some s.normal && not (is_normal s.ram_base s.normal p)

-- what the manifest says of an endpoint
pub record IsSoundParty (party : Party) : Type 0 where
  pub size : length party.uuid ≡ 16
  pub bytes : are_bytes party.uuid
  pub properties : party.properties < 2 ^ 32

-- a page that an endpoint owns; that it has an own right, and a page of the manager has none, is in the state's form
pub record IsSoundPage (s : State) (page : Page) : Type 0 where
  pub owner : IsKnown s page.owner
  pub size : length page.bytes ≡ 4096
  pub bytes : are_bytes page.bytes

-- an open transaction under its handle
pub record IsSoundTransaction (s : State) (h : ℕ) (t : Transaction) : Type 0 where
  -- the handle has the sender and the number of one of its sends
  pub sender : IsKnown s t.sender
  pub number : (n : ℕ) × (h ≡ handle_of t.sender n) × (1 ≤ n) × (n ≤ sent_by s t.sender)
  -- its ranges lie in RAM, and its pages are its sender's
  pub inside : list_all (is_inside (ownership_of s)) t.ranges ≡ true
  pub owned : (p : ℕ) → p < length s.pages → names s t.ranges p ≡ true → owner_of s p ≡ t.sender
  -- each grant is at most each page's own data right, and each page of one that zeroes has own right rw
  pub grants : list_all (are_grants_within (ownership_of s) t.receivers) (pages_in (ownership_of s) t.ranges) ≡ true
  pub zeroed : t.zero ≡ true → are_writable (ownership_of s) t.ranges ≡ true
  -- a holder is a receiver, and holds at most its ceiling; nobody holds a donate
  pub holder : (e : ℕ) (right : Rights) → held_by t e ≡ Some right → is_receiver e t ≡ true
  pub within : (e : ℕ) (right : Rights) → held_by t e ≡ Some right
      → is_at_most right (ceiling (ownership_of s) t e) ≡ true
  pub donate : (e : ℕ) → t.kind ≡ Donate → held_by t e ≡ None
  -- its receivers are endpoints; how many receivers and ranges it may have, and that its tag is a word
  pub receivers : are_known (length s.parties) t.receivers ≡ true
  pub some_receivers : 1 ≤ length t.receivers
  pub few_receivers : length t.receivers ≤ most_receivers t.kind
  pub some_ranges : 1 ≤ length t.ranges
  pub few_ranges : length t.ranges ≤ MOST_RANGES
  pub tag : t.tag < 2 ^ 64
  -- it offers no secure page to the normal world, and its memory is told to be what it is
  pub worlds : (p : ℕ) → p < length s.pages → names s t.ranges p ≡ true → is_secure s p ≡ true → is_receiver 0 t ≡ false
  pub told : t.normal ≡ is_told_normal (ownership_of s) s.normal t.ranges

-- two runs of pages of the endpoint alone, in no open transaction, with own right rw
pub record IsSoundBuffers (s : State) (e : ℕ) (buffers : Buffers) : Type 0 where
  pub count : is_from_to 1 MOST_BUFFER_PAGES buffers.pages ≡ true
  pub tx : (p : ℕ) → is_in_run buffers.tx buffers.pages p ≡ true → is_usable e (ownership_of s) p ≡ true
  pub rx : (p : ℕ) → is_in_run buffers.rx buffers.pages p ≡ true → is_usable e (ownership_of s) p ≡ true
  pub apart : are_runs_apart buffers.pages buffers.tx buffers.rx ≡ true

-- a bit that is bound: to nobody else, in its sender's class, and where the receiver has bitmaps
pub record IsSoundBinding (s : State) (entry : List ℕ) : Type 0 where
  pub receiver : Identifier
  pub bit : ℕ
  pub sender : Identifier
  pub is : entry ≡ binding receiver (class_of sender) bit sender
  pub to_known : IsKnown s receiver
  pub from_known : IsKnown s sender
  pub in_word : bit < 64
  pub bitmaps : has_bitmaps_in (notifications_of s) receiver ≡ true
  pub alone :
      (other : ℕ) → is_bound (notifications_of s) receiver (class_of sender) bit other ≡ true → other ≡ sender

-- a bit that is pending: one of a partition or of the normal world is bound
pub record IsSoundPending (s : State) (entry : List ℕ) : Type 0 where
  pub receiver : Identifier
  pub class : ℕ
  pub bit : ℕ
  pub is : entry ≡ receiver_bit receiver class bit
  pub to_known : IsKnown s receiver
  pub of_class : class ≤ manager_class
  pub in_word : bit < 64
  pub bound : class < manager_class → (sender : ℕ) × (is_bound (notifications_of s) receiver class bit sender ≡ true)

-- from one endpoint to as many as there may be, 2 to 64 MiB of RAM in one GiB, which has all tables, and a list by endpoint for each of them
pub record IsSized (s : State) : Type 0 where
  pub some : 1 ≤ length s.parties
  pub few : length s.parties ≤ MOST_ENDPOINTS
  pub base : is_ram_base s.ram_base ≡ true
  pub within : s.ram_base + 4096 * length s.pages ≤ 2 ^ 32
  pub one_table : s.ram_base % 2 ^ 30 + 4096 * length s.pages ≤ 2 ^ 30
  pub blocks :
      (n : ℕ) × (length s.pages ≡ 512 * n) × (1 ≤ n) × (n ≤ MOST_BLOCKS)
      × (has_tables s.tables n (length s.parties) ≡ true)
  pub versions : length s.versions ≡ length s.parties
  pub sent : length s.sent ≡ length s.parties
  pub buffers : length s.buffers ≡ length s.parties
  pub works : length s.works ≡ length s.parties
  pub bitmaps : length s.bitmaps ≡ length s.parties

-- a sound state
pub record IsSoundState (s : State) : Type 0 where
  pub sized : IsSized s
  pub parties : (i : ℕ) (party : Party) → slice_get s.parties i ≡ Some party → IsSoundParty party
  pub pages : (p : ℕ) (page : Page) → page_at s p ≡ Some page → IsSoundPage s page
  pub transactions : (h : ℕ) (t : Transaction) → transaction_of s h ≡ Some t → IsSoundTransaction s h t
  -- the normal world owns no secure page
  pub worlds : (p : ℕ) → is_secure s p ≡ true → owner_of s p ≢ 0
  -- a page stands in at most one open transaction
  pub one :
      (p h k : ℕ) → p < length s.pages → is_naming s p (transaction_of s h) ≡ true
      → is_naming s p (transaction_of s k) ≡ true → h ≡ k
  -- how many transactions of an endpoint are open, and how many it has sent
  pub few : (e : ℕ) → IsKnown s e → open_count (open_of s) e ≤ MOST_OPEN
  pub sent : (e : ℕ) → IsKnown s e → sent_by s e ≤ most_sends s.ffa
  pub buffers : (e : ℕ) (b : Buffers) → IsKnown s e → buffers_of s e ≡ Some b → IsSoundBuffers s e b
  pub schedule : IsSound (schedule_of s)
  pub bound : (entry : List ℕ) → finite_set.contains s.bound entry ≡ true → IsSoundBinding s entry
  pub pending : (entry : List ℕ) → finite_set.contains s.pending entry ≡ true → IsSoundPending s entry
