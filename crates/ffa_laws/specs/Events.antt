-- SPDX-License-Identifier: MIT OR Apache-2.0
-- What the operations of others do to an endpoint's view, and what the endpoint sees.
use Rattle.byteorder.specs.Endian.{little_bytes}
use Rattle.std.specs.Prelude.{ℕ, ◌==◌, ◌/◌, ◌-◌, Bool, true, false, not, ◌&&◌, List, [], ◌∷◌, ◌++◌, map, filter, length, Option, Some, None, slice_index_or, if◌then◌else◌}
use Rattle.std.specs.FinMap as map_of
use Rattle.std.specs.FinSet as finite_set
use Rattle.ffa_model.specs.declared.rights.Rights.{Rights}
use Rattle.ffa_model.specs.declared.rights.Kind.{Kind}
use Rattle.ffa_model.specs.declared.rights.Kind.TheVariants.{Share, Lend, Donate}
use Rattle.ffa_model.specs.declared.transaction.Range.{Range}
use Rattle.ffa_model.specs.declared.descriptor.RetrieveDesc.{RetrieveDesc}
use Rattle.ffa_model.specs.declared.descriptor.RelinquishDesc.{RelinquishDesc}
use Rattle.ffa_model.specs.declared.operation.Op.{Op}
use Rattle.ffa_model.specs.declared.operation.Op.TheVariants.{Call, Store}
use Rattle.ffa_model.specs.declared.operation.Outcome.{Outcome}
use Rattle.ffa_model.specs.declared.operation.Outcome.TheVariants.{Regs}
use Rattle.ffa_model.specs.declared.call.Call as calls
use Rattle.ffa_model.specs.declared.call.NotificationBits.{NotificationBits}
use Rattle.ffa_model.specs.declared.call.Call.TheVariants.{MsgWait, Yield, Run, DirectRequest, DirectResponse, MemDonate, MemLend, MemShare, MemRetrieve, MemRelinquish, MemReclaim, BitmapDestroy, NotificationBind, NotificationUnbind, NotificationSet, NotificationGet, MsgSend2}
use Rattle.ffa_model.specs.Numbers.{HandleNumber, Identifier}
use Rattle.ffa_model.specs.Bits.{bits_of}
use Rattle.ffa_model.specs.Lists.{listed, map_at}
use Rattle.ffa_model.specs.Registers.{decode}
use Rattle.ffa_model.specs.State.{State, Page, Transaction, Buffers, buffers_of, transaction_of}
use Rattle.ffa_model.specs.Access.{is_from, is_offered, is_receiver, names, ownership_of}
use Rattle.ffa_model.specs.Calls.{Service, encode, first_failure}
use Rattle.ffa_model.specs.Memory.{changed_pages, size_of, store_fault, stored, with_pages, zeroed_page}
use Rattle.ffa_model.specs.Buffers.{filled_pages}
use Rattle.ffa_model.specs.RunStates.{direct_request, direct_response, msg_wait, run_partition, yield_now}
use Rattle.ffa_model.specs.Messages.{header_in, message_in, msg_send2, tx_bytes}
use Rattle.ffa_model.specs.Notices.{hears_notices}
use Rattle.ffa_model.specs.Notifications.{binding, class_of, has_bitmaps_in, is_bound, manager_class, message_bits, notification_get, notification_set, notifications_of, with_notifications, with_pending}
use Rattle.ffa_model.specs.SendDescriptor.{SendRecord}
use Rattle.ffa_model.specs.Transactions.{holding, next_handle, not_holding, open_of, with_open, with_transaction}
use Rattle.ffa_model.specs.MemorySend.{memory_sent, send_read, transaction_sent}
use Rattle.ffa_model.specs.MemoryRetrieve.{retrieve_read, right_for}
use Rattle.ffa_model.specs.MemoryReturn.{named_ranges, relinquish_read}
use Rattle.ffa_model.specs.Step.{serve, service, step}
use Rattle.ffa_laws.specs.Notices.{NoticePart, notice_part, same_notices}
use Rattle.ffa_laws.specs.Public.{PublicPart, public_part, same_public}
use Rattle.ffa_laws.specs.View.{involves, is_near, kept}
use Rattle.std.proofs.Common.{inl, inr}

pub data Event : Type 0 where
  Wrote : (address : ℕ) (bytes : List ℕ) → Event
  Message : (x : List ℕ) → Event
  Filled : (bytes : List ℕ) → Event
  Pending : (class : ℕ) (bits : List ℕ) → Event
  Bound : (receiver class bit : ℕ) → Event
  Unbound : (receiver class bit : ℕ) → Event
  Opened : (handle : ℕ) (t : Transaction) (pages : List (Option Page)) → Event
  Held : (handle holder : ℕ) (right : Option Rights) → Event
  Zeroed : (handle : ℕ) → Event
  Closed : (handle : ℕ) → Event
  Public : (values : PublicPart) → Event
  Notices : (values : NoticePart) → Event

-- APPLY: what an event changes in the view of e

-- buffers that are mapped, of so many pages, and full or not; those of another endpoint have no page in RAM
abbrev pub with_public_buffers : ℕ → Option Buffers → Option (ℕ × Bool) → Option Buffers
with_public_buffers past b None = None
with_public_buffers past None (Some known) = Some (record { tx = past; rx = past; pages = known.0; full = known.1 })
with_public_buffers past (Some b) (Some known) = Some (record b { pages = known.0; full = known.1 })

abbrev pub with_public : State → PublicPart → State
with_public v values =
    record v {
      runner = values.runner;
      statuses = values.statuses;
      works = values.works;
      buffers = map_at (λ i b. with_public_buffers (length v.pages) b (slice_index_or values.buffers i None)) v.buffers;
    }

-- the pages that the ranges name, each in its place, and pages with these in their places
abbrev pub named_pages : State → List Range → List (Option Page)
named_pages s ranges = map_at (λ p page. kept (names s ranges p) page) s.pages

abbrev pub pages_with : State → List Range → List (Option Page) → List (Option Page)
pages_with v ranges pages = map_at (λ p page. if names v ranges p then slice_index_or pages p None else page) v.pages

abbrev pub with_opened : State → HandleNumber → Transaction → List (Option Page) → State
with_opened v h t pages =
    record v { pages = pages_with v t.ranges pages; transactions = map_of.insert v.transactions h t }

-- an endpoint holds a right, or nothing
abbrev pub with_held : Transaction → Identifier → Option Rights → Transaction
with_held t f None = not_holding t f
with_held t f (Some right) = holding t f right

abbrev pub with_holder : State → HandleNumber → Identifier → Option Rights → Option Transaction → State
with_holder v h f right None = v
with_holder v h f right (Some t) = with_open v (with_transaction (open_of v) h (with_held t f right))

-- a transaction and its pages leave
abbrev pub without : State → HandleNumber → State
without v h =
    record v {
      pages = changed_pages v (named_ranges (transaction_of v h)) (λ page. None);
      transactions = map_of.remove v.transactions h;
    }

abbrev pub apply : Identifier → State → Event → State
apply e v (Wrote address bytes) = stored v address bytes
apply e v (Message x) = v
apply e v (Filled bytes) = record v { pages = filled_pages v.pages bytes (buffers_of v e) }
apply e v (Pending class bits) = with_notifications v (with_pending (notifications_of v) e class bits)
apply e v (Bound receiver class bit) = record v { bound = finite_set.insert v.bound (binding receiver class bit e) }
apply e v (Unbound receiver class bit) = record v { bound = finite_set.remove v.bound (binding receiver class bit e) }
apply e v (Opened h t pages) = with_opened v h t pages
apply e v (Held h f right) = with_holder v h f right (transaction_of v h)
apply e v (Zeroed h) = with_pages v (named_ranges (transaction_of v h)) zeroed_page
apply e v (Closed h) = without v h
apply e v (Public values) = with_public v values
apply e v (Notices values) = record v { pending = values.pending; notices = values.notices }

abbrev pub apply_all : Identifier → State → List Event → State
apply_all e v [] = v
apply_all e v (event ∷ events) = apply_all e (apply e v event) events

-- EVENTS: what an operation of another endpoint tells e

abbrev pub where_true : Bool → List Event → List Event
where_true true events = events
where_true false events = []

-- a refusal and a fault give no event
abbrev pub where_passed : {X : Type 0} → Option X → List Event → List Event
where_passed None events = events
where_passed (Some failure) events = []

-- a store into a page that e knows
abbrev pub writes : Identifier → State → ℕ → List ℕ → List Event
writes e s address bytes = where_true (is_near e s ((address - s.ram_base) / 4096)) (Wrote address bytes ∷ [])

-- a call after which e runs
abbrev pub switches : Identifier → Service → List Event
switches e service = where_true (service.state.runner == e) (Message (encode service.reply) ∷ [])

-- what e hears of notices, where it changed in a state that follows
abbrev pub notice_change : Identifier → State → State → List Event
notice_change e s next =
    elim (same_notices (notice_part e s) (notice_part e next)) [ inl same ↦ [] | inr differ ↦ Notices (notice_part e next) ∷ [] ]

-- what e is told of bits that are set or got: who hears of notices is told of those, and anyone else of its own bits alone
abbrev pub notified : Identifier → State → State → List Event → List Event
notified e s next own = if hears_notices s.ffa e then notice_change e s next else own

-- an indirect message to e
abbrev pub delivers : Identifier → State → List ℕ → List Event
delivers e s tx =
    where_true ((header_in tx).receiver == e) (Filled (message_in tx) ∷ [])
    ++ notified e s (msg_send2 s).state
    (where_true ((header_in tx).receiver == e && has_bitmaps_in (notifications_of s) e) (Pending manager_class message_bits ∷ []))

-- a send to e, with the pages after it
abbrev pub opens : Identifier → State → Kind → Option SendRecord → List Event
opens e s kind None = []
opens e s kind (Some r) =
    where_true (is_receiver e (transaction_sent s kind r))
    (Opened (next_handle (open_of s) s.runner) (transaction_sent s kind r) (named_pages (memory_sent s kind (Some r)) r.ranges) ∷ [])

-- the runner takes what e sent
abbrev pub taking : Kind → HandleNumber → Identifier → Rights → Event
taking Donate h f right = Closed h
taking kind h f right = Held h f (Some right)

abbrev pub takes_from : Identifier → State → RetrieveDesc → Option Transaction → List Event
takes_from e s d None = []
takes_from e s d (Some t) =
    where_true (t.sender == e) (taking t.kind d.handle s.runner (right_for (ownership_of s) t s.runner d) ∷ [])

abbrev pub takes : Identifier → State → Option RetrieveDesc → List Event
takes e s None = []
takes e s (Some d) = takes_from e s d (transaction_of s d.handle)

-- the runner gives up what e sent, and zeroes what e sent or is offered
abbrev pub releases : Identifier → State → Option RelinquishDesc → List Event
releases e s None = []
releases e s (Some d) =
    where_true (is_from e (transaction_of s d.handle)) (Held d.handle s.runner None ∷ [])
    ++ where_true (d.zero && involves e (transaction_of s d.handle)) (Zeroed d.handle ∷ [])

-- the runner ends what e was offered
abbrev pub closes : Identifier → State → HandleNumber → List Event
closes e s h = where_true (is_offered e (transaction_of s h)) (Closed h ∷ [])

-- the receiver binds bits to e, of which some were bound to it before
abbrev pub binds : Identifier → State → Identifier → Identifier → List ℕ → List Event
binds e s receiver sender ks =
    where_true (sender == e)
    (map (λ k. Bound receiver (class_of e) k) (filter (λ k. not (is_bound (notifications_of s) receiver (class_of e) k e)) ks))

-- the receiver takes bits away from e that it has
abbrev pub unbinds : Identifier → State → Identifier → Identifier → List ℕ → List Event
unbinds e s receiver sender ks =
    where_true (sender == e)
    (map (λ k. Unbound receiver (class_of e) k) (filter (λ k. is_bound (notifications_of s) receiver (class_of e) k e) ks))

-- the runner makes bits pending, and gets its own
abbrev pub sets : Identifier → State → NotificationBits → List Event
sets e s its =
    notified e s (notification_set s its).state
    (where_true (its.receiver.0 == e) (Pending (class_of s.runner) (bits_of its.bitmap) ∷ []))

abbrev pub gets : Identifier → State → Identifier → ℕ → ℕ → List Event
gets e s receiver context flags = notified e s (notification_get s receiver context flags).state []

-- what a call that nothing refuses tells e besides the public part; those that are not listed tell nothing
abbrev pub told_by : Identifier → State → calls.Call → List Event
told_by e s (MsgWait flags) = switches e (msg_wait s flags)
told_by e s Yield = switches e (yield_now s)
told_by e s (Run target context) = switches e (run_partition s target.0 context)
told_by e s (DirectRequest message) = switches e (direct_request s message)
told_by e s (DirectResponse message) = switches e (direct_response s message)
told_by e s (MemDonate x) = opens e s Donate (send_read s Donate x.total)
told_by e s (MemLend x) = opens e s Lend (send_read s Lend x.total)
told_by e s (MemShare x) = opens e s Share (send_read s Share x.total)
told_by e s (MemRetrieve x) = takes e s (retrieve_read s x.total)
told_by e s MemRelinquish = releases e s (relinquish_read s)
told_by e s (MemReclaim handle flags) = closes e s handle.0
told_by e s (BitmapDestroy endpoint) = unbinds e s 0 e (listed 64 (λ k. k))
told_by e s (NotificationBind its) = binds e s s.runner its.sender.0 (bits_of its.bitmap)
told_by e s (NotificationUnbind its) = unbinds e s s.runner its.sender.0 (bits_of its.bitmap)
told_by e s (NotificationSet its) = sets e s its
told_by e s (NotificationGet receiver context flags) = gets e s receiver.0 context flags
told_by e s MsgSend2 = delivers e s (tx_bytes s s.runner)
told_by e s call = []

-- the public part where it changed
abbrev pub public_change : State → State → List Event
public_change s next =
    elim (same_public (public_part s) (public_part next)) [ inl same ↦ [] | inr differ ↦ Public (public_part next) ∷ [] ]

-- what a call of another endpoint tells e
abbrev pub call_events : Identifier → State → calls.Call → List Event
call_events e s call =
    where_passed (first_failure (service s call).guards) (told_by e s call) ++ public_change s (serve s call).state

-- what an operation of another endpoint tells e
abbrev pub events : Identifier → State → Op → List Event
events e s (Call x) = call_events e s (decode x)
events e s (Store addr size value) =
    where_passed (store_fault s addr (size_of size)) (writes e s addr (little_bytes (size_of size) value))
events e s op = []

-- WHAT AN ENDPOINT SEES

pub data Item : Type 0 where
  Own : (op : Op) → Item
  Told : (event : Event) → Item

-- e's own operations and the events towards e, in order
abbrev pub items : Identifier → State → List Op → List Item
items e s [] = []
items e s (op ∷ ops) =
    (if s.runner == e then Own op ∷ [] else map (λ event. Told event) (events e s op)) ++ items e (step s op).state ops

-- the registers of a message to e
abbrev pub message : Identifier → Event → List Outcome
message e (Message x) = Regs (record { 0 = e }) x ∷ []
message e event = []

abbrev pub messages : Identifier → List Event → List Outcome
messages e [] = []
messages e (event ∷ events) = message e event ++ messages e events

-- the outcomes of e's operations, and the registers by which another's operation made e run
abbrev pub seen : Identifier → State → List Op → List Outcome
seen e s [] = []
seen e s (op ∷ ops) =
    (if s.runner == e then (step s op).outcome ∷ [] else messages e (events e s op)) ++ seen e (step s op).state ops
