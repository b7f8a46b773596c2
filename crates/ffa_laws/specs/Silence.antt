-- SPDX-License-Identifier: MIT OR Apache-2.0
-- What nobody is told: the calls that may give each event, which events change the view, that the others are about something
-- that stands in the view, and that all that an event says goes into it.
use Rattle.std.specs.Prelude.{◌≡◌, ◌≢◌, ◌≤◌, ◌-◌, ◌/◌, ℕ, Bool, true, false, is_some, List, [], ◌∷◌, length}
use Rattle.std.specs.List.{list_all}
use Rattle.ffa_model.specs.declared.operation.Op.{Op}
use Rattle.ffa_model.specs.declared.operation.Op.TheVariants.{Call, Store}
use Rattle.ffa_model.specs.declared.call.Call as calls
use Rattle.ffa_model.specs.declared.call.Call.TheVariants.{RxRelease, RxtxMap, RxtxUnmap, PartitionInfoGet, MsgWait, Yield, Run, DirectRequest, DirectResponse, MemDonate, MemLend, MemShare, MemRetrieve, MemRelinquish, MemReclaim, BitmapDestroy, NotificationBind, NotificationUnbind, NotificationSet, NotificationGet, MsgSend2}
use Rattle.ffa_model.specs.Numbers.{Identifier}
use Rattle.ffa_model.specs.Bits.{bits_of}
use Rattle.ffa_model.specs.State.{State, buffers_of, is_known, page_at, transaction_of}
use Rattle.ffa_model.specs.Buffers.{room_of}
use Rattle.ffa_model.specs.Notifications.{has_bitmaps_in, notifications_of}
use Rattle.ffa_model.specs.SoundState.{IsSoundState}
use Rattle.ffa_model.specs.Registers.{decode}
use Rattle.ffa_laws.specs.View.{view}
use Rattle.ffa_laws.specs.Events.{Event, Wrote, Message, Filled, Pending, Bound, Unbound, Opened, Held, Zeroed, Closed, Public, Notices, apply, named_pages}
use Rattle.ffa_laws.specs.Move.{Move}
use Rattle.ffa_laws.specs.Notices.{notice_part}
use Rattle.ffa_laws.specs.Public.{public_part}

-- the calls that may change the public part
abbrev pub may_change_public : calls.Call → Bool
may_change_public RxRelease = true
may_change_public (RxtxMap tx rx pages) = true
may_change_public (RxtxUnmap endpoint) = true
may_change_public (PartitionInfoGet uuid flags) = true
may_change_public (MsgWait flags) = true
may_change_public Yield = true
may_change_public (Run target context) = true
may_change_public (DirectRequest message) = true
may_change_public (DirectResponse message) = true
may_change_public (MemRetrieve x) = true
may_change_public MsgSend2 = true
may_change_public call = false

-- the events that a call may give
abbrev pub may_tell : calls.Call → Event → Bool
may_tell call (Public values) = may_change_public call
may_tell (MsgWait flags) (Message x) = true
may_tell Yield (Message x) = true
may_tell (Run target context) (Message x) = true
may_tell (DirectRequest message) (Message x) = true
may_tell (DirectResponse message) (Message x) = true
may_tell MsgSend2 (Filled bytes) = true
may_tell MsgSend2 (Pending class bits) = true
may_tell MsgSend2 (Notices values) = true
may_tell (NotificationSet its) (Pending class bits) = true
may_tell (NotificationSet its) (Notices values) = true
may_tell (NotificationGet receiver context flags) (Notices values) = true
may_tell (NotificationBind its) (Bound receiver class bit) = true
may_tell (NotificationUnbind its) (Unbound receiver class bit) = true
may_tell (BitmapDestroy endpoint) (Unbound receiver class bit) = true
may_tell (MemDonate x) (Opened h t named) = true
may_tell (MemLend x) (Opened h t named) = true
may_tell (MemShare x) (Opened h t named) = true
may_tell (MemRetrieve x) (Held h holder right) = true
may_tell (MemRetrieve x) (Closed h) = true
may_tell MemRelinquish (Held h holder right) = true
may_tell MemRelinquish (Zeroed h) = true
may_tell (MemReclaim handle flags) (Closed h) = true
may_tell call event = false

-- and an operation: a store may give a write, and a load and a fetch nothing
abbrev pub may_be_told : Op → Event → Bool
may_be_told (Call x) event = may_tell (decode x) event
may_be_told (Store addr size value) (Wrote address bytes) = true
may_be_told op event = false

-- A message changes no view. Bytes and pending bits are told as they are written, also where they repeat what stands there.
-- All other events are told only where they change the view.
abbrev pub may_repeat : Event → Bool
may_repeat (Wrote address bytes) = true
may_repeat (Message x) = true
may_repeat (Filled bytes) = true
may_repeat (Pending class bits) = true
may_repeat (Zeroed h) = true
may_repeat event = false

-- events that are told to e one after another, from a view on: each that may not repeat changes the view that it meets
abbrev pub AreNews : Identifier → State → List Event → Type 0
AreNews e v [] = Unit {0}
AreNews e v (event ∷ later) = (may_repeat event ≡ false → apply e v event ≢ v) × AreNews e (apply e v event) later

-- Whether what an event is about stands in the view of e: the page of a write, e's own buffers, its bitmaps, and the
-- transaction whose pages are zeroed.
abbrev pub is_met : Identifier → State → Event → Bool
is_met e v (Wrote address bytes) = is_some (page_at v ((address - v.ram_base) / 4096))
is_met e v (Filled bytes) = is_some (buffers_of v e)
is_met e v (Pending class bits) = has_bitmaps_in (notifications_of v) e
is_met e v (Zeroed h) = is_some (transaction_of v h)
is_met e v event = true

-- events that are told to e one after another, from a view on: each meets in its view what it is about
abbrev pub AreMet : Identifier → State → List Event → Type 0
AreMet e v [] = Unit {0}
AreMet e v (event ∷ later) = (is_met e v event ≡ true) × AreMet e (apply e v event) later

-- That all that an event says goes into the view of e, which is v after it: `apply` leaves nothing out. A write has bytes and
-- isn't below RAM; bytes past a page's end would make the page longer. What fills RX has room in it. Pending bits are those of a
-- word, each once and in order, and there are some. With a transaction that is opened come the pages of the view that its ranges
-- name, and the public part is the view's, as is what it hears of notices. Of a bit that is bound or unbound, a holder, and a
-- transaction that is closed nothing is left out where they change the view (`AreNews`), and the one whose pages are zeroed stands
-- in the view (`AreMet`). A message changes nothing: its registers are the operation's outcome (`Shown`, of a run of this
-- operation alone).
-- Without this law an event could carry every page of RAM and meet all other laws. There is a row for each event,
-- because one rule for all would have to say which part of a view an event is about.
abbrev pub IsBare : Identifier → State → Event → Type 0
IsBare e v (Wrote address bytes) = (v.ram_base ≤ address) × (bytes ≢ [])
IsBare e v (Filled bytes) = length bytes ≤ room_of (buffers_of v e)
IsBare e v (Pending class bits) = (bits ≢ []) × ((word : ℕ) × (bits ≡ bits_of word))
IsBare e v (Opened h t pages) = pages ≡ named_pages v t.ranges
IsBare e v (Public values) = values ≡ public_part v
IsBare e v (Notices values) = values ≡ notice_part e v
IsBare e v event = Unit {0}

-- events that are told to e one after another, from a view on: all that each says goes into the view
abbrev pub AreBare : Identifier → State → List Event → Type 0
AreBare e v [] = Unit {0}
AreBare e v (event ∷ later) = IsBare e (apply e v event) event × AreBare e (apply e v event) later

-- what a move tells endpoints other than the actor
pub record IsHeard {Result : Type 0} (m : State → Move Result) (s : State) : Type 0 where
  -- each event changes the view of who is told, except events that may repeat
  pub news : (e : ℕ) → is_known s e ≡ true → (m s).from.runner ≢ e → AreNews e (view e s) ((m s).told e)
  -- and what may repeat, but for a message, is about something in its view; in a sound state, where a bit is bound only
  -- to whose receiver has bitmaps
  pub meets : IsSoundState s → (e : ℕ) → is_known s e ≡ true → (m s).from.runner ≢ e → AreMet e (view e s) ((m s).told e)
  -- and all that an event says, but for a message, goes into the view
  pub bare : (e : ℕ) → is_known s e ≡ true → (m s).from.runner ≢ e → AreBare e (view e s) ((m s).told e)

-- silence of a move by which this operation is done
pub record Silence {Result : Type 0} (op : Op) (m : State → Move Result) (s : State) : Type 0 where
  -- an operation gives only the events of its row
  pub rows : (e : ℕ) → list_all (may_be_told op) ((m s).told e) ≡ true
  -- all but these calls leave the public part as it was
  pub public : (m s).asks may_change_public ≡ false → public_part (m s).after ≡ public_part s
  pub heard : IsHeard m s
