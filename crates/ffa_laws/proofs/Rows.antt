-- SPDX-License-Identifier: MIT OR Apache-2.0
-- Which calls give which events, and which change the public part.
use Rattle.std.proofs.Common.{◌≡◌, ◌∙◌, ℕ, Bool, true, false, List, [], ◌∷◌, ◌++◌, map, Option, Some, None, refl, inl, inr, sym, ◌==◌, ◌&&◌, filter, not, ◌⊎◌, ◌≢◌}
use Rattle.std.specs.List.{list_all}
use Rattle.std.proofs.lemmas.Bool.{and_from, and_parts, true≢false}
use Rattle.ffa_model.specs.declared.call.Transfer.{Transfer}
use Rattle.ffa_model.specs.declared.descriptor.RelinquishDesc.{RelinquishDesc}
use Rattle.ffa_model.specs.declared.descriptor.RetrieveDesc.{RetrieveDesc}
use Rattle.ffa_model.specs.declared.operation.Op.{Op}
use Rattle.ffa_model.specs.declared.operation.Op.TheVariants.{Call, Load, Store, Fetch}
use Rattle.ffa_model.specs.declared.operation.Outcome.TheVariants.{Data, Done}
use Rattle.ffa_model.specs.declared.rights.Kind.{Kind}
use Rattle.ffa_model.specs.declared.rights.Kind.TheVariants.{Share, Lend, Donate}
use Rattle.ffa_model.specs.declared.call.Call as calls
use Rattle.ffa_model.specs.declared.call.Call.TheVariants.{RxRelease, RxtxMap, RxtxUnmap, PartitionInfoGet, MsgWait, Yield, Run, DirectRequest, DirectResponse, MemDonate, MemLend, MemShare, MemRetrieve, MemRelinquish, MemReclaim, BitmapDestroy, NotificationBind, NotificationUnbind, NotificationSet, NotificationGet, MsgSend2, Version}
use Rattle.ffa_model.specs.SendDescriptor.{SendRecord}
use Rattle.ffa_model.specs.State.{State, Page, Transaction, transaction_of}
use Rattle.ffa_model.specs.Access.{is_offered, is_receiver, ownership_of}
use Rattle.ffa_model.specs.Bits.{bits_of}
use Rattle.ffa_model.specs.Calls.{encode, first_failure}
use Rattle.ffa_model.specs.Lists.{listed}
use Rattle.ffa_model.specs.Memory.{fetch_fault, number_at, read_fault, size_of, store_fault, stored}
use Rattle.ffa_model.specs.MemoryRetrieve.{retrieve_read, right_for}
use Rattle.ffa_model.specs.MemoryReturn.{relinquish_read, relinquished, relinquished_from}
use Rattle.ffa_model.specs.MemorySend.{memory_sent, send_read, transaction_sent}
use Rattle.ffa_model.specs.Messages.{header_in, message_in, tx_bytes}
use Rattle.ffa_model.specs.Notifications.{class_of, has_bitmaps_in, is_bound, manager_class, message_bits, notifications_of}
use Rattle.ffa_model.specs.Registers.{decode}
use Rattle.ffa_model.specs.RunStates.{direct_request, direct_response, msg_wait, run_partition, yield_now}
use Rattle.ffa_model.specs.Step.{serve, service, step}
use Rattle.ffa_model.specs.Transactions.{next_handle, open_of}
use Rattle.byteorder.specs.Endian.{little_bytes}
use Rattle.ffa_laws.specs.Events.{call_events, Event, Wrote, Message, Filled, Pending, Held, Zeroed, Closed, Opened, Public, Unbound, Bound, binds, events, named_pages, opens, public_change, releases, takes, takes_from, taking, told_by, unbinds, where_passed, where_true, writes}
use Rattle.ffa_laws.specs.Public.{PublicPart, public_part, same_public}
use Rattle.ffa_laws.specs.OwnAccess.{is_call}
use Rattle.ffa_laws.specs.Silence.{may_be_told, may_change_public, may_tell}
use Rattle.ffa_laws.proofs.Form.{accessed-kept, served-kept}
use Rattle.ffa_laws.proofs.Versions.{version-leaves}
use Rattle.ffa_laws.proofs.Notices.{either-notified}
use Rattle.ffa_laws.proofs.Publics.{told-of}

-- ---- the public part
public-sent : (s : State) (kind : Kind) (r : Option SendRecord) → public_part (memory_sent s kind r) ≡ public_part s
public-sent s kind None = refl
public-sent s kind (Some r) = refl

public-relinquished : (s : State) (d : Option RelinquishDesc) → public_part (relinquished s d) ≡ public_part s
public-relinquished s None = refl
public-relinquished s (Some d) = elim (transaction_of s d.handle) as (λ o. public_part (relinquished_from s d o) ≡ public_part s) [ None ↦ refl | Some t ↦ refl ]

public-service : (s : State) (call : calls.Call) → may_change_public call ≡ false → public_part (service s call).state ≡ public_part s
public-service s (MemDonate x) quiet = public-sent s Donate (send_read s Donate x.total)
public-service s (MemLend x) quiet = public-sent s Lend (send_read s Lend x.total)
public-service s (MemShare x) quiet = public-sent s Share (send_read s Share x.total)
public-service s MemRelinquish quiet = public-relinquished s (relinquish_read s)
public-service s (Version word) quiet = version-leaves (λ t. public_part t ≡ public_part s) s.ffa s word refl (λ version. refl)
public-service s RxRelease quiet = absurd (true≢false quiet)
public-service s (RxtxMap tx rx pages) quiet = absurd (true≢false quiet)
public-service s (RxtxUnmap endpoint) quiet = absurd (true≢false quiet)
public-service s (PartitionInfoGet uuid flags) quiet = absurd (true≢false quiet)
public-service s (MsgWait flags) quiet = absurd (true≢false quiet)
public-service s Yield quiet = absurd (true≢false quiet)
public-service s (Run target context) quiet = absurd (true≢false quiet)
public-service s (DirectRequest message) quiet = absurd (true≢false quiet)
public-service s (DirectResponse message) quiet = absurd (true≢false quiet)
public-service s (MemRetrieve x) quiet = absurd (true≢false quiet)
public-service s MsgSend2 quiet = absurd (true≢false quiet)
public-service s call quiet = refl

public-call : (s : State) (call : calls.Call) → may_change_public call ≡ false → public_part (serve s call).state ≡ public_part s
public-call s call quiet = served-kept (λ t. public_part t ≡ public_part s) s (service s call) refl (λ none. public-service s call quiet)

pub public-step : (s : State) (op : Op) → is_call may_change_public op ≡ false → public_part (step s op).state ≡ public_part s
public-step s (Call x) quiet = public-call s (decode x) quiet
public-step s (Load address size) quiet = accessed-kept (λ t. public_part t ≡ public_part s) s s (Data (number_at s address (size_of size))) (read_fault s address (size_of size)) refl (λ none. refl)
public-step s (Store address size value) quiet = accessed-kept (λ t. public_part t ≡ public_part s) s (stored s address (little_bytes (size_of size) value)) Done (store_fault s address (size_of size)) refl (λ none. refl)
public-step s (Fetch address) quiet = accessed-kept (λ t. public_part t ≡ public_part s) s s (Data (number_at s address 4)) (fetch_fault s address) refl (λ none. refl)

-- ---- the rows
abbrev pub is_public : Event → Bool
is_public (Public values) = true
is_public event = false

-- of a call, besides the public part
abbrev pub told_row : calls.Call → Event → Bool
told_row call event = may_tell call event && not (is_public event)

all-where : (f : Event → Bool) (b : Bool) (es : List Event) → list_all f es ≡ true → list_all f (where_true b es) ≡ true
all-where f true es all = all
all-where f false es all = refl

all-one : (f : Event → Bool) (b : Bool) (event : Event) → f event ≡ true → list_all f (where_true b (event ∷ [])) ≡ true
all-one f b event is = all-where f b (event ∷ []) (and_from (f event) true is refl)

all-mapped : (f : Event → Bool) (g : ℕ → Event) (ks : List ℕ) → ((k : ℕ) → f (g k) ≡ true) → list_all f (map g ks) ≡ true
all-mapped f g [] each = refl
all-mapped f g (k ∷ ks) each = and_from (f (g k)) _ (each k) (all-mapped f g ks each)

pub all-both : (f : Event → Bool) (xs ys : List Event) → list_all f xs ≡ true → list_all f ys ≡ true → list_all f (xs ++ ys) ≡ true
all-both f [] ys one two = two
all-both f (x ∷ xs) ys one two = let (here, rest) = and_parts (f x) (list_all f xs) one in and_from (f x) _ here (all-both f xs ys rest two)

pub all-weaker : (f g : Event → Bool) (es : List Event) → ((event : Event) → f event ≡ true → g event ≡ true) → list_all f es ≡ true → list_all g es ≡ true
all-weaker f g [] weaker all = refl
all-weaker f g (x ∷ xs) weaker all = let (here, rest) = and_parts (f x) (list_all f xs) all in and_from (g x) _ (weaker x here) (all-weaker f g xs weaker rest)

opened : (e : ℕ) (s : State) (kind : Kind) (call : calls.Call) (r : Option SendRecord) → ((h : ℕ) (t : Transaction) (pages : List (Option Page)) → told_row call (Opened h t pages) ≡ true)
    → list_all (told_row call) (opens e s kind r) ≡ true
opened e s kind call None is = refl
opened e s kind call (Some r) is =
    let h = next_handle (open_of s) s.runner in
    let pages = named_pages (memory_sent s kind (Some r)) r.ranges in
    all-one (told_row call) (is_receiver e (transaction_sent s kind r)) (Opened h (transaction_sent s kind r) pages) (is h (transaction_sent s kind r) pages)

bound : (e : ℕ) (s : State) (call : calls.Call) (receiver sender : ℕ) (ks : List ℕ) → ((k : ℕ) → told_row call (Bound receiver (class_of e) k) ≡ true) → list_all (told_row call) (binds e s receiver sender ks) ≡ true
bound e s call receiver sender ks is =
    all-where (told_row call) (sender == e) (map (λ k. Bound receiver (class_of e) k) (filter _ ks)) (all-mapped (told_row call) (λ k. Bound receiver (class_of e) k) (filter _ ks) is)

unbound : (e : ℕ) (s : State) (call : calls.Call) (receiver sender : ℕ) (ks : List ℕ) → ((k : ℕ) → told_row call (Unbound receiver (class_of e) k) ≡ true) → list_all (told_row call) (unbinds e s receiver sender ks) ≡ true
unbound e s call receiver sender ks is =
    let old = filter (λ k. is_bound (notifications_of s) receiver (class_of e) k e) ks in
    all-where (told_row call) (sender == e) (map (λ k. Unbound receiver (class_of e) k) old) (all-mapped (told_row call) (λ k. Unbound receiver (class_of e) k) old is)

taken-row : (x : Transfer) (e : ℕ) (s : State) (d : Option RetrieveDesc) → list_all (told_row (MemRetrieve x)) (takes e s d) ≡ true
taken-row x e s None = refl
taken-row x e s (Some d) = of (transaction_of s d.handle)
  where
    kinds : (b : Bool) (kind : Kind) (t : Transaction) → list_all (told_row (MemRetrieve x)) (where_true b (taking kind d.handle s.runner (right_for (ownership_of s) t s.runner d) ∷ [])) ≡ true
    kinds true Donate t = refl
    kinds true Lend t = refl
    kinds true Share t = refl
    kinds false kind t = refl

    of : (o : Option Transaction) → list_all (told_row (MemRetrieve x)) (takes_from e s d o) ≡ true
    of None = refl
    of (Some t) = kinds (t.sender == e) t.kind t

released-row : (e : ℕ) (s : State) (d : Option RelinquishDesc) → list_all (told_row MemRelinquish) (releases e s d) ≡ true
released-row e s None = refl
released-row e s (Some d) =
    all-both (told_row MemRelinquish) (where_true _ (Held d.handle s.runner None ∷ [])) (where_true _ (Zeroed d.handle ∷ []))
    (all-one (told_row MemRelinquish) _ (Held d.handle s.runner None) refl)
    (all-one (told_row MemRelinquish) _ (Zeroed d.handle) refl)

pub row-of : (e : ℕ) (s : State) (call : calls.Call) → list_all (told_row call) (told_by e s call) ≡ true
row-of e s (MsgWait flags) = all-one (told_row (MsgWait flags)) ((msg_wait s flags).state.runner == e) (Message (encode (msg_wait s flags).reply)) refl
row-of e s Yield = all-one (told_row Yield) ((yield_now s).state.runner == e) (Message (encode (yield_now s).reply)) refl
row-of e s (Run target context) = all-one (told_row (Run target context)) ((run_partition s target.0 context).state.runner == e) (Message (encode (run_partition s target.0 context).reply)) refl
row-of e s (DirectRequest message) = all-one (told_row (DirectRequest message)) ((direct_request s message).state.runner == e) (Message (encode (direct_request s message).reply)) refl
row-of e s (DirectResponse message) = all-one (told_row (DirectResponse message)) ((direct_response s message).state.runner == e) (Message (encode (direct_response s message).reply)) refl
row-of e s (MemDonate x) = opened e s Donate (MemDonate x) (send_read s Donate x.total) (λ h t named. refl)
row-of e s (MemLend x) = opened e s Lend (MemLend x) (send_read s Lend x.total) (λ h t named. refl)
row-of e s (MemShare x) = opened e s Share (MemShare x) (send_read s Share x.total) (λ h t named. refl)
row-of e s (MemRetrieve x) = taken-row x e s (retrieve_read s x.total)
row-of e s MemRelinquish = released-row e s (relinquish_read s)
row-of e s (MemReclaim handle flags) = all-one (told_row (MemReclaim handle flags)) (is_offered e (transaction_of s handle.0)) (Closed handle.0) refl
row-of e s (BitmapDestroy endpoint) = unbound e s (BitmapDestroy endpoint) 0 e (listed 64 (λ k. k)) (λ k. refl)
row-of e s (NotificationBind its) = bound e s (NotificationBind its) s.runner its.sender.0 (bits_of its.bitmap) (λ k. refl)
row-of e s (NotificationUnbind its) = unbound e s (NotificationUnbind its) s.runner its.sender.0 (bits_of its.bitmap) (λ k. refl)
row-of e s (NotificationSet its) =
    either-notified (λ es. list_all (told_row (NotificationSet its)) es ≡ true) e s (service s (NotificationSet its)).state _ refl (λ differ. refl)
    (all-one (told_row (NotificationSet its)) (its.receiver.0 == e) (Pending (class_of s.runner) (bits_of its.bitmap)) refl)
row-of e s (NotificationGet receiver context flags) =
    either-notified (λ es. list_all (told_row (NotificationGet receiver context flags)) es ≡ true) e s (service s (NotificationGet receiver context flags)).state [] refl (λ differ. refl) refl
row-of e s MsgSend2 =
    let mine = (header_in (tx_bytes s s.runner)).receiver == e in
    all-both (told_row MsgSend2) (where_true mine (Filled (message_in (tx_bytes s s.runner)) ∷ [])) _
    (all-one (told_row MsgSend2) mine (Filled (message_in (tx_bytes s s.runner))) refl)
    (either-notified (λ es. list_all (told_row MsgSend2) es ≡ true) e s (service s MsgSend2).state _ refl (λ differ. refl)
    (all-one (told_row MsgSend2) (mine && has_bitmaps_in (notifications_of s) e) (Pending manager_class message_bits) refl))
row-of e s call = refl

pub passed-row : {X : Type 0} (f : Event → Bool) (o : Option X) (es : List Event) → list_all f es ≡ true → list_all f (where_passed o es) ≡ true
passed-row f None es all = all
passed-row f (Some code) es all = refl

public-row : (s : State) (call : calls.Call) → list_all (may_tell call) (public_change s (serve s call).state) ≡ true
public-row s call = of (same_public (public_part s) (public_part (serve s call).state)) (may_change_public call) refl
  where
    may_public : (call : calls.Call) (values : PublicPart) → may_tell call (Public values) ≡ may_change_public call
    may_public call values = refl

    of : (c : (public_part s ≡ public_part (serve s call).state) ⊎ (public_part s ≢ public_part (serve s call).state)) (b : Bool) → may_change_public call ≡ b → list_all (may_tell call) (told-of c) ≡ true
    of (inl same) b is = refl
    of (inr differ) true may = and_from (may_tell call (Public (public_part (serve s call).state))) true (may_public call (public_part (serve s call).state) ∙ may) refl
    of (inr differ) false not = absurd (differ (sym (public-call s call not)))

pub call-rows : (e : ℕ) (s : State) (call : calls.Call) → list_all (may_tell call) (call_events e s call) ≡ true
call-rows e s call =
    all-both (may_tell call) (where_passed (first_failure (service s call).guards) (told_by e s call)) (public_change s (serve s call).state)
    (passed-row (may_tell call) (first_failure (service s call).guards) (told_by e s call) (all-weaker (told_row call) (may_tell call) (told_by e s call) (λ event is. (and_parts (may_tell call event) _ is).0) (row-of e s call)))
    (public-row s call)

pub rows : (e : ℕ) (s : State) (op : Op) → list_all (may_be_told op) (events e s op) ≡ true
rows e s (Call x) =
    all-both (may_tell (decode x)) (where_passed (first_failure (service s (decode x)).guards) (told_by e s (decode x))) (public_change s (serve s (decode x)).state)
    (passed-row (may_tell (decode x)) (first_failure (service s (decode x)).guards) (told_by e s (decode x)) (all-weaker (told_row (decode x)) (may_tell (decode x)) (told_by e s (decode x)) (λ event is. (and_parts (may_tell (decode x) event) _ is).0) (row-of e s (decode x))))
    (public-row s (decode x))
rows e s (Store address size value) =
    passed-row (may_be_told (Store address size value)) (store_fault s address (size_of size)) (writes e s address (little_bytes (size_of size) value))
    (all-one (may_be_told (Store address size value)) _ (Wrote address (little_bytes (size_of size) value)) refl)
rows e s _ = refl
