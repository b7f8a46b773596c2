-- SPDX-License-Identifier: MIT OR Apache-2.0
-- Notifications (DEN0077A, 10): who has bitmaps, which bits are bound to whom, and which are pending.
use Rattle.std.specs.Prelude.{ℕ, ◌==◌, Bool, true, false, not, ◌&&◌, ◌||◌, nat_le, nat_lt, List, [], ◌∷◌, length, map, slice_index, slice_index_or, slice_set, if◌then◌else◌}
use Rattle.std.specs.Ordering.{nat_cmp}
use Rattle.std.specs.Cmp.Lexicographic.{slice_cmp}
use Rattle.std.specs.List.{list_any, list_all}
use Rattle.std.specs.FinSet as finite_set
use Rattle.ffa_model.specs.declared.limits.TheConstants.{MOST_PROCESSORS}
use Rattle.ffa_model.specs.declared.manifest.Ffa.{Ffa}
use Rattle.ffa_model.specs.declared.manifest.Ffa.TheVariants.{V1_1, V1_2}
use Rattle.ffa_model.specs.declared.refusal.Refusal.{Refusal}
use Rattle.ffa_model.specs.declared.refusal.Refusal.TheVariants.{NotNormalWorld, EndpointNotNormalWorld, ContextCount, BitmapsExist, BitmapsMissing, BitsPending, ReceiverIsAnother, SenderUnknown, SenderIsCaller, FlagsReserved, BitsNone, BitsTaken, BitsNotTheSenders, SenderIsAnother, ReceiverUnknown, ReceiverIsCaller, BitsNotTheCallers, ContextUnknown, ClassesUnknown}
use Rattle.ffa_model.specs.declared.call.NotificationBits.{NotificationBits}
use Rattle.ffa_model.specs.declared.call.Reply.{Reply}
use Rattle.ffa_model.specs.declared.call.Reply.TheVariants.{Pending}
use Rattle.ffa_model.specs.Numbers.{Bit, Class, Identifier}
use Rattle.ffa_model.specs.Bits.{bits_of, is_set, word_where}
use Rattle.ffa_model.specs.Identifiers.{identifier, place}
use Rattle.ffa_model.specs.Lists.{listed}
use Rattle.ffa_model.specs.State.{State, is_known_among}
use Rattle.ffa_model.specs.Calls.{Service, success}

-- the notifications of all endpoints
pub record Notifications : Type 0 where
  pub bitmaps : List Bool  -- by endpoint, whether it has bitmaps
  pub bound : finite_set.FinSet (slice_cmp nat_cmp)
  pub pending : finite_set.FinSet (slice_cmp nat_cmp)
  pub notices : finite_set.FinSet (slice_cmp nat_cmp)

-- The classes of a receiver's bits, by who sets them: a partition, the normal world, or the manager. The flags of
-- FFA_NOTIFICATION_GET ask for class k by bit k
abbrev pub partition_class : Class
partition_class = 0

abbrev pub normal_class : Class
normal_class = 1

abbrev pub manager_class : Class
manager_class = 2

abbrev pub class_of : Identifier → Class
class_of sender = if sender == 0 then normal_class else partition_class

-- An entry of `bound` lists the receiver, the class, the bit from 0 to 63, and the sender; one of `pending` lists the
-- first three of these
abbrev pub binding : Identifier → Class → Bit → Identifier → List ℕ
binding receiver class bit sender = receiver ∷ class ∷ bit ∷ sender ∷ []

abbrev pub receiver_bit : Identifier → Class → Bit → List ℕ
receiver_bit receiver class bit = receiver ∷ class ∷ bit ∷ []

-- An entry of `notices` lists a receiver and a class: a bit of the class became pending that the normal world has not been
-- told of, and the receiver has not got
abbrev pub notice : Identifier → Class → List ℕ
notice receiver class = receiver ∷ class ∷ []

abbrev pub receiver_of_entry : List ℕ → Identifier
receiver_of_entry entry = slice_index entry 0

abbrev pub class_of_entry : List ℕ → Class
class_of_entry entry = slice_index entry 1

abbrev pub sender_of_entry : List ℕ → Identifier
sender_of_entry entry = slice_index entry 3

abbrev pub has_bitmaps_in : Notifications → Identifier → Bool
has_bitmaps_in n e = slice_index_or n.bitmaps (place e) false

abbrev pub is_bound : Notifications → Identifier → Class → Bit → Identifier → Bool
is_bound n receiver class bit sender = finite_set.contains n.bound (binding receiver class bit sender)

abbrev pub is_pending : Notifications → Identifier → Class → Bit → Bool
is_pending n receiver class bit = finite_set.contains n.pending (receiver_bit receiver class bit)

-- whether another of these endpoints has the bit
abbrev pub is_bound_to_another : ℕ → Notifications → Identifier → Class → Bit → Identifier → Bool
is_bound_to_another endpoints n receiver class bit sender =
    list_any (λ f. not (f == sender) && is_bound n receiver class bit f) (listed endpoints identifier)

-- the bitmap of a receiver's pending bits of a class
abbrev pub pending_word : Notifications → Identifier → Class → ℕ
pending_word n receiver class = word_where 64 (is_pending n receiver class)

-- whether any bit of a receiver is pending
abbrev pub has_pending : Notifications → Identifier → Bool
has_pending n receiver =
    list_any (λ class. list_any (is_pending n receiver class) (listed 64 (λ k. k))) (partition_class ∷ normal_class ∷ manager_class ∷ [])

-- CHANGES
-- the sender has these bits of the receiver, or has them no more
abbrev pub bindings : Identifier → Identifier → List ℕ → finite_set.FinSet (slice_cmp nat_cmp)
bindings receiver sender ks = finite_set.from_list (map (λ k. binding receiver (class_of sender) k sender) ks)

abbrev pub with_bound : Notifications → Identifier → Identifier → List ℕ → Notifications
with_bound n receiver sender ks = record n { bound = finite_set.union n.bound (bindings receiver sender ks) }

abbrev pub without_bound : Notifications → Identifier → Identifier → List ℕ → Notifications
without_bound n receiver sender ks = record n { bound = finite_set.difference n.bound (bindings receiver sender ks) }

-- these bits of a receiver's class are pending, where it has bitmaps
abbrev pub with_pending : Notifications → Identifier → Class → List ℕ → Notifications
with_pending n receiver class ks =
    record n {
      pending =
          if has_bitmaps_in n receiver
          then finite_set.union n.pending (finite_set.from_list (map (receiver_bit receiver class) ks))
          else n.pending;
    }

-- whether one of these bits of a receiver that has bitmaps isn't pending yet
abbrev pub is_news : Notifications → Identifier → Class → List ℕ → Bool
is_news n receiver class ks = has_bitmaps_in n receiver && list_any (λ k. not (is_pending n receiver class k)) ks

-- there is a notice of these bits, if they are news
abbrev pub with_notice : Notifications → Identifier → Class → List ℕ → Notifications
with_notice n receiver class ks =
    record n { notices = if is_news n receiver class ks then finite_set.insert n.notices (notice receiver class) else n.notices }

-- these bits are set: they are pending, and what is new of them is to be told
abbrev pub with_set : Notifications → Identifier → Class → List ℕ → Notifications
with_set n receiver class ks = with_pending (with_notice n receiver class ks) receiver class ks

-- whether an entry is of a receiver, and of a class that the flags ask for
abbrev pub is_got : Identifier → ℕ → List ℕ → Bool
is_got receiver flags entry = receiver_of_entry entry == receiver && is_set (class_of_entry entry) flags

-- the classes of a receiver that the flags ask for have no pending bit, and nothing of them is to be told
abbrev pub without_pending : Notifications → Identifier → ℕ → Notifications
without_pending n receiver flags =
    record n {
      pending = finite_set.retain n.pending (λ x. not (is_got receiver flags x));
      notices = finite_set.retain n.notices (λ x. not (is_got receiver flags x));
    }

abbrev pub with_bitmaps : Notifications → Identifier → Notifications
with_bitmaps n e = record n { bitmaps = slice_set n.bitmaps (place e) true }

-- the bindings of a receiver's bits go with its bitmaps
abbrev pub without_bitmaps : Notifications → Identifier → Notifications
without_bitmaps n e =
    record n { bitmaps = slice_set n.bitmaps (place e) false; bound = finite_set.retain n.bound (λ x. not (receiver_of_entry x == e)) }

-- by bit 0 of its class the manager tells a receiver that an indirect message stands in its RX
abbrev pub message_bits : List ℕ
message_bits = 0 ∷ []

-- the checks of each call in order, by a caller among this many endpoints

-- how many execution contexts the normal world may have, and which of an endpoint's own there are: on a machine of FF-A 1.1
-- one; on one of FF-A 1.2 a partition has one, and the normal world as many as there may be processors
abbrev pub is_context_count : Ffa → ℕ → Bool
is_context_count V1_1 contexts = contexts == 1
is_context_count V1_2 contexts = nat_le 1 contexts && nat_le contexts MOST_PROCESSORS

abbrev pub is_context : Ffa → Identifier → ℕ → Bool
is_context V1_1 e context = context == 0
is_context V1_2 e context = context == 0 || (e == 0 && nat_lt context MOST_PROCESSORS)

-- FFA_NOTIFICATION_BITMAP_CREATE, for an endpoint with so many execution contexts
abbrev pub create_guards : Ffa → Notifications → Identifier → ℕ → ℕ → List (Bool × Refusal)
create_guards ffa n caller endpoint contexts =
    (caller == 0, NotNormalWorld)
    ∷ (endpoint == 0, EndpointNotNormalWorld)
    ∷ (is_context_count ffa contexts, ContextCount)
    ∷ (not (has_bitmaps_in n 0), BitmapsExist)
    ∷ []

-- FFA_NOTIFICATION_BITMAP_DESTROY
abbrev pub destroy_guards : Notifications → Identifier → ℕ → List (Bool × Refusal)
destroy_guards n caller endpoint =
    (caller == 0, NotNormalWorld)
    ∷ (endpoint == 0, EndpointNotNormalWorld)
    ∷ (has_bitmaps_in n 0, BitmapsMissing)
    ∷ (not (has_pending n 0), BitsPending)
    ∷ []

-- FFA_NOTIFICATION_BIND and FFA_NOTIFICATION_UNBIND alike, and then others
abbrev pub sender_guards : ℕ → Notifications → Identifier → NotificationBits → List (Bool × Refusal)
    → List (Bool × Refusal)
sender_guards endpoints n caller its rest =
    (its.receiver.0 == caller, ReceiverIsAnother)
    ∷ (is_known_among endpoints its.sender.0, SenderUnknown)
    ∷ (not (its.sender.0 == caller), SenderIsCaller)
    ∷ (its.flags == 0, FlagsReserved)
    ∷ (not (its.bitmap == 0), BitsNone)
    ∷ (has_bitmaps_in n caller, BitmapsMissing)
    ∷ rest

-- FFA_NOTIFICATION_BIND
abbrev pub is_bindable : ℕ → Notifications → Identifier → Identifier → Bit → Bool
is_bindable endpoints n receiver sender bit =
    not (is_bound_to_another endpoints n receiver (class_of sender) bit sender)
    && not (is_pending n receiver (class_of sender) bit)

abbrev pub bind_guards : ℕ → Notifications → Identifier → NotificationBits → List (Bool × Refusal)
bind_guards endpoints n caller its =
    sender_guards endpoints n caller its
    ((list_all (is_bindable endpoints n caller its.sender.0) (bits_of its.bitmap), BitsTaken) ∷ [])

-- FFA_NOTIFICATION_UNBIND
abbrev pub is_unbindable : Notifications → Identifier → Identifier → Bit → Bool
is_unbindable n receiver sender bit =
    is_bound n receiver (class_of sender) bit sender && not (is_pending n receiver (class_of sender) bit)

abbrev pub unbind_guards : ℕ → Notifications → Identifier → NotificationBits → List (Bool × Refusal)
unbind_guards endpoints n caller its =
    sender_guards endpoints n caller its
    ((list_all (is_unbindable n caller its.sender.0) (bits_of its.bitmap), BitsNotTheSenders) ∷ [])

-- FFA_NOTIFICATION_SET: the flag that delays the schedule receiver interrupt has no effect
abbrev pub set_guards : ℕ → Notifications → Identifier → NotificationBits → List (Bool × Refusal)
set_guards endpoints n caller its =
    (its.sender.0 == caller, SenderIsAnother)
    ∷ (is_known_among endpoints its.receiver.0, ReceiverUnknown)
    ∷ (not (its.receiver.0 == caller), ReceiverIsCaller)
    ∷ (its.flags == 0 || its.flags == 2, FlagsReserved)
    ∷ (not (its.bitmap == 0), BitsNone)
    ∷ (list_all (λ k. is_bound n its.receiver.0 (class_of caller) k caller) (bits_of its.bitmap), BitsNotTheCallers)
    ∷ []

-- FFA_NOTIFICATION_GET, of a receiver in one of its execution contexts
abbrev pub get_guards : Ffa → Notifications → Identifier → Identifier → ℕ → ℕ → List (Bool × Refusal)
get_guards ffa n caller receiver context flags =
    (receiver == caller, ReceiverIsAnother)
    ∷ (is_context ffa caller context, ContextUnknown)
    ∷ (nat_le flags 15, ClassesUnknown)
    ∷ (has_bitmaps_in n caller, BitmapsMissing)
    ∷ []

-- the pending bits of a class, where the flags ask for it
abbrev pub asked_word : Notifications → Identifier → ℕ → Class → ℕ
asked_word n receiver flags class = if is_set class flags then pending_word n receiver class else 0

-- the pending bits of a receiver, by class
abbrev pub get_reply : Notifications → Identifier → ℕ → Reply
get_reply n receiver flags =
    Pending (asked_word n receiver flags partition_class) (asked_word n receiver flags normal_class)
    (asked_word n receiver flags manager_class)

-- ON A STATE
abbrev pub notifications_of : State → Notifications
notifications_of s = record { bitmaps = s.bitmaps; bound = s.bound; pending = s.pending; notices = s.notices }

abbrev pub with_notifications : State → Notifications → State
with_notifications s n = record s { bitmaps = n.bitmaps; bound = n.bound; pending = n.pending; notices = n.notices }

abbrev pub bitmap_create : State → ℕ → ℕ → Service
bitmap_create s endpoint contexts =
    record {
      guards = create_guards s.ffa (notifications_of s) s.runner endpoint contexts;
      state = with_notifications s (with_bitmaps (notifications_of s) 0);
      reply = success 0 0;
    }

abbrev pub bitmap_destroy : State → ℕ → Service
bitmap_destroy s endpoint =
    record {
      guards = destroy_guards (notifications_of s) s.runner endpoint;
      state = with_notifications s (without_bitmaps (notifications_of s) 0);
      reply = success 0 0;
    }

abbrev pub notification_bind : State → NotificationBits → Service
notification_bind s its =
    record {
      guards = bind_guards (length s.parties) (notifications_of s) s.runner its;
      state = with_notifications s (with_bound (notifications_of s) s.runner its.sender.0 (bits_of its.bitmap));
      reply = success 0 0;
    }

abbrev pub notification_unbind : State → NotificationBits → Service
notification_unbind s its =
    record {
      guards = unbind_guards (length s.parties) (notifications_of s) s.runner its;
      state = with_notifications s (without_bound (notifications_of s) s.runner its.sender.0 (bits_of its.bitmap));
      reply = success 0 0;
    }

abbrev pub notification_set : State → NotificationBits → Service
notification_set s its =
    record {
      guards = set_guards (length s.parties) (notifications_of s) s.runner its;
      state = with_notifications s (with_set (notifications_of s) its.receiver.0 (class_of s.runner) (bits_of its.bitmap));
      reply = success 0 0;
    }

abbrev pub notification_get : State → Identifier → ℕ → ℕ → Service
notification_get s receiver context flags =
    record {
      guards = get_guards s.ffa (notifications_of s) s.runner receiver context flags;
      state = with_notifications s (without_pending (notifications_of s) s.runner flags);
      reply = get_reply (notifications_of s) s.runner flags;
    }
