-- SPDX-License-Identifier: MIT OR Apache-2.0
-- Which guard of FFA_NOTIFICATION_SET is the first that fails, by what its six tests are: the last of them is read as a test alone, and not bit by bit.
use Rattle.std.proofs.Common.{◌≡◌, ℕ, Bool, true, false, List, [], ◌∷◌, None, Some, length, arith}
use Rattle.std.specs.Prelude.{◌==◌, ◌||◌, not}
use Rattle.std.specs.List.{list_all}
use Rattle.ffa_model.specs.declared.refusal.Refusal.{Refusal}
use Rattle.ffa_model.specs.declared.refusal.Refusal.TheVariants.{SenderIsAnother, ReceiverUnknown, ReceiverIsCaller, FlagsReserved, BitsNone, BitsNotTheCallers}
use Rattle.ffa_model.specs.declared.call.NotificationBits.{NotificationBits}
use Rattle.ffa_model.specs.Bits.{bits_of}
use Rattle.ffa_model.specs.Calls.{first_refusal}
use Rattle.ffa_model.specs.Notifications.{Notifications, class_of, is_bound, set_guards}
use Rattle.ffa_model.specs.State.{is_known_among}

abbrev guards_of : (sender known other flags bits bound : Bool) → List (Bool × Refusal)
guards_of sender known other flags bits bound =
    (sender, SenderIsAnother)
    ∷ (known, ReceiverUnknown)
    ∷ (other, ReceiverIsCaller)
    ∷ (flags, FlagsReserved)
    ∷ (bits, BitsNone)
    ∷ (bound, BitsNotTheCallers)
    ∷ []

module _ (sender known other flags bits bound : Bool) where
  another-sender-by : sender ≡ false → Some SenderIsAnother ≡ first_refusal (guards_of sender known other flags bits bound)
  another-sender-by s = grind arith

  receiver-unknown-by : sender ≡ true → known ≡ false → Some ReceiverUnknown ≡ first_refusal (guards_of sender known other flags bits bound)
  receiver-unknown-by s k = grind arith

  receiver-caller-by : sender ≡ true → known ≡ true → other ≡ false → Some ReceiverIsCaller ≡ first_refusal (guards_of sender known other flags bits bound)
  receiver-caller-by s k o = grind arith

  flags-reserved-by : sender ≡ true → known ≡ true → other ≡ true → flags ≡ false → Some FlagsReserved ≡ first_refusal (guards_of sender known other flags bits bound)
  flags-reserved-by s k o f = grind arith

  bits-of-others-by : sender ≡ true → known ≡ true → other ≡ true → flags ≡ true → bits ≡ true → bound ≡ false
      → Some BitsNotTheCallers ≡ first_refusal (guards_of sender known other flags bits bound)
  bits-of-others-by s k o f b l = grind arith

  all-pass-by : sender ≡ true → known ≡ true → other ≡ true → flags ≡ true → bits ≡ true → bound ≡ true → None ≡ first_refusal (guards_of sender known other flags bits bound)
  all-pass-by s k o f b l = grind arith

-- the tests of a call
module _ (v : Notifications) (caller : ℕ) (its : NotificationBits) where
  abbrev by_caller : Bool
  by_caller = its.sender.0 == caller

  abbrev known : Bool
  known = is_known_among (length v.bitmaps) its.receiver.0

  abbrev another : Bool
  another = not (its.receiver.0 == caller)

  abbrev flagged : Bool
  flagged = its.flags == 0 || its.flags == 2

  abbrev some : Bool
  some = not (its.bitmap == 0)

  abbrev settable : Bool
  settable = list_all (λ k. is_bound v its.receiver.0 (class_of caller) k caller) (bits_of its.bitmap)

  pub another-sender : by_caller ≡ false → Some SenderIsAnother ≡ first_refusal (set_guards (length v.bitmaps) v caller its)
  another-sender = another-sender-by by_caller known another flagged some settable

  pub receiver-unknown : by_caller ≡ true → known ≡ false → Some ReceiverUnknown ≡ first_refusal (set_guards (length v.bitmaps) v caller its)
  receiver-unknown = receiver-unknown-by by_caller known another flagged some settable

  pub receiver-caller : by_caller ≡ true → known ≡ true → another ≡ false → Some ReceiverIsCaller ≡ first_refusal (set_guards (length v.bitmaps) v caller its)
  receiver-caller = receiver-caller-by by_caller known another flagged some settable

  pub flags-reserved : by_caller ≡ true → known ≡ true → another ≡ true → flagged ≡ false → Some FlagsReserved ≡ first_refusal (set_guards (length v.bitmaps) v caller its)
  flags-reserved = flags-reserved-by by_caller known another flagged some settable

  pub bits-of-others : by_caller ≡ true → known ≡ true → another ≡ true → flagged ≡ true → some ≡ true → settable ≡ false → Some BitsNotTheCallers ≡ first_refusal (set_guards (length v.bitmaps) v caller its)
  bits-of-others = bits-of-others-by by_caller known another flagged some settable

  pub all-pass : by_caller ≡ true → known ≡ true → another ≡ true → flagged ≡ true → some ≡ true → settable ≡ true → None ≡ first_refusal (set_guards (length v.bitmaps) v caller its)
  all-pass = all-pass-by by_caller known another flagged some settable
