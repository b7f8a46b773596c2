-- SPDX-License-Identifier: MIT OR Apache-2.0
-- FOR PROOFS ALONE
-- The call that registers hold, where a part of the table of functions has it.
use Rattle.std.specs.Prelude.{ℕ, List, Option, Some, find, slice_index, if◌then◌else◌}
use Rattle.std.specs.Option.{option_map}
use Rattle.ffa_model.specs.declared.call.Call.{Call}
use Rattle.ffa_model.specs.declared.call.DirectMessage.{DirectMessage}
use Rattle.ffa_model.specs.declared.call.NotificationBits.{NotificationBits}
use Rattle.ffa_model.specs.declared.call.Transfer.{Transfer}
use Rattle.ffa_model.specs.Registers.{Function, called, direct_message, is_form_of, low, notification_bits, payload, transfer}
use Rattle.ffa_model.specs.Bits.{is_set}

-- a register, whole in the 64-bit form of a call and else its low half
abbrev pub widest : List ℕ → ℕ → ℕ
widest x i = if is_set 30 (low (slice_index x 0)) then slice_index x i else low (slice_index x i)

abbrev pub payload_of : List ℕ → List ℕ
payload_of x = payload (widest x)

abbrev pub message_of : List ℕ → DirectMessage
message_of x = direct_message (λ i. low (slice_index x i)) (widest x)

abbrev pub bits_of_call : List ℕ → NotificationBits
bits_of_call x = notification_bits (λ i. low (slice_index x i))

abbrev pub transfer_of : List ℕ → Transfer
transfer_of x = transfer (λ i. low (slice_index x i)) (widest x)

abbrev pub called_in : List Function → List ℕ → Option Call
called_in part x = option_map (λ f. called x (Some f)) (find (is_form_of (low (slice_index x 0))) part)
