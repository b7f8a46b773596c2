-- SPDX-License-Identifier: MIT OR Apache-2.0
-- FFA_MEM_DONATE, FFA_MEM_LEND and FFA_MEM_SHARE (DEN0077A, 5 and 16).
use Rattle.std.specs.Prelude.{ℕ, ◌+◌, ◌*◌, ◌==◌, Bool, true, false, not, ◌&&◌, ◌||◌, nat_lt, nat_le, is_none, is_some, List, [], ◌∷◌, ◌++◌, take, Option, Some, None}
use Rattle.std.specs.List.{list_any, list_all}
use Rattle.std.specs.Option.{option_map_or}
use Rattle.std.specs.FinMap as map
use Rattle.ffa_model.specs.declared.limits.TheConstants.{MOST_OPEN}
use Rattle.ffa_model.specs.declared.endpoint.Region.{Region}
use Rattle.ffa_model.specs.declared.manifest.Ffa.{Ffa}
use Rattle.ffa_model.specs.declared.refusal.Refusal.{Refusal}
use Rattle.ffa_model.specs.declared.refusal.Refusal.TheVariants.{DescriptorMalformed, SenderIsAnother, ReceiverUnknown, RangeOutside, PageUnsendable, GrantTooMuch, ZerosUnwritable, TransactionsFull, HandlesUsedUp, BuffersMissing, Fragmented, DescriptorTooLong, BufferAddressGiven, BufferPagesGiven, WorldsMixed}
use Rattle.ffa_model.specs.declared.call.Reply.{Reply}
use Rattle.ffa_model.specs.declared.call.Reply.TheVariants.{Sent}
use Rattle.ffa_model.specs.declared.rights.Data.{Data}
use Rattle.ffa_model.specs.declared.rights.Kind.{Kind}
use Rattle.ffa_model.specs.declared.rights.Rights.{Rights}
use Rattle.ffa_model.specs.declared.transaction.Range.{Range}
use Rattle.ffa_model.specs.declared.transaction.Receiver.{Receiver}
use Rattle.ffa_model.specs.Numbers.{HandleNumber, Identifier, PageIndex}
use Rattle.ffa_model.specs.Lists.{is_in_run}
use Rattle.ffa_model.specs.Regions.{is_normal}
use Rattle.ffa_model.specs.Rights.{is_data_at_most}
use Rattle.ffa_model.specs.State.{State, Transaction, Buffers, is_known_among, version_of}
use Rattle.ffa_model.specs.Access.{Ownership, ownership_of}
use Rattle.ffa_model.specs.Memory.{zeroed_if}
use Rattle.ffa_model.specs.Buffers.{buffers_in, is_own, room_of}
use Rattle.ffa_model.specs.Messages.{tx_bytes}
use Rattle.ffa_model.specs.DescriptorPlaces.{Versioned, in_version}
use Rattle.ffa_model.specs.SendDescriptor.{SendRecord, is_named, send_of, range_end}
use Rattle.ffa_model.specs.declared.call.Transfer.{Transfer}
use Rattle.ffa_model.specs.Transactions.{OpenTransactions, Scene, most_sends, sends_of, next_handle, open_count, opened, pages_in, are_writable, open_of, scene_of, with_open}
use Rattle.ffa_model.specs.Calls.{Service}

abbrev pub are_known : ℕ → List Receiver → Bool
are_known endpoints receivers = list_all (λ (r : Receiver). is_known_among endpoints r.endpoint.0) receivers

-- a range that lies in RAM
abbrev pub is_inside : Ownership → Range → Bool
is_inside ram range = nat_le ram.base range.address && nat_le (range_end range) (ram.base + 4096 * ram.count)

-- whether someone has a buffer in a page
abbrev pub is_buffer : List (Option Buffers) → PageIndex → Bool
is_buffer buffers p = list_any (λ b. option_map_or (λ (x : Buffers). is_in_run x.tx x.pages p || is_in_run x.rx x.pages p) b false) buffers

abbrev pub is_sendable : Identifier → Ownership → List (Option Buffers) → PageIndex → Bool
is_sendable e ram buffers p = is_own e ram p && not (is_buffer buffers p)

-- a page whose own data right is at least the grant
abbrev pub is_grantable : Option Data → Option Rights → Bool
is_grantable None right = true
is_grantable (Some level) None = false
is_grantable (Some level) (Some right) = is_data_at_most level right.level

abbrev pub are_grants_within : Ownership → List Receiver → PageIndex → Bool
are_grants_within ram receivers p = list_all (λ (r : Receiver). is_grantable r.grant (ram.own_right p)) receivers

-- the checks of a descriptor's registers, in order: all of it stands in the first bytes of TX
abbrev pub transfer_guards : List (Option Buffers) → Identifier → Transfer → List (Bool × Refusal)
transfer_guards buffers e transfer =
    (is_some (buffers_in buffers e), BuffersMissing)
    ∷ (transfer.total == transfer.fragment, Fragmented)
    ∷ (nat_le transfer.total (room_of (buffers_in buffers e)), DescriptorTooLong)
    ∷ (transfer.address == 0, BufferAddressGiven)
    ∷ (transfer.pages == 0, BufferPagesGiven)
    ∷ []

-- the checks of what a send descriptor says, in order
abbrev pub record_guards : ℕ → Ownership → List (Option Buffers) → Identifier → SendRecord → List (Bool × Refusal)
record_guards endpoints ram buffers e send =
    (send.sender == e, SenderIsAnother)
    ∷ (are_known endpoints send.receivers, ReceiverUnknown)
    ∷ (list_all (is_inside ram) send.ranges, RangeOutside)
    ∷ (list_all (is_sendable e ram buffers) (pages_in ram send.ranges), PageUnsendable)
    ∷ (list_all (are_grants_within ram send.receivers) (pages_in ram send.ranges), GrantTooMuch)
    ∷ (not send.zero || are_writable ram send.ranges, ZerosUnwritable)
    ∷ []

-- whether all pages that the ranges name are non-secure, and whether none is
abbrev pub are_normal : Ownership → Option (List Region) → List Range → Bool
are_normal ram normal ranges = list_all (is_normal ram.base normal) (pages_in ram ranges)

abbrev pub are_secure : Ownership → Option (List Region) → List Range → Bool
are_secure ram normal ranges = list_all (λ p. not (is_normal ram.base normal p)) (pages_in ram ranges)

-- memory that is told to be non-secure
abbrev pub is_told_normal : Ownership → Option (List Region) → List Range → Bool
is_told_normal ram normal ranges = is_some normal && are_normal ram normal ranges

-- where worlds are told apart: pages of one world alone, and secure ones not to the normal world
abbrev pub is_of_one_world : Ownership → Option (List Region) → SendRecord → Bool
is_of_one_world ram normal send =
    is_none normal || are_normal ram normal send.ranges
    || (are_secure ram normal send.ranges && not (is_named 0 send.receivers))

abbrev pub world_guards : Ownership → Option (List Region) → SendRecord → List (Bool × Refusal)
world_guards ram normal send = (is_of_one_world ram normal send, WorldsMixed) ∷ []

-- the checks of room for one more transaction
abbrev pub room_guards : Ffa → OpenTransactions → Identifier → List (Bool × Refusal)
room_guards ffa open_transactions e =
    (nat_lt (open_count open_transactions e) MOST_OPEN, TransactionsFull)
    ∷ (nat_lt (sends_of open_transactions e) (most_sends ffa), HandlesUsedUp) ∷ []

-- the checks of what is offered, or None where the bytes are no descriptor
abbrev pub offer_guards : Ffa → Scene → Identifier → Option SendRecord → List (Bool × Refusal)
offer_guards ffa scene e None = (false, DescriptorMalformed) ∷ []
offer_guards ffa scene e (Some send) =
    record_guards scene.endpoints scene.ram scene.buffers e send
    ++ (world_guards scene.ram scene.normal send ++ room_guards ffa scene.open_transactions e)

-- the checks of a send by e in order, with what the descriptor says
abbrev pub send_guards : Ffa → Scene → Identifier → Transfer → Option SendRecord → List (Bool × Refusal)
send_guards ffa scene e transfer send = transfer_guards scene.buffers e transfer ++ offer_guards ffa scene e send

-- the transaction that a send opens, of memory that is told to be non-secure or isn't: nobody holds it
abbrev pub transaction_from : Kind → Bool → SendRecord → Transaction
transaction_from kind normal send =
    record {
      kind = kind;
      sender = send.sender;
      tag = send.tag;
      zero = send.zero;
      normal = normal;
      ranges = send.ranges;
      receivers = send.receivers;
      held = map.empty;
    }

-- what is open after a send by e
abbrev pub offered_in : OpenTransactions → Identifier → Kind → Bool → SendRecord → OpenTransactions
offered_in o e kind normal send = opened o (next_handle o e) (transaction_from kind normal send)

-- the handle's low half in w2, and its high half in w3
abbrev pub handle_reply : HandleNumber → Reply
handle_reply h = Sent (record { 0 = h })

-- ON A STATE
-- the first bytes of the runner's TX, in its version
abbrev pub descriptor_in : State → ℕ → Versioned
descriptor_in s total = in_version (version_of s s.runner) (take total (tx_bytes s s.runner))

-- what they say, and the state after the send
abbrev pub send_read : State → Kind → ℕ → Option SendRecord
send_read s kind total = send_of s.ffa kind (descriptor_in s total)

-- what the runner's send opens
abbrev pub transaction_sent : State → Kind → SendRecord → Transaction
transaction_sent s kind send = transaction_from kind (is_told_normal (ownership_of s) s.normal send.ranges) send

abbrev pub memory_sent : State → Kind → Option SendRecord → State
memory_sent s kind None = s
memory_sent s kind (Some send) =
    zeroed_if send.zero
    (with_open s (offered_in (open_of s) s.runner kind (is_told_normal (ownership_of s) s.normal send.ranges) send))
    send.ranges

abbrev pub memory_send : State → Kind → Transfer → Service
memory_send s kind transfer =
    record {
      guards = send_guards s.ffa (scene_of s) s.runner transfer (send_read s kind transfer.total);
      state = memory_sent s kind (send_read s kind transfer.total);
      reply = handle_reply (next_handle (open_of s) s.runner);
    }
