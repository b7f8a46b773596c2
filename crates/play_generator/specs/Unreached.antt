-- SPDX-License-Identifier: MIT OR Apache-2.0
-- Which checks of calls no trace fails.
use Rattle.std.specs.Prelude.{ℕ, ◌==◌, Bool, true, false, ◌&&◌, List}
use Rattle.std.specs.List.{list_all}
use Rattle.ffa_model.specs.Bits.{is_set}
use Rattle.ffa_model.specs.declared.endpoint.Endpoint.{Endpoint}
use Rattle.ffa_model.specs.declared.function.TheConstants.{FFA_MEM_DONATE, FFA_MEM_RETRIEVE_REQ, FFA_MEM_SHARE, FFA_PARTITION_INFO_GET, FFA_RUN}
use Rattle.ffa_model.specs.declared.refusal.Refusal.{Refusal}
use Rattle.ffa_model.specs.declared.refusal.Refusal.TheVariants.{BuffersMissing, BuffersNeeded, NothingToTell, NotTheSenders, ReceiversDiffer, TargetNotReady, GrantTooMuch, ZerosUnwritable, WorldsMixed, HandlesUsedUp, RequestsUnsent, RequestsUnreceived, MessagesUnsent, MessagesUnreceived}
use Rattle.play_generator.specs.declared.unreached.Everyone.{Everyone}

-- whether each of these endpoints has a property, which is a bit
abbrev pub have_all : ℕ → List Endpoint → Bool
have_all bit endpoints = list_all (λ (e : Endpoint). is_set bit e.properties.0) endpoints

-- whether no trace fails a check of the call with this number, by what everyone may do
abbrev pub is_unreached : Everyone → ℕ → Refusal → Bool
is_unreached everyone function TargetNotReady = function == FFA_RUN && everyone.runs_alone
is_unreached everyone function GrantTooMuch = function == FFA_MEM_DONATE
is_unreached everyone function ZerosUnwritable = function == FFA_MEM_SHARE
is_unreached everyone function WorldsMixed = everyone.tells_no_worlds
is_unreached everyone function HandlesUsedUp = true
is_unreached everyone function RequestsUnsent = everyone.sends_requests
is_unreached everyone function RequestsUnreceived = everyone.receives_requests
is_unreached everyone function MessagesUnsent = everyone.takes_messages
is_unreached everyone function MessagesUnreceived = everyone.takes_messages
is_unreached everyone function ReceiversDiffer = everyone.serves_1_1
is_unreached everyone function BuffersNeeded = everyone.serves_1_1
is_unreached everyone function NothingToTell = everyone.serves_1_1
is_unreached everyone function NotTheSenders = function == FFA_MEM_RETRIEVE_REQ && everyone.serves_1_1
is_unreached everyone function BuffersMissing = function == FFA_PARTITION_INFO_GET && everyone.serves_1_2
is_unreached everyone function other = false
