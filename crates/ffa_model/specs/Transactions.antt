-- SPDX-License-Identifier: MIT OR Apache-2.0
-- Memory management transactions that are open (DEN0077A, 5): their handles, who holds them, and the most that a
-- receiver may hold.
use Rattle.std.specs.Prelude.{ℕ, ◌+◌, ◌*◌, ◌==◌, Bool, false, ◌&&◌, List, length, filter, find, Option, slice_index, slice_set, unwrap_or, if◌then◌else◌}
use Rattle.std.specs.Ordering.{nat_cmp}
use Rattle.std.specs.List.{list_all}
use Rattle.std.specs.Option.{option_and_then}
use Rattle.std.specs.FinMap as map
use Rattle.ffa_model.specs.declared.limits.TheConstants.{MOST_HANDLES, MOST_SENDS}
use Rattle.ffa_model.specs.declared.endpoint.Region.{Region}
use Rattle.ffa_model.specs.declared.manifest.Ffa.{Ffa}
use Rattle.ffa_model.specs.declared.manifest.Ffa.TheVariants.{V1_1, V1_2}
use Rattle.ffa_model.specs.declared.rights.Data.{Data}
use Rattle.ffa_model.specs.declared.rights.Data.TheVariants.{Ro, Rw}
use Rattle.ffa_model.specs.declared.rights.Rights.{Rights}
use Rattle.ffa_model.specs.declared.rights.Kind.{Kind}
use Rattle.ffa_model.specs.declared.rights.Kind.TheVariants.{Share, Lend, Donate}
use Rattle.ffa_model.specs.declared.transaction.Range.{Range}
use Rattle.ffa_model.specs.declared.transaction.Receiver.{Receiver}
use Rattle.ffa_model.specs.Numbers.{HandleNumber, Identifier}
use Rattle.ffa_model.specs.Bits.{word_of_halves}
use Rattle.ffa_model.specs.Identifiers.{place}
use Rattle.ffa_model.specs.Lists.{listed}
use Rattle.ffa_model.specs.Rights.{may_fetch, may_store}
use Rattle.ffa_model.specs.State.{State, Transaction, Buffers}
use Rattle.ffa_model.specs.Access.{Ownership, covers, ownership_of}

-- the open transactions, and how many sends each endpoint has made
pub record OpenTransactions : Type 0 where
  pub transactions : map.FinMap nat_cmp Transaction  -- by handle
  pub sent : List ℕ  -- by endpoint

-- what the checks read beside the call: the number of endpoints, RAM and which of it is non-secure, the buffers, and what is
-- open
pub record Scene : Type 0 where
  pub endpoints : ℕ
  pub ram : Ownership
  pub normal : Option (List Region)
  pub buffers : List (Option Buffers)
  pub open_transactions : OpenTransactions

-- HANDLES
-- the sender in the high half, and in the low half which of its sends it is, counted from 1
abbrev pub handle_of : Identifier → ℕ → HandleNumber
handle_of e number = word_of_halves number e

-- the most sends of an endpoint: in FF-A 1.2 as many as there are handles of one sender
abbrev pub most_sends : Ffa → ℕ
most_sends V1_1 = MOST_SENDS
most_sends V1_2 = MOST_HANDLES

abbrev pub sends_of : OpenTransactions → Identifier → ℕ
sends_of o e = slice_index o.sent (place e)

abbrev pub next_handle : OpenTransactions → Identifier → HandleNumber
next_handle o e = handle_of e (sends_of o e + 1)

-- how many open transactions e has sent
abbrev pub open_count : OpenTransactions → Identifier → ℕ
open_count o e = length (filter (λ (t : Transaction). t.sender == e) (map.values o.transactions))

-- CHANGES
-- e holds this right, or holds nothing
abbrev pub holding : Transaction → Identifier → Rights → Transaction
holding t e right = record t { held = map.insert t.held e right }

abbrev pub not_holding : Transaction → Identifier → Transaction
not_holding t e = record t { held = map.remove t.held e }

-- its sender has made one send more, which is open
abbrev pub opened : OpenTransactions → HandleNumber → Transaction → OpenTransactions
opened o h t =
    record o { transactions = map.insert o.transactions h t; sent = slice_set o.sent (place t.sender) (sends_of o t.sender + 1) }

-- the transaction of a handle is this one, or is open no more
abbrev pub with_transaction : OpenTransactions → HandleNumber → Transaction → OpenTransactions
with_transaction o h t = record o { transactions = map.insert o.transactions h t }

abbrev pub closed : OpenTransactions → HandleNumber → OpenTransactions
closed o h = record o { transactions = map.remove o.transactions h }

-- CEILINGS
-- the pages of RAM that the ranges name
abbrev pub pages_in : Ownership → List Range → List ℕ
pages_in ram ranges = filter (λ p. covers ranges (ram.base + 4096 * p)) (listed ram.count (λ p. p))

-- whether all pages that the ranges name have own right rw, and whether all have execution
abbrev pub are_writable : Ownership → List Range → Bool
are_writable ram ranges = list_all (λ p. may_store (ram.own_right p)) (pages_in ram ranges)

abbrev pub are_executable : Ownership → List Range → Bool
are_executable ram ranges = list_all (λ p. may_fetch (ram.own_right p)) (pages_in ram ranges)

-- the data right that e is granted: ro where nothing is, but a send descriptor grants each receiver of a share or a lend one
abbrev pub grant_to : Transaction → Identifier → Data
grant_to t e =
    unwrap_or (option_and_then (λ (r : Receiver). r.grant) (find (λ (r : Receiver). r.endpoint.0 == e) t.receivers)) Ro

-- the most that e may hold, by whether all pages are writable, and executable: what all have in a donate; else the grant, and
-- a lend to one may be executed where all may
abbrev pub ceiling_in : Kind → Bool → Bool → Transaction → Identifier → Rights
ceiling_in Donate writable executable t e = record { level = if writable then Rw else Ro; exec = executable }
ceiling_in Lend writable executable t e = record { level = grant_to t e; exec = length t.receivers == 1 && executable }
ceiling_in Share writable executable t e = record { level = grant_to t e; exec = false }

abbrev pub ceiling : Ownership → Transaction → Identifier → Rights
ceiling ram t e = ceiling_in t.kind (are_writable ram t.ranges) (are_executable ram t.ranges) t e

-- ON A STATE
abbrev pub open_of : State → OpenTransactions
open_of s = record { transactions = s.transactions; sent = s.sent }

abbrev pub with_open : State → OpenTransactions → State
with_open s o = record s { transactions = o.transactions; sent = o.sent }

abbrev pub scene_of : State → Scene
scene_of s =
    record {
      endpoints = length s.parties;
      ram = ownership_of s;
      normal = s.normal;
      buffers = s.buffers;
      open_transactions = open_of s;
    }
