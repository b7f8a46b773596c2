-- SPDX-License-Identifier: MIT OR Apache-2.0
-- The state of the small machine: maps, sets and lists by page or endpoint, and no table, slot or stack.
use Rattle.std.specs.Prelude.{ℕ, ◌+◌, ◌*◌, ◌==◌, Bool, ◌&&◌, ◌||◌, nat_lt, List, length, Option, None, slice_index, slice_index_or, slice_get, slice_set}
use Rattle.std.specs.Ordering.{nat_cmp}
use Rattle.std.specs.Cmp.Lexicographic.{slice_cmp}
use Rattle.std.specs.Option.{option_map, option_map_or}
use Rattle.std.specs.FinMap as map
use Rattle.std.specs.FinSet as finite_set
use Rattle.ffa_model.specs.declared.endpoint.Version.{Version}
use Rattle.ffa_model.specs.declared.endpoint.Version.TheVariants.{V1_1}
use Rattle.ffa_model.specs.declared.endpoint.Region.{Region}
use Rattle.ffa_model.specs.declared.manifest.Ffa.{Ffa}
use Rattle.ffa_model.specs.declared.rights.Rights.{Rights}
use Rattle.ffa_model.specs.declared.rights.Kind.{Kind}
use Rattle.ffa_model.specs.declared.transaction.Range.{Range}
use Rattle.ffa_model.specs.declared.transaction.Receiver.{Receiver}
use Rattle.ffa_model.specs.declared.schedule.Status.{Status}
use Rattle.ffa_model.specs.declared.schedule.Work.{Work}
use Rattle.ffa_model.specs.Numbers.{Bit, HandleNumber, Identifier, PageIndex}
use Rattle.ffa_model.specs.Bits.{is_set}
use Rattle.ffa_model.specs.Identifiers.{manager, identifier, place}
use Rattle.ffa_model.specs.Lists.{listed}

-- what the manifest says of an endpoint for good
pub record Party : Type 0 where
  pub uuid : List ℕ
  pub properties : ℕ

-- a page that an endpoint owns
pub record Page : Type 0 where
  pub owner : Identifier
  pub own_right : Rights
  pub bytes : List ℕ

-- a memory management transaction that is open
pub record Transaction : Type 0 where
  pub kind : Kind
  pub sender : Identifier
  pub tag : ℕ
  pub zero : Bool
  pub normal : Bool  -- whether its memory is told to be non-secure
  pub ranges : List Range
  pub receivers : List Receiver
  pub held : map.FinMap nat_cmp Rights  -- by endpoint

-- an endpoint's TX and RX: the first page of each, how many pages each has, and whether RX is full
pub record Buffers : Type 0 where
  pub tx : ℕ
  pub rx : ℕ
  pub pages : ℕ
  pub full : Bool

-- an endpoint is named by its identifier; a list by endpoint is in the manifest's order.
-- Each change of a state is one record update with its cases inside the fields. So a law about the change computes.
pub record State : Type 0 where
  pub ram_base : ℕ
  pub tables : PageIndex  -- the first page of the tables
  pub parties : List Party  -- by endpoint
  pub ffa : Ffa  -- the version of FF-A that the machine serves, for good
  pub versions : List Version  -- by endpoint, the form in which it writes and reads
  pub normal : Option (List Region)  -- of non-secure memory, where worlds are told apart
  pub pages : List (Option Page)  -- by page; None is a page of the manager
  pub transactions : map.FinMap nat_cmp Transaction  -- by handle
  pub sent : List ℕ  -- by endpoint, how many sends it has made
  pub buffers : List (Option Buffers)  -- by endpoint
  pub runner : Identifier
  pub statuses : List Status  -- by endpoint
  pub works : List (Option Work)  -- by endpoint
  pub bitmaps : List Bool  -- by endpoint, whether it has notification bitmaps
  pub bound : finite_set.FinSet (slice_cmp nat_cmp)  -- of receiver, class, bit, sender
  pub pending : finite_set.FinSet (slice_cmp nat_cmp)  -- of receiver, class, bit
  pub notices : finite_set.FinSet (slice_cmp nat_cmp)  -- of receiver, class: what the normal world is to be told of

abbrev pub identifiers : State → List ℕ
identifiers s = listed (length s.parties) identifier

-- whether e names a partition, or an endpoint, of this many endpoints
abbrev pub is_partition_among : ℕ → Identifier → Bool
is_partition_among n e = nat_lt 0x8000 e && nat_lt (place e) n

abbrev pub is_known_among : ℕ → Identifier → Bool
is_known_among n e = e == 0 || is_partition_among n e

abbrev pub is_known : State → Identifier → Bool
is_known s e = is_known_among (length s.parties) e

-- the property word of e, and whether a bit of it is set
abbrev pub properties_among : List Party → Identifier → ℕ
properties_among parties e = option_map_or (λ (p : Party). p.properties) (slice_get parties (place e)) 0

-- the form in which e writes and reads descriptors
abbrev pub version_of : State → Identifier → Version
version_of s e = slice_index_or s.versions (place e) V1_1

abbrev pub with_version : State → Identifier → Version → State
with_version s e version = record s { versions = slice_set s.versions (place e) version }

abbrev pub has_property : List Party → Identifier → Bit → Bool
has_property parties e bit = is_set bit (properties_among parties e)

abbrev pub page_at : State → PageIndex → Option Page
page_at s p = slice_index_or s.pages p None

-- the owner of a page, which is the manager where it is no endpoint's
abbrev pub owner_of : State → PageIndex → Identifier
owner_of s p = option_map_or (λ (page : Page). page.owner) (page_at s p) manager

-- the owner's right to a page while no transaction names it; a page of the manager has none
abbrev pub own_right_of : State → PageIndex → Option Rights
own_right_of s p = option_map (λ (page : Page). page.own_right) (page_at s p)

abbrev pub address_of : State → PageIndex → ℕ
address_of s p = s.ram_base + 4096 * p

abbrev pub transaction_of : State → HandleNumber → Option Transaction
transaction_of s h = map.get s.transactions h

abbrev pub sent_by : State → Identifier → ℕ
sent_by s e = slice_index s.sent (place e)

abbrev pub buffers_of : State → Identifier → Option Buffers
buffers_of s e = slice_index_or s.buffers (place e) None
