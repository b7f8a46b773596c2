-- SPDX-License-Identifier: MIT OR Apache-2.0
-- What each word of a descriptor says by itself, where it can be read.
use Rattle.std.specs.Prelude.{ℕ, ◌^◌, ◌%◌, ◌==◌, ◌&&◌, Bool, false, nat_lt, List, [], ◌∷◌, codes, Option, Some, None, if◌then◌else◌, option_map, option_and_then, bytes_eq}
use Rattle.std.specs.List.{slice_split}
use Rattle.play_trace.specs.TraceLines.{number_in}
use Rattle.ffa_model.specs.declared.endpoint.Address.{Address}
use Rattle.ffa_model.specs.declared.endpoint.EndpointId.{EndpointId}
use Rattle.ffa_model.specs.declared.endpoint.Version.{Version}
use Rattle.ffa_model.specs.declared.endpoint.Version.TheVariants.{Compact, V1_1, V1_2}
use Rattle.ffa_model.specs.declared.rights.Data.{Data}
use Rattle.ffa_model.specs.declared.rights.Data.TheVariants.{Ro, Rw}
use Rattle.ffa_model.specs.declared.rights.Kind.{Kind}
use Rattle.ffa_model.specs.declared.rights.Kind.TheVariants.{Share, Lend, Donate}
use Rattle.ffa_model.specs.declared.transaction.Range.{Range}
use Rattle.ffa_model.specs.declared.transaction.Receiver.{Receiver}
use Rattle.play_report.specs.declared.fault.Form.{Form}
use Rattle.play_report.specs.declared.members.Asker.{Asker}
use Rattle.play_report.specs.declared.right.Right.{Right}
use Rattle.play_report.specs.Forms.{asked_by, has_place, right_named}

abbrev pub plus : ℕ
plus = 43

abbrev pub comma : ℕ
comma = 44

abbrev pub colon : ℕ
colon = 58

-- PARTS

-- the members of a list
abbrev pub members_of : List ℕ → List (List ℕ)
members_of text = slice_split (λ c. c == comma) text

-- a first part, and a second where there is one and no third
abbrev pub one_or_two : List (List ℕ) → Option (List ℕ × Option (List ℕ))
one_or_two (first ∷ []) = Some (first, None)
one_or_two (first ∷ second ∷ []) = Some (first, Some second)
one_or_two _ = None

-- what is read of these parts, each by itself
abbrev pub each : {A : Type 0} → (List ℕ → Option A) → List (List ℕ) → Option (List A)
each read [] = Some []
each read (part ∷ parts) = option_and_then (λ a. option_map (λ rest. a ∷ rest) (each read parts)) (read part)

-- NUMBERS

abbrev pub below : ℕ → ℕ → Option ℕ
below bound n = if nat_lt n bound then Some n else None

unfoldable pub identifier_of : List ℕ → Option EndpointId
identifier_of word = option_map (λ n. record { 0 = n }) (option_and_then (below (2 ^ 16)) (number_in 16 word))

unfoldable pub page_count_of : List ℕ → Option ℕ
page_count_of word = option_and_then (below (2 ^ 32)) (number_in 16 word)

-- the address of a page, below 2 ^ 32
unfoldable pub tx_of : List ℕ → Option Address
tx_of word =
    option_and_then
    (λ n. if nat_lt n (2 ^ 32) && (n % 4096 == 0) then Some (record { 0 = n }) else None)
    (number_in 16 word)

-- `ADDRESS+PAGES`
abbrev pub range_in : List ℕ × Option (List ℕ) → Option Range
range_in (first, Some second) =
    option_and_then
    (λ address. option_map (λ pages. record { address = address; pages = pages }) (page_count_of second))
    (number_in 16 first)
range_in (first, None) = None

unfoldable pub range_of : List ℕ → Option Range
range_of word = option_and_then range_in (one_or_two (slice_split (λ c. c == plus) word))

-- NAMES

unfoldable pub kind_of : List ℕ → Option Kind
kind_of word =
    if bytes_eq word (codes "donate") then Some Donate
    else if bytes_eq word (codes "lend") then Some Lend
    else if bytes_eq word (codes "share") then Some Share
    else None

-- a version, in whose form a descriptor is written
unfoldable pub version_of : List ℕ → Option Version
version_of word =
    if bytes_eq word (codes "compact") then Some Compact
    else if bytes_eq word (codes "1.1") then Some V1_1
    else if bytes_eq word (codes "1.2") then Some V1_2
    else None

-- a data right
unfoldable pub grant_of : List ℕ → Option Data
grant_of word =
    if bytes_eq word (codes "ro") then Some Ro
    else if bytes_eq word (codes "rw") then Some Rw
    else None

-- a right to data or none that is specified, and whether instructions may be fetched
abbrev pub right_of : List ℕ → Option (Option Data × Bool)
right_of word = option_map asked_by (right_named word)

-- RECEIVERS

-- `ENDPOINT` or `ENDPOINT:RIGHT`, of a send
abbrev pub receiver_in : List ℕ × Option (List ℕ) → Option Receiver
receiver_in (first, None) = option_map (λ e. record { endpoint = e; grant = None }) (identifier_of first)
receiver_in (first, Some right) =
    option_and_then
    (λ endpoint. option_map (λ grant. record { endpoint = endpoint; grant = Some grant }) (grant_of right))
    (identifier_of first)

unfoldable pub receiver_of : List ℕ → Option Receiver
receiver_of word = option_and_then receiver_in (one_or_two (slice_split (λ c. c == colon) word))

-- the same of a retrieve
abbrev pub asker_in : List ℕ × Option (List ℕ) → Option Asker
asker_in (first, None) = option_map (λ e. record { endpoint = e; level = None; exec = false }) (identifier_of first)
asker_in (first, Some right) =
    option_and_then
    (λ endpoint. option_map (λ r. record { endpoint = endpoint; level = r.0; exec = r.1 }) (right_of right))
    (identifier_of first)

unfoldable pub asker_of : List ℕ → Option Asker
asker_of word = option_and_then asker_in (one_or_two (slice_split (λ c. c == colon) word))

-- RIGHTS THAT HAVE NO PLACE

-- the right beside an endpoint, where it is one that has no place there
abbrev pub misplaced_in : Form → List ℕ × Option (List ℕ) → Option Right
misplaced_in form (first, None) = None
misplaced_in form (first, Some second) =
    option_and_then (λ right. if has_place form right then None else Some right) (right_named second)

unfoldable pub misplaced_of : Form → List ℕ → Option Right
misplaced_of form word = option_and_then (misplaced_in form) (one_or_two (slice_split (λ c. c == colon) word))

-- this one, or else the next
abbrev pub or_else : {A : Type 0} → Option A → Option A → Option A
or_else (Some a) next = Some a
or_else None next = next

-- the first of a list's members
abbrev pub first_misplaced : Form → List (List ℕ) → Option Right
first_misplaced form [] = None
first_misplaced form (part ∷ parts) = or_else (misplaced_of form part) (first_misplaced form parts)
