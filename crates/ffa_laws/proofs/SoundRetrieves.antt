-- SPDX-License-Identifier: MIT OR Apache-2.0
-- A retrieve keeps a state sound: the response is bytes, and fits in RX.
use Rattle.std.proofs.Common.{◌≡◌, ℕ, ◌+◌, ◌*◌, ◌<◌, Bool, true, false, List, [], ◌∷◌, ◌++◌, length, map, Option, Some, None, refl, sym, subst, arith, nat_lt}
use Rattle.std.specs.List.{flat_map, list_all}
use Rattle.std.proofs.lemmas.Bool.{and_from, lt-ltb}
use Rattle.ffa_model.specs.declared.rights.Data.{Data}
use Rattle.ffa_model.specs.declared.endpoint.Version.{Version}
use Rattle.ffa_model.specs.declared.endpoint.Version.TheVariants.{Compact, V1_1, V1_2}
use Rattle.ffa_model.specs.declared.rights.Data.TheVariants.{Ro, Rw}
use Rattle.ffa_model.specs.declared.transaction.Range.{Range}
use Rattle.ffa_model.specs.declared.transaction.Receiver.{Receiver}
use Rattle.ffa_model.specs.Calls.{first_failure}
use Rattle.ffa_model.specs.DescriptorPlaces.{accesses_size, data_code, exec_code, header_size}
use Rattle.ffa_model.specs.ResponseBytes.{ResponseRecord, access_bytes, access_rest_bytes, accesses_bytes, attributes_told, composite_bytes, flags_of, header_bytes, le, permissions_of, range_bytes, response_bytes}
use Rattle.ffa_model.specs.SendDescriptor.{page_total}
use Rattle.ffa_model.specs.SoundState.{IsSoundState, are_bytes}
use Rattle.ffa_model.specs.State.{State, Transaction, buffers_of, transaction_of, version_of}
use Rattle.ffa_model.specs.declared.call.Transfer.{Transfer}
use Rattle.ffa_model.specs.HypervisorRetrieve.{access_granted, handle_read, memory_retrieve, read_back, sent_record, told_back}
use Rattle.ffa_model.specs.MemoryRetrieve.{receiver_retrieve, response_to}
use Rattle.ffa_model.proofs.KeptCalls.{taken-sound}
use Rattle.ffa_laws.proofs.ByteLists.{both-bytes, bytes-pieces, number-bytes}
use Rattle.ffa_laws.proofs.ReadBacks.{by-either}
use Rattle.ffa_laws.proofs.SoundBuffers.{filled-state-sound}
use Rattle.ffa_laws.proofs.SoundPages.{filled-sound}
use Rattle.ffa_laws.proofs.SoundSteady.{runner-known}
use Rattle.ffa_laws.proofs.Taken.{Taken, before, h, response, right, state-taken, taken}

-- ---- the bytes of a response
le-bytes : (n x : ℕ) → are_bytes (le n x)
unfolding le
le-bytes n x = number-bytes 0 n x

-- numbers one after another
abbrev numbers : List (ℕ × ℕ) → List ℕ
numbers [] = []
numbers (n ∷ ns) = le n.0 n.1 ++ numbers ns

numbers-bytes : (ns : List (ℕ × ℕ)) → are_bytes (numbers ns)
numbers-bytes [] = refl
numbers-bytes (n ∷ ns) = both-bytes (le n.0 n.1) (numbers ns) (le-bytes n.0 n.1) (numbers-bytes ns)

permissions-byte : (level : Data) (exec : Bool) → data_code (Some level) + 4 * exec_code exec < 256
permissions-byte Ro true = omega arith
permissions-byte Ro false = omega arith
permissions-byte Rw true = omega arith
permissions-byte Rw false = omega arith

all-ranges : (ranges : List Range) → list_all (λ (r : Range). true) ranges ≡ true
all-ranges [] = refl
all-ranges (r ∷ ranges) = all-ranges ranges

-- permissions that fit in a byte
abbrev is_byte_access : ℕ × ℕ → Bool
is_byte_access access = nat_lt access.1 256

grant-byte : (grant : Option Data) → data_code grant < 256
grant-byte None = omega arith
grant-byte (Some Ro) = omega arith
grant-byte (Some Rw) = omega arith

granted-bytes : (receivers : List Receiver) → list_all is_byte_access (map access_granted receivers) ≡ true
granted-bytes [] = refl
granted-bytes (receiver ∷ receivers) =
    and_from (nat_lt (data_code receiver.grant) 256) _ (lt-ltb (data_code receiver.grant) 256 (grant-byte receiver.grant)) (granted-bytes receivers)

module _ (version : Version) (r : ResponseRecord) (small : list_all is_byte_access r.accesses ≡ true) where
  header-are_bytes : are_bytes (header_bytes version r)
  unfolding le
  header-are_bytes = of version
    where
      of : (v : Version) → are_bytes (header_bytes v r)
      of Compact =
          numbers-bytes ((2, r.sender) ∷ (2, attributes_told Compact r.normal) ∷ (4, flags_of r.kind r.zero) ∷ (8, r.handle) ∷ (8, r.tag) ∷ (4, 0) ∷ (4, length r.accesses) ∷ [])
      of V1_1 =
          numbers-bytes ((2, r.sender) ∷ (2, attributes_told V1_1 r.normal) ∷ (4, flags_of r.kind r.zero) ∷ (8, r.handle) ∷ (8, r.tag) ∷ (4, 16) ∷ (4, length r.accesses) ∷ (4, 48) ∷ (4, 0) ∷ (8, 0) ∷ [])
      of V1_2 =
          numbers-bytes ((2, r.sender) ∷ (2, attributes_told V1_2 r.normal) ∷ (4, flags_of r.kind r.zero) ∷ (8, r.handle) ∷ (8, r.tag) ∷ (4, 32) ∷ (4, length r.accesses) ∷ (4, 48) ∷ (4, 0) ∷ (8, 0) ∷ [])

  rest-are_bytes : are_bytes (access_rest_bytes version)
  unfolding le
  rest-are_bytes = of version
    where
      of : (v : Version) → are_bytes (access_rest_bytes v)
      of Compact = refl
      of V1_1 = refl
      of V1_2 = refl

  -- where the composite stands
  abbrev behind : ℕ
  behind = header_size version + accesses_size version (length r.accesses)

  access-are_bytes : (access : ℕ × ℕ) → is_byte_access access ≡ true → are_bytes (access_bytes version (length r.accesses) access)
  unfolding le
  access-are_bytes access is =
      both-bytes (le 2 access.0) (access.1 ∷ 0 ∷ le 4 behind ++ access_rest_bytes version) (le-bytes 2 access.0)
      (and_from (nat_lt access.1 256) _ is (both-bytes (le 4 behind) (access_rest_bytes version) (le-bytes 4 behind) rest-are_bytes))

  accesses-are_bytes : are_bytes (accesses_bytes version r.accesses)
  accesses-are_bytes = bytes-pieces (access_bytes version (length r.accesses)) is_byte_access r.accesses small access-are_bytes

  composite-are_bytes : are_bytes (composite_bytes r.ranges)
  unfolding le
  composite-are_bytes = numbers-bytes ((4, page_total r.ranges) ∷ (4, length r.ranges) ∷ (8, 0) ∷ [])

  range-are_bytes : (range : Range) → are_bytes (range_bytes range)
  unfolding le
  range-are_bytes range = numbers-bytes ((8, range.address) ∷ (4, range.pages) ∷ (4, 0) ∷ [])

  response-are_bytes : are_bytes (response_bytes version r)
  unfolding response_bytes le
  response-are_bytes =
      both-bytes (header_bytes version r ++ accesses_bytes version r.accesses ++ composite_bytes r.ranges) (flat_map range_bytes r.ranges)
      (both-bytes (header_bytes version r ++ accesses_bytes version r.accesses) (composite_bytes r.ranges)
      (both-bytes (header_bytes version r) (accesses_bytes version r.accesses) header-are_bytes accesses-are_bytes) composite-are_bytes)
      (bytes-pieces range_bytes (λ (range : Range). true) r.ranges (all-ranges r.ranges) (λ range is. range-are_bytes range))

-- ---- the call
module _ (s : State) (sound : IsSoundState s) where
  -- of a receiver
  received-sound : (x : Transfer) → first_failure (receiver_retrieve s x).guards ≡ None → IsSoundState (receiver_retrieve s x).state
  received-sound x none =
      subst IsSoundState (sym (state-taken s x its)) (filled-state-sound (before s x its) before-sound s.runner (response s x its) (filled-sound (before s x its) (before s x its).pages before-sound.pages (response s x its) (response-are_bytes (version_of s s.runner) told small) (buffers_of s s.runner)))
    where
      its : Taken s x
      its = taken s x none

      told : ResponseRecord
      told = response_to (h s x its) its.of s.runner (right s x its)

      small : list_all is_byte_access told.accesses ≡ true
      small = and_from (nat_lt (permissions_of (right s x its)) 256) _ (lt-ltb (permissions_of (right s x its)) 256 (permissions-byte (right s x its).level (right s x its).exec)) refl

      before-sound : IsSoundState (before s x its)
      before-sound = taken-sound s sound (h s x its) its.of its.is.there s.runner (right s x its) (runner-known s sound) its.is.receiver its.is.within

  -- of a hypervisor
  back-sound : (asked : Option ℕ) → IsSoundState (read_back s asked)
  back-sound None = sound
  back-sound (Some h) = of (transaction_of s h)
    where
      of : (o : Option Transaction) → IsSoundState (told_back s h o)
      of None = sound
      of (Some t) =
          let told : ResponseRecord = sent_record h t in
          let bytes : List ℕ = response_bytes (version_of s s.runner) told in
          filled-state-sound s sound s.runner bytes
          (filled-sound s s.pages sound.pages bytes (response-are_bytes (version_of s s.runner) told (granted-bytes t.receivers)) (buffers_of s s.runner))

  pub retrieve-sound : (x : Transfer) → first_failure (memory_retrieve s x).guards ≡ None → IsSoundState (memory_retrieve s x).state
  retrieve-sound x =
      by-either s x (λ c. first_failure c.guards ≡ None → IsSoundState c.state) (received-sound x) (λ back none. back-sound (handle_read s x.total))
