-- SPDX-License-Identifier: MIT OR Apache-2.0
-- Version, features, identifiers and partition information (DEN0077A, 13).
use Rattle.byteorder.specs.Endian.{little_bytes}
use Rattle.std.specs.Prelude.{ℕ, ◌+◌, ◌*◌, ◌^◌, ◌==◌, Bool, true, false, not, ◌&&◌, ◌||◌, List, [], ◌∷◌, ◌++◌, length, replicate, is_none, is_some, if◌then◌else◌}
use Rattle.std.specs.Str.{bytes_eq}
use Rattle.std.specs.List.{filter, flat_map, enumerate_from}
use Rattle.ffa_model.specs.declared.function.TheConstants.{FFA_MEM_RETRIEVE_REQ, FFA_MEM_RETRIEVE_REQ_64, FFA_NOTIFICATION_INFO_GET, FFA_NOTIFICATION_INFO_GET_64, FFA_RXTX_MAP, FFA_RXTX_MAP_64}
use Rattle.ffa_model.specs.declared.limits.TheConstants.{MOST_BUFFER_PAGES}
use Rattle.ffa_model.specs.declared.endpoint.Version as versions
use Rattle.ffa_model.specs.declared.endpoint.Version.TheVariants.{Compact, V1_1, V1_2}
use Rattle.ffa_model.specs.declared.manifest.Ffa.{Ffa}
use Rattle.ffa_model.specs.declared.manifest.Ffa.TheVariants as served
use Rattle.ffa_model.specs.declared.operation.ErrorCode.TheVariants.{NotSupported}
use Rattle.ffa_model.specs.declared.refusal.Refusal.{Refusal}
use Rattle.ffa_model.specs.declared.refusal.Refusal.TheVariants.{FunctionUnknown, UuidUnknown, BuffersMissing, BuffersNeeded, RxFull}
use Rattle.ffa_model.specs.declared.call.Reply.{Reply}
use Rattle.ffa_model.specs.declared.call.Reply.TheVariants.{Version, Error}
use Rattle.ffa_model.specs.Bits.{bits, is_set}
use Rattle.ffa_model.specs.Identifiers.{identifier}
use Rattle.ffa_model.specs.Numbers.{Identifier}
use Rattle.ffa_model.specs.Manifest.{is_nil}
use Rattle.ffa_model.specs.Notices.{hears_notices}
use Rattle.ffa_model.specs.Registers.{is_function}
use Rattle.ffa_model.specs.State.{State, Party, buffers_of, version_of, with_version}
use Rattle.ffa_model.specs.Buffers.{filled, is_full}
use Rattle.ffa_model.specs.Calls.{Service, replying, success}

abbrev pub version_reply : ℕ → Reply
version_reply version =
    if not (is_set 31 version) && bits 30 16 version == 1 then Version 0x10001 else Version 0xFFFFFFFF

-- the form in which a caller of the version that a word names writes and reads
abbrev pub form_of : ℕ → versions.Version
form_of word = if bits 15 0 word == 0 then Compact else if bits 15 0 word == 1 then V1_1 else V1_2

abbrev pub is_form : versions.Version → versions.Version → Bool
is_form Compact Compact = true
is_form V1_1 V1_1 = true
is_form V1_2 V1_2 = true
is_form version other = false

-- whether FFA_VERSION with this word is served: the major number is 1, and a caller with buffers names the form that it has
abbrev pub is_served_version : State → ℕ → Bool
is_served_version s word =
    not (is_set 31 word) && bits 30 16 word == 1
    && (is_none (buffers_of s s.runner) || is_form (form_of word) (version_of s s.runner))

-- a machine of FF-A 1.1 keeps nothing; one of FF-A 1.2 keeps the form of the version that the caller names
abbrev pub version_kept : Ffa → State → ℕ → State
version_kept served.V1_1 s word = s
version_kept served.V1_2 s word = if is_served_version s word then with_version s s.runner (form_of word) else s

abbrev pub version_answer : Ffa → State → ℕ → Reply
version_answer served.V1_1 s word = version_reply word
version_answer served.V1_2 s word = if is_served_version s word then Version 0x10002 else Version 0xFFFFFFFF

-- FFA_VERSION (DEN0077A, 13.2)
abbrev pub ffa_version : State → ℕ → Service
ffa_version s word = record { guards = []; state = version_kept s.ffa s word; reply = version_answer s.ffa s word }

-- what a machine of FF-A 1.2 tells of FFA_RXTX_MAP: to a caller of FF-A 1.2, in bits 31:16, how many pages a buffer has at most
abbrev pub map_properties : versions.Version → ℕ
map_properties V1_2 = MOST_BUFFER_PAGES * 2 ^ 16
map_properties version = 0

-- and of FFA_MEM_RETRIEVE_REQ: in bit 1 that its response tells non-secure memory, as the compact form doesn't, and in bit 2,
-- to the normal world, that a hypervisor may read back what it sent
abbrev pub tells_normal : versions.Version → Bool
tells_normal Compact = false
tells_normal version = true

abbrev pub retrieve_properties : Identifier → versions.Version → ℕ
retrieve_properties e version = (if tells_normal version then 2 else 0) + (if e == 0 then 4 else 0)

-- what is told of a call beside that there is one, to a caller of this form
abbrev pub feature_properties : Ffa → Identifier → versions.Version → ℕ → ℕ
feature_properties served.V1_1 e version function = 0
feature_properties served.V1_2 e version function =
    if function == FFA_RXTX_MAP || function == FFA_RXTX_MAP_64 then map_properties version
    else if function == FFA_MEM_RETRIEVE_REQ || function == FFA_MEM_RETRIEVE_REQ_64 then retrieve_properties e version
    else 0

-- whether a caller may make the call that a number identifies: FFA_NOTIFICATION_INFO_GET is for who hears of notices alone
abbrev pub may_call : Ffa → Identifier → ℕ → Bool
may_call ffa e function =
    if function == FFA_NOTIFICATION_INFO_GET || function == FFA_NOTIFICATION_INFO_GET_64 then hears_notices ffa e
    else is_function function

abbrev pub features_reply : Ffa → Identifier → versions.Version → ℕ → Reply
features_reply ffa e version function =
    if may_call ffa e function then success (feature_properties ffa e version function) 0 else Error NotSupported

abbrev pub features_guards : Ffa → Identifier → ℕ → List (Bool × Refusal)
features_guards ffa e function = (may_call ffa e function, FunctionUnknown) ∷ []

abbrev pub features : State → ℕ → Service
features s function =
    record (replying s (features_reply s.ffa s.runner (version_of s s.runner) function)) { guards = features_guards s.ffa s.runner function }

-- the 16 bytes that four registers hold
abbrev pub uuid_bytes : List ℕ → List ℕ
uuid_bytes words = flat_map (little_bytes 4) words

-- whether a UUID selects the endpoint at a place in the manifest: the Nil UUID selects each partition
abbrev pub is_selected : List ℕ → ℕ × Party → Bool
is_selected uuid p = not (p.0 == 0) && (is_nil uuid || bytes_eq p.1.uuid uuid)

-- the partitions that a UUID selects, each with its place in the manifest
abbrev pub selected : List Party → List ℕ → List (ℕ × Party)
selected parties uuid = filter (is_selected uuid) (enumerate_from 0 parties)

-- the properties that are told: on a machine of FF-A 1.2 those of second direct messages, bits 9 and 10, to a caller of FF-A 1.2
abbrev pub properties_told : Ffa → versions.Version → ℕ → ℕ
properties_told served.V1_1 version properties = properties
properties_told served.V1_2 V1_2 properties = properties
properties_told served.V1_2 version properties = bits 3 0 properties

-- what the information on a partition holds behind its identifier and its one execution context: in the compact form the
-- properties of messages alone; else bit 8 says that it is AArch64, and the UUID answers the Nil UUID alone
abbrev pub properties_info : Ffa → versions.Version → List ℕ → Party → List ℕ
properties_info ffa Compact uuid party = little_bytes 4 (bits 2 0 party.properties)
properties_info ffa version uuid party =
    little_bytes 4 (properties_told ffa version party.properties + 0x100) ++ (if is_nil uuid then party.uuid else replicate 16 0)

abbrev pub info_of : Ffa → versions.Version → List ℕ → ℕ × Party → List ℕ
info_of ffa version uuid p = little_bytes 2 (identifier p.0) ++ little_bytes 2 1 ++ properties_info ffa version uuid p.1

abbrev pub info_bytes : Ffa → versions.Version → List Party → List ℕ → List ℕ
info_bytes ffa version parties uuid = flat_map (info_of ffa version uuid) (selected parties uuid)

-- the size of one partition's information as its caller is told it; a compact caller is told 0
abbrev pub told_info_size : versions.Version → ℕ
told_info_size Compact = 0
told_info_size version = 24

abbrev pub is_count_alone : ℕ → Bool
is_count_alone flags = is_set 0 flags

abbrev pub is_any : {X : Type 0} → List X → Bool
is_any [] = false
is_any (x ∷ xs) = true

-- whether a caller without buffers is refused by a check of its own: on a machine of FF-A 1.2
abbrev pub needs_buffers : Ffa → Bool
needs_buffers served.V1_1 = false
needs_buffers served.V1_2 = true

abbrev pub info_guards : State → List ℕ → ℕ → List (Bool × Refusal)
info_guards s uuid flags =
    (is_nil uuid || is_any (selected s.parties uuid), UuidUnknown)
    ∷ (is_count_alone flags || is_some (buffers_of s s.runner) || needs_buffers s.ffa, BuffersMissing)
    ∷ (is_count_alone flags || is_some (buffers_of s s.runner), BuffersNeeded)
    ∷ (is_count_alone flags || not (is_full (buffers_of s s.runner)), RxFull)
    ∷ []

abbrev pub informed : State → List ℕ → ℕ → State
informed s uuid flags =
    if is_count_alone flags then s else filled s s.runner (info_bytes s.ffa (version_of s s.runner) s.parties uuid)

abbrev pub info_get : State → List ℕ → ℕ → Service
info_get s words flags =
    record {
      guards = info_guards s (uuid_bytes words) flags;
      state = informed s (uuid_bytes words) flags;
      reply = success (length (selected s.parties (uuid_bytes words))) (if is_count_alone flags then 0 else told_info_size (version_of s s.runner));
    }
