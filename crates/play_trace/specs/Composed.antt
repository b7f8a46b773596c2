-- SPDX-License-Identifier: MIT OR Apache-2.0
-- FOR PROOFS ALONE
-- The bytes that are written.
use Rattle.std.specs.Prelude.{ℕ, ◌+◌, ◌*◌, if◌then◌else◌, List, [], ◌∷◌, ◌++◌, length, flat_map}
use Rattle.ffa_model.specs.declared.endpoint.Version.{Version}
use Rattle.ffa_model.specs.declared.descriptor.RelinquishDesc.{RelinquishDesc}
use Rattle.ffa_model.specs.declared.descriptor.RetrieveDesc.{RetrieveDesc}
use Rattle.ffa_model.specs.DescriptorPlaces.{header_size, accesses_size, told_access_size, data_code, exec_code, kind_code}
use Rattle.ffa_model.specs.ResponseBytes.{le, rest_bytes, access_rest_bytes, composite_bytes, range_bytes}
use Rattle.ffa_model.specs.SendDescriptor.{SendRecord, attributes_of}
use Rattle.ffa_model.specs.declared.rights.Kind.{Kind}
use Rattle.ffa_model.specs.declared.transaction.Receiver.{Receiver}
use Rattle.play_trace.specs.declared.heading.Heading.{Heading}

abbrev pub relinquish_bytes : RelinquishDesc → List ℕ
relinquish_bytes d = le 8 d.handle ++ le 4 (if d.zero then 1 else 0) ++ le 4 1 ++ le 2 d.endpoint.0

-- a transaction header, with the access descriptors right behind it
abbrev pub heading_bytes : Version → Heading → List ℕ
heading_bytes version h =
    le 2 h.sender.0
    ++ le 2 h.attributes
    ++ le 4 h.flags
    ++ le 8 h.handle
    ++ le 8 h.tag
    ++ le 4 (told_access_size version)
    ++ le 4 h.count
    ++ rest_bytes version

-- an access descriptor, which tells the composite's place
abbrev pub entry_bytes : Version → ℕ → ℕ → ℕ → List ℕ
entry_bytes version endpoint permissions composite =
    le 2 endpoint ++ permissions ∷ 0 ∷ [] ++ le 4 composite ++ access_rest_bytes version

-- what the header of a retrieve says, and what its one access descriptor asks for
abbrev pub retrieve_heading : RetrieveDesc → Heading
retrieve_heading d = record { sender = d.sender; attributes = 0; flags = 8 * kind_code d.kind; handle = d.handle; tag = d.tag; count = 1 }

abbrev pub asked_of : RetrieveDesc → ℕ
asked_of d = data_code d.level + 4 * exec_code d.exec

-- what the header of a send says, and where its composite stands: right behind the access descriptors
abbrev pub send_heading : Kind → SendRecord → Heading
send_heading kind r =
    record {
      sender = record { 0 = r.sender };
      attributes = attributes_of kind (length r.receivers);
      flags = if r.zero then 1 else 0;
      handle = 0;
      tag = r.tag;
      count = length r.receivers;
    }

abbrev pub composite_of : Version → SendRecord → ℕ
composite_of version r = header_size version + accesses_size version (length r.receivers)

abbrev pub receiver_bytes : Version → ℕ → Receiver → List ℕ
receiver_bytes version composite x = entry_bytes version x.endpoint.0 (data_code x.grant) composite

abbrev pub send_bytes : Version → Kind → SendRecord → List ℕ
send_bytes version kind r =
    heading_bytes version (send_heading kind r)
    ++ flat_map (receiver_bytes version (composite_of version r)) r.receivers
    ++ composite_bytes r.ranges
    ++ flat_map range_bytes r.ranges

abbrev pub send_size : Version → SendRecord → ℕ
send_size version r = composite_of version r + 16 + 16 * length r.ranges
