-- SPDX-License-Identifier: MIT OR Apache-2.0
-- FOR PROOFS ALONE
-- Bytes that are written from the front on.
use Rattle.std.specs.Prelude.{◌≡◌, ℕ, List, ◌++◌, length, drop}
use Rattle.ffa_model.specs.declared.endpoint.Version.{Version}
use Rattle.ffa_model.specs.DescriptorPlaces.{told_access_size}
use Rattle.ffa_model.specs.ResponseBytes.{attributes_told, flags_of, le, rest_bytes}
use Rattle.ffa_memdesc.specs.declared.respond.ResponseHeader.{ResponseHeader}

-- the first bytes of old became the front, which ends at this place, and the rest stays
pub record Wrote (old front : List ℕ) (at : ℕ) (new : List ℕ) : Type 0 where
  pub place : length front ≡ at
  pub bytes : new ≡ front ++ drop at old

-- a response's header that tells so many access descriptors
abbrev pub header_bytes_with : Version → ResponseHeader → ℕ → List ℕ
header_bytes_with version header count =
    le 2 header.sender.0
    ++ le 2 (attributes_told version header.normal)
    ++ le 4 (flags_of header.kind header.zero)
    ++ le 8 header.handle
    ++ le 8 header.tag
    ++ le 4 (told_access_size version)
    ++ le 4 count
    ++ rest_bytes version
