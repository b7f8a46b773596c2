-- SPDX-License-Identifier: MIT OR Apache-2.0
-- What the types say of endpoints.
use Rattle.std.specs.Prelude.{Bool, List}
use Rattle.std.specs.List.{list_all}
use Rattle.ffa_model.specs.declared.endpoint.Endpoint.{Endpoint}
use Rattle.ffa_model.specs.Uuid.{is_uuid}

-- whether each endpoint's UUID is one
abbrev pub have_uuids : List Endpoint → Bool
have_uuids es = list_all (λ (e : Endpoint). is_uuid e.uuid) es
