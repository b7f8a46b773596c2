-- SPDX-License-Identifier: MIT OR Apache-2.0
-- What a UUID selects, endpoint by endpoint.
use Rattle.std.proofs.Common.{ℕ, List, map}
use Rattle.std.specs.List.{filter, enumerate_from}
use Rattle.ffa_model.specs.declared.endpoint.Endpoint.{Endpoint}
use Rattle.ffa_model.specs.First.{party_of}
use Rattle.ffa_model.specs.Setup.{is_selected}
use Rattle.ffa_model.specs.State.{Party}

-- the partitions that a UUID selects of endpoints whose first stands at place k
abbrev pub selected_from : ℕ → List Endpoint → List ℕ → List (ℕ × Party)
selected_from k es uuid = filter (is_selected uuid) (enumerate_from k (map party_of es))
