-- SPDX-License-Identifier: MIT OR Apache-2.0
-- In which form a descriptor is written by the manifest of a machine.
use Rattle.std.specs.Prelude.{ℕ, ◌||◌, List, length, codes, slice_get, Option, None, if◌then◌else◌, bytes_eq}
use Rattle.std.specs.Option.{option_and_then, option_map, option_or}
use Rattle.ffa_model.specs.declared.endpoint.Endpoint.{Endpoint}
use Rattle.ffa_model.specs.declared.endpoint.EndpointId.{EndpointId}
use Rattle.ffa_model.specs.declared.endpoint.Version.{Version}
use Rattle.ffa_model.specs.declared.endpoint.Version.TheVariants.{Compact, V1_1, V1_2}
use Rattle.ffa_model.specs.Identifiers.{place}
use Rattle.ffa_model.specs.State.{is_known_among}
use Rattle.play_arguments.specs.Commands.{Described}
use Rattle.play_report.specs.Members.{asker_of, identifier_of}
use Rattle.play_report.specs.declared.members.Asker.{Asker}

-- a version, as `--form` takes it
abbrev pub version_text : Version → List ℕ
version_text Compact = codes "compact"
version_text V1_1 = codes "1.1"
version_text V1_2 = codes "1.2"

-- the version of an endpoint of a manifest, if the manifest has this endpoint
unfoldable pub manifest_version : List Endpoint → ℕ → Option Version
manifest_version endpoints e =
    if is_known_among (length endpoints) e
    then option_map (λ (endpoint : Endpoint). endpoint.version) (slice_get endpoints (place e))
    else None

-- who calls with a descriptor, where the words say it: its one receiver retrieves and relinquishes, and else its sender
-- calls; a reclaim has none
unfoldable pub caller_of : Described → Option EndpointId
caller_of words =
    if bytes_eq words.kind (codes "reclaim") then None
    else if bytes_eq words.kind (codes "retrieve") || bytes_eq words.kind (codes "relinquish")
    then option_map (λ (asker : Asker). asker.endpoint) (option_and_then asker_of words.to)
    else option_and_then identifier_of words.from

-- the form of the caller, if the words say who calls and the manifest has this endpoint
unfoldable pub usual_form : List Endpoint → Described → Option (List ℕ)
usual_form endpoints words =
    option_map version_text
    (option_and_then (λ (e : EndpointId). manifest_version endpoints e.0) (caller_of words))

-- the same words: if they give no form, they have the form of the caller by the manifest of these endpoints
unfoldable pub versioned : List Endpoint → Described → Described
versioned endpoints words = record words { form = option_or words.form (usual_form endpoints words) }
