-- SPDX-License-Identifier: MIT OR Apache-2.0
use Rattle.std.proofs.Common.{ℕ, ◌≡◌, List, [], ◌∷◌, true, length, refl, nat_lt}
use Rattle.std.proofs.lemmas.Bool.{and_from, lt-ltb}
use Rattle.std.specs.List.{list_all}
use denote.Array.{each}
use denote.Plain.{UInt}
use denote.Shadow.{shadow}
use mir.Syntax.{w8}
use mir.Val.{Val}
use Rattle.ffa_model.proofs.endpoint.Endpoint.of.Goals as goal

-- each element of an array of bytes is below 256
are_bytes : (bytes : List ℕ) (values : List Val) → shadow (each ℕ (UInt w8).own_val bytes values) → list_all (λ b. nat_lt b 256) bytes ≡ true
are_bytes [] [] owned = refl
are_bytes [] (v ∷ values) owned = absurd owned
are_bytes (b ∷ bytes) [] owned = absurd owned
are_bytes (b ∷ bytes) (v ∷ values) owned = and_from _ _ (lt-ltb b 256 owned.0.1) (are_bytes bytes values owned.1)

pub returns-clause-uuid : goal.returns-clause-uuid
returns-clause-uuid c =
    let array = c.well_formed.1.0 in
    let size : length c.args.uuid ≡ 16 = array.1.0.1 in
    let bytes : list_all (λ b. nat_lt b 256) c.args.uuid ≡ true = are_bytes c.args.uuid array.0 array.1.1 in
    rw size bytes
