-- SPDX-License-Identifier: MIT OR Apache-2.0
-- Rights within others.
use Rattle.std.proofs.Common.{◌≡◌, Bool, true, false, Option, Some, None, refl, ◌||◌, not}
use Rattle.std.proofs.lemmas.Bool.{and_from, and_parts, false≢true}
use Rattle.ffa_model.specs.declared.rights.Data.{Data}
use Rattle.ffa_model.specs.declared.rights.Data.TheVariants.{Ro, Rw}
use Rattle.ffa_model.specs.declared.rights.Rights.{Rights}
use Rattle.ffa_model.specs.Rights.{is_data_at_most, is_within}

level-same : (d : Data) → is_data_at_most d d ≡ true
level-same Ro = refl
level-same Rw = refl

level-through : (a b c : Data) → is_data_at_most a b ≡ true → is_data_at_most b c ≡ true → is_data_at_most a c ≡ true
level-through Ro b c ab bc = refl
level-through Rw Ro c ab bc = absurd (false≢true ab)
level-through Rw Rw c ab bc = bc

execution-same : (b : Bool) → (not b || b) ≡ true
execution-same true = refl
execution-same false = refl

execution-through : (a b c : Bool) → (not a || b) ≡ true → (not b || c) ≡ true → (not a || c) ≡ true
execution-through false b c ab bc = refl
execution-through true true c ab bc = bc
execution-through true false c ab bc = absurd (false≢true ab)

pub within-same : (r : Option Rights) → is_within r r ≡ true
within-same None = refl
within-same (Some r) = and_from (is_data_at_most r.level r.level) (not r.exec || r.exec) (level-same r.level) (execution-same r.exec)

pub within-through : (a b c : Option Rights) → is_within a b ≡ true → is_within b c ≡ true → is_within a c ≡ true
within-through None b c ab bc = refl
within-through (Some a) None c ab bc = absurd (false≢true ab)
within-through (Some a) (Some b) None ab bc = absurd (false≢true bc)
within-through (Some a) (Some b) (Some c) ab bc =
    let (level_ab, exec_ab) = and_parts _ _ ab in
    let (level_bc, exec_bc) = and_parts _ _ bc in
    and_from _ _ (level-through a.level b.level c.level level_ab level_bc) (execution-through a.exec b.exec c.exec exec_ab exec_bc)
