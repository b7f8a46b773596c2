-- SPDX-License-Identifier: MIT OR Apache-2.0
-- What a machine that C holds is after an operation, by its parts.
use Rattle.std.proofs.Common.{◌≡◌, ◌∙◌, Some, ap}
use Rattle.ffa_c.specs.Boarded.{Boarded, boarded_by, cluster_of}

-- whose the RAM is stays
pub kept-kind : (old new : Boarded) → new.is_lent ≡ old.is_lent → Some new ≡ Some (boarded_by (cluster_of new) old.is_lent)
kept-kind old new kind = ap (λ k. Some (boarded_by (cluster_of new) k)) kind
