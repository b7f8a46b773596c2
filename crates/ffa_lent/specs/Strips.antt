-- SPDX-License-Identifier: MIT OR Apache-2.0
-- FOR PROOFS ALONE
-- What a strip owns.
use Rattle.std.specs.Prelude.{List, [], ◌∷◌}
use base.Fml.{Fml, ftrue, fsep}
use denote.RattleType.{RattleType}
use denote.RawPtr.{Ptr}
use Rattle.std.specs.Ptr.{points_to, ptr_add}

-- the memory of each of these values, the first at the pointer and each behind the one before it
abbrev pub strip_owns : (R : RattleType) → Ptr → List R.Denot → Fml
strip_owns R p [] = ftrue
strip_owns R p (x ∷ xs) = fsep (points_to R p x) (strip_owns R (ptr_add R 1 p) xs)
