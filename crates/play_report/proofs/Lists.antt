-- SPDX-License-Identifier: MIT OR Apache-2.0
-- Lists that are read member by member.
use Rattle.std.proofs.Common.{List, ◌++◌, Option, option_map}

-- what is read of the parts that are left stands behind what was read
abbrev pub behind : {A : Type 0} → List A → Option (List A) → Option (List A)
behind read rest = option_map (λ more. read ++ more) rest
