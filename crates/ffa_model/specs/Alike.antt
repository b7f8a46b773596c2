-- SPDX-License-Identifier: MIT OR Apache-2.0
-- Pages that have one owner and one access of each endpoint.
use Rattle.std.specs.Prelude.{◌==◌, Bool, true, false, not, ◌&&◌, Option, Some, None}
use Rattle.std.specs.List.{list_all}
use Rattle.ffa_model.specs.declared.rights.Rights.{Rights}
use Rattle.ffa_model.specs.Numbers.{PageIndex}
use Rattle.ffa_model.specs.Rights.{may_write}
use Rattle.ffa_model.specs.State.{State, identifiers, owner_of}
use Rattle.ffa_model.specs.Access.{access}

abbrev pub is_same : Bool → Bool → Bool
is_same true test = test
is_same false test = not test

abbrev pub is_same_right : Option Rights → Option Rights → Bool
is_same_right None None = true
is_same_right None (Some b) = false
is_same_right (Some a) None = false
is_same_right (Some a) (Some b) = is_same (may_write a.level) (may_write b.level) && is_same a.exec b.exec

-- two pages that have the same owner, and to which each endpoint has the same access
unfoldable pub is_alike : State → PageIndex → PageIndex → Bool
is_alike s p q =
    owner_of s p == owner_of s q && list_all (λ e. is_same_right (access s e p) (access s e q)) (identifiers s)
