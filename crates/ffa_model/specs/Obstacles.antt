-- SPDX-License-Identifier: MIT OR Apache-2.0
-- What stands in the way at a page, and at an address.
use Rattle.std.specs.Prelude.{ℕ, ◌^◌, ◌==◌, nat_lt, length, Option, Some, None, if◌then◌else◌}
use Rattle.std.specs.Option.{option_map_or}
use Rattle.ffa_model.specs.declared.operation.FaultKind.{FaultKind}
use Rattle.ffa_model.specs.declared.operation.FaultKind.TheVariants.{Translation}
use Rattle.ffa_model.specs.declared.why.Obstacle.{Obstacle}
use Rattle.ffa_model.specs.declared.why.Obstacle.TheVariants.{OutsideRam, ManagersPage, OwnedBy, InTransaction}
use Rattle.ffa_model.specs.Numbers.{Identifier, PageIndex}
use Rattle.ffa_model.specs.Access.{handle_at}
use Rattle.ffa_model.specs.Identifiers.{manager}
use Rattle.ffa_model.specs.Memory.{page_of_address}
use Rattle.ffa_model.specs.State.{State, owner_of}

-- what stands in the way of a page with this owner: the open transaction in which it stands, else the owner
abbrev pub obstacle_by : Identifier → Option ℕ → Obstacle
obstacle_by owner (Some handle) = InTransaction handle
obstacle_by owner None = if owner == manager then ManagersPage else OwnedBy (record { 0 = owner })

abbrev pub obstacle_at : State → PageIndex → Obstacle
obstacle_at s p = if nat_lt p (length s.pages) then obstacle_by (owner_of s p) (handle_at s p) else OutsideRam

-- and in the way of e, which is nothing at a page of its own that stands in no open transaction
abbrev pub unless_own : Identifier → Obstacle → Option Obstacle
unless_own e (OwnedBy owner) = if owner.0 == e then None else Some (OwnedBy owner)
unless_own e obstacle = Some obstacle

-- and of an address, for a translation fault below 2 ^ 32
abbrev pub obstacle_of : State → ℕ → FaultKind → Option Obstacle
obstacle_of s address Translation =
    if nat_lt address (2 ^ 32)
    then Some (option_map_or (obstacle_at s) (page_of_address s address) OutsideRam)
    else None
obstacle_of s address kind = None
