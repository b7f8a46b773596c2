-- SPDX-License-Identifier: MIT OR Apache-2.0
-- What an operation changes of access, and what a machine tells of that.
use Rattle.std.specs.Prelude.{◌≡◌, ◌⊎◌, ℕ, ◌==◌, Bool, true, false, ◌&&◌, length, Option, Some, None, IfSome}
use Rattle.std.specs.Option.{option_map_or, option_or}
use Rattle.ffa_model.specs.declared.operation.Op.{Op}
use Rattle.ffa_model.specs.declared.endpoint.EndpointId.{EndpointId}
use Rattle.ffa_model.specs.Access.{access, names}
use Rattle.ffa_model.specs.State.{State}
use Rattle.ffa_laws.specs.OwnAccess.{is_call, is_memory_call}
use Rattle.ffa_memshare.specs.declared.changed.Changed.{Changed}
use Rattle.ffa_memshare.specs.Ranges.{ArePlaced}

-- whether an endpoint is e
abbrev pub is_whose : Option EndpointId → ℕ → Bool
is_whose whose e = option_map_or (λ (f : EndpointId). f.0 == e) whose false

-- whether what changed is the access of e to page p
abbrev pub is_of : State → Option Changed → ℕ → ℕ → Bool
is_of s None e p = false
is_of s (Some changed) e p = names s changed.ranges p && is_whose changed.endpoint e

-- what a call says that it has changed is so
pub record IsAccessChange (old new : State) (changed : Option Changed) : Type 0 where
  -- the ranges are whole pages of RAM
  pub placed : IfSome changed (λ c. ArePlaced old.ram_base (length old.pages) c.ranges)
  -- a right is given where there was none, or taken away
  pub exclusive : (e p : ℕ) → is_of old changed e p ≡ true → (access old e p ≡ None) ⊎ (access new e p ≡ None)
  -- every other access is as before
  pub rest : (e p : ℕ) → is_of old changed e p ≡ false → access new e p ≡ access old e p

-- A machine tells what an operation has changed: it tells a change from then on, which is so; or it tells what it told before,
-- and no access has changed. Calls on memory alone tell anything.
pub record IsTelling (op : Op) (old new : State) (before now : Option Changed) : Type 0 where
  pub changed : Option Changed
  pub access : IsAccessChange old new changed
  pub told : now ≡ option_or changed before
  pub silent : is_call is_memory_call op ≡ false → changed ≡ None
