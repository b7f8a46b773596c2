-- SPDX-License-Identifier: MIT OR Apache-2.0
-- FOR PROOFS ALONE
-- What each call's part of the manager promises.
use Rattle.std.specs.Prelude.{◌≡◌, ⊤, Bool, true, false, List, Option, None, Result}
use Rattle.std.specs.Option.{option_or}
use Rattle.ffa_model.specs.declared.call.Reply.{Reply}
use Rattle.ffa_model.specs.Calls.{Service, replied, served}
use Rattle.ffa_model.specs.Refusals.{is_error}
use Rattle.ffa_physmem.specs.Work.{AddsAtMost, Work}
use Rattle.ffa_tlb.specs.declared.translations.Entry.{Entry}
use Rattle.ffa_model.specs.declared.operation.ErrorCode.{ErrorCode}
use Rattle.ffa_memshare.specs.declared.changed.Changed.{Changed}
use Rattle.ffa_memshare.specs.declared.changed.Value.{Value}
use Rattle.ffa_spmc.specs.AccessChange.{IsAccessChange}
use Rattle.ffa_spmc.specs.Caching.{IsForgotten}
use Rattle.ffa_spmc.specs.Managed.{Managed}
use Rattle.ffa_spmc.specs.Moments.{AreMoments}
use Rattle.ffa_spmc.specs.Replies.{change_told, value_or_error}
use Rattle.ffa_spmc.specs.Unowned.{KeepsUnowned}

-- a call of the runner is replied to as the small machine does, with at most so much work
pub record IsReplied (old new : Managed) (c : Service) (most : Work) (reply : Reply) : Type 0 where
  pub served : replied new.state reply ≡ served old.state c
  -- a refusal changes nothing
  pub refused : is_error reply ≡ true → new ≡ old
  pub unowned : KeepsUnowned old.state old.ram new.ram
  pub moments : AreMoments old.state old.ram new.ram old.past new.past
  pub few : AddsAtMost old.past new.past most

-- and what the news after a call on memory tell that it changes of access is so
pub record IsTold (old new : Managed) (c : Service) (most : Work) (done : Result Value ErrorCode) (news : Option Changed) : Type 0 where
  pub replied : IsReplied old new c most (value_or_error done)
  pub access : IsAccessChange old.state new.state (change_told done news)
  pub unchanged : is_error (value_or_error done) ≡ true → change_told done news ≡ None

-- a call that isn't on memory tells nothing more
abbrev pub IsSilent : Bool → Option Changed → Type 0
IsSilent true changed = ⊤
IsSilent false changed = changed ≡ None

-- a call of the runner is replied to, a cache that held one list of entries holds another that forgets what changed, and that is
-- told, or else what was told before, as always where the call isn't on memory
pub record IsAnswered (old new : Managed) (held kept : List Entry) (before now : Option Changed) (on_memory : Bool) (c : Service) (most : Work) (reply : Reply) : Type 0 where
  pub changed : Option Changed
  pub replied : IsReplied old new c most reply
  pub forgotten : IsForgotten old.state new.state held kept changed
  pub told : now ≡ option_or changed before
  pub silent : IsSilent on_memory changed
  pub unchanged : is_error reply ≡ true → kept ≡ held
  pub untold : is_error reply ≡ true → now ≡ before
