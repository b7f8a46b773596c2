-- SPDX-License-Identifier: MIT OR Apache-2.0
-- An explanation has the reason, and the detail of this reason.
use Rattle.std.proofs.Common.{◌≡◌, ℕ, Option, Some, None, is_some, refl}
use Rattle.std.specs.Prelude.{IfSome}
use Rattle.std.specs.Option.{option_map}
use Rattle.ffa_model.specs.declared.operation.Op.{Op}
use Rattle.ffa_model.specs.declared.operation.Op.TheVariants.{Call, Load, Store, Fetch}
use Rattle.ffa_model.specs.declared.why.Why.{Why}
use Rattle.ffa_model.specs.Calls.{first_refusal}
use Rattle.ffa_model.specs.Memory.{fetch_fault, read_fault, size_of, store_fault}
use Rattle.ffa_model.specs.Registers.{decode}
use Rattle.ffa_model.specs.State.{State}
use Rattle.ffa_model.specs.Step.{service}
use Rattle.ffa_model.specs.Why.{why}
use Rattle.ffa_playable.specs.declared.detail.Detail.{Detail}
use Rattle.ffa_playable.specs.declared.detail.Explanation.{Explanation}
use Rattle.ffa_playable.specs.Standing.{detail}
use Rattle.ffa_reasons.specs.Explanation.{explanation}

reasons : {X : Type 0} (f : X → Explanation) (o : Option X) → option_map (λ (its : Explanation). its.why) (option_map f o) ≡ option_map (λ x. (f x).why) o
reasons f None = refl
reasons f (Some x) = refl

details : {X : Type 0} (f : X → Explanation) (d : Why → Option Detail) → ((x : X) → (f x).detail ≡ d (f x).why) → (o : Option X) → IfSome (option_map f o) (λ (its : Explanation). its.detail ≡ d its.why)
details f d same None = tt
details f d same (Some x) = same x

-- the check that fails is the one of which is told
pub firsts : {X Y : Type 0} (f : X → Y) (o : Option X) → option_map (λ (its : X × Y). its.0) (option_map (λ x. (x, f x)) o) ≡ o
firsts f None = refl
firsts f (Some x) = refl

pub some-reason : (o : Option Explanation) → is_some o ≡ is_some (option_map (λ (its : Explanation). its.why) o)
some-reason None = refl
some-reason (Some its) = refl

pub of-reason : (Holds : Why → Type 0) (o : Option Explanation) → IfSome (option_map (λ (its : Explanation). its.why) o) Holds → IfSome o (λ (its : Explanation). Holds its.why)
of-reason Holds None is = is
of-reason Holds (Some its) is = is

module _ (s : State) where
  pub reason-explained : (op : Op) → option_map (λ (its : Explanation). its.why) (explanation s op) ≡ why s op
  reason-explained (Call x) = reasons _ (first_refusal (service s (decode x)).guards)
  reason-explained (Load address size) = reasons _ (read_fault s address (size_of size))
  reason-explained (Store address size value) = reasons _ (store_fault s address (size_of size))
  reason-explained (Fetch address) = reasons _ (fetch_fault s address)

  pub detail-explained : (op : Op) → IfSome (explanation s op) (λ (its : Explanation). its.detail ≡ detail s op its.why)
  detail-explained (Call x) = details _ (detail s (Call x)) (λ r. refl) (first_refusal (service s (decode x)).guards)
  detail-explained (Load address size) = details _ (detail s (Load address size)) (λ kind. refl) (read_fault s address (size_of size))
  detail-explained (Store address size value) = details _ (detail s (Store address size value)) (λ kind. refl) (store_fault s address (size_of size))
  detail-explained (Fetch address) = details _ (detail s (Fetch address)) (λ kind. refl) (fetch_fault s address)
