-- SPDX-License-Identifier: MIT OR Apache-2.0
-- What the machine answers to a call that a part of it has done or refused.
use Rattle.std.proofs.Common.{◌≡◌, ◌∙◌, None, Option, Some, Result, Ok, Err, refl, sym, ap}
use Rattle.std.specs.Prelude.{IfOk, OnOk, OnErr}
use Rattle.std.specs.Option.{option_map}
use Rattle.std.specs.Result.{result_err}
use Rattle.ffa_model.specs.declared.call.Reply.{Reply}
use Rattle.ffa_model.specs.declared.call.Reply.TheVariants.{Error}
use Rattle.ffa_model.specs.declared.operation.ErrorCode.{ErrorCode}
use Rattle.ffa_model.specs.declared.refusal.Refusal.{Refusal}
use Rattle.ffa_model.specs.Calls.{Service, answered, first_failure, first_refusal, replied, served, success}
use Rattle.ffa_model.specs.RefusalCodes.{code_of}
use Rattle.ffa_model.specs.State.{State}
use Rattle.ffa_model.proofs.Guards.{failure-code}
use Rattle.ffa_memshare.specs.declared.changed.Value.{Value}
use Rattle.ffa_memshare.specs.declared.changed.Value.TheVariants.{Nothing}
use Rattle.ffa_spmc.specs.Replies.{reply_of, value_reply}

-- facts of a refusal, or of what was done, joined
pub refused-both : {X : Type 0} (r : Result X ErrorCode) {P Q R : Type 0} → (P → Q → R) → OnErr r P → OnErr r Q → OnErr r R
refused-both (Ok x) join p q = tt
refused-both (Err code) join p q = join p q

pub refused-so : {X : Type 0} (r : Result X ErrorCode) {P Q : Type 0} → (P → Q) → OnErr r P → OnErr r Q
refused-so (Ok x) so p = tt
refused-so (Err code) so p = so p

-- where nothing was refused, what follows of it
pub done-so : {X : Type 0} (r : Result X ErrorCode) {P Q : Type 0} → (result_err r ≡ None → P → Q) → OnOk r P → OnOk r Q
done-so (Ok x) so p = so refl p
done-so (Err code) so p = tt

-- of what was done
pub done-with : {X : Type 0} (r : Result X ErrorCode) (P : X → Type 0) {Q : Type 0} → ((x : X) → result_err r ≡ None → P x → Q) → IfOk r P → OnOk r Q
done-with (Ok x) P so p = so x refl p
done-with (Err code) P so p = tt

pub always-replies : {X : Type 0} (r : Result X ErrorCode) {reply told : Reply} → reply ≡ told → IfOk r (λ done. reply ≡ told)
always-replies (Ok done) is = is
always-replies (Err code) is = tt

pub done-replies : {X : Type 0} (r : Result X ErrorCode) → IfOk r (λ done. success 0 0 ≡ success 0 0)
done-replies (Ok done) = refl
done-replies (Err code) = tt

pub nothing-replies : (r : Result Value ErrorCode) → IfOk r (λ value. value ≡ Nothing) → IfOk r (λ value. value_reply value ≡ success 0 0)
nothing-replies (Ok done) is = ap value_reply is
nothing-replies (Err code) is = tt

-- A call whose guards refuse it just where r does, and which leaves the state and the reply that r gives, is served.
module _ {X : Type 0} (s new : State) (c : Service) (r : Result X ErrorCode) (told : X → Reply) where
  pub answered-by : result_err r ≡ first_failure c.guards → OnErr r (new ≡ s) → OnOk r (new ≡ c.state) → IfOk r (λ x. told x ≡ c.reply)
      → replied new (reply_of told r) ≡ served s c
  answered-by refusal same done replies = of r refusal same done replies
    where
      of : (r : Result X ErrorCode) → result_err r ≡ first_failure c.guards → OnErr r (new ≡ s) → OnOk r (new ≡ c.state) → IfOk r (λ x. told x ≡ c.reply)
          → replied new (reply_of told r) ≡ served s c
      of (Ok x) passes same is replies = (λ i. replied (is i) (replies i)) ∙ ap (λ o. answered o s c.state c.reply) passes
      of (Err code) fails is done replies = ap (λ (t : State). replied t (Error code)) is ∙ ap (λ o. answered o s c.state c.reply) fails

-- a call that nothing refuses leaves its state
pub passed-state : (s : State) (c : Service) → first_failure c.guards ≡ None → (served s c).state ≡ c.state
passed-state s c none = ap (λ o. (answered o s c.state c.reply).state) none

-- a call that a check refuses by name
pub refused-served : (s : State) (c : Service) (refusal : Refusal) → Some refusal ≡ first_refusal c.guards → replied s (Error (code_of refusal)) ≡ served s c
refused-served s c refusal fails =
    ap (λ (o : Option Refusal). answered (option_map code_of o) s c.state c.reply) fails ∙ ap (λ o. answered o s c.state c.reply) (sym (failure-code c.guards))
