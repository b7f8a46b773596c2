-- SPDX-License-Identifier: MIT OR Apache-2.0
-- Calls on run states change the state as the small machine's.
use Rattle.std.proofs.Common.{◌≡◌, ◌∙◌, ℕ, true, false, List, Option, Result, Ok, Err, is_ok, refl, sym, ap}
use Rattle.std.proofs.lemmas.Bool.{false≢true}
use Rattle.std.specs.Prelude.{IfOk, OnOk, OnErr}
use Rattle.std.specs.Result.{result_err}
use Rattle.ffa_model.specs.declared.call.DirectMessage.{DirectMessage}
use Rattle.ffa_model.specs.declared.call.Reply.{Reply}
use Rattle.ffa_model.specs.declared.call.Reply.TheVariants.{Passed}
use Rattle.ffa_model.specs.declared.operation.ErrorCode.{ErrorCode}
use Rattle.ffa_model.specs.declared.schedule.Status.{Status}
use Rattle.ffa_model.specs.declared.schedule.Status.TheVariants.{Waiting, Running, Blocked, Yielded, Preempted, RunsElsewhere}
use Rattle.ffa_model.specs.Calls.{Service, first_failure, replied, served}
use Rattle.ffa_model.specs.First.{first}
use Rattle.ffa_model.specs.RunStates.{Schedule, finished, keeps_rx, msg_wait, waited as waits, run_reply, wait_guards, with_schedule}
use Rattle.ffa_model.specs.Buffers.{buffers_with_rx}
use Rattle.ffa_model.specs.Refusals.{is_error}
use Rattle.ffa_model.specs.State.{State, Buffers, version_of}
use Rattle.ffa_spmc.specs.Meaning.{Parts, state_of}
use Rattle.ffa_spmc.specs.Replies.{message_or_error, reply_of, reply_or_error}
use Rattle.ffa_spmc.proofs.Answered.{always-replies, answered-by, done-so, passed-state, refused-so}

module _ (x : Parts) where
  abbrev s : State
  s = state_of x

  -- the state with other run states
  abbrev pub with_chain : Schedule → State
  with_chain c = state_of (record x { kept = record x.kept { chain = c } })

  pub with_chain-is : (c : Schedule) → with_chain c ≡ with_schedule s c
  unfolding first
  with_chain-is c = refl

  -- a call that either keeps the run states or leaves these, where `told` is the reply to what is done
  pub scheduled-by : {X : Type 0} (told : X → Reply) (c : Service) (changed new : Schedule) (r : Result X ErrorCode) → c.state ≡ with_schedule s changed
      → result_err r ≡ first_failure c.guards → OnErr r (new ≡ x.kept.chain) → OnOk r (new ≡ changed) → IfOk r (λ done. told done ≡ c.reply)
      → replied (with_chain new) (reply_of told r) ≡ served s c
  scheduled-by told c changed new r leaves refusal same done replies =
      answered-by s (with_chain new) c r told refusal
      (refused-so r (λ is. ap with_chain is) same)
      (done-so r (λ none is. ap with_chain is ∙ with_chain-is changed ∙ sym leaves) done)
      replies

  pub scheduled : (c : Service) (changed new : Schedule) (r : Result Reply ErrorCode) → c.state ≡ with_schedule s changed
      → result_err r ≡ first_failure c.guards → OnErr r (new ≡ x.kept.chain) → OnOk r (new ≡ changed) → IfOk r (λ reply. reply ≡ c.reply)
      → replied (with_chain new) (reply_or_error r) ≡ served s c
  scheduled = scheduled-by (λ reply. reply)

  -- of a direct message, which is the reply where it is passed on
  pub scheduled-message : {X : Type 0} (message : DirectMessage) (c : Service) (changed new : Schedule) (r : Result X ErrorCode) → c.reply ≡ Passed message
      → c.state ≡ with_schedule s changed → result_err r ≡ first_failure c.guards → OnErr r (new ≡ x.kept.chain) → OnOk r (new ≡ changed)
      → replied (with_chain new) (message_or_error message r) ≡ served s c
  scheduled-message message c changed new r passes leaves refusal same done =
      scheduled-by (λ its. Passed message) c changed new r leaves refusal same done (always-replies r (sym passes))

  -- FFA_MSG_WAIT that is done also leaves another RX
  pub waited : (e : ℕ) → e ≡ x.kept.chain.runner → (r : Result Reply ErrorCode) (new : Schedule) (list : List (Option Buffers)) → is_ok r ≡ true
      → result_err r ≡ first_failure (wait_guards x.kept.chain) → OnOk r (new ≡ finished x.kept.chain 0) → list ≡ buffers_with_rx x.kept.buffers e false
      → (flags : ℕ) → keeps_rx (version_of s s.runner) flags ≡ false
      → state_of (record x { kept = record x.kept { buffers = list; chain = new } }) ≡ (served s (msg_wait s flags)).state
  unfolding first
  waited e at (Ok reply) new list ok passes is emptied flags leaves =
      (λ i. state_of (record x { kept = record x.kept { buffers = (emptied ∙ ap (λ (f : ℕ). buffers_with_rx x.kept.buffers f false) at) i; chain = is i } }))
      ∙ sym (passed-state s (msg_wait s flags) (sym passes) ∙ ap (waits s) leaves)
  waited e at (Err code) new list ok fails is emptied flags leaves = absurd (false≢true ok)

  -- or leaves RX as it is
  pub waits-keeping : (flags : ℕ) → keeps_rx (version_of s s.runner) flags ≡ true → (msg_wait s flags).state ≡ with_schedule s (finished x.kept.chain 0)
  unfolding first
  waits-keeping flags keeps = ap (waits s) keeps

-- what FFA_RUN replies is no error
pub run-plain : (target : ℕ) (status : Status) → is_error (run_reply target status) ≡ false
run-plain target Waiting = refl
run-plain target Yielded = refl
run-plain target Running = refl
run-plain target Blocked = refl
run-plain target Preempted = refl
run-plain target RunsElsewhere = refl
