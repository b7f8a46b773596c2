-- SPDX-License-Identifier: MIT OR Apache-2.0
-- Calls of notifications change the state as the small machine's.
use Rattle.std.proofs.Common.{◌≡◌, ◌∙◌, ℕ, Bool, true, false, List, [], ◌∷◌, length, Result, refl, sym, ap, subst}
use Rattle.std.specs.Prelude.{⊤, ◌||◌, is_none, IfOk, OnOk, OnErr, slice_index}
use Rattle.std.specs.List.{list_any}
use Rattle.std.proofs.lemmas.Bool.{false_from_ne_true, true≢false}
use Rattle.ffa_model.specs.Lists.{listed}
use Rattle.ffa_model.specs.SoundState.{IsSoundState}
use Rattle.std.specs.Result.{result_err}
use Rattle.ffa_model.specs.declared.refusal.Refusal.{Refusal}
use Rattle.ffa_model.specs.declared.call.Call as calls
use Rattle.ffa_model.specs.declared.call.Reply.{Reply}
use Rattle.ffa_model.specs.declared.operation.ErrorCode.{ErrorCode}
use Rattle.ffa_model.specs.declared.call.NotificationBits.{NotificationBits}
use Rattle.ffa_model.specs.Bits.{bits_of}
use Rattle.ffa_model.specs.Calls.{Service, Stepped, first_failure, first_refusal, replied, served, success}
use Rattle.ffa_model.specs.First.{first}
use Rattle.ffa_model.specs.Notices.{endpoints_to_tell, has_notices, notice_guards, notice_reply, notification_info_get, without_notices}
use Rattle.ffa_model.specs.Notifications.{Notifications, bind_guards, bitmap_create, bitmap_destroy, class_of, create_guards, destroy_guards, get_guards, get_reply, has_pending, is_pending, manager_class, normal_class, notification_bind, notification_get, notification_set, notification_unbind, notifications_of, partition_class, receiver_bit, set_guards, unbind_guards, with_bitmaps, with_bound, with_notifications, with_set, without_bitmaps, without_bound, without_pending}
use Rattle.ffa_model.specs.State.{State, is_known_among}
use Rattle.ffa_model.specs.Step.{serve}
use Rattle.ffa_spmc.specs.Meaning.{IsManager, Parts, state_of}
use Rattle.ffa_spmc.specs.Replies.{done_or_error, reply_of, reply_or_error}
use Rattle.ffa_spmc.proofs.Answered.{answered-by, done-replies, done-so, refused-so}
use Rattle.ffa_spmc.proofs.Fills.{runner-there}
use Rattle.ffa_spmc.proofs.Machines.{machine-served}

module _ (x : Parts) where
  abbrev s : State
  s = state_of x

  -- the state with other notifications
  abbrev pub with_bits : Notifications → State
  with_bits n = state_of (record x { kept = record x.kept { bitmaps = n } })

  with_bits-is : (n : Notifications) → with_bits n ≡ with_notifications s n
  unfolding first
  with_bits-is n = refl

  -- a call that either keeps the notifications or leaves these
  notified : {X : Type 0} (c : Service) (changed new : Notifications) (r : Result X ErrorCode) (told : X → Reply) → c.state ≡ with_notifications s changed
      → result_err r ≡ first_failure c.guards → OnErr r (new ≡ x.kept.bitmaps) → OnOk r (new ≡ changed) → IfOk r (λ y. told y ≡ c.reply)
      → replied (with_bits new) (reply_of told r) ≡ served s c
  notified c changed new r told leaves refusal same done replies =
      answered-by s (with_bits new) c r told refusal
      (refused-so r (λ is. ap with_bits is) same)
      (done-so r (λ none is. ap with_bits is ∙ with_bits-is changed ∙ sym leaves) done)
      replies

  module _ (machine : IsManager x) where
    -- a machine is one after it
    pub machine-notified : (new : Notifications) (reply : Reply) (call : calls.Call) → replied (with_bits new) reply ≡ serve s call → IsManager (record x { kept = record x.kept { bitmaps = new } })
    machine-notified new reply call is =
        machine-served x x.ram x.kept.buffers x.kept.chain new machine machine.tables call (ap (λ (st : Stepped). st.state) is)

    -- there is a place for each endpoint's bitmaps
    pub each-bitmap : length x.kept.bitmaps.bitmaps ≡ length s.parties
    each-bitmap = machine.sound.sized.bitmaps

    -- the check of notices is the definition's
    pub notices-checked : is_none (first_refusal (notice_guards x.manifest.ffa (length x.kept.bitmaps.bitmaps) x.kept.bitmaps 0)) ≡ has_notices s
    unfolding first
    notices-checked = λ i. is_none (first_refusal (notice_guards x.manifest.ffa (each-bitmap i) x.kept.bitmaps 0))

    pub known-notified : (f : ℕ) → is_known_among (length s.parties) f ≡ true → is_known_among (length x.kept.bitmaps.bitmaps) f ≡ true
    known-notified f known = subst (λ (n : ℕ). is_known_among n f ≡ true) (sym each-bitmap) known

    -- the code's runner is that of the run states
    module _ (e : ℕ) (at : e ≡ x.kept.chain.runner) where
      pub runner-notified : is_known_among (length x.kept.bitmaps.bitmaps) e ≡ true
      runner-notified = known-notified e (runner-there x machine e at)

      pub got : (r : Result Reply ErrorCode) (new : Notifications) (receiver context flags : ℕ) → result_err r ≡ first_failure (get_guards x.manifest.ffa x.kept.bitmaps e receiver context flags)
          → IfOk r (λ reply. reply ≡ get_reply x.kept.bitmaps e flags) → OnErr r (new ≡ x.kept.bitmaps) → OnOk r (new ≡ without_pending x.kept.bitmaps e flags)
          → replied (with_bits new) (reply_or_error r) ≡ served s (notification_get s receiver context flags)
      unfolding first
      got r new receiver context flags refusal replies same cleared =
          notified (notification_get s receiver context flags) (without_pending x.kept.bitmaps x.kept.chain.runner flags) new r (λ reply. reply) refl
          (refusal ∙ ap (λ (f : ℕ). first_failure (get_guards x.manifest.ffa x.kept.bitmaps f receiver context flags)) at)
          same
          (done-so r (λ none is. is ∙ ap (λ (f : ℕ). without_pending x.kept.bitmaps f flags) at) cleared)
          (subst (λ (f : ℕ). IfOk r (λ reply. reply ≡ get_reply x.kept.bitmaps f flags)) at replies)

      pub informed : (r : Result Reply ErrorCode) (new : Notifications) (is_wide : Bool) → result_err r ≡ first_failure (notice_guards x.manifest.ffa (length x.kept.bitmaps.bitmaps) x.kept.bitmaps e)
          → IfOk r (λ reply. reply ≡ notice_reply is_wide (endpoints_to_tell (length x.kept.bitmaps.bitmaps) x.kept.bitmaps)) → OnErr r (new ≡ x.kept.bitmaps) → OnOk r (new ≡ without_notices x.kept.bitmaps)
          → replied (with_bits new) (reply_or_error r) ≡ served s (notification_info_get s is_wide)
      unfolding first
      informed r new is_wide refusal replies same told =
          notified (notification_info_get s is_wide) (without_notices x.kept.bitmaps) new r (λ reply. reply) refl
          (refusal ∙ (λ i. first_failure (notice_guards x.manifest.ffa (each-bitmap i) x.kept.bitmaps (at i))))
          same told
          (subst (λ (n : ℕ). IfOk r (λ reply. reply ≡ notice_reply is_wide (endpoints_to_tell n x.kept.bitmaps))) each-bitmap replies)

      module _ (r : Result ⊤ ErrorCode) (new : Notifications) where
        pub created : (endpoint contexts : ℕ) → result_err r ≡ first_failure (create_guards x.manifest.ffa x.kept.bitmaps e endpoint contexts)
            → OnErr r (new ≡ x.kept.bitmaps) → OnOk r (new ≡ with_bitmaps x.kept.bitmaps 0) → replied (with_bits new) (done_or_error r) ≡ served s (bitmap_create s endpoint contexts)
        unfolding first
        created endpoint contexts refusal same done =
            notified (bitmap_create s endpoint contexts) (with_bitmaps x.kept.bitmaps 0) new r (λ done. success 0 0) refl
            (refusal ∙ ap (λ (f : ℕ). first_failure (create_guards x.manifest.ffa x.kept.bitmaps f endpoint contexts)) at) same done (done-replies r)

        pub destroyed : (endpoint : ℕ) → result_err r ≡ first_failure (destroy_guards x.kept.bitmaps e endpoint)
            → OnErr r (new ≡ x.kept.bitmaps) → OnOk r (new ≡ without_bitmaps x.kept.bitmaps 0) → replied (with_bits new) (done_or_error r) ≡ served s (bitmap_destroy s endpoint)
        destroyed endpoint refusal same done =
            notified (bitmap_destroy s endpoint) (without_bitmaps x.kept.bitmaps 0) new r (λ done. success 0 0) refl
            (refusal ∙ ap (λ (f : ℕ). first_failure (destroy_guards x.kept.bitmaps f endpoint)) at) same done (done-replies r)

        -- a call with a bitmap, by its guards and what it leaves
        marked : (service : Service) (guards : ℕ → ℕ → List (Bool × Refusal)) (change : ℕ → Notifications)
            → service.guards ≡ guards (length s.parties) x.kept.chain.runner → service.state ≡ with_notifications s (change x.kept.chain.runner) → service.reply ≡ success 0 0
            → result_err r ≡ first_failure (guards (length x.kept.bitmaps.bitmaps) e) → OnErr r (new ≡ x.kept.bitmaps) → OnOk r (new ≡ change e)
            → replied (with_bits new) (done_or_error r) ≡ served s service
        marked service guards change checks leaves replies refusal same done =
            notified service (change x.kept.chain.runner) new r (λ done. success 0 0) leaves
            (refusal ∙ (λ i. first_failure (guards (each-bitmap i) (at i))) ∙ ap first_failure (sym checks))
            same
            (done-so r (λ none is. is ∙ (λ i. change (at i))) done)
            (subst (λ (reply : Reply). IfOk r (λ done. success 0 0 ≡ reply)) (sym replies) (done-replies r))

        module _ (its : NotificationBits) (same : OnErr r (new ≡ x.kept.bitmaps)) where
          pub bound : result_err r ≡ first_failure (bind_guards (length x.kept.bitmaps.bitmaps) x.kept.bitmaps e its)
              → OnOk r (new ≡ with_bound x.kept.bitmaps e its.sender.0 (bits_of its.bitmap)) → replied (with_bits new) (done_or_error r) ≡ served s (notification_bind s its)
          bound refusal done =
              marked (notification_bind s its) (λ n f. bind_guards n x.kept.bitmaps f its) (λ f. with_bound x.kept.bitmaps f its.sender.0 (bits_of its.bitmap))
              refl refl refl refusal same done

          pub unbound : result_err r ≡ first_failure (unbind_guards (length x.kept.bitmaps.bitmaps) x.kept.bitmaps e its)
              → OnOk r (new ≡ without_bound x.kept.bitmaps e its.sender.0 (bits_of its.bitmap)) → replied (with_bits new) (done_or_error r) ≡ served s (notification_unbind s its)
          unbound refusal done =
              marked (notification_unbind s its) (λ n f. unbind_guards n x.kept.bitmaps f its) (λ f. without_bound x.kept.bitmaps f its.sender.0 (bits_of its.bitmap))
              refl refl refl refusal same done

          pub set : result_err r ≡ first_failure (set_guards (length x.kept.bitmaps.bitmaps) x.kept.bitmaps e its)
              → OnOk r (new ≡ with_set x.kept.bitmaps its.receiver.0 (class_of e) (bits_of its.bitmap)) → replied (with_bits new) (done_or_error r) ≡ served s (notification_set s its)
          set refusal done =
              marked (notification_set s its) (λ n f. set_guards n x.kept.bitmaps f its) (λ f. with_set x.kept.bitmaps its.receiver.0 (class_of f) (bits_of its.bitmap))
              refl refl refl refusal same done

-- nothing that fails of each element holds of any
none-any : {X : Type 0} (test : X → Bool) (xs : List X) → ((x : X) → test x ≡ false) → list_any test xs ≡ false
none-any test [] none = refl
none-any test (x ∷ xs) none = ap (λ (b : Bool). b || list_any test xs) (none x) ∙ none-any test xs none

-- no bit is pending of an endpoint that isn't there
pub none-pending : (s : State) → IsSoundState s → (e : ℕ) → is_known_among (length s.parties) e ≡ false → has_pending (notifications_of s) e ≡ false
none-pending s sound e unknown =
    none-any (λ class. list_any (is_pending (notifications_of s) e class) (listed 64 (λ k. k))) (partition_class ∷ normal_class ∷ manager_class ∷ [])
    (λ class. none-any (is_pending (notifications_of s) e class) (listed 64 (λ k. k)) (λ bit. false_from_ne_true (is_pending (notifications_of s) e class bit) (λ is.
    let its = sound.pending (receiver_bit e class bit) is in
    let same : e ≡ its.receiver = ap (λ (entry : List ℕ). slice_index entry 0) its.is in
    true≢false (sym its.to_known ∙ ap (is_known_among (length s.parties)) (sym same) ∙ unknown))))
