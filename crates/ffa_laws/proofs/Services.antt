-- SPDX-License-Identifier: MIT OR Apache-2.0
-- What holds of each call: five lists, in each of which a new call has an entry, and one of those that change run states.
use Rattle.std.proofs.Common.{◌≡◌, ◌≢◌, ℕ, true, false, [], Some, None, refl, sym, subst, cond, length}
use Rattle.ffa_model.specs.declared.call.Call as calls
use Rattle.ffa_model.specs.declared.call.Call.TheVariants.{Version, Features, RxRelease, RxtxMap, RxtxUnmap, PartitionInfoGet, IdGet, MsgWait, Yield, Run, DirectRequest, DirectResponse, MemDonate, MemLend, MemShare, MemRetrieve, MemRelinquish, MemReclaim, BitmapCreate, BitmapDestroy, NotificationBind, NotificationUnbind, NotificationSet, NotificationGet, NotificationInfoGet, SpmIdGet, MsgSend2, Unknown}
use Rattle.ffa_model.specs.State.{State, is_known, transaction_of, version_of, buffers_of}
use Rattle.ffa_model.specs.Calls.{first_failure}
use Rattle.ffa_model.specs.declared.rights.Kind.TheVariants.{Share, Lend, Donate}
use Rattle.ffa_model.specs.declared.schedule.Status.TheVariants.{Yielded}
use Rattle.ffa_model.specs.Bits.{bits_of}
use Rattle.ffa_model.specs.Buffers.{new_buffers, filled}
use Rattle.ffa_model.specs.RunStates.{direct_request, direct_response, finished, given_cycles, requested, run_partition, schedule_of, status_in, switched, yield_now, msg_wait, Schedule, with_schedule}
use Rattle.ffa_model.specs.Notifications.{class_of, notifications_of, with_bitmaps, with_set, without_pending}
use Rattle.ffa_model.specs.Notices.{without_notices}
use Rattle.ffa_laws.proofs.Steadies.{steady-notified}
use Rattle.ffa_laws.proofs.NotificationLaws.{other-bind, other-create, other-destroy, other-get, other-notices, other-set, other-unbind, own-bind, own-create, own-destroy, own-get, own-notices, own-set, own-unbind, steady-bind, steady-destroy, steady-unbind}
use Rattle.ffa_model.specs.Step.{service}
use Rattle.ffa_laws.specs.Steady.{IsSteady}
use Rattle.ffa_laws.specs.View.{view}
use Rattle.ffa_laws.specs.Events.{told_by, Pending, Closed, message}
use Rattle.ffa_laws.proofs.Form.{IsOwn, waited-kept, waited-runs}
use Rattle.ffa_laws.proofs.Told.{IsTold, other-same}
use Rattle.ffa_laws.proofs.BufferLaws.{other-buffers, other-release, own-map, own-release, own-unmap, steady-map, steady-unmap, steady-with_rx}
use Rattle.ffa_laws.proofs.SetupLaws.{other-info, own-features, own-info, steady-info}
use Rattle.ffa_laws.proofs.ScheduleLaws.{other-scheduled, other-wait, own-request, own-response, own-run, own-wait, own-yield, steady-request, steady-response, steady-run, steady-wait, steady-yield}
use Rattle.ffa_laws.proofs.ReclaimLaws.{other-reclaim, own-reclaim}
use Rattle.ffa_laws.proofs.ReturnLaws.{other-relinquish, own-relinquish, steady-reclaim, steady-relinquish}
use Rattle.ffa_laws.proofs.SendLaws.{other-send, own-send, steady-send}
use Rattle.ffa_laws.proofs.RetrieveLaws.{other-retrieve, own-retrieve}
use Rattle.ffa_laws.proofs.Taken.{steady-retrieve}
use Rattle.ffa_laws.proofs.MessageLaws.{other-send2, own-send2, steady-send2}
use Rattle.std.specs.Prelude.{◌==◌}
use Rattle.ffa_model.specs.Access.{is_offered}
use Rattle.ffa_model.specs.Setup.{info_bytes, is_count_alone, uuid_bytes}
use Rattle.ffa_model.specs.Messages.{header_in, message_in, tx_bytes, msg_send2, send2_guards}
use Rattle.ffa_model.specs.MemorySend.{send_read}
use Rattle.ffa_model.specs.MemoryRetrieve.{retrieve_read}
use Rattle.ffa_model.specs.MemoryReturn.{relinquish_read}
use Rattle.ffa_model.specs.Processors.{SameElsewhere}
use Rattle.ffa_model.specs.SoundState.{IsSoundState}
use Rattle.ffa_model.proofs.Guards.{guard-passes}
use Rattle.ffa_laws.proofs.SoundBuffers.{filled-state-sound, map-sound, rx-sound, unmap-sound}
use Rattle.ffa_laws.proofs.SoundKept.{schedule-sound, version-sound}
use Rattle.ffa_laws.proofs.Versions.{other-version, own-version, steady-version, version-leaves}
use Rattle.ffa_laws.proofs.SoundLaws.{same-elsewhere}
use Rattle.ffa_laws.proofs.SoundNotifications.{bind-sound, create-sound, destroy-sound, framework-sound, get-sound, notices-sound, set-sound, unbind-sound}
use Rattle.ffa_laws.proofs.SoundPages.{informed-sound, sent-sound}
use Rattle.ffa_laws.proofs.SoundRetrieves.{retrieve-sound}
use Rattle.ffa_laws.proofs.SoundReturns.{reclaim-sound, relinquish-sound}
use Rattle.ffa_laws.proofs.SoundSends.{send-sound}
use Rattle.ffa_laws.proofs.SoundSteady.{sound-steady}
use Rattle.ffa_laws.proofs.Showing.{Shows, no_delivery, no_message, no_messages, no_news, no_opening, no_releases, no_takes, quiet, informed-runs, offered-runs, relinquished-runs, retrieved-runs, switching}
use Rattle.ffa_laws.proofs.SoundSteps.{AreSound, IsScheduled, scheduled-request, scheduled-response, scheduled-run, scheduled-wait, scheduled-yield}

-- what an endpoint does is done alike in its view
pub own-service : (s : State) → IsSteady s → (call : calls.Call) → IsOwn s (service (view s.runner s) call) (service s call)
own-service s steady (Version word) = own-version s steady word
own-service s steady (Features function) = own-features s steady function
own-service s steady RxRelease = own-release s steady
own-service s steady (RxtxMap tx rx pages) = own-map s steady tx rx pages
own-service s steady (RxtxUnmap endpoint) = own-unmap s steady endpoint
own-service s steady (PartitionInfoGet uuid flags) = own-info s steady uuid flags
own-service s steady IdGet = (refl, λ none. (refl, refl))
own-service s steady SpmIdGet = (refl, λ none. (refl, refl))
own-service s steady (MsgWait flags) = own-wait s steady flags
own-service s steady Yield = own-yield s
own-service s steady (Run target context) = own-run s target.0 context
own-service s steady (DirectRequest message) = own-request s message
own-service s steady (DirectResponse message) = own-response s message
own-service s steady (MemDonate x) = own-send s steady Donate x
own-service s steady (MemLend x) = own-send s steady Lend x
own-service s steady (MemShare x) = own-send s steady Share x
own-service s steady (MemRetrieve x) = own-retrieve s steady x
own-service s steady MemRelinquish = own-relinquish s steady
own-service s steady (MemReclaim handle flags) = own-reclaim s steady handle.0 flags
own-service s steady (BitmapCreate endpoint contexts) = own-create s steady endpoint contexts
own-service s steady (BitmapDestroy endpoint) = own-destroy s steady endpoint
own-service s steady (NotificationBind its) = own-bind s steady its
own-service s steady (NotificationUnbind its) = own-unbind s steady its
own-service s steady (NotificationSet its) = own-set s steady its
own-service s steady (NotificationGet receiver context flags) = own-get s steady receiver.0 context flags
own-service s steady (NotificationInfoGet is_wide) = own-notices s steady is_wide
own-service s steady MsgSend2 = own-send2 s steady
own-service s steady Unknown = (refl, λ none. (refl, refl))

-- another endpoint's view changes as it is told
module _ (e : ℕ) (s : State) (steady : IsSteady s) (known : is_known s e ≡ true) (other : s.runner ≢ e) where
  pub other-service : (call : calls.Call) → IsTold e s (service s call) (told_by e s call)
  other-service (Version word) = λ none. other-version s steady word e other
  other-service (Features function) = λ none. other-same e s
  other-service RxRelease = λ none. other-release s steady e
  other-service (RxtxMap tx rx pages) = λ none. other-buffers s steady e known other (Some (new_buffers s.ram_base tx rx pages))
  other-service (RxtxUnmap endpoint) = λ none. other-buffers s steady e known other None
  other-service (PartitionInfoGet uuid flags) = λ none. other-info s steady uuid flags e other
  other-service IdGet = λ none. other-same e s
  other-service SpmIdGet = λ none. other-same e s
  other-service (MsgWait flags) = λ none. other-wait e s flags
  other-service Yield = λ none. other-scheduled e s (switched (schedule_of s) Yielded 0) (yield_now s)
  other-service (Run target context) = λ none. other-scheduled e s (given_cycles (schedule_of s) target.0 (status_in (schedule_of s) target.0)) (run_partition s target.0 context)
  other-service (DirectRequest message) = λ none. other-scheduled e s (requested (schedule_of s) message.receiver.0) (direct_request s message)
  other-service (DirectResponse message) = λ none. other-scheduled e s (finished (schedule_of s) message.receiver.0) (direct_response s message)
  other-service (MemDonate x) = other-send e s steady known other Donate x
  other-service (MemLend x) = other-send e s steady known other Lend x
  other-service (MemShare x) = other-send e s steady known other Share x
  other-service (MemRetrieve x) = other-retrieve e s steady other x
  other-service MemRelinquish = other-relinquish e s steady other
  other-service (MemReclaim handle flags) = other-reclaim e s steady other handle.0 flags
  other-service (BitmapCreate endpoint contexts) = other-create e s other endpoint contexts
  other-service (BitmapDestroy endpoint) = other-destroy e s other steady endpoint
  other-service (NotificationBind its) = λ none. other-bind e s other its
  other-service (NotificationUnbind its) = λ none. other-unbind e s other its
  other-service (NotificationSet its) = λ none. other-set e s known its
  other-service (NotificationGet receiver context flags) = λ none. other-get e s other receiver.0 context flags
  other-service (NotificationInfoGet is_wide) = other-notices e s other is_wide
  other-service MsgSend2 = other-send2 s steady e known
  other-service Unknown = λ none. other-same e s

-- a steady state stays so
pub steady-service : (s : State) → IsSteady s → (call : calls.Call) → first_failure (service s call).guards ≡ None → IsSteady (service s call).state
steady-service s steady (Version word) none = steady-version s steady word
steady-service s steady (Features function) none = steady
steady-service s steady RxRelease none = steady-with_rx s steady s.runner false
steady-service s steady (RxtxMap tx rx pages) none = steady-map s steady tx rx pages none
steady-service s steady (RxtxUnmap endpoint) none = steady-unmap s steady
steady-service s steady (PartitionInfoGet uuid flags) none = steady-info s steady uuid flags
steady-service s steady IdGet none = steady
steady-service s steady SpmIdGet none = steady
steady-service s steady (MsgWait flags) none = steady-wait s steady flags
steady-service s steady Yield none = steady-yield s steady
steady-service s steady (Run target context) none = steady-run s steady target.0 context none
steady-service s steady (DirectRequest message) none = steady-request s steady message none
steady-service s steady (DirectResponse message) none = steady-response s steady message none
steady-service s steady (MemDonate x) none = steady-send s steady Donate x none
steady-service s steady (MemLend x) none = steady-send s steady Lend x none
steady-service s steady (MemShare x) none = steady-send s steady Share x none
steady-service s steady (MemRetrieve x) none = steady-retrieve s steady x none
steady-service s steady MemRelinquish none = steady-relinquish s steady
steady-service s steady (MemReclaim handle flags) none = steady-reclaim s steady handle.0 flags
steady-service s steady (BitmapCreate endpoint contexts) none = steady-notified s steady (with_bitmaps (notifications_of s) 0) steady.bound
steady-service s steady (BitmapDestroy endpoint) none = steady-destroy s steady
steady-service s steady (NotificationBind its) none = steady-bind s steady its
steady-service s steady (NotificationUnbind its) none = steady-unbind s steady its
steady-service s steady (NotificationSet its) none = steady-notified s steady (with_set (notifications_of s) its.receiver.0 (class_of s.runner) (bits_of its.bitmap)) steady.bound
steady-service s steady (NotificationGet receiver context flags) none = steady-notified s steady (without_pending (notifications_of s) s.runner flags) steady.bound
steady-service s steady (NotificationInfoGet is_wide) none = steady-notified s steady (without_notices (notifications_of s)) steady.bound
steady-service s steady MsgSend2 none = steady-send2 s steady
steady-service s steady Unknown none = steady

-- what is told of a call is what it shows
module _ (e : ℕ) (s : State) (differ : s.runner ≢ e) where
  pub shows-service : (call : calls.Call) → Shows e s differ (service s call) (told_by e s call)
  shows-service (Version word) = quiet e s differ (service s (Version word)) (told_by e s (Version word)) refl (version-leaves (λ t. schedule_of t ≡ schedule_of s) s.ffa s word refl (λ version. refl))
  shows-service (Features function) = quiet e s differ (service s (Features function)) (told_by e s (Features function)) refl refl
  shows-service RxRelease = quiet e s differ (service s RxRelease) (told_by e s RxRelease) refl refl
  shows-service (RxtxMap tx rx pages) = quiet e s differ (service s (RxtxMap tx rx pages)) (told_by e s (RxtxMap tx rx pages)) refl refl
  shows-service (RxtxUnmap endpoint) = quiet e s differ (service s (RxtxUnmap endpoint)) (told_by e s (RxtxUnmap endpoint)) refl refl
  shows-service (PartitionInfoGet uuid flags) = quiet e s differ (service s (PartitionInfoGet uuid flags)) (told_by e s (PartitionInfoGet uuid flags)) refl (informed-runs s (uuid_bytes uuid) (is_count_alone flags))
  shows-service IdGet = quiet e s differ (service s IdGet) (told_by e s IdGet) refl refl
  shows-service SpmIdGet = quiet e s differ (service s SpmIdGet) (told_by e s SpmIdGet) refl refl
  shows-service (MsgWait flags) = switching e s differ (msg_wait s flags)
  shows-service Yield = switching e s differ (yield_now s)
  shows-service (Run target context) = switching e s differ (run_partition s target.0 context)
  shows-service (DirectRequest message) = switching e s differ (direct_request s message)
  shows-service (DirectResponse message) = switching e s differ (direct_response s message)
  shows-service (MemDonate x) = quiet e s differ (service s (MemDonate x)) (told_by e s (MemDonate x)) (no_opening e s Donate (send_read s Donate x.total)) (offered-runs s Donate (send_read s Donate x.total))
  shows-service (MemLend x) = quiet e s differ (service s (MemLend x)) (told_by e s (MemLend x)) (no_opening e s Lend (send_read s Lend x.total)) (offered-runs s Lend (send_read s Lend x.total))
  shows-service (MemShare x) = quiet e s differ (service s (MemShare x)) (told_by e s (MemShare x)) (no_opening e s Share (send_read s Share x.total)) (offered-runs s Share (send_read s Share x.total))
  shows-service (MemRetrieve x) = quiet e s differ (service s (MemRetrieve x)) (told_by e s (MemRetrieve x)) (no_takes e s (retrieve_read s x.total)) (retrieved-runs s x)
  shows-service MemRelinquish = quiet e s differ (service s MemRelinquish) (told_by e s MemRelinquish) (no_releases e s (relinquish_read s)) (relinquished-runs s (relinquish_read s))
  shows-service (MemReclaim handle flags) = quiet e s differ (service s (MemReclaim handle flags)) (told_by e s (MemReclaim handle flags)) (no_message e (is_offered e (transaction_of s handle.0)) (Closed handle.0) refl) refl
  shows-service (BitmapCreate endpoint contexts) = quiet e s differ (service s (BitmapCreate endpoint contexts)) (told_by e s (BitmapCreate endpoint contexts)) refl refl
  shows-service (BitmapDestroy endpoint) = quiet e s differ (service s (BitmapDestroy endpoint)) (told_by e s (BitmapDestroy endpoint)) (no_messages e (e == e) _ _ (λ k. refl)) refl
  shows-service (NotificationBind its) = quiet e s differ (service s (NotificationBind its)) (told_by e s (NotificationBind its)) (no_messages e (its.sender.0 == e) _ _ (λ k. refl)) refl
  shows-service (NotificationUnbind its) = quiet e s differ (service s (NotificationUnbind its)) (told_by e s (NotificationUnbind its)) (no_messages e (its.sender.0 == e) _ _ (λ k. refl)) refl
  shows-service (NotificationSet its) = quiet e s differ (service s (NotificationSet its)) (told_by e s (NotificationSet its)) (no_news e s (service s (NotificationSet its)).state _ (no_message e (its.receiver.0 == e) (Pending (class_of s.runner) (bits_of its.bitmap)) refl)) refl
  shows-service (NotificationGet receiver context flags) = quiet e s differ (service s (NotificationGet receiver context flags)) (told_by e s (NotificationGet receiver context flags)) (no_news e s (service s (NotificationGet receiver context flags)).state [] refl) refl
  shows-service (NotificationInfoGet is_wide) = quiet e s differ (service s (NotificationInfoGet is_wide)) (told_by e s (NotificationInfoGet is_wide)) refl refl
  shows-service MsgSend2 = quiet e s differ (service s MsgSend2) (told_by e s MsgSend2) (no_delivery e s (tx_bytes s s.runner)) refl
  shows-service Unknown = quiet e s differ (service s Unknown) (told_by e s Unknown) refl refl

-- a sound state stays so
module _ (s : State) (sound : IsSoundState s) where
  scheduled : IsScheduled s
  scheduled = record { steady = sound-steady s sound; works = sound.sized.works; schedule = sound.schedule }

  -- run states that a call leaves
  run-states : (c : Schedule) → AreSound (length s.parties) (schedule_of s) c → IsSoundState (with_schedule s c)
  run-states c are = schedule-sound s sound c are.works are.next.sound

  sent : first_failure (msg_send2 s).guards ≡ None → IsSoundState (msg_send2 s).state
  sent none =
      framework-sound (filled s (header_in (tx_bytes s s.runner)).receiver (message_in (tx_bytes s s.runner)))
      (filled-state-sound s sound (header_in (tx_bytes s s.runner)).receiver (message_in (tx_bytes s s.runner)) (sent-sound s sound (buffers_of s (header_in (tx_bytes s s.runner)).receiver)))
      (header_in (tx_bytes s s.runner)).receiver
      (guard-passes (send2_guards s.parties s.buffers (version_of s s.runner) s.runner (header_in (tx_bytes s s.runner))) 4 (sym none))

  pub sound-service : (call : calls.Call) → first_failure (service s call).guards ≡ None → IsSoundState (service s call).state
  sound-service (Version word) none = version-leaves IsSoundState s.ffa s word sound (version-sound s sound s.runner)
  sound-service (Features function) none = sound
  sound-service RxRelease none = rx-sound s sound s.runner false
  sound-service (RxtxMap tx rx pages) none = map-sound s sound tx rx pages none
  sound-service (RxtxUnmap endpoint) none = unmap-sound s sound
  sound-service (PartitionInfoGet uuid flags) none =
      elim (is_count_alone flags) as (λ b. IsSoundState (cond b s (filled s s.runner (info_bytes s.ffa (version_of s s.runner) s.parties (uuid_bytes uuid))))) [
        | true ↦ sound
        | false ↦ filled-state-sound s sound s.runner (info_bytes s.ffa (version_of s s.runner) s.parties (uuid_bytes uuid)) (informed-sound s sound (uuid_bytes uuid) (buffers_of s s.runner))
      ]
  sound-service IdGet none = sound
  sound-service SpmIdGet none = sound
  sound-service (MsgWait flags) none =
      let waits = run-states (finished (schedule_of s) 0) (scheduled-wait s scheduled flags none) in
      waited-kept IsSoundState s flags waits (rx-sound (with_schedule s (finished (schedule_of s) 0)) waits s.runner false)
  sound-service Yield none = run-states (switched (schedule_of s) Yielded 0) (scheduled-yield s scheduled none)
  sound-service (Run target context) none =
      run-states (given_cycles (schedule_of s) target.0 (status_in (schedule_of s) target.0)) (scheduled-run s scheduled target.0 context none)
  sound-service (DirectRequest message) none =
      run-states (requested (schedule_of s) message.receiver.0) (scheduled-request s scheduled message none)
  sound-service (DirectResponse message) none =
      run-states (finished (schedule_of s) message.receiver.0) (scheduled-response s scheduled message none)
  sound-service (MemDonate x) none = send-sound s sound Donate x none
  sound-service (MemLend x) none = send-sound s sound Lend x none
  sound-service (MemShare x) none = send-sound s sound Share x none
  sound-service (MemRetrieve x) none = retrieve-sound s sound x none
  sound-service MemRelinquish none = relinquish-sound s sound
  sound-service (MemReclaim handle flags) none = reclaim-sound s sound handle.0 flags none
  sound-service (BitmapCreate endpoint contexts) none = create-sound s sound
  sound-service (BitmapDestroy endpoint) none = destroy-sound s sound endpoint none
  sound-service (NotificationBind its) none = bind-sound s sound its none
  sound-service (NotificationUnbind its) none = unbind-sound s sound its none
  sound-service (NotificationSet its) none = set-sound s sound its none
  sound-service (NotificationGet receiver context flags) none = get-sound s sound flags
  sound-service (NotificationInfoGet is_wide) none = notices-sound s sound
  sound-service MsgSend2 none = sent none
  sound-service Unknown none = sound

  -- run states that stay
  same-runs : (c : Schedule) → c ≡ schedule_of s → SameElsewhere (schedule_of s) c
  same-runs c same = subst (SameElsewhere (schedule_of s)) (sym same) (same-elsewhere (schedule_of s))

  -- the same partitions run elsewhere
  pub elsewhere-service : (call : calls.Call) → first_failure (service s call).guards ≡ None → SameElsewhere (schedule_of s) (schedule_of (service s call).state)
  elsewhere-service (MsgWait flags) none = subst (SameElsewhere (schedule_of s)) (sym (waited-runs s flags)) (scheduled-wait s scheduled flags none).next.elsewhere
  elsewhere-service Yield none = (scheduled-yield s scheduled none).next.elsewhere
  elsewhere-service (Version word) none = version-leaves (λ t. SameElsewhere (schedule_of s) (schedule_of t)) s.ffa s word (same-elsewhere (schedule_of s)) (λ version. same-elsewhere (schedule_of s))
  elsewhere-service (Run target context) none = (scheduled-run s scheduled target.0 context none).next.elsewhere
  elsewhere-service (DirectRequest message) none = (scheduled-request s scheduled message none).next.elsewhere
  elsewhere-service (DirectResponse message) none = (scheduled-response s scheduled message none).next.elsewhere
  elsewhere-service (PartitionInfoGet uuid flags) none = same-runs _ (informed-runs s (uuid_bytes uuid) (is_count_alone flags))
  elsewhere-service (MemDonate x) none = same-runs _ (offered-runs s Donate (send_read s Donate x.total))
  elsewhere-service (MemLend x) none = same-runs _ (offered-runs s Lend (send_read s Lend x.total))
  elsewhere-service (MemShare x) none = same-runs _ (offered-runs s Share (send_read s Share x.total))
  elsewhere-service (MemRetrieve x) none = same-runs _ (retrieved-runs s x)
  elsewhere-service MemRelinquish none = same-runs _ (relinquished-runs s (relinquish_read s))
  elsewhere-service call none = same-elsewhere (schedule_of s)
