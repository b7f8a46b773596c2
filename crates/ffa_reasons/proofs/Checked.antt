-- SPDX-License-Identifier: MIT OR Apache-2.0
-- Why an operation is refused: the checks see of the machine's parts what the guards of each call see of its state.
use Rattle.std.proofs.Common.{◌≡◌, ◌∙◌, ℕ, Bool, List, length, map, Option, ap}
use Rattle.std.specs.Prelude.{◌||◌, is_some}
use Rattle.std.specs.FinMap as finite
use Rattle.ffa_memshare.specs.Stored.{map_in}
use Rattle.ffa_messages.specs.Parts.{sent_in}
use Rattle.ffa_model.specs.declared.refusal.Refusal.{Refusal}
use Rattle.ffa_model.specs.declared.call.NotificationBits.{NotificationBits}
use Rattle.ffa_model.specs.Buffers.{buffers_in, is_full, map_guards, release_guards, rx_release, rxtx_map, rxtx_unmap, unmap_guards}
use Rattle.ffa_model.specs.Calls.{Service, first_refusal}
use Rattle.ffa_model.specs.First.{first, party_of}
use Rattle.ffa_model.specs.Manifest.{is_nil}
use Rattle.ffa_model.specs.MemoryReturn.{memory_reclaim, reclaim_guards}
use Rattle.ffa_model.specs.Messages.{header_in, msg_send2, send2_guards}
use Rattle.ffa_model.specs.Notifications.{bind_guards, bitmap_create, bitmap_destroy, create_guards, destroy_guards, get_guards, notification_bind, notification_get, notification_set, notification_unbind, set_guards, unbind_guards}
use Rattle.ffa_model.specs.Notices.{notice_guards, notification_info_get}
use Rattle.ffa_model.specs.Setup.{features, features_guards, info_guards, is_any, is_count_alone, needs_buffers, selected}
use Rattle.ffa_model.specs.declared.endpoint.Version.{Version}
use Rattle.ffa_model.specs.State.{State, transaction_of, version_of}
use Rattle.ffa_rxtx.specs.Parts.{ownership_in}
use Rattle.ffa_spmc.specs.Meaning.{IsManager, Parts, state_of}
use Rattle.ffa_spmc.proofs.Information.{decided}
use Rattle.ffa_spmc.proofs.Notified.{each-bitmap}
use Rattle.ffa_spmc.proofs.Pools.{ownership-is}
use Rattle.ffa_spmc.proofs.Sends.{sent-is}

-- what is so of the parts is so of what contracts see
pub seen-refusal : (x : Parts) (now : State) → state_of x ≡ now → (c : State → Service) (o : Option Refusal)
    → o ≡ first_refusal (c (state_of x)).guards → o ≡ first_refusal (c now).guards
seen-refusal x now view c o is = is ∙ ap (λ (s : State). first_refusal (c s).guards) view

-- the code's runner is that of the run states
module _ (x : Parts) (machine : IsManager x) (e : ℕ) (at : e ≡ x.kept.chain.runner) where
  abbrev s : State
  s = state_of x

  pub release-checked : first_refusal (release_guards (buffers_in x.kept.buffers e)) ≡ first_refusal (rx_release s).guards
  unfolding first
  release-checked = ap (λ (f : ℕ). first_refusal (release_guards (buffers_in x.kept.buffers f))) at

  pub unmap-checked : (word : ℕ) → first_refusal (unmap_guards (buffers_in x.kept.buffers e) word) ≡ first_refusal (rxtx_unmap s word).guards
  unfolding first
  unmap-checked word = ap (λ (f : ℕ). first_refusal (unmap_guards (buffers_in x.kept.buffers f) word)) at

  pub map-checked : (tx rx pages : ℕ) → first_refusal (map_guards e (buffers_in x.kept.buffers e) (ownership_in x.kept.pages x.manifest.ram_base.0) tx rx pages)
      ≡ first_refusal (rxtx_map s tx rx pages).guards
  unfolding first
  map-checked tx rx pages =
      ap (λ (f : ℕ). first_refusal (map_guards f (buffers_in x.kept.buffers f) (ownership_in x.kept.pages x.manifest.ram_base.0) tx rx pages)) at
      ∙ ap (λ ram. first_refusal (map_guards x.kept.chain.runner (buffers_in x.kept.buffers x.kept.chain.runner) ram tx rx pages)) (ownership-is x machine)

  pub info-checked : (uuid : List ℕ) (flags : ℕ)
      → decided (needs_buffers x.manifest.ffa) (is_nil uuid || is_any (selected (map party_of x.manifest.endpoints.items) uuid)) (is_count_alone flags) (is_some (buffers_in x.kept.buffers e)) (is_full (buffers_in x.kept.buffers e))
      ≡ first_refusal (info_guards s uuid flags)
  unfolding first
  info-checked uuid flags =
      λ i. decided (needs_buffers x.manifest.ffa) (is_nil uuid || is_any (selected (map party_of x.manifest.endpoints.items) uuid)) (is_count_alone flags)
      (is_some (buffers_in x.kept.buffers (at i))) (is_full (buffers_in x.kept.buffers (at i)))

  pub send-checked : (version : Version) → version ≡ version_of s s.runner → first_refusal (send2_guards (map party_of x.manifest.endpoints.items) x.kept.buffers version e (header_in (sent_in x.ram x.kept.buffers e))) ≡ first_refusal (msg_send2 s).guards
  unfolding first
  send-checked version spoken = λ i. first_refusal (send2_guards (map party_of x.manifest.endpoints.items) x.kept.buffers (spoken i) (at i) (header_in (sent-is x machine e at i)))

  pub reclaim-checked : (h flags : ℕ)
      → first_refusal (reclaim_guards (ownership_in x.kept.pages x.kept.layout.base.0) e flags (finite.get (map_in x.kept.pool.slots) h)) ≡ first_refusal (memory_reclaim s h flags).guards
  reclaim-checked h flags =
      λ i. first_refusal (reclaim_guards ((ap (ownership_in x.kept.pages) machine.layout.base ∙ ownership-is x machine) i) (at i) flags (transaction_of s h))

  pub create-checked : (endpoint contexts : ℕ) → first_refusal (create_guards x.manifest.ffa x.kept.bitmaps e endpoint contexts) ≡ first_refusal (bitmap_create s endpoint contexts).guards
  unfolding first
  create-checked endpoint contexts = ap (λ (f : ℕ). first_refusal (create_guards x.manifest.ffa x.kept.bitmaps f endpoint contexts)) at

  pub destroy-checked : (endpoint : ℕ) → first_refusal (destroy_guards x.kept.bitmaps e endpoint) ≡ first_refusal (bitmap_destroy s endpoint).guards
  destroy-checked endpoint = ap (λ (f : ℕ). first_refusal (destroy_guards x.kept.bitmaps f endpoint)) at

  pub get-checked : (receiver context flags : ℕ) → first_refusal (get_guards x.manifest.ffa x.kept.bitmaps e receiver context flags) ≡ first_refusal (notification_get s receiver context flags).guards
  unfolding first
  get-checked receiver context flags = ap (λ (f : ℕ). first_refusal (get_guards x.manifest.ffa x.kept.bitmaps f receiver context flags)) at

  pub features-checked : (function : ℕ) → first_refusal (features_guards x.manifest.ffa e function) ≡ first_refusal (features s function).guards
  unfolding first
  features-checked function = ap (λ (f : ℕ). first_refusal (features_guards x.manifest.ffa f function)) at

  pub notice-checked : (is_wide : Bool) → first_refusal (notice_guards x.manifest.ffa (length x.kept.bitmaps.bitmaps) x.kept.bitmaps e) ≡ first_refusal (notification_info_get s is_wide).guards
  unfolding first
  notice-checked is_wide = λ i. first_refusal (notice_guards x.manifest.ffa (each-bitmap x machine i) x.kept.bitmaps (at i))

  -- a call with a bitmap
  module _ (its : NotificationBits) where
    pub bind-checked : first_refusal (bind_guards (length x.kept.bitmaps.bitmaps) x.kept.bitmaps e its) ≡ first_refusal (notification_bind s its).guards
    bind-checked = λ i. first_refusal (bind_guards (each-bitmap x machine i) x.kept.bitmaps (at i) its)

    pub unbind-checked : first_refusal (unbind_guards (length x.kept.bitmaps.bitmaps) x.kept.bitmaps e its) ≡ first_refusal (notification_unbind s its).guards
    unbind-checked = λ i. first_refusal (unbind_guards (each-bitmap x machine i) x.kept.bitmaps (at i) its)

    pub set-checked : first_refusal (set_guards (length x.kept.bitmaps.bitmaps) x.kept.bitmaps e its) ≡ first_refusal (notification_set s its).guards
    set-checked = λ i. first_refusal (set_guards (each-bitmap x machine i) x.kept.bitmaps (at i) its)
