-- SPDX-License-Identifier: MIT OR Apache-2.0
-- Features and partition information: in the runner's view, and to others.
use Rattle.std.proofs.Common.{◌≡◌, ◌≢◌, ◌∙◌, ℕ, Bool, true, false, cond, List, [], ◌∷◌, length, is_some, refl, sym, ap, length-set, ◌||◌, not}
use Rattle.ffa_model.specs.Manifest.{is_nil}
use Rattle.ffa_model.specs.Identifiers.{place}
use Rattle.ffa_model.specs.State.{State, buffers_of, version_of}
use Rattle.ffa_model.specs.Buffers.{buffers_with_rx, filled, filled_pages, is_full}
use Rattle.ffa_model.specs.Calls.{first_failure, success}
use Rattle.ffa_model.specs.RunStates.{schedule_of}
use Rattle.ffa_model.specs.Setup.{features, features_reply, told_info_size, info_bytes, info_get, info_guards, informed, is_any, is_count_alone, needs_buffers, selected, uuid_bytes}
use Rattle.ffa_laws.specs.Steady.{IsSteady}
use Rattle.ffa_laws.specs.View.{view}
use Rattle.ffa_laws.specs.Events.{apply_all, public_change}
use Rattle.ffa_laws.proofs.Form.{IsOwn}
use Rattle.ffa_laws.proofs.Changes.{other-changed}
use Rattle.ffa_laws.proofs.Written.{rewritten-filled, rx-own, with_rx_full}
use Rattle.ffa_laws.proofs.Told.{other-same}
use Rattle.ffa_laws.proofs.BufferLaws.{far-repaged, own-buffers, steady-filled, view-filled}
use Rattle.ffa_laws.proofs.Versions.{version-seen}
use Rattle.ffa_model.specs.declared.refusal.Refusal.TheVariants.{UuidUnknown, BuffersMissing, BuffersNeeded, RxFull}

-- what is told of a call depends on the runner's form, which it sees
pub own-features : (s : State) → IsSteady s → (function : ℕ) → IsOwn s (features (view s.runner s) function) (features s function)
own-features s steady function = (refl, λ none. (refl, ap (λ version. features_reply s.ffa s.runner version function) (version-seen s.runner s steady.runner)))

-- bytes in the runner's RX, to another endpoint
pub other-filled : (e : ℕ) (s : State) → IsSteady s → s.runner ≢ e → (bytes : List ℕ)
    → view e (filled s s.runner bytes) ≡ apply_all e (view e s) (public_change s (filled s s.runner bytes))
other-filled e s steady other bytes =
    other-changed e s (filled_pages s.pages bytes (buffers_of s s.runner)) (buffers_with_rx s.buffers s.runner true) (schedule_of s) []
    (rewritten-filled s.pages bytes (buffers_of s s.runner)) (length-set s.buffers (place s.runner) (with_rx_full true (buffers_of s s.runner)))
    (λ i mine. rx-own (length s.pages) s.buffers s.runner true i)
    (sym (far-repaged e s.runner s bytes steady steady.runner other))

module _ (s : State) (steady : IsSteady s) (words : List ℕ) (flags : ℕ) where
  abbrev uuid : List ℕ
  uuid = uuid_bytes words

  same-guards : info_guards (view s.runner s) uuid flags ≡ info_guards s uuid flags
  same-guards = λ i.
      (is_nil uuid || is_any (selected s.parties uuid), UuidUnknown)
      ∷ (is_count_alone flags || is_some (own-buffers s.runner s steady.runner i) || needs_buffers s.ffa, BuffersMissing)
      ∷ (is_count_alone flags || is_some (own-buffers s.runner s steady.runner i), BuffersNeeded)
      ∷ (is_count_alone flags || not (is_full (own-buffers s.runner s steady.runner i)), RxFull)
      ∷ []

  view-informed : informed (view s.runner s) uuid flags ≡ view s.runner (informed s uuid flags)
  view-informed =
      ap (λ version. cond (is_count_alone flags) (view s.runner s) (filled (view s.runner s) s.runner (info_bytes s.ffa version s.parties uuid))) (version-seen s.runner s steady.runner)
      ∙ elim (is_count_alone flags) as (λ b. cond b (view s.runner s) (filled (view s.runner s) s.runner (info_bytes s.ffa (version_of s s.runner) s.parties uuid)) ≡ view s.runner (cond b s (filled s s.runner (info_bytes s.ffa (version_of s s.runner) s.parties uuid)))) [
        | true ↦ refl
        | false ↦ view-filled s.runner s (info_bytes s.ffa (version_of s s.runner) s.parties uuid) steady.runner
      ]

  pub own-info : IsOwn s (info_get (view s.runner s) words flags) (info_get s words flags)
  own-info = (
    ap first_failure same-guards,
    λ none. (
      view-informed,
      ap (λ version. success (length (selected s.parties uuid)) (cond (is_count_alone flags) 0 (told_info_size version))) (version-seen s.runner s steady.runner),
    ),
  )

  pub steady-info : IsSteady (informed s uuid flags)
  steady-info =
      elim (is_count_alone flags) as (λ b. IsSteady (cond b s (filled s s.runner (info_bytes s.ffa (version_of s s.runner) s.parties uuid)))) [ true ↦ steady | false ↦ steady-filled s steady s.runner (info_bytes s.ffa (version_of s s.runner) s.parties uuid) ]

  abbrev bytes : List ℕ
  bytes = info_bytes s.ffa (version_of s s.runner) s.parties uuid

  abbrev informed_if : Bool → State
  informed_if b = cond b s (filled s s.runner bytes)

  pub other-info : (e : ℕ) → s.runner ≢ e → view e (informed s uuid flags) ≡ apply_all e (view e s) (public_change s (informed s uuid flags))
  other-info e other =
      elim (is_count_alone flags) as (λ b. view e (informed_if b) ≡ apply_all e (view e s) (public_change s (informed_if b))) [
        | true ↦ other-same e s
        | false ↦ other-filled e s steady other bytes
      ]
