-- SPDX-License-Identifier: MIT OR Apache-2.0
-- Buffers stay sound.
use Rattle.ffa_model.specs.Access.{ownership_of}
use Rattle.std.proofs.Common.{◌≡◌, ◌∙◌, ℕ, ◌<◌, Bool, true, false, cond, List, length, set, get_or, Option, Some, None, refl, sym, ap, subst, inl, inr, length-set, get_or-set_other, get_or-set_same}
use Rattle.std.proofs.lemmas.Bool.{cases_eq}
use Rattle.std.proofs.lemmas.Option.{none-some, same_Some}
use Rattle.ffa_model.proofs.Runs.{run-each}
use Rattle.ffa_model.specs.Identifiers.{place}
use Rattle.ffa_model.specs.State.{State, Buffers, buffers_of, is_known}
use Rattle.ffa_model.specs.Calls.{first_failure}
use Rattle.ffa_model.specs.Buffers.{buffers_with, buffers_with_rx, filled, filled_pages, is_usable, map_guards, new_buffers, page_number, rxtx_map, with_buffers, with_rx}
use Rattle.ffa_model.specs.SoundState.{IsSoundBuffers, IsSoundState}
use Rattle.ffa_model.proofs.Guards.{guard-passes}
use Rattle.ffa_model.proofs.Places.{known-place, same-known}
use Rattle.ffa_laws.proofs.SoundKept.{AreSoundBuffers, AreSoundPages, buffers-sound, pages-sound}
use Rattle.ffa_laws.proofs.SoundSteady.{runner-known}
use Rattle.ffa_laws.proofs.Written.{at-changed, is_at, rewritten-filled, with_rx_full}

module _ (s : State) (sound : IsSoundState s) where
  -- RX is full, or empty
  pub rx-sound : (f : ℕ) (full : Bool) → IsSoundState (with_rx s f full)
  rx-sound f full =
      buffers-sound s sound (buffers_with_rx s.buffers f full) (length-set s.buffers (place f) (with_rx_full full (buffers_of s f)) ∙ sound.sized.buffers)
      (λ e b its is. own e b its (is_at (place f) (place e)) (buffers_of s e) refl (sym (at-changed (with_rx_full full) s.buffers (place f) (place e) refl) ∙ is))
    where
      own : (e : ℕ) (b : Buffers) → is_known s e ≡ true → (same : Bool) (o : Option Buffers) → buffers_of s e ≡ o → cond same (with_rx_full full o) o ≡ Some b → IsSoundBuffers s e b
      own e b its true None there none = absurd (none-some b none)
      own e b its true (Some x) there some =
          let good = sound.buffers e x its there in
          subst (λ (y : Buffers). IsSoundBuffers s e y) (same_Some (record x { full = full }) b some) (record { count = good.count; tx = good.tx; rx = good.rx; apart = good.apart })
      own e b its false None there none = absurd (none-some b none)
      own e b its false (Some x) there some = sound.buffers e b its (there ∙ some)

  -- the runner has these buffers, or none
  set-sound : (o : Option Buffers) → ((b : Buffers) → o ≡ Some b → IsSoundBuffers s s.runner b) → IsSoundState (with_buffers s s.runner o)
  set-sound o new = buffers-sound s sound (buffers_with s.buffers s.runner o) (length-set s.buffers (place s.runner) o ∙ sound.sized.buffers) own
    where
      inside : place s.runner < length s.buffers
      inside = subst (λ n. place s.runner < n) (sym sound.sized.buffers) (known-place (length s.parties) s.runner sound.sized.some (runner-known s sound))

      own : AreSoundBuffers s (buffers_with s.buffers s.runner o)
      own e b its is = elim (cases_eq (place e) (place s.runner)) [
        | inl same ↦
            let mine : e ≡ s.runner = same-known (length s.parties) e s.runner its (runner-known s sound) same in
            subst (λ f. IsSoundBuffers s f b) (sym mine) (new b (sym (ap (λ i. get_or (set s.buffers (place s.runner) o) i None) same ∙ get_or-set_same s.buffers (place s.runner) o None inside) ∙ is))
        | inr other ↦ sound.buffers e b its (sym (get_or-set_other s.buffers (place s.runner) (place e) o None other) ∙ is)
      ]

  pub unmap-sound : IsSoundState (with_buffers s s.runner None)
  unmap-sound = set-sound None (λ b none. absurd (none-some b none))

  pub map-sound : (tx rx pages : ℕ) → first_failure (rxtx_map s tx rx pages).guards ≡ None → IsSoundState (rxtx_map s tx rx pages).state
  map-sound tx rx pages none =
      set-sound (Some (new_buffers s.ram_base tx rx pages)) (λ b is. subst (λ (x : Buffers). IsSoundBuffers s s.runner x) (same_Some (new_buffers s.ram_base tx rx pages) b is) (record {
        count = guard-passes (map_guards s.runner (buffers_of s s.runner) (ownership_of s) tx rx pages) 1 (sym none);
        tx = run-each (λ p. is_usable s.runner (ownership_of s) p) (page_number s.ram_base tx) pages
            (guard-passes (map_guards s.runner (buffers_of s s.runner) (ownership_of s) tx rx pages) 5 (sym none));
        rx = run-each (λ p. is_usable s.runner (ownership_of s) p) (page_number s.ram_base rx) pages
            (guard-passes (map_guards s.runner (buffers_of s s.runner) (ownership_of s) tx rx pages) 6 (sym none));
        apart = guard-passes (map_guards s.runner (buffers_of s s.runner) (ownership_of s) tx rx pages) 4 (sym none);
      }))

-- these bytes stand in RX of f, which is full
pub filled-state-sound : (s : State) → IsSoundState s → (f : ℕ) (bytes : List ℕ) → AreSoundPages s (filled_pages s.pages bytes (buffers_of s f)) → IsSoundState (filled s f bytes)
filled-state-sound s sound f bytes pages =
    rx-sound (record s { pages = filled_pages s.pages bytes (buffers_of s f) })
    (pages-sound s sound (filled_pages s.pages bytes (buffers_of s f)) (rewritten-filled s.pages bytes (buffers_of s f)) pages) f true
