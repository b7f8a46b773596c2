-- SPDX-License-Identifier: MIT OR Apache-2.0
-- Indirect messages: in the sender's view, and to others.
use Rattle.std.proofs.Common.{◌≡◌, ◌≢◌, ◌∙◌, ℕ, ◌+◌, Bool, true, false, List, [], ◌∷◌, ◌++◌, length, Option, Some, None, is_some, refl, sym, ap, arith, length-set, ◌==◌, ◌&&◌, not, nat_le, eq-eqb, eqb-true, true≢false}
use Rattle.std.specs.Option.{option_map_or}
use Rattle.std.proofs.lemmas.Bool.Decides.{nat_tests}
use Rattle.ffa_model.proofs.Runs.{flat-run-same}
use Rattle.ffa_model.specs.declared.refusal.Refusal.TheVariants.{BuffersMissing, FlagsReserved, HeaderReserved, SenderIsAnother, ReceiverUnknown, ReceiverIsCaller, MessageInHeader, MessageEmpty, MessageTooLong, MessagesUnsent, MessagesUnreceived, ReceiverBuffersMissing, ReceiverRxFull, ReceiverRxSmall}
use Rattle.ffa_model.specs.declared.operation.ErrorCode.{ErrorCode}
use Rattle.ffa_model.specs.Identifiers.{place}
use Rattle.ffa_model.specs.State.{State, Page, Buffers, buffers_of, has_property, is_known, is_known_among, version_of}
use Rattle.ffa_model.specs.Memory.{page_bytes, run_bytes}
use Rattle.ffa_model.specs.Buffers.{buffers_in, buffers_with_rx, filled, filled_pages, is_full, room_of}
use Rattle.ffa_model.specs.Calls.{first_failure}
use Rattle.ffa_model.specs.Messages.{MessageHeader, delivered, header_in, message_header_size, message_in, msg_send2, send2_guards, tx_bytes}
use Rattle.ffa_model.specs.Notifications.{manager_class, notifications_of, message_bits, has_bitmaps_in, with_set}
use Rattle.ffa_model.specs.RunStates.{schedule_of}
use Rattle.ffa_laws.specs.Steady.{IsSteady}
use Rattle.ffa_laws.specs.View.{view, is_near, kept}
use Rattle.ffa_laws.specs.Events.{Event, Filled, Pending, apply_all, delivers, notified, public_change, where_true}
use Rattle.ffa_model.proofs.Guards.{guard-passes}
use Rattle.ffa_model.proofs.Accesses.{length-map_at}
use Rattle.ffa_laws.proofs.Views.{near-bytes}
use Rattle.ffa_laws.proofs.Form.{IsOwn}
use Rattle.ffa_laws.proofs.Changes.{apply_all-append, other-told, repaged, seen_buffers, view-changed, with_parts, with_public_parts}
use Rattle.ffa_laws.proofs.Written.{rewritten-filled, rx-own, seen-filled, with_rx_full}
use Rattle.ffa_laws.proofs.Steadies.{alone-near, steady-notified}
use Rattle.ffa_laws.proofs.Told.{IsTold}
use Rattle.ffa_laws.proofs.Notices.{heard}
use Rattle.ffa_laws.proofs.Raised.{raised, raised-seen, set-applied}
use Rattle.ffa_laws.proofs.BufferLaws.{far-repaged, own-buffers, seen-full, seen-room, seen-some, steady-filled, view-buffers, view-filled_other}
use Rattle.ffa_laws.proofs.Versions.{version-seen}

pub not-same : (a b : ℕ) → not (a == b) ≡ true → a ≢ b
not-same a b is same = grind (arith, nat_tests)

module _ (s : State) (steady : IsSteady s) where
  pub tx-seen : tx_bytes (view s.runner s) s.runner ≡ tx_bytes s s.runner
  tx-seen = ap (λ o. option_map_or (λ (b : Buffers). run_bytes (view s.runner s) b.tx b.pages) o []) (own-buffers s.runner s steady.runner) ∙ go (buffers_of s s.runner) refl
    where
      go : (o : Option Buffers) → buffers_of s s.runner ≡ o → option_map_or (λ (b : Buffers). run_bytes (view s.runner s) b.tx b.pages) o [] ≡ option_map_or (λ (b : Buffers). run_bytes s b.tx b.pages) o []
      go None is = refl
      go (Some b) is =
          flat-run-same (page_bytes (view s.runner s)) (page_bytes s) b.tx b.pages (λ p its.
          near-bytes s.runner s p (alone-near s s.runner p ((steady.buffers s.runner b steady.runner is).tx p its)))

  pub some-seen : (f : ℕ) → is_some (buffers_in (view s.runner s).buffers f) ≡ is_some (buffers_in s.buffers f)
  some-seen f = ap is_some (view-buffers s.runner f s) ∙ seen-some s.runner (length s.pages) (place f) (buffers_of s f)

  pub full-seen : (f : ℕ) → is_full (buffers_in (view s.runner s).buffers f) ≡ is_full (buffers_in s.buffers f)
  full-seen f = ap is_full (view-buffers s.runner f s) ∙ seen-full s.runner (length s.pages) (place f) (buffers_of s f)

  pub room-seen : (f : ℕ) → room_of (buffers_in (view s.runner s).buffers f) ≡ room_of (buffers_in s.buffers f)
  room-seen f = ap room_of (view-buffers s.runner f s) ∙ seen-room s.runner (length s.pages) (place f) (buffers_of s f)

  -- that buffers are there, their size, that RX is full, and the runner's form are all that the checks ask for
  same-guards : (m : MessageHeader) → send2_guards s.parties (view s.runner s).buffers (version_of (view s.runner s) s.runner) s.runner m ≡ send2_guards s.parties s.buffers (version_of s s.runner) s.runner m
  same-guards m = λ i.
      (some-seen s.runner i, BuffersMissing)
      ∷ (m.flags == 0, FlagsReserved)
      ∷ (m.reserved == 0, HeaderReserved)
      ∷ (m.sender == s.runner, SenderIsAnother)
      ∷ (is_known_among (length s.parties) m.receiver, ReceiverUnknown)
      ∷ (not (m.receiver == s.runner), ReceiverIsCaller)
      ∷ (nat_le (message_header_size (version-seen s.runner s steady.runner i)) m.offset, MessageInHeader)
      ∷ (not (m.size == 0), MessageEmpty)
      ∷ (nat_le (m.offset + m.size) (room-seen s.runner i), MessageTooLong)
      ∷ (has_property s.parties s.runner 2, MessagesUnsent)
      ∷ (has_property s.parties m.receiver 2, MessagesUnreceived)
      ∷ (some-seen m.receiver i, ReceiverBuffersMissing)
      ∷ (not (full-seen m.receiver i), ReceiverRxFull)
      ∷ (nat_le (m.offset + m.size) (room-seen m.receiver i), ReceiverRxSmall)
      ∷ []

  abbrev failure : Option ErrorCode
  failure = first_failure (send2_guards s.parties s.buffers (version_of s s.runner) s.runner (header_in (tx_bytes s s.runner)))

  abbrev receiver : ℕ
  receiver = (header_in (tx_bytes s s.runner)).receiver

  abbrev bytes : List ℕ
  bytes = message_in (tx_bytes s s.runner)

  receiver-known : failure ≡ None → is_known s receiver ≡ true
  receiver-known none = guard-passes (send2_guards s.parties s.buffers (version_of s s.runner) s.runner (header_in (tx_bytes s s.runner))) 4 (sym none)

  receiver-other : failure ≡ None → receiver ≢ s.runner
  receiver-other none = not-same receiver s.runner (guard-passes (send2_guards s.parties s.buffers (version_of s s.runner) s.runner (header_in (tx_bytes s s.runner))) 5 (sym none))

  pub own-send2 : IsOwn s (msg_send2 (view s.runner s)) (msg_send2 s)
  own-send2 = (
    ap (λ tx. first_failure (send2_guards s.parties (view s.runner s).buffers (version_of (view s.runner s) s.runner) s.runner (header_in tx))) tx-seen ∙ ap first_failure (same-guards (header_in (tx_bytes s s.runner))),
    λ none. (
      ap (λ tx. delivered (view s.runner s) (header_in tx).receiver (message_in tx)) tx-seen
          ∙ ap (λ v. raised v receiver manager_class message_bits) (view-filled_other s.runner receiver s bytes steady steady.runner (receiver-known none) (receiver-other none))
          ∙ raised-seen receiver manager_class message_bits s.runner (filled s receiver bytes) (receiver-known none) (receiver-other none) (λ hears. refl),
      refl,
    ),
  )

  pub steady-send2 : IsSteady (msg_send2 s).state
  steady-send2 =
      let after = steady-filled s steady receiver bytes in
      steady-notified (filled s receiver bytes) after (with_set (notifications_of s) receiver manager_class message_bits) after.bound

  module _ (e : ℕ) (known : is_known s e ≡ true) where
    abbrev new_pages : List (Option Page)
    new_pages = filled_pages s.pages bytes (buffers_of s receiver)

    abbrev new_buffers : List (Option Buffers)
    new_buffers = buffers_with_rx s.buffers receiver true

    each : length new_buffers ≡ length s.buffers
    each = length-set s.buffers (place receiver) (with_rx_full true (buffers_of s receiver))

    filled-seen : view e (filled s receiver bytes) ≡ with_public_parts (repaged e s new_pages) (schedule_of s) (seen_buffers e (length s.pages) new_buffers)
    filled-seen = view-changed e s new_pages new_buffers (schedule_of s) (rewritten-filled s.pages bytes (buffers_of s receiver))

    abbrev next : State
    next = (msg_send2 s).state

    abbrev has : Bool
    has = has_bitmaps_in (notifications_of s) e

    -- what is told of the manager's bit
    abbrev bit_told : List Event
    bit_told = notified e s next (where_true (receiver == e && has) (Pending manager_class message_bits ∷ []))

    bit-applied : (ps : List (Option Page)) → apply_all e (repaged e s ps) bit_told ≡ heard e (repaged e s ps) next
    bit-applied ps = set-applied receiver manager_class message_bits ps new_pages new_buffers e s known (receiver == e && has) (twice (receiver == e) has)
      where
        twice : (a b : Bool) → ((a && b) && b) ≡ (a && b)
        twice true true = refl
        twice true false = refl
        twice false b = refl

    -- a message to another, and one to e
    abbrev filling : Bool → List Event
    filling mine = where_true mine (Filled bytes ∷ [])

    from-pages : (mine : Bool) (ps : List (Option Page)) → length (repaged e s ps).pages ≡ length s.pages → apply_all e (view e s) (filling mine) ≡ repaged e s ps → repaged e s new_pages ≡ repaged e s ps
        → view e next ≡ apply_all e (view e s) ((filling mine ++ bit_told) ++ public_change s next)
    from-pages mine ps size by_filled same =
        other-told e s next (heard e (repaged e s ps) next) (filling mine ++ bit_told) each (λ i own. rx-own (length s.pages) s.buffers receiver true i) size refl
        (apply_all-append e (view e s) (filling mine) bit_told ∙ ap (λ v. apply_all e v bit_told) by_filled ∙ bit-applied ps)
        (ap (λ v. heard e v next) (filled-seen ∙ ap (λ v. with_public_parts v (schedule_of s) (seen_buffers e (length s.pages) new_buffers)) same))

    pub other-send2 : IsTold e s (msg_send2 s) (delivers e s (tx_bytes s s.runner))
    other-send2 none = of (receiver == e) refl
      where
        of : (mine : Bool) → (receiver == e) ≡ mine → view e next ≡ apply_all e (view e s) ((filling mine ++ bit_told) ++ public_change s next)
        of true mine = from-pages true new_pages (length-map_at (λ q page. kept (is_near e s q) page) new_pages ∙ (rewritten-filled s.pages bytes (buffers_of s receiver)).each) by_filled refl
          where
            by_filled : record (view e s) { pages = filled_pages (view e s).pages bytes (buffers_of (view e s) e) } ≡ repaged e s new_pages
            by_filled =
                λ i. with_parts (view e s) ((ap (filled_pages (view e s).pages bytes) (own-buffers e s known ∙ ap (buffers_of s) (sym (eqb-true receiver e mine))) ∙ sym (seen-filled e s bytes (buffers_of s receiver))) i) (view e s).buffers (schedule_of s)
        of false other = from-pages false s.pages (length-map_at (λ q page. kept (is_near e s q) page) s.pages) refl (far-repaged e receiver s bytes steady (receiver-known none) differ)
          where
            differ : receiver ≢ e
            differ same = true≢false (sym (eq-eqb receiver e same) ∙ other)
