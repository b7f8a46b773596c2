-- SPDX-License-Identifier: MIT OR Apache-2.0
-- Each event that is told is about something that stands in the view which it meets.
use Rattle.std.proofs.Common.{◌≡◌, ◌∙◌, ℕ, zero, suc, length, ◌+◌, ◌-◌, ◌/◌, ◌%◌, ◌^◌, ◌<◌, Bool, true, false, cond, List, [], ◌∷◌, ◌++◌, Option, Some, None, is_some, refl, sym, ap, arith, inl, inr, ◌==◌, ◌&&◌, filter, nat_le, nat_lt, not, slice_index}
use Rattle.std.specs.List.{list_all}
use Rattle.std.specs.Option.{option_and_then, option_map}
use Rattle.byteorder.specs.Endian.{little_bytes}
use Rattle.std.proofs.lemmas.Bool.{and_parts, cases_Bool, eq-eqb, eqb-true, false≢true, true≢false}
use Rattle.ffa_model.specs.declared.descriptor.RelinquishDesc.{RelinquishDesc}
use Rattle.ffa_model.specs.declared.operation.Op.{Op}
use Rattle.ffa_model.specs.declared.operation.Op.TheVariants.{Call, Store}
use Rattle.ffa_model.specs.declared.call.Call as calls
use Rattle.ffa_model.specs.declared.call.Call.TheVariants.{MemRelinquish, NotificationSet, MsgSend2}
use Rattle.ffa_model.specs.declared.call.NotificationBits.{NotificationBits}
use Rattle.ffa_model.specs.Rights.{may_store}
use Rattle.ffa_model.specs.Transactions.{not_holding}
use Rattle.ffa_model.specs.SoundState.{IsSoundState}
use Rattle.ffa_model.specs.State.{State, Page, Transaction, buffers_of, is_known, page_at, transaction_of, version_of}
use Rattle.ffa_model.specs.Access.{access, is_from, right_of, transaction_at}
use Rattle.ffa_model.specs.Bits.{bits_of, is_set, word_where}
use Rattle.ffa_model.specs.Calls.{first_failure}
use Rattle.ffa_model.specs.Lists.{listed}
use Rattle.ffa_model.specs.Memory.{access_at, size_of, store_fault}
use Rattle.ffa_model.specs.MemoryReturn.{relinquish_read}
use Rattle.ffa_model.specs.Messages.{header_in, message_in, msg_send2, send2_guards, tx_bytes}
use Rattle.ffa_model.specs.Notifications.{binding, class_of, has_bitmaps_in, is_bound, manager_class, message_bits, notification_set, notifications_of, set_guards}
use Rattle.ffa_model.specs.Registers.{decode}
use Rattle.ffa_model.specs.Step.{serve, service}
use Rattle.ffa_model.proofs.Bitmaps.{word_where-same, word_where-set}
use Rattle.ffa_model.proofs.Guards.{guard-passes}
use Rattle.ffa_model.proofs.Served.{FitsBitmap, decode-fits}
use Rattle.ffa_laws.specs.View.{involves, kept, seen_by, view}
use Rattle.ffa_laws.specs.Events.{Event, Wrote, Filled, Pending, Held, Zeroed, apply, apply_all, call_events, delivers, events, notified, public_change, releases, sets, told_by, where_passed, where_true, with_holder, writes}
use Rattle.ffa_laws.specs.Silence.{AreMet, is_met, may_tell}
use Rattle.ffa_laws.proofs.BufferLaws.{own-buffers}
use Rattle.ffa_laws.proofs.MemoryLaws.{fault-none}
use Rattle.ffa_laws.proofs.Notices.{either-notified}
use Rattle.ffa_laws.proofs.Opened.{get-insert}
use Rattle.ffa_laws.proofs.Raised.{own-bitmaps}
use Rattle.ffa_laws.proofs.Rows.{all-weaker, call-rows}
use Rattle.ffa_laws.proofs.Views.{shown, view-page, view-transaction}
use Rattle.ffa_laws.proofs.Publics.{either-public}

-- ---- lists of events
pub met-append : (e : ℕ) (v : State) (xs ys : List Event) → AreMet e v xs → AreMet e (apply_all e v xs) ys → AreMet e v (xs ++ ys)
met-append e v [] ys one two = two
met-append e v (x ∷ xs) ys one two = (one.0, met-append e (apply e v x) xs ys one.1 two)

met-where : (e : ℕ) (v : State) (b : Bool) (es : List Event) → (b ≡ true → AreMet e v es) → AreMet e v (where_true b es)
met-where e v true es met = met refl
met-where e v false es met = tt

met-passed : {X : Type 0} (e : ℕ) (v : State) (o : Option X) (es : List Event) → (o ≡ None → AreMet e v es) → AreMet e v (where_passed o es)
met-passed e v None es met = met refl
met-passed e v (Some failure) es met = tt

-- events that are about nothing that must stand in the view
abbrev is_free : Event → Bool
is_free (Wrote address bytes) = false
is_free (Filled bytes) = false
is_free (Pending class bits) = false
is_free (Zeroed h) = false
is_free event = true

free-met : (e : ℕ) (v : State) (event : Event) → is_free event ≡ true → is_met e v event ≡ true
free-met e v (Wrote address bytes) free = absurd (false≢true free)
free-met e v (Filled bytes) free = absurd (false≢true free)
free-met e v (Pending class bits) free = absurd (false≢true free)
free-met e v (Zeroed h) free = absurd (false≢true free)
free-met e v event free = refl

all-free : (e : ℕ) (es : List Event) (v : State) → list_all is_free es ≡ true → AreMet e v es
all-free e [] v free = tt
all-free e (x ∷ es) v free = let (here, rest) = and_parts (is_free x) (list_all is_free es) free in (free-met e v x here, all-free e es (apply e v x) rest)

-- a word of which no bit is set is 0
no-bits : (n : ℕ) → word_where n (λ k. false) ≡ 0
no-bits zero = refl
no-bits (suc n) = ap (λ m. m + 0) (no-bits n)

unset : (test : ℕ → Bool) (m : ℕ) (g : ℕ → ℕ) → filter test (listed m g) ≡ [] → (k : ℕ) → k < m → test (g k) ≡ false
unset test zero g none k lt = absurd (omega arith)
unset test (suc m) g none k lt =
    elim (test (g 0)) as (λ b. test (g 0) ≡ b → cond b (g 0 ∷ filter test (listed m (λ i. g (suc i)))) (filter test (listed m (λ i. g (suc i)))) ≡ [] → test (g k) ≡ false) [
      | true ↦ λ is some. absurd (some_none some)
      | false ↦ λ is rest. of k lt is (λ j less. unset test m (λ i. g (suc i)) rest j less)
    ] refl none
  where
    some_none : {x : ℕ} {xs : List ℕ} → x ∷ xs ≡ [] → ⊥
    some_none e = cc

    of : (k : ℕ) → k < suc m → test (g 0) ≡ false → ((j : ℕ) → j < m → test (g (suc j)) ≡ false) → test (g k) ≡ false
    of zero lt is later = is
    of (suc k) lt is later = later k (omega arith)

pub zero-word : (word : ℕ) → word < 2 ^ 64 → bits_of word ≡ [] → word ≡ 0
zero-word word lt none =
    let same : word_where 64 (λ k. is_set k word) ≡ word_where 64 (λ k. false) = word_where-same 64 (λ k. is_set k word) (λ k. false) (λ k less. unset (λ j. is_set j word) 64 (λ j. j) none k less) in
    let whole : word % 2 ^ 64 ≡ 0 = sym (word_where-set 64 word) ∙ same ∙ no-bits 64 in
    omega (arith, whole, lt)

-- ---- what each operation tells
-- ---- a store
module _ (e : ℕ) (s : State) where
  -- a page that the runner writes to is one of RAM that an endpoint owns
  reached-page : (address : ℕ) → is_some (access_at s s.runner address) ≡ true → is_some (page_at s ((address - s.ram_base) / 4096)) ≡ true
  reached-page address =
      elim (nat_le s.ram_base address && nat_lt address (2 ^ 32)) as (λ b. is_some (option_and_then (access s s.runner) (cond b (Some ((address - s.ram_base) / 4096)) None)) ≡ true → is_some (page_at s ((address - s.ram_base) / 4096)) ≡ true) [
        | true ↦ owned (page_at s ((address - s.ram_base) / 4096)) (transaction_at s ((address - s.ram_base) / 4096))
        | false ↦ λ some. absurd (false≢true some)
      ]
    where
      owned : (page : Option Page) (t : Option Transaction) → is_some (right_of s.runner page t) ≡ true → is_some page ≡ true
      owned None t some = some
      owned (Some q) t some = refl

  pub met-store : (address n : ℕ) (bytes : List ℕ) → AreMet e (view e s) (where_passed (store_fault s address n) (writes e s address bytes))
  met-store address n bytes =
      met-passed e (view e s) (store_fault s address n) (writes e s address bytes) (λ none. met-where e (view e s) _ (Wrote address bytes ∷ []) (λ near. (
        ap is_some (view-page e s ((address - s.ram_base) / 4096) ∙ ap (λ b. kept b (page_at s ((address - s.ram_base) / 4096))) near)
            ∙ reached-page address (fault-none (address % n == 0) (access_at s s.runner address) may_store none),
        tt,
      )))

module _ (e : ℕ) (s : State) (sound : IsSoundState s) (known : is_known s e ≡ true) where
  abbrev v : State
  v = view e s

  -- what is heard of notices is about nothing that must stand in the view
  met-notified : (w next : State) (own : List Event) → AreMet e w own → AreMet e w (notified e s next own)
  met-notified w next own met = either-notified (AreMet e w) e s next own tt (λ differ. (refl, tt)) met

  -- a message leaves who has bitmaps
  still-bitmaps : (mine : Bool) (bytes : List ℕ) → has_bitmaps_in (notifications_of (apply_all e v (where_true mine (Filled bytes ∷ [])))) e ≡ has_bitmaps_in (notifications_of v) e
  still-bitmaps true bytes = refl
  still-bitmaps false bytes = refl

  met-delivered : first_failure (msg_send2 s).guards ≡ None → AreMet e v (delivers e s (tx_bytes s s.runner))
  met-delivered none =
      let header = header_in (tx_bytes s s.runner) in
      let filling = Filled (message_in (tx_bytes s s.runner)) in
      let told = where_true (header.receiver == e) (filling ∷ []) in
      let both = header.receiver == e && has_bitmaps_in (notifications_of s) e in
      met-append e v told _
      (met-where e v (header.receiver == e) (filling ∷ []) (λ mine. (
        ap is_some (own-buffers e s known ∙ ap (buffers_of s) (sym (eqb-true header.receiver e mine)))
            ∙ guard-passes (send2_guards s.parties s.buffers (version_of s s.runner) s.runner header) 11 (sym none),
        tt,
      )))
      (met-notified (apply_all e v told) (msg_send2 s).state (where_true both (Pending manager_class message_bits ∷ []))
      (met-where e (apply_all e v told) both (Pending manager_class message_bits ∷ []) (λ is. (
        still-bitmaps (header.receiver == e) (message_in (tx_bytes s s.runner)) ∙ own-bitmaps e s known ∙ (and_parts (header.receiver == e) _ is).1,
        tt,
      ))))

  -- a receiver of which a bit is bound has bitmaps
  bound-bitmaps : (receiver class sender : ℕ) (ks : List ℕ) → (ks ≡ [] → ⊥) → list_all (λ k. is_bound (notifications_of s) receiver class k sender) ks ≡ true → has_bitmaps_in (notifications_of s) receiver ≡ true
  bound-bitmaps receiver class sender [] some all = absurd (some refl)
  bound-bitmaps receiver class sender (k ∷ ks) some all =
      let (here, rest) = and_parts (is_bound (notifications_of s) receiver class k sender) _ all in
      let good = sound.bound (binding receiver class k sender) here in
      ap (has_bitmaps_in (notifications_of s)) (ap (λ x. slice_index x 0) good.is) ∙ good.bitmaps

  met-set : (its : NotificationBits) → its.bitmap < 2 ^ 64 → first_failure (notification_set s its).guards ≡ None
      → AreMet e v (sets e s its)
  met-set its lt none =
      let guards = set_guards (length s.parties) (notifications_of s) s.runner its in
      let some : not (its.bitmap == 0) ≡ true = guard-passes guards 4 (sym none) in
      let all = guard-passes guards 5 (sym none) in
      met-notified v (notification_set s its).state _ (met-where e v (its.receiver.0 == e) (Pending (class_of s.runner) (bits_of its.bitmap) ∷ []) (λ mine. (
        own-bitmaps e s known ∙ ap (has_bitmaps_in (notifications_of s)) (sym (eqb-true its.receiver.0 e mine))
            ∙ bound-bitmaps its.receiver.0 (class_of s.runner) s.runner (bits_of its.bitmap)
            (λ nothing. true≢false (sym some ∙ ap not (eq-eqb its.bitmap 0 (zero-word its.bitmap lt nothing))))
            all,
        tt,
      )))

  -- who holds a transaction doesn't matter to whether it is open
  still-open : (h f : ℕ) (b : Bool) → is_some (transaction_of v h) ≡ true → is_some (transaction_of (apply_all e v (where_true b (Held h f None ∷ []))) h) ≡ true
  still-open h f false some = some
  still-open h f true some = of (transaction_of v h) refl some
    where
      of : (o : Option Transaction) → transaction_of v h ≡ o → is_some o ≡ true → is_some (transaction_of (with_holder v h f None o) h) ≡ true
      of None is some = absurd (false≢true some)
      of (Some t) is some = ap is_some (get-insert v.transactions h (not_holding t f) h ∙ ap (λ b. cond b (Some (not_holding t f)) (transaction_of v h)) (eq-eqb h h refl))

  known-open : (h : ℕ) → involves e (transaction_of s h) ≡ true → is_some (transaction_of v h) ≡ true
  known-open h involved = ap is_some (view-transaction e s h) ∙ of (transaction_of s h) involved
    where
      of : (o : Option Transaction) → involves e o ≡ true → is_some (shown e o) ≡ true
      of None involved = absurd (false≢true involved)
      of (Some t) involved = ap (λ b. is_some (option_map (seen_by e) (kept b (Some t)))) involved

  met-released : (o : Option RelinquishDesc) → AreMet e v (releases e s o)
  met-released None = tt
  met-released (Some d) =
      let mine = is_from e (transaction_of s d.handle) in
      let held = where_true mine (Held d.handle s.runner None ∷ []) in
      met-append e v held (where_true _ (Zeroed d.handle ∷ []))
      (met-where e v mine (Held d.handle s.runner None ∷ []) (λ is. (refl, tt)))
      (met-where e (apply_all e v held) _ (Zeroed d.handle ∷ []) (λ both. (
        still-open d.handle s.runner mine (known-open d.handle (and_parts d.zero _ both).1),
        tt,
      )))

  -- a change of the public part is free
  public-free : (w : State) (next : State) → AreMet e w (public_change s next)
  public-free w next = either-public (AreMet e w) s next tt (refl, tt)

  met-call : (call : calls.Call) → FitsBitmap call → AreMet e v (call_events e s call)
  met-call call fits = of call fits
    where
      told : (c : calls.Call) → (first_failure (service s c).guards ≡ None → AreMet e v (told_by e s c)) → AreMet e v (call_events e s c)
      told c met =
          let xs = where_passed (first_failure (service s c).guards) (told_by e s c) in
          met-append e v xs (public_change s (serve s c).state) (met-passed e v (first_failure (service s c).guards) (told_by e s c) met) (public-free (apply_all e v xs) (serve s c).state)

      rest : (c : calls.Call) → ((event : Event) → is_free event ≡ false → may_tell c event ≡ false) → AreMet e v (call_events e s c)
      rest c never = all-free e (call_events e s c) v (all-weaker (may_tell c) is_free (call_events e s c) one (call-rows e s c))
        where
          one : (event : Event) → may_tell c event ≡ true → is_free event ≡ true
          one event may = elim (cases_Bool (is_free event)) [
            | inl free ↦ free
            | inr bound ↦ absurd (true≢false (sym may ∙ never event bound))
          ]

      of : (c : calls.Call) → FitsBitmap c → AreMet e v (call_events e s c)
      of MsgSend2 fits = told MsgSend2 met-delivered
      of (NotificationSet its) fits = told (NotificationSet its) (met-set its fits)
      of MemRelinquish fits = told MemRelinquish (λ none. met-released (relinquish_read s))
      of c fits = rest c (λ event bound. untold event bound)
        where
          untold : (event : Event) → is_free event ≡ false → may_tell c event ≡ false
          untold (Wrote address bytes) bound = refl
          untold (Filled bytes) bound = refl
          untold (Pending class bits) bound = refl
          untold (Zeroed h) bound = refl
          untold event bound = absurd (true≢false bound)

  pub are-met : (op : Op) → AreMet e v (events e s op)
  are-met (Call x) = met-call (decode x) (decode-fits x)
  are-met (Store address size value) = met-store e s address (size_of size) (little_bytes (size_of size) value)
  are-met _ = tt
