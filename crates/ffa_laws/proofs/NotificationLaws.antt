-- SPDX-License-Identifier: MIT OR Apache-2.0
-- Notifications: in the runner's view, and to others.
use Rattle.std.proofs.Common.{◌≡◌, ◌≢◌, ◌∙◌, inl, inr, ℕ, zero, suc, ◌<◌, Bool, true, false, cond, List, [], ◌∷◌, ◌++◌, map, length, set, refl, sym, ap, subst, arith, ◌==◌, ◌||◌, ◌&&◌, filter, nat_le, not}
use Rattle.std.specs.List.{list_all, list_any}
use Rattle.std.specs.Ordering.{eq_by_cmp, nat_cmp}
use Rattle.std.specs.Cmp.Lexicographic.{slice_cmp}
use Rattle.std.specs.FinSet as finite_set
use Rattle.std.proofs.Math.Path.{fun_ext}
use Rattle.std.proofs.lemmas.Bool.{cases_Bool, and_parts, eq-eqb, eqb-true, false≢true, ne_eqb, true≢false, or_left, or_right}
use Rattle.std.proofs.lemmas.List.{set-get_or}
use Rattle.ffa_model.specs.declared.call.Reply.{Reply}
use Rattle.ffa_model.specs.declared.call.Reply.TheVariants as replies
use Rattle.ffa_model.specs.declared.call.NotificationBits.{NotificationBits}
use Rattle.ffa_model.specs.Bits.{bits_of, is_set, word_where}
use Rattle.ffa_model.specs.Lists.{listed, map_at}
use Rattle.ffa_model.specs.Identifiers.{identifier}
use Rattle.ffa_model.specs.State.{State, is_known, is_known_among}
use Rattle.ffa_model.specs.Calls.{first_failure}
use Rattle.ffa_model.specs.declared.manifest.Ffa.{Ffa}
use Rattle.ffa_model.specs.declared.manifest.Ffa.TheVariants.{V1_1, V1_2}
use Rattle.ffa_model.specs.declared.refusal.Refusal.TheVariants.{FunctionUnknown, NothingToTell}
use Rattle.ffa_model.specs.Notices.{endpoints_to_tell, has_notice, hears_notices, notice_guards, notice_reply, notification_info_get}
use Rattle.ffa_model.specs.Notifications.{Notifications, binding, bitmap_create, bitmap_destroy, class_of_entry, class_of, destroy_guards, create_guards, get_reply, has_bitmaps_in, has_pending, is_bindable, is_got, is_bound, is_bound_to_another, is_context, is_context_count, is_pending, is_unbindable, manager_class, normal_class, notification_bind, notification_get, notification_set, notification_unbind, notifications_of, partition_class, receiver_bit, receiver_of_entry, sender_of_entry, set_guards, with_bound, with_notifications, without_bitmaps, without_bound, without_pending}
use Rattle.ffa_laws.specs.Steady.{IsSteady, IsSteadyBinding}
use Rattle.ffa_laws.specs.View.{view}
use Rattle.ffa_laws.specs.Events.{Bound, Event, Unbound, apply_all, binds, gets, notice_change, public_change, sets, unbinds, where_true}
use Rattle.ffa_laws.specs.Notices.{notices_seen, pending_seen}
use Rattle.ffa_model.proofs.Guards.{guard-passes, invalid, denied}
use Rattle.ffa_laws.proofs.Maps.{map_at-set}
use Rattle.ffa_laws.proofs.Form.{IsOwn, same-first}
use Rattle.ffa_laws.proofs.Told.{IsTold}
use Rattle.ffa_laws.proofs.Changes.{other-told, own-same}
use Rattle.ffa_laws.proofs.Steadies.{steady-notified}
use Rattle.ffa_model.proofs.Sets.{Bits, among, contains-less, contains-more, contains-retained, same-itself, same_bits, same_elements}
use Rattle.ffa_model.proofs.Accesses.{length-map_at}
use Rattle.ffa_laws.proofs.Bitmaps.{among-each, bound-all, retained-both, retained-commute, retained-within, seen-less, seen-more, unbound-all, unseen-less, unseen-more}
use Rattle.ffa_laws.proofs.Notices.{heard, none-seen, notice-applied, retained-empty, sees}
use Rattle.ffa_laws.proofs.Raised.{and_second, bitmaps-seen, own-bitmaps, raised-seen, set-applied}
use Rattle.ffa_laws.proofs.MessageLaws.{not-same}

-- what e sees of bindings
abbrev bound_to : ℕ → List ℕ → Bool
bound_to e x = receiver_of_entry x == e || sender_of_entry x == e

more-bits : (m : ℕ) (g : ℕ → ℕ) (f : ℕ → List ℕ) (x : List ℕ) → (k : ℕ) × (k < m) × (x ≡ f (g (suc k))) → (k : ℕ) × (k < suc m) × (x ≡ f (g k))
more-bits m g f x (k, lt, same) = (suc k, omega arith, same)

among-first : (b : Bool) (m : ℕ) (g : ℕ → ℕ) (f : ℕ → List ℕ) (x : List ℕ) (rest : List ℕ) → among x (map f (cond b (g 0 ∷ rest) rest)) ≡ true
    → (among x (map f rest) ≡ true → (k : ℕ) × (k < m) × (x ≡ f (g (suc k)))) → (k : ℕ) × (k < suc m) × (x ≡ f (g k))
among-first false m g f x rest is later = more-bits m g f x (later is)
among-first true m g f x rest is later =
    elim (eq_by_cmp (slice_cmp nat_cmp) x (f (g 0))) as (λ b. eq_by_cmp (slice_cmp nat_cmp) x (f (g 0)) ≡ b → (b || among x (map f rest)) ≡ true → (k : ℕ) × (k < suc m) × (x ≡ f (g k))) [
      | true ↦ λ here _. (0, omega arith, same_elements x (f (g 0)) here)
      | false ↦ λ _ among_rest. more-bits m g f x (later among_rest)
    ] refl is

-- bits of a word
among-bits : (test : ℕ → Bool) (m : ℕ) (g : ℕ → ℕ) (f : ℕ → List ℕ) (x : List ℕ) → among x (map f (filter test (listed m g))) ≡ true → (k : ℕ) × (k < m) × (x ≡ f (g k))
among-bits test zero g f x is = absurd (false≢true is)
among-bits test (suc m) g f x is = among-first (test (g 0)) m g f x (filter test (listed m (λ i. g (suc i)))) is (λ rest. among-bits test m (λ i. g (suc i)) f x rest)

-- who hears of notices sets no bit as a partition does
not-partition : (ffa : Ffa) (e : ℕ) → hears_notices ffa e ≡ true → (class_of e == partition_class) ≡ false
not-partition V1_1 e hears = absurd (false≢true hears)
not-partition V1_2 e hears = ap (λ b. cond b normal_class partition_class == partition_class) hears

-- who hears of notices is the normal world
hearer-first : (ffa : Ffa) (e : ℕ) → hears_notices ffa e ≡ true → (e == 0) ≡ true
hearer-first V1_1 e hears = absurd (false≢true hears)
hearer-first V1_2 e hears = hears

-- and nobody else is
other-deaf : (ffa : Ffa) (e : ℕ) → (0 == e) ≡ false → hears_notices ffa e ≡ false
other-deaf ffa e away = elim (cases_Bool (hears_notices ffa e)) [
  | inl hears ↦ absurd (true≢false (sym (eq-eqb 0 e (sym (eqb-true e 0 (hearer-first ffa e hears)))) ∙ away))
  | inr deaf ↦ deaf
]

either-first : (b : Bool) → (b || false) ≡ true → b ≡ true
either-first true is = refl
either-first false is = is

-- some notices go, of all or of none
retained-notices : (e : ℕ) (s : State) (test : List ℕ → Bool) → finite_set.retain (notices_seen e s) test ≡ cond (hears_notices s.ffa e) (finite_set.retain s.notices test) finite_set.empty
retained-notices e s test = elim (hears_notices s.ffa e) as (λ h. finite_set.retain (cond h s.notices finite_set.empty) test ≡ cond h (finite_set.retain s.notices test) finite_set.empty) [
  | true ↦ refl
  | false ↦ retained-empty test
]

-- ---- what the runner sees of its own
module _ (s : State) (steady : IsSteady s) where
  abbrev r : ℕ
  r = s.runner

  abbrev n : Notifications
  n = notifications_of s

  abbrev v : State
  v = view s.runner s

  abbrev nv : Notifications
  nv = notifications_of (view s.runner s)

  -- a binding of which it is the receiver or the sender
  bound-seen : (f class bit g : ℕ) → bound_to s.runner (binding f class bit g) ≡ true → is_bound nv f class bit g ≡ is_bound n f class bit g
  bound-seen f class bit g mine =
      contains-retained s.bound (bound_to s.runner) (binding f class bit g) ∙ and_second (finite_set.contains s.bound (binding f class bit g)) (bound_to s.runner (binding f class bit g)) mine

  received-seen : (class bit g : ℕ) → is_bound nv s.runner class bit g ≡ is_bound n s.runner class bit g
  received-seen class bit g = bound-seen s.runner class bit g (or_left (s.runner == s.runner) (g == s.runner) (eq-eqb s.runner s.runner refl))

  sent-seen : (f class bit : ℕ) → is_bound nv f class bit s.runner ≡ is_bound n f class bit s.runner
  sent-seen f class bit = bound-seen f class bit s.runner (or_right (f == s.runner) (s.runner == s.runner) (eq-eqb s.runner s.runner refl))

  pending-seen : (class bit : ℕ) → is_pending nv s.runner class bit ≡ is_pending n s.runner class bit
  pending-seen class bit =
      contains-retained s.pending (sees s.runner s) (receiver_bit s.runner class bit)
      ∙ and_second (finite_set.contains s.pending (receiver_bit s.runner class bit)) (sees s.runner s (receiver_bit s.runner class bit)) (or_left (s.runner == s.runner) _ (eq-eqb s.runner s.runner refl))

  pending-same : is_pending nv s.runner ≡ is_pending n s.runner
  pending-same = fun_ext (λ class. fun_ext (λ bit. pending-seen class bit))

  pub own-create : (endpoint contexts : ℕ) → IsOwn s (bitmap_create v endpoint contexts) (bitmap_create s endpoint contexts)
  own-create endpoint contexts = (
    same-first (s.runner == 0) denied
        ((endpoint == 0, invalid) ∷ (is_context_count s.ffa contexts, invalid) ∷ (not (has_bitmaps_in nv 0), denied) ∷ [])
        ((endpoint == 0, invalid) ∷ (is_context_count s.ffa contexts, invalid) ∷ (not (has_bitmaps_in n 0), denied) ∷ []) (λ is_first. (
        let first : s.runner ≡ 0 = eqb-true s.runner 0 is_first in
        let same : has_bitmaps_in nv 0 ≡ has_bitmaps_in n 0 = subst (λ e. has_bitmaps_in nv e ≡ has_bitmaps_in n e) first (own-bitmaps s.runner s steady.runner) in
        λ i. first_failure ((endpoint == 0, invalid) ∷ (is_context_count s.ffa contexts, invalid) ∷ (not (same i), denied) ∷ []))),
    λ none. (
      (let is_first : (s.runner == 0) ≡ true = guard-passes (create_guards s.ffa n s.runner endpoint contexts) 0 (sym none) in
          let first : (0 == s.runner) ≡ true = eq-eqb 0 s.runner (sym (eqb-true s.runner 0 is_first)) in
          λ i. record v { bitmaps = sym (map_at-set (λ j has. (identifier j == s.runner || hears_notices s.ffa s.runner) && has) s.bitmaps 0 true ∙ ap (λ b. set v.bitmaps 0 ((b || hears_notices s.ffa s.runner) && true)) first) i }),
      refl,
    ),
  )

  and_false : (b : Bool) → (b && false) ≡ false
  and_false true = refl
  and_false false = refl

  pub own-destroy : (endpoint : ℕ) → IsOwn s (bitmap_destroy v endpoint) (bitmap_destroy s endpoint)
  own-destroy endpoint = (
    same-first (s.runner == 0) denied
        ((endpoint == 0, invalid) ∷ (has_bitmaps_in nv 0, denied) ∷ (not (has_pending nv 0), denied) ∷ [])
        ((endpoint == 0, invalid) ∷ (has_bitmaps_in n 0, denied) ∷ (not (has_pending n 0), denied) ∷ []) (λ is_first. (
        let first : s.runner ≡ 0 = eqb-true s.runner 0 is_first in
        let same : has_bitmaps_in nv 0 ≡ has_bitmaps_in n 0 = subst (λ e. has_bitmaps_in nv e ≡ has_bitmaps_in n e) first (own-bitmaps s.runner s steady.runner) in
        let pending : is_pending nv 0 ≡ is_pending n 0 = subst (λ e. is_pending nv e ≡ is_pending n e) first pending-same in
        λ i. first_failure ((endpoint == 0, invalid) ∷ (same i, denied)
        ∷ (not (list_any (λ class. list_any (pending i class) (listed 64 (λ k. k))) (partition_class ∷ normal_class ∷ manager_class ∷ [])), denied) ∷ []))),
    λ none. (
      (λ i. record v {
        bitmaps = sym (map_at-set (λ j has. (identifier j == s.runner || hears_notices s.ffa s.runner) && has) s.bitmaps 0 false ∙ ap (set v.bitmaps 0) (and_false (0 == s.runner || hears_notices s.ffa s.runner))) i;
        bound = retained-commute s.bound (bound_to s.runner) (λ x. not (receiver_of_entry x == 0)) i;
      }),
      refl,
    ),
  )

  module _ (its : NotificationBits) where
    abbrev sender : ℕ
    sender = its.sender.0

    abbrev ks : List ℕ
    ks = bits_of its.bitmap

    another-seen : (bit : ℕ) → is_bound_to_another (length s.parties) nv s.runner (class_of sender) bit sender ≡ is_bound_to_another (length s.parties) n s.runner (class_of sender) bit sender
    another-seen bit = ap (λ test. list_any test (listed (length s.parties) identifier)) (fun_ext (λ f. ap (λ b. not (f == sender) && b) (received-seen (class_of sender) bit f)))

    bindable-seen : (bit : ℕ) → is_bindable (length s.parties) nv s.runner sender bit ≡ is_bindable (length s.parties) n s.runner sender bit
    bindable-seen bit = λ i. not (another-seen bit i) && not (pending-seen (class_of sender) bit i)

    unbindable-seen : (bit : ℕ) → is_unbindable nv s.runner sender bit ≡ is_unbindable n s.runner sender bit
    unbindable-seen bit = λ i. received-seen (class_of sender) bit sender i && not (pending-seen (class_of sender) bit i)

    abbrev entry : ℕ → List ℕ
    entry k = binding s.runner (class_of sender) k sender

    mine : (x : List ℕ) → among x (map entry ks) ≡ true → bound_to s.runner x ≡ true
    mine x is = among-each (λ y. bound_to s.runner y ≡ true) entry ks x (λ k. or_left (s.runner == s.runner) (sender == s.runner) (eq-eqb s.runner s.runner refl)) is

    pub own-bind : IsOwn s (notification_bind v its) (notification_bind s its)
    own-bind = (
      (λ i. first_failure (
          (its.receiver.0 == s.runner, invalid)
          ∷ (is_known_among (length s.parties) sender, invalid)
          ∷ (not (sender == s.runner), invalid)
          ∷ (its.flags == 0, invalid)
          ∷ (not (its.bitmap == 0), invalid)
          ∷ (own-bitmaps s.runner s steady.runner i, denied)
          ∷ (list_all (fun_ext bindable-seen i) ks, denied)
          ∷ [])),
      λ none. ((λ i. record v { bound = sym (seen-more (bound_to s.runner) s.bound (map entry ks) mine) i }), refl),
    )

    pub own-unbind : IsOwn s (notification_unbind v its) (notification_unbind s its)
    own-unbind = (
      (λ i. first_failure (
          (its.receiver.0 == s.runner, invalid)
          ∷ (is_known_among (length s.parties) sender, invalid)
          ∷ (not (sender == s.runner), invalid)
          ∷ (its.flags == 0, invalid)
          ∷ (not (its.bitmap == 0), invalid)
          ∷ (own-bitmaps s.runner s steady.runner i, denied)
          ∷ (list_all (fun_ext unbindable-seen i) ks, denied)
          ∷ [])),
      λ none. ((λ i. record v { bound = sym (seen-less (bound_to s.runner) s.bound (map entry ks)) i }), refl),
    )

    pub own-set : IsOwn s (notification_set v its) (notification_set s its)
    own-set = (
      (λ i. first_failure (
          (sender == s.runner, invalid)
          ∷ (is_known_among (length s.parties) its.receiver.0, invalid)
          ∷ (not (its.receiver.0 == s.runner), invalid)
          ∷ (its.flags == 0 || its.flags == 2, invalid)
          ∷ (not (its.bitmap == 0), invalid)
          ∷ (list_all (λ k. sent-seen its.receiver.0 (class_of s.runner) k i) ks, denied)
          ∷ [])),
      λ none. (
        (let known : is_known s its.receiver.0 ≡ true = guard-passes (set_guards (length s.parties) n s.runner its) 1 (sym none) in
            let differ : its.receiver.0 ≢ s.runner = not-same its.receiver.0 s.runner (guard-passes (set_guards (length s.parties) n s.runner its) 2 (sym none)) in
            raised-seen its.receiver.0 (class_of s.runner) ks s.runner s known differ (not-partition s.ffa s.runner)),
        refl,
      ),
    )

  abbrev reply_by : ℕ → (ℕ → ℕ → Bool) → Reply
  reply_by flags p =
      replies.Pending (cond (is_set partition_class flags) (word_where 64 (p partition_class)) 0)
      (cond (is_set normal_class flags) (word_where 64 (p normal_class)) 0)
      (cond (is_set manager_class flags) (word_where 64 (p manager_class)) 0)

  pub own-get : (receiver context flags : ℕ) → IsOwn s (notification_get v receiver context flags) (notification_get s receiver context flags)
  own-get receiver context flags = (
    (λ i. first_failure (
        (receiver == s.runner, invalid)
        ∷ (is_context s.ffa s.runner context, invalid)
        ∷ (nat_le flags 15, invalid)
        ∷ (own-bitmaps s.runner s steady.runner i, denied)
        ∷ [])),
    λ none. (
      (λ i. record v {
        pending = retained-commute s.pending (sees s.runner s) (λ x. not (is_got s.runner flags x)) i;
        notices = retained-notices s.runner s (λ x. not (is_got s.runner flags x)) i;
      }),
      reply,
    ),
  )
    where
      reply : get_reply nv s.runner flags ≡ get_reply n s.runner flags
      reply = ap (reply_by flags) pending-same

  -- what the runner hears of notices it sees
  pub own-notices : (is_wide : Bool) → IsOwn s (notification_info_get v is_wide) (notification_info_get s is_wide)
  own-notices is_wide = (
    same-first (hears_notices s.ffa s.runner) FunctionUnknown
        ((list_any (has_notice nv) (listed (length s.parties) identifier), NothingToTell) ∷ [])
        ((list_any (has_notice n) (listed (length s.parties) identifier), NothingToTell) ∷ []) (λ hears.
        ap (λ heard. first_failure ((list_any (has_notice (record n { notices = heard })) (listed (length s.parties) identifier), NothingToTell) ∷ [])) (all-seen hears)),
    λ none. (
      (let hears = guard-passes (notice_guards s.ffa (length s.parties) n s.runner) 0 (sym none) in
          λ i. record v { notices = sym (ap (λ b. cond b finite_set.empty finite_set.empty) hears) i }),
      (let hears = guard-passes (notice_guards s.ffa (length s.parties) n s.runner) 0 (sym none) in
          ap (λ heard. notice_reply is_wide (endpoints_to_tell (length s.parties) (record n { notices = heard }))) (all-seen hears)),
    ),
  )
    where
      all-seen : hears_notices s.ffa s.runner ≡ true → notices_seen s.runner s ≡ s.notices
      all-seen hears = ap (λ b. cond b s.notices finite_set.empty) hears

  -- ---- steadiness: bindings keep their form
  pub steady-destroy : IsSteady (bitmap_destroy s 0).state
  steady-destroy =
      steady-notified s steady (without_bitmaps n 0) (λ x is. steady.bound x (and_parts (finite_set.contains s.bound x) (not (receiver_of_entry x == 0)) (sym (contains-retained s.bound (λ y. not (receiver_of_entry y == 0)) x) ∙ is)).0)

  pub steady-unbind : (its : NotificationBits) → IsSteady (with_notifications s (without_bound n s.runner its.sender.0 (bits_of its.bitmap)))
  steady-unbind its =
      steady-notified s steady (without_bound n s.runner its.sender.0 (bits_of its.bitmap))
      (λ x is. steady.bound x (and_parts (finite_set.contains s.bound x) _ (sym (contains-less s.bound (map (λ k. binding s.runner (class_of its.sender.0) k its.sender.0) (bits_of its.bitmap)) x) ∙ is)).0)

  pub steady-bind : (its : NotificationBits) → IsSteady (with_notifications s (with_bound n s.runner its.sender.0 (bits_of its.bitmap)))
  steady-bind its =
      steady-notified s steady (with_bound n s.runner its.sender.0 (bits_of its.bitmap))
      (λ x is. form x (finite_set.contains s.bound x) refl (sym (contains-more s.bound (map (λ k. binding s.runner (class_of its.sender.0) k its.sender.0) (bits_of its.bitmap)) x) ∙ is))
    where
      form : (x : List ℕ) (b : Bool) → finite_set.contains s.bound x ≡ b
          → (finite_set.contains s.bound x || among x (map (λ k. binding s.runner (class_of its.sender.0) k its.sender.0) (bits_of its.bitmap))) ≡ true → IsSteadyBinding x
      form x true old is = steady.bound x old
      form x false new is =
          let (k, lt, same) = among-bits (λ j. is_set j its.bitmap) 64 (λ j. j) (λ j. binding s.runner (class_of its.sender.0) j its.sender.0) x
          (sym (ap (λ b. b || among x (map (λ j. binding s.runner (class_of its.sender.0) j its.sender.0) (bits_of its.bitmap))) new) ∙ is) in
          record { receiver = s.runner; bit = k; sender = its.sender.0; is = same; in_word = lt }

-- ---- to another endpoint
-- some entries are in a set already, or not
more-new : (a : Bits) (f : ℕ → List ℕ) (new : ℕ → Bool) (ks : List ℕ) (x : List ℕ) → ((k : ℕ) → new k ≡ false → finite_set.contains a (f k) ≡ true)
    → (finite_set.contains a x || among x (map f (filter new ks))) ≡ (finite_set.contains a x || among x (map f ks))
more-new a f new [] x there = refl
more-new a f new (k ∷ ks) x there =
    elim (new k) as (λ b. new k ≡ b → (finite_set.contains a x || among x (map f (cond b (k ∷ filter new ks) (filter new ks)))) ≡ (finite_set.contains a x || among x (map f (k ∷ ks)))) [
      | true ↦ λ is. (let later = more-new a f new ks x there in grind (arith, cases_Bool (eq_by_cmp (slice_cmp nat_cmp) x (f k)), cases_Bool (finite_set.contains a x), later))
      | false ↦ λ is.
          let later = more-new a f new ks x there in
          elim (eq_by_cmp (slice_cmp nat_cmp) x (f k)) as (λ b. eq_by_cmp (slice_cmp nat_cmp) x (f k) ≡ b → (finite_set.contains a x || among x (map f (filter new ks))) ≡ (finite_set.contains a x || (b || among x (map f ks)))) [
            | true ↦ λ here. (let in_a : finite_set.contains a x ≡ true = ap (finite_set.contains a) (same_elements x (f k) here) ∙ there k is in grind (arith, in_a))
            | false ↦ λ _. later
          ] refl
    ] refl

less-old : (a : Bits) (f : ℕ → List ℕ) (old : ℕ → Bool) (ks : List ℕ) (x : List ℕ) → ((k : ℕ) → old k ≡ false → finite_set.contains a (f k) ≡ false)
    → (finite_set.contains a x && not (among x (map f (filter old ks)))) ≡ (finite_set.contains a x && not (among x (map f ks)))
less-old a f old [] x absent = refl
less-old a f old (k ∷ ks) x absent =
    elim (old k) as (λ b. old k ≡ b → (finite_set.contains a x && not (among x (map f (cond b (k ∷ filter old ks) (filter old ks))))) ≡ (finite_set.contains a x && not (among x (map f (k ∷ ks))))) [
      | true ↦ λ is. (let later = less-old a f old ks x absent in grind (arith, cases_Bool (eq_by_cmp (slice_cmp nat_cmp) x (f k)), cases_Bool (finite_set.contains a x), later))
      | false ↦ λ is.
          let later = less-old a f old ks x absent in
          elim (eq_by_cmp (slice_cmp nat_cmp) x (f k)) as (λ b. eq_by_cmp (slice_cmp nat_cmp) x (f k) ≡ b → (finite_set.contains a x && not (among x (map f (filter old ks)))) ≡ (finite_set.contains a x && not (b || among x (map f ks)))) [
            | true ↦ λ here. (let out : finite_set.contains a x ≡ false = ap (finite_set.contains a) (same_elements x (f k) here) ∙ absent k is in grind (arith, out))
            | false ↦ λ _. later
          ] refl
    ] refl

module _ (e : ℕ) (s : State) where
  -- a change of notifications alone, told by events that change them alone
  told-notified : (t u : State) (told : List Event) → t ≡ with_notifications s (notifications_of t) → u ≡ with_notifications (view e s) (notifications_of u) → apply_all e (view e s) told ≡ u
      → view e t ≡ u → view e t ≡ apply_all e (view e s) (told ++ public_change s t)
  told-notified t u told only_t only_u by_told new =
      subst (λ x. view e x ≡ apply_all e (view e s) (told ++ public_change s x)) (sym only_t) (
      other-told e s (with_notifications s (notifications_of t)) (with_notifications (view e s) (notifications_of u)) told refl (own-same e s)
      (length-map_at _ s.pages) refl (by_told ∙ only_u) (ap (view e) (sym only_t) ∙ new ∙ only_u))

  pub other-set : is_known s e ≡ true → (its : NotificationBits) → view e (notification_set s its).state
      ≡ apply_all e (view e s) (sets e s its ++ public_change s (notification_set s its).state)
  other-set known its =
      let next = (notification_set s its).state in
      told-notified next (heard e (view e s) next) (sets e s its) refl refl
      (set-applied its.receiver.0 (class_of s.runner) (bits_of its.bitmap) s.pages s.pages s.buffers e s known (its.receiver.0 == e) refl) refl

  module _ (other : s.runner ≢ e) where
    -- who doesn't hear of notices sees no bit that another gets
    ungot : (flags : ℕ) → hears_notices s.ffa e ≡ false → pending_seen e s ≡ finite_set.retain (finite_set.retain s.pending (λ x. not (is_got s.runner flags x))) (sees e s)
    ungot flags deaf = sym (retained-within s.pending (λ x. not (is_got s.runner flags x)) (sees e s) kept_in)
      where
        kept_in : (x : List ℕ) → sees e s x ≡ true → not (is_got s.runner flags x) ≡ true
        kept_in x is =
            let mine : (receiver_of_entry x == e || false) ≡ true = (λ i. receiver_of_entry x == e || (sym deaf i && not (class_of_entry x == partition_class))) ∙ is in
            let away : (receiver_of_entry x == s.runner) ≡ false = ap (λ f. f == s.runner) (eqb-true (receiver_of_entry x) e (either-first (receiver_of_entry x == e) mine)) ∙ ne_eqb e s.runner (λ same. other (sym same)) in
            ap (λ b. not (b && is_set (class_of_entry x) flags)) away

    pub other-get : (receiver context flags : ℕ) → view e (notification_get s receiver context flags).state
        ≡ apply_all e (view e s) (gets e s receiver context flags ++ public_change s (notification_get s receiver context flags).state)
    other-get receiver context flags = told-notified next (heard e (view e s) next) (gets e s receiver context flags) refl refl (by (hears_notices s.ffa e) refl) refl
      where
        next : State
        next = (notification_get s receiver context flags).state

        by : (h : Bool) → hears_notices s.ffa e ≡ h → apply_all e (view e s) (cond h (notice_change e s next) []) ≡ heard e (view e s) next
        by true hears = notice-applied e s next (view e s) refl refl
        by false deaf = λ i. record (view e s) { pending = ungot flags deaf i; notices = none-seen e s s.notices (without_pending (notifications_of s) s.runner flags).notices deaf i }

    -- what nobody else hears of is told to nobody else
    pub other-notices : (is_wide : Bool) → IsTold e s (notification_info_get s is_wide) []
    other-notices is_wide none =
        told-notified (notification_info_get s is_wide).state (view e s) [] refl refl refl
        (λ i. record (view e s) { notices = none-seen e s finite_set.empty s.notices deaf i })
      where
        deaf : hears_notices s.ffa e ≡ false
        deaf =
            let hears = guard-passes (notice_guards s.ffa (length s.parties) (notifications_of s) s.runner) 0 (sym none) in
            other-deaf s.ffa e (ne_eqb 0 e (λ same. other (eqb-true s.runner 0 (hearer-first s.ffa s.runner hears) ∙ same)))

    -- bindings of the runner as receiver, to a sender
    module _ (its : NotificationBits) where
      abbrev to : ℕ
      to = its.sender.0

      abbrev its_bits : List ℕ
      its_bits = bits_of its.bitmap

      abbrev bound_as : ℕ → ℕ → List ℕ
      bound_as g k = binding s.runner (class_of g) k g

      unseen : (g : ℕ) → (g == e) ≡ false → (x : List ℕ) → among x (map (bound_as g) its_bits) ≡ true → bound_to e x ≡ false
      unseen g differs x is = among-each (λ y. bound_to e y ≡ false) (bound_as g) its_bits x (λ k. (let away : (s.runner == e) ≡ false = ne_eqb s.runner e other in λ i. away i || differs i)) is

      seen-own : (x : List ℕ) → among x (map (bound_as e) its_bits) ≡ true → bound_to e x ≡ true
      seen-own x is = among-each (λ y. bound_to e y ≡ true) (bound_as e) its_bits x (λ k. or_right (s.runner == e) (e == e) (eq-eqb e e refl)) is

      -- what is bound to e, e sees
      seen-bound : (k : ℕ) → finite_set.contains (view e s).bound (bound_as e k) ≡ is_bound (notifications_of s) s.runner (class_of e) k e
      seen-bound k = contains-retained s.bound (bound_to e) (bound_as e k) ∙ and_second (finite_set.contains s.bound (bound_as e k)) _ (or_right (s.runner == e) (e == e) (eq-eqb e e refl))

      abbrev is_old : ℕ → Bool
      is_old k = is_bound (notifications_of s) s.runner (class_of e) k e

      -- bits of which those that are new are told at least
      told-bind : (new : ℕ → Bool) → ((k : ℕ) → new k ≡ false → is_old k ≡ true) → view e (notification_bind s its).state
          ≡ apply_all e (view e s) (where_true (to == e) (map (λ k. Bound s.runner (class_of e) k) (filter new its_bits)) ++ public_change s (notification_bind s its).state)
      told-bind new others_old =
          elim (to == e) as (λ b. (to == e) ≡ b → view e (notification_bind s its).state
          ≡ apply_all e (view e s) (where_true b (map (λ k. Bound s.runner (class_of e) k) (filter new its_bits)) ++ public_change s (notification_bind s its).state)) [
            | true ↦ λ mine.
                told-notified (notification_bind s its).state (record (view e s) { bound = finite_set.union (view e s).bound (finite_set.from_list (map (bound_as e) (filter new its_bits))) }) (map (λ k. Bound s.runner (class_of e) k) (filter new its_bits)) refl refl
                (bound-all e s.runner (class_of e) (view e s) (filter new its_bits))
                (λ i. record (view e s) {
                  bound = (ap (λ g. finite_set.retain (finite_set.union s.bound (finite_set.from_list (map (bound_as g) its_bits))) (bound_to e)) (eqb-true to e mine)
                      ∙ seen-more (bound_to e) s.bound (map (bound_as e) its_bits) seen-own
                      ∙ same_bits _ _ (λ x.
                      contains-more (view e s).bound (map (bound_as e) its_bits) x
                      ∙ sym (more-new (view e s).bound (bound_as e) new its_bits x (λ k old. seen-bound k ∙ others_old k old))
                      ∙ sym (contains-more (view e s).bound (map (bound_as e) (filter new its_bits)) x))) i;
                })
            | false ↦ λ differs.
                told-notified (notification_bind s its).state (view e s) [] refl refl refl
                (λ i. record (view e s) { bound = unseen-more (bound_to e) s.bound (map (bound_as to) its_bits) (unseen to differs) i })
          ] refl

      pub other-bind : view e (notification_bind s its).state
          ≡ apply_all e (view e s) (binds e s s.runner to its_bits ++ public_change s (notification_bind s its).state)
      other-bind = told-bind _ (λ k told. grind (arith, told, cases_Bool (is_old k)))

      pub other-unbind : view e (notification_unbind s its).state
          ≡ apply_all e (view e s) (unbinds e s s.runner to its_bits ++ public_change s (notification_unbind s its).state)
      other-unbind =
          elim (to == e) as (λ b. (to == e) ≡ b → view e (notification_unbind s its).state
          ≡ apply_all e (view e s) (where_true b (map (λ k. Unbound s.runner (class_of e) k) (filter is_old its_bits)) ++ public_change s (notification_unbind s its).state)) [
            | true ↦ λ mine.
                told-notified (notification_unbind s its).state (record (view e s) { bound = finite_set.difference (view e s).bound (finite_set.from_list (map (bound_as e) (filter is_old its_bits))) }) (map (λ k. Unbound s.runner (class_of e) k) (filter is_old its_bits)) refl refl
                (unbound-all e s.runner (class_of e) (view e s) (filter is_old its_bits))
                (λ i. record (view e s) {
                  bound = (ap (λ g. finite_set.retain (finite_set.difference s.bound (finite_set.from_list (map (bound_as g) its_bits))) (bound_to e)) (eqb-true to e mine)
                      ∙ seen-less (bound_to e) s.bound (map (bound_as e) its_bits)
                      ∙ same_bits _ _ (λ x.
                      contains-less (view e s).bound (map (bound_as e) its_bits) x
                      ∙ sym (less-old (view e s).bound (bound_as e) is_old its_bits x (λ k new. seen-bound k ∙ new))
                      ∙ sym (contains-less (view e s).bound (map (bound_as e) (filter is_old its_bits)) x))) i;
                })
            | false ↦ λ differs.
                told-notified (notification_unbind s its).state (view e s) [] refl refl refl
                (λ i. record (view e s) { bound = unseen-less (bound_to e) s.bound (map (bound_as to) its_bits) (unseen to differs) i })
          ] refl

    -- bitmaps of the normal world, which runs, are not e's, and e doesn't see them
    first-away : (s.runner == 0) ≡ true → (0 == e) ≡ false
    first-away is = ne_eqb 0 e (λ same. other (eqb-true s.runner 0 is ∙ same))

    bitmaps-away : (has : Bool) → (0 == e) ≡ false → map_at (λ j b. (identifier j == e || hears_notices s.ffa e) && b) (set s.bitmaps 0 has) ≡ (view e s).bitmaps
    bitmaps-away has away =
        map_at-set (λ j b. (identifier j == e || hears_notices s.ffa e) && b) s.bitmaps 0 has
        ∙ ap (set (view e s).bitmaps 0) (ap (λ b. b && has) neither ∙ sym (bitmaps-seen e 0 s ∙ ap (λ b. b && has_bitmaps_in (notifications_of s) 0) neither))
        ∙ set-get_or (view e s).bitmaps 0 false
      where
        neither : (0 == e || hears_notices s.ffa e) ≡ false
        neither = λ i. away i || other-deaf s.ffa e away i

    pub other-create : (endpoint contexts : ℕ) → IsTold e s (bitmap_create s endpoint contexts) []
    other-create endpoint contexts none =
        told-notified (bitmap_create s endpoint contexts).state (view e s) [] refl refl refl
        (λ i. record (view e s) { bitmaps = bitmaps-away true (first-away (guard-passes (create_guards s.ffa (notifications_of s) s.runner endpoint contexts) 0 (sym none))) i })

    -- all bindings of the normal world to e go
    listed-among : (test : ℕ → Bool) (m : ℕ) (g : ℕ → ℕ) (f : ℕ → List ℕ) (k : ℕ) → k < m → test (g k) ≡ true → among (f (g k)) (map f (filter test (listed m g))) ≡ true
    listed-among test zero g f k lt is = absurd (omega arith)
    listed-among test (suc m) g f zero lt is = ap (λ b. among (f (g 0)) (map f (cond b (g 0 ∷ filter test (listed m (λ i. g (suc i)))) (filter test (listed m (λ i. g (suc i))))))) is ∙ or_left _ _ (same-itself (f (g 0)))
    listed-among test (suc m) g f (suc k) lt is =
        let later = listed-among test m (λ i. g (suc i)) f k (omega arith) is in
        elim (test (g 0)) as (λ b. among (f (g (suc k))) (map f (cond b (g 0 ∷ filter test (listed m (λ i. g (suc i)))) (filter test (listed m (λ i. g (suc i)))))) ≡ true) [
          | true ↦ or_right (eq_by_cmp (slice_cmp nat_cmp) (f (g (suc k))) (f (g 0))) _ later
          | false ↦ later
        ]

    abbrev is_left : ℕ → Bool
    is_left k = is_bound (notifications_of s) 0 (class_of e) k e

    abbrev left_entry : ℕ → List ℕ
    left_entry k = binding 0 (class_of e) k e

    abbrev left_bits : List ℕ
    left_bits = filter is_left (listed 64 (λ k. k))

    -- which bindings e sees no more
    destroyed-at : IsSteady s → (0 == e) ≡ false → (x : List ℕ) (b : Bool) → finite_set.contains s.bound x ≡ b
        → (b && (not (receiver_of_entry x == 0) && bound_to e x)) ≡ ((b && bound_to e x) && not (among x (map left_entry left_bits)))
    destroyed-at steady away x false is = refl
    destroyed-at steady away x true is =
        let good = steady.bound x is in
        let at_receiver : receiver_of_entry x ≡ good.receiver = ap receiver_of_entry good.is in
        let at_sender : sender_of_entry x ≡ good.sender = ap sender_of_entry good.is in
        elim (receiver_of_entry x == 0) as (λ b. (receiver_of_entry x == 0) ≡ b → (not b && bound_to e x) ≡ (bound_to e x && not (among x (map left_entry left_bits)))) [
          | true ↦ λ first.
              let is_zero : receiver_of_entry x ≡ 0 = eqb-true (receiver_of_entry x) 0 first in
              let not_e : (receiver_of_entry x == e) ≡ false = ap (λ f. f == e) is_zero ∙ away in
              elim (sender_of_entry x == e) as (λ b. (sender_of_entry x == e) ≡ b → false ≡ ((receiver_of_entry x == e || b) && not (among x (map left_entry left_bits)))) [
                | true ↦ λ its.
                    let from_e : good.sender ≡ e = sym at_sender ∙ eqb-true (sender_of_entry x) e its in
                    let whole : x ≡ left_entry good.bit = good.is ∙ (λ i. binding ((sym at_receiver ∙ is_zero) i) (class_of (from_e i)) good.bit (from_e i)) in
                    let here : among x (map left_entry left_bits) ≡ true =
                    subst (λ y. among y (map left_entry left_bits) ≡ true) (sym whole) (listed-among is_left 64 (λ k. k) left_entry good.bit good.in_word (ap (finite_set.contains s.bound) (sym whole) ∙ is)) in
                    sym (ap (λ b. (receiver_of_entry x == e || true) && not b) here ∙ grind (arith, cases_Bool (receiver_of_entry x == e)))
                | false ↦ λ differs. sym (ap (λ b. (b || false) && not (among x (map left_entry left_bits))) not_e)
              ] refl
          | false ↦ λ later.
              elim (among x (map left_entry left_bits)) as (λ b. among x (map left_entry left_bits) ≡ b → bound_to e x ≡ (bound_to e x && not b)) [
                | true ↦ λ here. absurd (false≢true (sym later ∙ eq-eqb (receiver_of_entry x) 0 (among-each (λ y. receiver_of_entry y ≡ 0) left_entry left_bits x (λ k. refl) here)))
                | false ↦ λ _. grind (arith, cases_Bool (receiver_of_entry x == e), cases_Bool (sender_of_entry x == e))
              ] refl
        ] refl

    pub other-destroy : IsSteady s → (endpoint : ℕ) → IsTold e s (bitmap_destroy s endpoint) (unbinds e s 0 e (listed 64 (λ k. k)))
    other-destroy steady endpoint none =
        subst (λ b. view e (bitmap_destroy s endpoint).state ≡ apply_all e (view e s) (where_true b (map (λ k. Unbound 0 (class_of e) k) left_bits) ++ public_change s (bitmap_destroy s endpoint).state)) (sym (eq-eqb e e refl))
        (told-notified (bitmap_destroy s endpoint).state (record (view e s) { bound = finite_set.difference (view e s).bound (finite_set.from_list (map left_entry left_bits)) }) (map (λ k. Unbound 0 (class_of e) k) left_bits) refl refl
        (unbound-all e 0 (class_of e) (view e s) left_bits)
        (λ i. record (view e s) { bitmaps = bitmaps-away false away i; bound = bound i }))
      where
        away : (0 == e) ≡ false
        away = first-away (guard-passes (destroy_guards (notifications_of s) s.runner endpoint) 0 (sym none))

        bound : finite_set.retain (finite_set.retain s.bound (λ x. not (receiver_of_entry x == 0))) (bound_to e) ≡ finite_set.difference (view e s).bound (finite_set.from_list (map left_entry left_bits))
        bound = same_bits _ _ (λ x.
            retained-both s.bound (λ y. not (receiver_of_entry y == 0)) (bound_to e) x
            ∙ ap (λ c. c && (not (receiver_of_entry x == 0) && bound_to e x)) refl
            ∙ go x (finite_set.contains s.bound x) refl
            ∙ sym (contains-less (view e s).bound (map left_entry left_bits) x ∙ ap (λ b. b && not (among x (map left_entry left_bits))) (contains-retained s.bound (bound_to e) x)))
          where
            go : (x : List ℕ) (b : Bool) → finite_set.contains s.bound x ≡ b → (finite_set.contains s.bound x && (not (receiver_of_entry x == 0) && bound_to e x)) ≡ ((finite_set.contains s.bound x && bound_to e x) && not (among x (map left_entry left_bits)))
            go x b is = (λ i. is i && (not (receiver_of_entry x == 0) && bound_to e x)) ∙ destroyed-at steady away x b is ∙ (λ i. (sym is i && bound_to e x) && not (among x (map left_entry left_bits)))
