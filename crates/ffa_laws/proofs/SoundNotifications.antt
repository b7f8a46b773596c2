-- SPDX-License-Identifier: MIT OR Apache-2.0
-- Notifications stay sound.
use Rattle.std.proofs.Common.{◌≡◌, ◌≢◌, ◌⊎◌, ◌∙◌, ℕ, zero, suc, ◌<◌, ◌≤◌, Bool, true, false, cond, List, [], ◌∷◌, map, length, set, get_or, None, refl, sym, ap, subst, inl, inr, arith, length-set, ◌==◌, ◌||◌, ◌&&◌, nat_lt, not, slice_index, get_or-set_other}
use Rattle.std.specs.List.{list_all, list_any}
use Rattle.std.specs.Ordering.{eq_by_cmp, nat_cmp}
use Rattle.std.specs.Cmp.Lexicographic.{slice_cmp}
use Rattle.std.specs.FinSet as finite_set
use Rattle.std.proofs.lemmas.Bool.{and_from, and_parts, cases_eq, eq-eqb, eqb-true, false≢true, lt-ltb, ltb-true, ne_eqb, not-true, not_from_false, not_from_true, or_cases, or_left, or_right, true≢false}
use Rattle.ffa_model.specs.declared.call.NotificationBits.{NotificationBits}
use Rattle.ffa_model.specs.Bits.{bits_of, is_set}
use Rattle.ffa_model.specs.Identifiers.{identifier, place}
use Rattle.ffa_model.specs.Lists.{listed}
use Rattle.ffa_model.specs.State.{State}
use Rattle.ffa_model.specs.Calls.{first_failure}
use Rattle.ffa_model.specs.Notifications.{Notifications, bind_guards, binding, class_of_entry, class_of, destroy_guards, has_bitmaps_in, has_pending, is_bindable, is_bound, is_bound_to_another, is_got, is_pending, is_unbindable, manager_class, normal_class, notifications_of, partition_class, receiver_bit, receiver_of_entry, message_bits, sender_of_entry, set_guards, unbind_guards, with_bitmaps, with_bound, with_notifications, with_set, without_bitmaps, without_bound, without_pending}
use Rattle.ffa_model.specs.Notices.{without_notices}
use Rattle.ffa_model.specs.SoundState.{IsKnown, IsSoundBinding, IsSoundPending, IsSoundState}
use Rattle.ffa_model.proofs.Guards.{guard-passes}
use Rattle.ffa_model.proofs.NamedPages.{each-listed}
use Rattle.ffa_model.proofs.Places.{known-named, known-place, same-known}
use Rattle.ffa_model.proofs.Sets.{Bits, among, any-listed, contains-less, contains-more, contains-retained, same_elements}
use Rattle.ffa_laws.proofs.Raised.{raised}
use Rattle.ffa_laws.proofs.SoundKept.{notifications-sound}
use Rattle.ffa_laws.proofs.SoundSteady.{runner-known}

-- ---- lists of bits
-- an entry that is in a list comes from a bit that passes what all its bits pass
among-passed : (test : ℕ → Bool) (f : ℕ → List ℕ) (ks : List ℕ) (x : List ℕ) → list_all test ks ≡ true → among x (map f ks) ≡ true → (k : ℕ) × (test k ≡ true) × (x ≡ f k)
among-passed test f [] x all is = absurd (false≢true is)
among-passed test f (k ∷ ks) x all is =
    let (here, rest) = and_parts (test k) (list_all test ks) all in
    elim (or_cases (eq_by_cmp (slice_cmp nat_cmp) x (f k)) (among x (map f ks)) is) [
      | inl same ↦ (k, here, same_elements x (f k) same)
      | inr later ↦ among-passed test f ks x rest later
    ]

all-both : (a b : ℕ → Bool) (ks : List ℕ) → list_all a ks ≡ true → list_all b ks ≡ true → list_all (λ k. a k && b k) ks ≡ true
all-both a b [] one other = refl
all-both a b (k ∷ ks) one other =
    let (here_a, rest_a) = and_parts (a k) (list_all a ks) one in
    let (here_b, rest_b) = and_parts (b k) (list_all b ks) other in
    and_from (a k && b k) _ (and_from (a k) (b k) here_a here_b) (all-both a b ks rest_a rest_b)

-- a set bit of a word of 64 bits that passes a test
abbrev is_bit : (ℕ → Bool) → ℕ → Bool
is_bit test k = nat_lt k 64 && test k

bits-pass : (test : ℕ → Bool) (word : ℕ) → list_all test (bits_of word) ≡ true → list_all (is_bit test) (bits_of word) ≡ true
bits-pass test word all =
    all-both (λ k. nat_lt k 64) test (bits_of word) (each-listed (λ k. nat_lt k 64) (λ k. is_set k word) 64 (λ k. k) (λ i lt kept. lt-ltb i 64 lt)) all

set-true : (bs : List Bool) (i j : ℕ) → get_or bs j false ≡ true → get_or (set bs i true) j false ≡ true
set-true [] i j is = is
set-true (b ∷ bs) zero zero is = refl
set-true (b ∷ bs) zero (suc j) is = is
set-true (b ∷ bs) (suc i) zero is = is
set-true (b ∷ bs) (suc i) (suc j) is = set-true bs i j is

class-bound : (sender : ℕ) → class_of sender ≤ manager_class
class-bound sender = elim (sender == 0) as (λ b. cond b normal_class partition_class ≤ manager_class) [ true ↦ omega arith | false ↦ omega arith ]

-- a pending bit is found among all bits of all classes
abbrev any_pending : Notifications → ℕ → ℕ → Bool
any_pending n e class = list_any (is_pending n e class) (listed 64 (λ k. k))

pending-found : (n : Notifications) (e class bit : ℕ) → class ≤ manager_class → bit < 64 → is_pending n e class bit ≡ true → has_pending n e ≡ true
pending-found n e class bit of_class in_word is = go class of_class (any-listed (is_pending n e class) 64 (λ k. k) bit in_word is)
  where
    go : (class : ℕ) → class ≤ manager_class → any_pending n e class ≡ true → has_pending n e ≡ true
    go zero le found = or_left (any_pending n e 0) (any_pending n e 1 || (any_pending n e 2 || false)) found
    go (suc zero) le found = or_right (any_pending n e 0) (any_pending n e 1 || (any_pending n e 2 || false)) (or_left (any_pending n e 1) (any_pending n e 2 || false) found)
    go (suc (suc zero)) le found =
        or_right (any_pending n e 0) (any_pending n e 1 || (any_pending n e 2 || false)) (or_right (any_pending n e 1) (any_pending n e 2 || false) (or_left (any_pending n e 2) false found))
    go (suc (suc (suc k))) le found = absurd (omega arith)

module _ (s : State) (sound : IsSoundState s) where
  abbrev n : Notifications
  n = notifications_of s

  -- ---- where bindings stay as they are, and where pending bits do
  same-binding : (m : Notifications) (x : List ℕ) → (good : IsSoundBinding s x) → has_bitmaps_in m good.receiver ≡ true
      → ((f : ℕ) → is_bound m good.receiver (class_of good.sender) good.bit f ≡ true → f ≡ good.sender) → IsSoundBinding (with_notifications s m) x
  same-binding m x good bitmaps alone =
      record { receiver = good.receiver; bit = good.bit; sender = good.sender; is = good.is; to_known = good.to_known; from_known = good.from_known; in_word = good.in_word; bitmaps = bitmaps; alone = alone }

  same-pending : (m : Notifications) (x : List ℕ) → (good : IsSoundPending s x)
      → (good.class < manager_class → (f : ℕ) × (is_bound m good.receiver good.class good.bit f ≡ true)) → IsSoundPending (with_notifications s m) x
  same-pending m x good bound =
      record { receiver = good.receiver; class = good.class; bit = good.bit; is = good.is; to_known = good.to_known; of_class = good.of_class; in_word = good.in_word; bound = bound }

  -- other pending bits, and any notices
  pending-sound : (pending notices : Bits) → ((x : List ℕ) → finite_set.contains pending x ≡ true → IsSoundPending s x) → IsSoundState (with_notifications s (record n { pending = pending; notices = notices }))
  pending-sound pending notices each =
      notifications-sound s sound (record n { pending = pending; notices = notices }) sound.sized.bitmaps
      (λ x is. let good = sound.bound x is in same-binding (record n { pending = pending; notices = notices }) x good good.bitmaps good.alone)
      (λ x is. let good = each x is in same-pending (record n { pending = pending; notices = notices }) x good good.bound)

  -- ---- FFA_NOTIFICATION_BITMAP_CREATE and FFA_NOTIFICATION_BITMAP_DESTROY
  pub create-sound : IsSoundState (with_notifications s (with_bitmaps n 0))
  create-sound =
      notifications-sound s sound (with_bitmaps n 0) (length-set s.bitmaps (place 0) true ∙ sound.sized.bitmaps)
      (λ x is. let good = sound.bound x is in same-binding (with_bitmaps n 0) x good (set-true s.bitmaps (place 0) (place good.receiver) good.bitmaps) good.alone)
      (λ x is. let good = sound.pending x is in same-pending (with_bitmaps n 0) x good good.bound)

  abbrev left : Notifications
  left = without_bitmaps n 0

  left-bound : (x : List ℕ) → finite_set.contains left.bound x ≡ true → (finite_set.contains s.bound x ≡ true) × (not (receiver_of_entry x == 0) ≡ true)
  left-bound x is = and_parts (finite_set.contains s.bound x) (not (receiver_of_entry x == 0)) (sym (contains-retained s.bound (λ y. not (receiver_of_entry y == 0)) x) ∙ is)

  left-bitmaps : (e : ℕ) → IsKnown s e → not (e == 0) ≡ true → has_bitmaps_in n e ≡ true → has_bitmaps_in left e ≡ true
  left-bitmaps e its other has = get_or-set_other s.bitmaps (place 0) (place e) false false apart ∙ has
    where
      apart : place e ≢ place 0
      apart same = true≢false (sym other ∙ not_from_true (e == 0) (eq-eqb e 0 (same-known (length s.parties) e 0 its refl same)))

  pub destroy-sound : (endpoint : ℕ) → first_failure (destroy_guards n s.runner endpoint) ≡ None → IsSoundState (with_notifications s left)
  destroy-sound endpoint none =
      notifications-sound s sound left (length-set s.bitmaps (place 0) false ∙ sound.sized.bitmaps) bound pending
    where
      bound : (x : List ℕ) → finite_set.contains left.bound x ≡ true → IsSoundBinding (with_notifications s left) x
      bound x is =
          let (before, other) = left-bound x is in
          let good = sound.bound x before in
          same-binding left x good (left-bitmaps good.receiver good.to_known (sym (ap (λ y. not (receiver_of_entry y == 0)) good.is) ∙ other) good.bitmaps)
          (λ f its. good.alone f (left-bound (binding good.receiver (class_of good.sender) good.bit f) its).0)

      pending : (x : List ℕ) → finite_set.contains s.pending x ≡ true → IsSoundPending (with_notifications s left) x
      pending x is =
          let good = sound.pending x is in
          same-pending left x good (λ lt.
          let (f, its) = good.bound lt in
          (f, contains-retained s.bound (λ y. not (receiver_of_entry y == 0)) (binding good.receiver good.class good.bit f) ∙ and_from _ _ its (other x is good)))
        where
          other : (x : List ℕ) → finite_set.contains s.pending x ≡ true → (good : IsSoundPending s x) → not (good.receiver == 0) ≡ true
          other x is good = not_from_false (good.receiver == 0) (elim (cases_eq good.receiver 0) [
            | inl first ↦ absurd (true≢false (sym (guard-passes (destroy_guards n s.runner endpoint) 3 (sym none)) ∙ not_from_true (has_pending n 0)
                (pending-found n 0 good.class good.bit good.of_class good.in_word
                (subst (λ e. is_pending n e good.class good.bit ≡ true) first (sym (ap (finite_set.contains s.pending) good.is) ∙ is)))))
            | inr differ ↦ ne_eqb good.receiver 0 differ
          ])

  -- ---- FFA_NOTIFICATION_BIND and FFA_NOTIFICATION_UNBIND
  -- a bit that may be bound is bound to no other sender
  free-alone : (receiver sender bit f : ℕ) → is_bindable (length s.parties) n receiver sender bit ≡ true → is_bound n receiver (class_of sender) bit f ≡ true → f ≡ sender
  free-alone receiver sender bit f free is = elim (cases_eq f sender) [
    | inl same ↦ same
    | inr differ ↦ absurd (true≢false (sym (another differ) ∙ not-true (is_bound_to_another (length s.parties) n receiver (class_of sender) bit sender) (and_parts _ _ free).0))
  ]
    where
      from : IsKnown s f
      from =
          let good = sound.bound (binding receiver (class_of sender) bit f) is in
          subst (IsKnown s) (sym (ap sender_of_entry good.is)) good.from_known

      another : f ≢ sender → is_bound_to_another (length s.parties) n receiver (class_of sender) bit sender ≡ true
      another differ =
          any-listed (λ g. not (g == sender) && is_bound n receiver (class_of sender) bit g) (length s.parties) identifier (place f) (known-place (length s.parties) f sound.sized.some from)
          (subst (λ g. (not (g == sender) && is_bound n receiver (class_of sender) bit g) ≡ true) (sym (known-named (length s.parties) f from))
          (and_from (not (f == sender)) _ (not_from_false (f == sender) (ne_eqb f sender differ)) is))

  module _ (its : NotificationBits) where
    abbrev sender : ℕ
    sender = its.sender.0

    abbrev ks : List ℕ
    ks = bits_of its.bitmap

    abbrev entry : ℕ → List ℕ
    entry k = binding s.runner (class_of sender) k sender

    abbrev may : ℕ → Bool
    may = is_bit (is_bindable (length s.parties) n s.runner sender)

    abbrev more : Notifications
    more = with_bound n s.runner sender ks

    abbrev less : Notifications
    less = without_bound n s.runner sender ks

    pub bind-sound : first_failure (bind_guards (length s.parties) n s.runner its) ≡ None → IsSoundState (with_notifications s more)
    bind-sound none =
        notifications-sound s sound more sound.sized.bitmaps bound
        (λ x is. let good = sound.pending x is in same-pending more x good (λ lt. let (f, its) = good.bound lt in (f, still (binding good.receiver good.class good.bit f) its)))
      where
        all : list_all may ks ≡ true
        all = bits-pass (is_bindable (length s.parties) n s.runner sender) its.bitmap (guard-passes (bind_guards (length s.parties) n s.runner its) 6 (sym none))

        still : (x : List ℕ) → finite_set.contains s.bound x ≡ true → finite_set.contains more.bound x ≡ true
        still x is = contains-more s.bound (map entry ks) x ∙ or_left (finite_set.contains s.bound x) (among x (map entry ks)) is

        cases : (x : List ℕ) → finite_set.contains more.bound x ≡ true → (finite_set.contains s.bound x ≡ true) ⊎ ((k : ℕ) × (may k ≡ true) × (x ≡ entry k))
        cases x is = elim (or_cases (finite_set.contains s.bound x) (among x (map entry ks)) (sym (contains-more s.bound (map entry ks) x) ∙ is)) [
          | inl old ↦ inl old
          | inr new ↦ inr (among-passed may entry ks x all new)
        ]

        new-alone : (k : ℕ) → may k ≡ true → (f : ℕ) → is_bound more s.runner (class_of sender) k f ≡ true → f ≡ sender
        new-alone k passes f is = elim (cases (binding s.runner (class_of sender) k f) is) [
          | inl old ↦ free-alone s.runner sender k f (and_parts (nat_lt k 64) _ passes).1 old
          | inr new ↦ ap sender_of_entry new.2
        ]

        old-alone : (x : List ℕ) → finite_set.contains s.bound x ≡ true → (good : IsSoundBinding s x) → (f : ℕ) → is_bound more good.receiver (class_of good.sender) good.bit f ≡ true → f ≡ good.sender
        old-alone x was good f is = elim (cases (binding good.receiver (class_of good.sender) good.bit f) is) [
          | inl old ↦ good.alone f old
          | inr new ↦ ap sender_of_entry new.2 ∙ sym (free-alone s.runner sender new.0 good.sender (and_parts (nat_lt new.0 64) _ new.1).1
              (sym (λ i. is_bound n (receiver_of_entry (new.2 i)) (class_of_entry (new.2 i)) (slice_index (new.2 i) 2) good.sender) ∙ sym (ap (finite_set.contains s.bound) good.is) ∙ was))
        ]

        bound : (x : List ℕ) → finite_set.contains more.bound x ≡ true → IsSoundBinding (with_notifications s more) x
        bound x is = elim (cases x is) [
          | inl old ↦ (let good = sound.bound x old in same-binding more x good good.bitmaps (old-alone x old good))
          | inr new ↦ record {
            receiver = s.runner;
            bit = new.0;
            sender = sender;
            is = new.2;
            to_known = runner-known s sound;
            from_known = guard-passes (bind_guards (length s.parties) n s.runner its) 1 (sym none);
            in_word = ltb-true new.0 64 (and_parts (nat_lt new.0 64) _ new.1).0;
            bitmaps = guard-passes (bind_guards (length s.parties) n s.runner its) 5 (sym none);
            alone = new-alone new.0 new.1;
          }
        ]

    pub unbind-sound : first_failure (unbind_guards (length s.parties) n s.runner its) ≡ None → IsSoundState (with_notifications s less)
    unbind-sound none = notifications-sound s sound less sound.sized.bitmaps bound pending
      where
        all : list_all (is_unbindable n s.runner sender) ks ≡ true
        all = guard-passes (unbind_guards (length s.parties) n s.runner its) 6 (sym none)

        before : (x : List ℕ) → finite_set.contains less.bound x ≡ true → finite_set.contains s.bound x ≡ true
        before x is = (and_parts (finite_set.contains s.bound x) (not (among x (map entry ks))) (sym (contains-less s.bound (map entry ks) x) ∙ is)).0

        bound : (x : List ℕ) → finite_set.contains less.bound x ≡ true → IsSoundBinding (with_notifications s less) x
        bound x is =
            let good = sound.bound x (before x is) in
            same-binding less x good good.bitmaps (λ f its. good.alone f (before (binding good.receiver (class_of good.sender) good.bit f) its))

        -- a bit that is pending was not unbound
        unlisted : (x : List ℕ) → finite_set.contains s.pending x ≡ true → (good : IsSoundPending s x) → (f : ℕ) → not (among (binding good.receiver good.class good.bit f) (map entry ks)) ≡ true
        unlisted x is good f = of (among (binding good.receiver good.class good.bit f) (map entry ks)) refl
          where
            of : (b : Bool) → among (binding good.receiver good.class good.bit f) (map entry ks) ≡ b → not b ≡ true
            of false listed = refl
            of true listed =
                let (k, passes, same) = among-passed (is_unbindable n s.runner sender) entry ks (binding good.receiver good.class good.bit f) all listed in
                let pends : is_pending n s.runner (class_of sender) k ≡ true = sym (λ i. is_pending n (receiver_of_entry (same i)) (class_of_entry (same i)) (slice_index (same i) 2)) ∙ sym (ap (finite_set.contains s.pending) good.is) ∙ is in
                absurd (true≢false (sym pends ∙ not-true (is_pending n s.runner (class_of sender) k) (and_parts (is_bound n s.runner (class_of sender) k sender) _ passes).1))

        pending : (x : List ℕ) → finite_set.contains s.pending x ≡ true → IsSoundPending (with_notifications s less) x
        pending x is =
            let good = sound.pending x is in
            same-pending less x good (λ lt.
            let (f, its) = good.bound lt in
            (f, contains-less s.bound (map entry ks) (binding good.receiver good.class good.bit f) ∙ and_from _ _ its (unlisted x is good f)))

  -- ---- FFA_NOTIFICATION_SET and the manager's bit
  raised-sound : (f class : ℕ) (ks : List ℕ) → ((x : List ℕ) → among x (map (receiver_bit f class) ks) ≡ true → IsSoundPending s x) → IsSoundState (raised s f class ks)
  raised-sound f class ks each = pending-sound (with_set n f class ks).pending (with_set n f class ks).notices (of (has_bitmaps_in n f))
    where
      of : (b : Bool) (x : List ℕ) → finite_set.contains (cond b (finite_set.union s.pending (finite_set.from_list (map (receiver_bit f class) ks))) s.pending) x ≡ true → IsSoundPending s x
      of true x is = elim (or_cases (finite_set.contains s.pending x) (among x (map (receiver_bit f class) ks)) (sym (contains-more s.pending (map (receiver_bit f class) ks) x) ∙ is)) [
        | inl old ↦ sound.pending x old
        | inr new ↦ each x new
      ]
      of false x is = sound.pending x is

  abbrev bound_to : ℕ → ℕ → Bool
  bound_to f k = is_bound n f (class_of s.runner) k s.runner

  pub set-sound : (its : NotificationBits) → first_failure (set_guards (length s.parties) n s.runner its) ≡ None
      → IsSoundState (with_notifications s (with_set n its.receiver.0 (class_of s.runner) (bits_of its.bitmap)))
  set-sound its none =
      raised-sound its.receiver.0 (class_of s.runner) (bits_of its.bitmap) (λ x is.
      let (k, passes, same) = among-passed (is_bit (bound_to its.receiver.0)) (receiver_bit its.receiver.0 (class_of s.runner)) (bits_of its.bitmap) x all is in
      record {
        receiver = its.receiver.0;
        class = class_of s.runner;
        bit = k;
        is = same;
        to_known = guard-passes (set_guards (length s.parties) n s.runner its) 1 (sym none);
        of_class = class-bound s.runner;
        in_word = ltb-true k 64 (and_parts (nat_lt k 64) _ passes).0;
        bound = λ lt. (s.runner, (and_parts (nat_lt k 64) _ passes).1);
      })
    where
      all : list_all (is_bit (bound_to its.receiver.0)) (bits_of its.bitmap) ≡ true
      all = bits-pass (bound_to its.receiver.0) its.bitmap (guard-passes (set_guards (length s.parties) n s.runner its) 5 (sym none))

  pub framework-sound : (f : ℕ) → IsKnown s f → IsSoundState (with_notifications s (with_set n f manager_class message_bits))
  framework-sound f to = raised-sound f manager_class message_bits (λ x is.
      let (k, passes, same) = among-passed (λ k. k == 0) (receiver_bit f manager_class) message_bits x refl is in
      let first = eqb-true k 0 passes in
      record { receiver = f; class = manager_class; bit = k; is = same; to_known = to; of_class = omega arith; in_word = omega (arith, first); bound = λ lt. absurd (omega arith) })

  -- ---- FFA_NOTIFICATION_INFO_GET
  pub notices-sound : IsSoundState (with_notifications s (without_notices n))
  notices-sound = pending-sound s.pending finite_set.empty (λ x is. sound.pending x is)

  -- ---- FFA_NOTIFICATION_GET
  pub get-sound : (flags : ℕ) → IsSoundState (with_notifications s (without_pending n s.runner flags))
  get-sound flags =
      pending-sound (without_pending n s.runner flags).pending (without_pending n s.runner flags).notices (λ x is.
      sound.pending x (and_parts (finite_set.contains s.pending x) _ (sym (contains-retained s.pending (λ y. not (is_got s.runner flags y)) x) ∙ is)).0)
