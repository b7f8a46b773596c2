-- SPDX-License-Identifier: MIT OR Apache-2.0
-- The value of the stored words, as the methods read and change it through a slice of one of the lists.
use Rattle.std.specs.FinSet as finite_set
use Rattle.std.specs.Prelude.{nat_lt, not, if◌then◌else◌}
use Rattle.std.proofs.Common.{◌≡◌, ◌∙◌, ℕ, ◌+◌, ◌*◌, ◌^◌, ◌<◌, ◌≤◌, Bool, true, false, List, length, get_or, map, replicate, set, refl, sym, ap, subst, arith}
use Rattle.std.specs.List.{refill}
use Rattle.std.specs.Int.{bit_not, w64}
use Rattle.std.specs.Int.RustNames.{bit_or}
use Rattle.std.proofs.lemmas.List.{length-replicate, length-set}
use lib.Bits.{bit_and}
use Rattle.ffa_model.specs.declared.limits.TheConstants.{MOST_ENDPOINTS}
use Rattle.ffa_model.specs.Bits.{bits_of, is_set}
use Rattle.ffa_model.specs.Identifiers.{place}
use Rattle.ffa_model.specs.Notifications.{Notifications, binding, class_of, has_bitmaps_in, is_bound, is_got, is_news, is_pending, notice, receiver_bit, with_bound, with_notice, with_pending, without_bitmaps, without_bound, without_pending}
use Rattle.ffa_model.specs.Notices.{without_notices}
use Rattle.ffa_model.specs.State.{is_known_among}
use Rattle.ffa_model.proofs.Places.{known-place}
use Rattle.ffa_model.proofs.Written.{refill-set, refill-whole}
use Rattle.ffa_notify.specs.Stored.{IsWords, Words, bound_in, is_asked, notices_in, notifications_in, pending_in}
use Rattle.ffa_notify.proofs.NoticeStores.{no-notices, notice-at, notice-more, notices-asked}
use Rattle.ffa_notify.proofs.Stores.{bound-at, bound-emptied, bound-less, bound-more, bound-other_class, pending-asked, pending-at, pending-more}

module _ (w : Words) (are : IsWords w) (v : Notifications) (is : notifications_in w ≡ v) where
  abbrev n : ℕ
  n = length w.has

  known : (e : ℕ) → is_known_among (length v.bitmaps) e ≡ true → is_known_among n e ≡ true
  known e = subst (λ (m : Notifications). is_known_among (length m.bitmaps) e ≡ true) (sym is)

  pub known-here : (e : ℕ) → is_known_among (length v.bitmaps) e ≡ true → place e < n
  known-here e k = known-place n e are.some (known e k)

  pub other-class : (r class k s : ℕ) → (class ≡ class_of s → ⊥) → is_bound v r class k s ≡ false
  other-class r class k s other = (λ t. finite_set.contains (sym is t).bound (binding r class k s)) ∙ bound-other_class n w.bound are.some are.few r class k s other

  module _ (r s : ℕ) (known_r : is_known_among (length v.bitmaps) r ≡ true) (known_s : is_known_among (length v.bitmaps) s ≡ true)
      (ws : List ℕ) (same : ws ≡ w.bound) (i j : ℕ) (at_i : i ≡ place r) (at_j : j ≡ place s) where
    pub bound-within : MOST_ENDPOINTS * i + j < length ws
    bound-within =
        let lt_r = known-here r known_r in
        let lt_s = known-here s known_s in
        let count : length ws ≡ MOST_ENDPOINTS * n = ap length same ∙ are.bound in
        let few : n ≤ MOST_ENDPOINTS = are.few in
        omega arith

    pub bound-read : (k : ℕ) → k < 64 → is_set k (get_or ws (MOST_ENDPOINTS * i + j) 0) ≡ is_bound v r (class_of s) k s
    bound-read k lt =
        (λ t. is_set k (get_or (same t) (MOST_ENDPOINTS * at_i t + at_j t) 0))
        ∙ bound-at n w.bound are.some are.few r s (known r known_r) (known s known_s) k lt
        ∙ (λ t. finite_set.contains (is t).bound (binding r (class_of s) k s))

    pub bound-changed : (bitmap : ℕ) → notifications_in (record w { bound = refill (length w.bound) w.bound (set ws (MOST_ENDPOINTS * i + j) (bit_or (get_or ws (MOST_ENDPOINTS * i + j) 0) bitmap)) }) ≡ with_bound v r s (bits_of bitmap)
    bound-changed bitmap =
        ap (λ words. record (notifications_in w) { bound = bound_in n words })
        (refill-set w.bound ws (MOST_ENDPOINTS * i + j) (MOST_ENDPOINTS * place r + place s) (bit_or (get_or ws (MOST_ENDPOINTS * i + j) 0) bitmap) same (λ t. MOST_ENDPOINTS * at_i t + at_j t)
        ∙ (λ t. set w.bound (MOST_ENDPOINTS * place r + place s) (bit_or (get_or (same t) (MOST_ENDPOINTS * at_i t + at_j t) 0) bitmap)))
        ∙ ap (λ b. record (notifications_in w) { bound = b }) (bound-more n w.bound are.some are.few r s (known r known_r) (known s known_s) are.bound bitmap)
        ∙ (λ t. with_bound (is t) r s (bits_of bitmap))

    pub bound-cleared : (bitmap : ℕ) → bitmap < 2 ^ 64 → notifications_in (record w { bound = refill (length w.bound) w.bound (set ws (MOST_ENDPOINTS * i + j) (bit_and (get_or ws (MOST_ENDPOINTS * i + j) 0) (bit_not w64 bitmap))) }) ≡ without_bound v r s (bits_of bitmap)
    bound-cleared bitmap fits =
        ap (λ words. record (notifications_in w) { bound = bound_in n words })
        (refill-set w.bound ws (MOST_ENDPOINTS * i + j) (MOST_ENDPOINTS * place r + place s) (bit_and (get_or ws (MOST_ENDPOINTS * i + j) 0) (bit_not w64 bitmap)) same (λ t. MOST_ENDPOINTS * at_i t + at_j t)
        ∙ (λ t. set w.bound (MOST_ENDPOINTS * place r + place s) (bit_and (get_or (same t) (MOST_ENDPOINTS * at_i t + at_j t) 0) (bit_not w64 bitmap))))
        ∙ ap (λ b. record (notifications_in w) { bound = b }) (bound-less n w.bound are.some are.few r s (known r known_r) (known s known_s) are.bound bitmap fits)
        ∙ (λ t. without_bound (is t) r s (bits_of bitmap))

  module _ (r class : ℕ) (known_r : is_known_among (length v.bitmaps) r ≡ true) (few : class < 3)
      (ws : List ℕ) (same : ws ≡ w.pending) (i j : ℕ) (at_i : i ≡ place r) (at_j : j ≡ class) where
    pub pending-within : 3 * i + j < length ws
    pending-within =
        let lt_r = known-here r known_r in
        let count : length ws ≡ 3 * n = ap length same ∙ are.pending in
        omega arith

    pub pending-read : (k : ℕ) → k < 64 → is_set k (get_or ws (3 * i + j) 0) ≡ is_pending v r class k
    pending-read k lt =
        (λ t. is_set k (get_or (same t) (3 * at_i t + at_j t) 0))
        ∙ pending-at n w.pending are.some r class (known r known_r) few k lt
        ∙ (λ t. finite_set.contains (is t).pending (receiver_bit r class k))

    pub pending-changed : has_bitmaps_in v r ≡ true → (bitmap : ℕ)
        → notifications_in (record w { pending = refill (length w.pending) w.pending (set ws (3 * i + j) (bit_or (get_or ws (3 * i + j) 0) bitmap)) }) ≡ with_pending v r class (bits_of bitmap)
    pending-changed has bitmap =
        ap (λ words. record (notifications_in w) { pending = pending_in n words })
        (refill-set w.pending ws (3 * i + j) (3 * place r + class) (bit_or (get_or ws (3 * i + j) 0) bitmap) same (λ t. 3 * at_i t + at_j t)
        ∙ (λ t. set w.pending (3 * place r + class) (bit_or (get_or (same t) (3 * at_i t + at_j t) 0) bitmap)))
        ∙ ap (λ b. record (notifications_in w) { pending = b }) (pending-more n w.pending are.some r class (known r known_r) few are.pending bitmap)
        ∙ (λ t. record (is t) { pending = finite_set.union (is t).pending (finite_set.from_list (map (receiver_bit r class) (bits_of bitmap))) })
        ∙ ap (λ b. record v { pending = if b then finite_set.union v.pending (finite_set.from_list (map (receiver_bit r class) (bits_of bitmap))) else v.pending }) (sym has)

  module _ (r class : ℕ) (known_r : is_known_among (length v.bitmaps) r ≡ true) (few : class < 3)
      (ns : List Bool) (alike : ns ≡ w.notices) (i j : ℕ) (at_i : i ≡ place r) (at_j : j ≡ class) where
    pub notice-within : 3 * i + j < length ns
    notice-within =
        let lt_r = known-here r known_r in
        let count : length ns ≡ 3 * n = ap length alike ∙ are.notices in
        omega arith

    pub notice-read : get_or ns (3 * i + j) false ≡ finite_set.contains v.notices (notice r class)
    notice-read =
        (λ t. get_or (alike t) (3 * at_i t + at_j t) false)
        ∙ notice-at n w.notices are.some r class (known r known_r) few
        ∙ (λ t. finite_set.contains (is t).notices (notice r class))

    pub notice-changed : (ks : List ℕ) → is_news v r class ks ≡ true
        → notifications_in (record w { notices = refill (length w.notices) w.notices (set ns (3 * i + j) true) }) ≡ with_notice v r class ks
    notice-changed ks news =
        ap (λ notices. record (notifications_in w) { notices = notices_in n notices }) (refill-set w.notices ns (3 * i + j) (3 * place r + class) true alike (λ t. 3 * at_i t + at_j t))
        ∙ ap (λ b. record (notifications_in w) { notices = b }) (notice-more n w.notices are.some r class (known r known_r) few are.notices)
        ∙ (λ t. record (is t) { notices = finite_set.insert (is t).notices (notice r class) })
        ∙ ap (λ b. record v { notices = if b then finite_set.insert v.notices (notice r class) else v.notices }) (sym news)

  -- who has bitmaps
  module _ (r : ℕ) (known_r : is_known_among (length v.bitmaps) r ≡ true) (hs : List Bool) (same : hs ≡ w.has) (i : ℕ) (at_i : i ≡ place r) where
    pub has-within : i < length hs
    has-within =
        let lt_r = known-here r known_r in
        let count : length hs ≡ n = ap length same in
        omega arith

    pub has-changed : (b : Bool) → notifications_in (record w { has = refill (length w.has) w.has (set hs i b) }) ≡ record v { bitmaps = set v.bitmaps (place r) b }
    has-changed b =
        ap (λ has. notifications_in (record w { has = has })) (refill-set w.has hs i (place r) b same at_i)
        ∙ ap (λ count. record (notifications_in w) { bitmaps = set w.has (place r) b; bound = bound_in count w.bound; pending = pending_in count w.pending; notices = notices_in count w.notices }) (length-set w.has (place r) b)
        ∙ (λ t. record (is t) { bitmaps = set (is t).bitmaps (place r) b })

  -- what goes with the normal world's bitmaps
  pub taken-away : (hs : List Bool) (same : hs ≡ w.has) (bs after : List ℕ) (alike : bs ≡ w.bound) → length after ≡ length bs
      → ((k : ℕ) → get_or after k 0 ≡ (if nat_lt k MOST_ENDPOINTS then 0 else get_or bs k 0))
      → notifications_in (record w { has = refill (length w.has) w.has (set hs 0 false); bound = refill (length w.bound) w.bound after }) ≡ without_bitmaps v 0
  taken-away hs same bs after alike count cleared =
      (λ t. notifications_in (record w { has = refill-set w.has hs 0 0 false same refl t; bound = refill-whole w.bound after (count ∙ ap length alike) t }))
      ∙ ap (λ m. record (notifications_in w) { bitmaps = set w.has 0 false; bound = bound_in m after; pending = pending_in m w.pending; notices = notices_in m w.notices }) (length-set w.has 0 false)
      ∙ ap (λ b. record (notifications_in w) { bitmaps = set w.has 0 false; bound = b })
      (bound-emptied n w.bound after are.few (λ k. cleared k ∙ ap (λ (list : List ℕ). if nat_lt k MOST_ENDPOINTS then 0 else get_or list k 0) alike))
      ∙ (λ t. without_bitmaps (is t) 0)

  module _ (r flags i : ℕ) (known_r : is_known_among (length v.bitmaps) r ≡ true) (at : i ≡ place r) where
    left-pending : (ps after : List ℕ) → ps ≡ w.pending → length after ≡ length ps
        → ((k : ℕ) → get_or after k 0 ≡ (if is_asked (3 * i) 3 flags k then 0 else get_or ps k 0))
        → pending_in n (refill (length w.pending) w.pending after) ≡ finite_set.retain (pending_in n w.pending) (λ x. not (is_got r flags x))
    left-pending ps after alike count cleared =
        ap (pending_in n) (refill-whole w.pending after (count ∙ ap length alike))
        ∙ pending-asked n w.pending after are.some r flags (known r known_r) (λ k. cleared k ∙ (λ t. if is_asked (3 * at t) 3 flags k then 0 else get_or (alike t) k 0))

    left-notices : (ns after : List Bool) → ns ≡ w.notices → length after ≡ length ns
        → ((k : ℕ) → get_or after k false ≡ (if is_asked (3 * i) 3 flags k then false else get_or ns k false))
        → notices_in n (refill (length w.notices) w.notices after) ≡ finite_set.retain (notices_in n w.notices) (λ x. not (is_got r flags x))
    left-notices ns after alike count cleared =
        ap (notices_in n) (refill-whole w.notices after (count ∙ ap length alike))
        ∙ notices-asked n w.notices after are.some r flags (known r known_r) (λ k. cleared k ∙ (λ t. if is_asked (3 * at t) 3 flags k then false else get_or (alike t) k false))

    pub asked-taken : (ps after : List ℕ) → ps ≡ w.pending → length after ≡ length ps
        → ((k : ℕ) → get_or after k 0 ≡ (if is_asked (3 * i) 3 flags k then 0 else get_or ps k 0))
        → (ns left : List Bool) → ns ≡ w.notices → length left ≡ length ns
        → ((k : ℕ) → get_or left k false ≡ (if is_asked (3 * i) 3 flags k then false else get_or ns k false))
        → notifications_in (record w { pending = refill (length w.pending) w.pending after; notices = refill (length w.notices) w.notices left }) ≡ without_pending v r flags
    asked-taken ps after same count cleared ns left alike count_then cleared_then =
        (λ t. record (notifications_in w) { pending = left-pending ps after same count cleared t; notices = left-notices ns left alike count_then cleared_then t })
        ∙ (λ t. without_pending (is t) r flags)

  pub notices-dropped : (ns after : List Bool) → ns ≡ w.notices → after ≡ replicate (length ns) false
      → notifications_in (record w { notices = refill (length w.notices) w.notices after }) ≡ without_notices v
  notices-dropped ns after alike cleared =
      ap (λ list. record (notifications_in w) { notices = notices_in n list })
      (refill-whole w.notices after (ap length cleared ∙ length-replicate (length ns) false ∙ ap length alike) ∙ cleared)
      ∙ ap (λ b. record (notifications_in w) { notices = b }) (no-notices n (length ns))
      ∙ (λ t. without_notices (is t))

pub pending-unchanged : (v : Notifications) (r class bitmap : ℕ) → has_bitmaps_in v r ≡ false → v ≡ with_pending v r class (bits_of bitmap)
pending-unchanged v r class bitmap has =
    ap (λ b. record v { pending = if b then finite_set.union v.pending (finite_set.from_list (map (receiver_bit r class) (bits_of bitmap))) else v.pending }) (sym has)

pub notices-unchanged : (v : Notifications) (r class : ℕ) (ks : List ℕ) → is_news v r class ks ≡ false → v ≡ with_notice v r class ks
notices-unchanged v r class ks news = ap (λ b. record v { notices = if b then finite_set.insert v.notices (notice r class) else v.notices }) (sym news)
