-- SPDX-License-Identifier: MIT OR Apache-2.0
-- Bits that are set: what becomes of views.
use Rattle.std.proofs.Common.{◌≡◌, ◌≢◌, ◌∙◌, ℕ, Bool, true, false, cond, List, [], ◌∷◌, length, map, Option, refl, sym, ap, subst, ◌==◌, ◌&&◌, ◌||◌, not, eq-eqb, eqb-true, ne_eqb}
use Rattle.std.specs.List.{list_any}
use Rattle.std.specs.FinSet as finite_set
use Rattle.std.proofs.Math.Path.{fun_ext}
use Rattle.std.proofs.lemmas.Bool.{or_left, or_right, true≢false}
use Rattle.ffa_model.specs.Identifiers.{identifier, place}
use Rattle.ffa_model.specs.State.{State, Page, Buffers, is_known}
use Rattle.ffa_model.specs.RunStates.{schedule_of}
use Rattle.ffa_model.specs.Notices.{hears_notices}
use Rattle.ffa_model.specs.Notifications.{class_of_entry, has_bitmaps_in, notice, notifications_of, partition_class, receiver_bit, receiver_of_entry, with_notifications, with_set}
use Rattle.ffa_laws.specs.Notices.{notices_seen, pending_seen}
use Rattle.ffa_laws.specs.View.{view}
use Rattle.ffa_laws.specs.Events.{Pending, apply_all, notice_change, notified, where_true}
use Rattle.ffa_model.proofs.Places.{known-named}
use Rattle.ffa_laws.proofs.Maps.{at-map_at-from}
use Rattle.ffa_model.proofs.Sets.{Bits, among, contains-retained}
use Rattle.ffa_laws.proofs.Bitmaps.{among-each, seen-more, unseen-more}
use Rattle.ffa_laws.proofs.Changes.{repaged, with_parts}
use Rattle.ffa_laws.proofs.Notices.{heard, none-seen, notice-applied, sees}

false-and : (b : Bool) → (b && false) ≡ false
false-and true = refl
false-and false = refl

pub and_second : (a b : Bool) → b ≡ true → (a && b) ≡ a
and_second true b is = is
and_second false b is = refl

-- who has bitmaps, in a view
pub bitmaps-seen : (e f : ℕ) (s : State) → has_bitmaps_in (notifications_of (view e s)) f ≡ ((identifier (place f) == e || hears_notices s.ffa e) && has_bitmaps_in (notifications_of s) f)
bitmaps-seen e f s = at-map_at-from (λ i has. (identifier i == e || hears_notices s.ffa e) && has) s.bitmaps (place f) false false (λ j. false-and (identifier j == e || hears_notices s.ffa e))

pub own-bitmaps : (e : ℕ) (s : State) → is_known s e ≡ true → has_bitmaps_in (notifications_of (view e s)) e ≡ has_bitmaps_in (notifications_of s) e
own-bitmaps e s known = bitmaps-seen e e s ∙ ap (λ b. (b || hears_notices s.ffa e) && has_bitmaps_in (notifications_of s) e) (eq-eqb (identifier (place e)) e (known-named (length s.parties) e known))

-- who hears of notices sees those of all, and anyone else those of no other
all-bitmaps : (e f : ℕ) (s : State) → hears_notices s.ffa e ≡ true → has_bitmaps_in (notifications_of (view e s)) f ≡ has_bitmaps_in (notifications_of s) f
all-bitmaps e f s hears = bitmaps-seen e f s ∙ ap (λ b. b && has_bitmaps_in (notifications_of s) f) (or_right (identifier (place f) == e) (hears_notices s.ffa e) hears)

no-bitmaps : (e f : ℕ) (s : State) → hears_notices s.ffa e ≡ false → is_known s f ≡ true → f ≢ e → has_bitmaps_in (notifications_of (view e s)) f ≡ false
no-bitmaps e f s deaf known differ =
    bitmaps-seen e f s
    ∙ (λ i. ((known-named (length s.parties) f known i == e) || deaf i) && has_bitmaps_in (notifications_of s) f)
    ∙ ap (λ b. (b || false) && has_bitmaps_in (notifications_of s) f) (ne_eqb f e differ)

-- these bits of f's are set
abbrev pub raised : State → ℕ → ℕ → List ℕ → State
raised s f class ks = with_notifications s (with_set (notifications_of s) f class ks)

module _ (f class : ℕ) (ks : List ℕ) where
  abbrev these : Bits
  these = finite_set.from_list (map (receiver_bit f class) ks)

  abbrev these_if : Bool → Bits → Bits
  these_if has a = cond has (finite_set.union a these) a

  abbrev notice_if : Bool → Bits → Bits
  notice_if news a = cond news (finite_set.insert a (notice f class)) a

  abbrev some_new : Bits → Bool
  some_new a = list_any (λ k. not (finite_set.contains a (receiver_bit f class k))) ks

  its : (x : List ℕ) → among x (map (receiver_bit f class) ks) ≡ true → receiver_of_entry x ≡ f
  its x is = among-each (λ y. receiver_of_entry y ≡ f) (receiver_bit f class) ks x (λ k. refl) is

  its-class : (x : List ℕ) → among x (map (receiver_bit f class) ks) ≡ true → class_of_entry x ≡ class
  its-class x is = among-each (λ y. class_of_entry y ≡ class) (receiver_bit f class) ks x (λ k. refl) is

  -- what is seen where these are all seen, or none is
  seen-if : (seen : List ℕ → Bool) (a : Bits) (has : Bool) → ((x : List ℕ) → among x (map (receiver_bit f class) ks) ≡ true → seen x ≡ true)
      → finite_set.retain (these_if has a) seen ≡ these_if has (finite_set.retain a seen)
  seen-if seen a true all = seen-more seen a (map (receiver_bit f class) ks) all
  seen-if seen a false all = refl

  unseen-if : (seen : List ℕ → Bool) (a : Bits) (has : Bool) → ((x : List ℕ) → among x (map (receiver_bit f class) ks) ≡ true → seen x ≡ false)
      → finite_set.retain (these_if has a) seen ≡ finite_set.retain a seen
  unseen-if seen a true none = unseen-more seen a (map (receiver_bit f class) ks) none
  unseen-if seen a false none = refl

  -- who doesn't hear of notices sees bits of its own alone
  sees-own : (s : State) (x : List ℕ) → among x (map (receiver_bit f class) ks) ≡ true → sees f s x ≡ true
  sees-own s x is = or_left (receiver_of_entry x == f) _ (eq-eqb (receiver_of_entry x) f (its x is))

  sees-no : (e : ℕ) (s : State) → hears_notices s.ffa e ≡ false → f ≢ e → (x : List ℕ) → among x (map (receiver_bit f class) ks) ≡ true → sees e s x ≡ false
  sees-no e s deaf differ x is =
      (λ i. (its x is i == e) || (deaf i && not (class_of_entry x == partition_class))) ∙ ap (λ b. b || false) (ne_eqb f e differ)

  -- who hears of notices sees those that no partition sets
  sees-all : (e : ℕ) (s : State) → hears_notices s.ffa e ≡ true → (class == partition_class) ≡ false → (x : List ℕ) → among x (map (receiver_bit f class) ks) ≡ true → sees e s x ≡ true
  sees-all e s hears another x is =
      or_right (receiver_of_entry x == e) _ ((λ i. hears i && not (its-class x is i == partition_class)) ∙ ap not another)

  new-seen : (e : ℕ) (s : State) → hears_notices s.ffa e ≡ true → (class == partition_class) ≡ false → some_new (pending_seen e s) ≡ some_new s.pending
  new-seen e s hears another = ap (λ test. list_any test ks) (fun_ext (λ k. ap not (
      contains-retained s.pending (sees e s) (receiver_bit f class k)
      ∙ and_second (finite_set.contains s.pending (receiver_bit f class k)) (sees e s (receiver_bit f class k))
      (or_right (f == e) _ ((λ i. hears i && not (class == partition_class)) ∙ ap not another)))))

  abbrev has_its : State → Bool
  has_its s = has_bitmaps_in (notifications_of s) f

  -- an endpoint that sets another's bits does so in its view
  pub raised-seen : (e : ℕ) (s : State) → is_known s f ≡ true → f ≢ e → (hears_notices s.ffa e ≡ true → (class == partition_class) ≡ false)
      → raised (view e s) f class ks ≡ view e (raised s f class ks)
  raised-seen e s known differ another = by (hears_notices s.ffa e) refl
    where
      by : (h : Bool) → hears_notices s.ffa e ≡ h → raised (view e s) f class ks ≡ view e (raised s f class ks)
      by true hears = λ i. record (view e s) { pending = pending i; notices = notices i }
        where
          pending : these_if (has_bitmaps_in (notifications_of (view e s)) f) (pending_seen e s) ≡ finite_set.retain (these_if (has_its s) s.pending) (sees e s)
          pending = ap (λ b. these_if b (pending_seen e s)) (all-bitmaps e f s hears) ∙ sym (seen-if (sees e s) s.pending (has_its s) (sees-all e s hears (another hears)))

          notices : notice_if (has_bitmaps_in (notifications_of (view e s)) f && some_new (pending_seen e s)) (notices_seen e s)
              ≡ cond (hears_notices s.ffa e) (notice_if (has_its s && some_new s.pending) s.notices) finite_set.empty
          notices =
              (λ i. notice_if (all-bitmaps e f s hears i && new-seen e s hears (another hears) i) (cond (hears i) s.notices finite_set.empty))
              ∙ (λ i. cond (sym hears i) (notice_if (has_its s && some_new s.pending) s.notices) finite_set.empty)
      by false deaf = λ i. record (view e s) { pending = pending i; notices = notices i }
        where
          pending : these_if (has_bitmaps_in (notifications_of (view e s)) f) (pending_seen e s) ≡ finite_set.retain (these_if (has_its s) s.pending) (sees e s)
          pending = ap (λ b. these_if b (pending_seen e s)) (no-bitmaps e f s deaf known differ) ∙ sym (unseen-if (sees e s) s.pending (has_its s) (sees-no e s deaf differ))

          notices : notice_if (has_bitmaps_in (notifications_of (view e s)) f && some_new (pending_seen e s)) (notices_seen e s)
              ≡ cond (hears_notices s.ffa e) (notice_if (has_its s && some_new s.pending) s.notices) finite_set.empty
          notices = ap (λ b. notice_if (b && some_new (pending_seen e s)) (notices_seen e s)) (no-bitmaps e f s deaf known differ) ∙ none-seen e s s.notices _ deaf

  -- What is told of bits that are set. It is told to a view that may have the bytes of new pages, and the state that follows may
  -- have other pages and buffers.
  module _ (ps qs : List (Option Page)) (bs : List (Option Buffers)) where
    abbrev after : State → State
    after s = raised (with_parts s qs bs (schedule_of s)) f class ks

    applied-own : (s : State) → is_known s f ≡ true → hears_notices s.ffa f ≡ false → (told : Bool) → (told && has_bitmaps_in (notifications_of s) f) ≡ has_bitmaps_in (notifications_of s) f
        → apply_all f (repaged f s ps) (where_true told (Pending class ks ∷ [])) ≡ heard f (repaged f s ps) (after s)
    applied-own s known deaf true is = λ i. record (repaged f s ps) { pending = pending i; notices = none-seen f s s.notices (after s).notices deaf i }
      where
        pending : these_if (has_bitmaps_in (notifications_of (view f s)) f) (pending_seen f s) ≡ pending_seen f (after s)
        pending = ap (λ b. these_if b (pending_seen f s)) (own-bitmaps f s known) ∙ sym (seen-if (sees f s) s.pending (has_bitmaps_in (notifications_of s) f) (sees-own s))
    applied-own s known deaf false is = λ i. record (repaged f s ps) { pending = pending i; notices = none-seen f s s.notices (after s).notices deaf i }
      where
        pending : pending_seen f s ≡ pending_seen f (after s)
        pending = ap (λ b. finite_set.retain (these_if b s.pending) (sees f s)) is

    applied-other : (e : ℕ) (s : State) → is_known s e ≡ true → hears_notices s.ffa e ≡ false → f ≢ e → (told : Bool) → (told && has_bitmaps_in (notifications_of s) e) ≡ false
        → apply_all e (repaged e s ps) (where_true told (Pending class ks ∷ [])) ≡ heard e (repaged e s ps) (after s)
    applied-other e s known deaf differ told is = of told is
      where
        unseen : pending_seen e s ≡ pending_seen e (after s)
        unseen = sym (unseen-if (sees e s) s.pending (has_bitmaps_in (notifications_of s) f) (sees-no e s deaf differ))

        of : (told : Bool) → (told && has_bitmaps_in (notifications_of s) e) ≡ false → apply_all e (repaged e s ps) (where_true told (Pending class ks ∷ [])) ≡ heard e (repaged e s ps) (after s)
        of true is = λ i. record (repaged e s ps) {
          pending = (ap (λ b. cond b (finite_set.union (pending_seen e s) (finite_set.from_list (map (receiver_bit e class) ks))) (pending_seen e s)) (own-bitmaps e s known ∙ is) ∙ unseen) i;
          notices = none-seen e s s.notices (after s).notices deaf i;
        }
        of false is = λ i. record (repaged e s ps) { pending = unseen i; notices = none-seen e s s.notices (after s).notices deaf i }

    -- what is told of the bits makes a view what it is after them
    pub set-applied : (e : ℕ) (s : State) → is_known s e ≡ true → (told : Bool) → (told && has_bitmaps_in (notifications_of s) e) ≡ ((f == e) && has_bitmaps_in (notifications_of s) e)
        → apply_all e (repaged e s ps) (notified e s (after s) (where_true told (Pending class ks ∷ []))) ≡ heard e (repaged e s ps) (after s)
    set-applied e s known told is = by (hears_notices s.ffa e) refl
      where
        deaf-case : hears_notices s.ffa e ≡ false → (mine : Bool) → (f == e) ≡ mine → (told && has_bitmaps_in (notifications_of s) e) ≡ (mine && has_bitmaps_in (notifications_of s) e)
            → apply_all e (repaged e s ps) (where_true told (Pending class ks ∷ [])) ≡ heard e (repaged e s ps) (after s)
        deaf-case deaf true mine is =
            subst (λ g. is_known s g ≡ true → hears_notices s.ffa g ≡ false → (told && has_bitmaps_in (notifications_of s) g) ≡ has_bitmaps_in (notifications_of s) g
            → apply_all g (repaged g s ps) (where_true told (Pending class ks ∷ [])) ≡ heard g (repaged g s ps) (after s))
            (eqb-true f e mine) (λ known deaf is. applied-own s known deaf told is) known deaf is
        deaf-case deaf false other is = applied-other e s known deaf (λ same. true≢false (sym (eq-eqb f e same) ∙ other)) told is

        by : (h : Bool) → hears_notices s.ffa e ≡ h
            → apply_all e (repaged e s ps) (cond h (notice_change e s (after s)) (where_true told (Pending class ks ∷ []))) ≡ heard e (repaged e s ps) (after s)
        by true hears = notice-applied e s (after s) (repaged e s ps) refl refl
        by false deaf = deaf-case deaf (f == e) refl is
