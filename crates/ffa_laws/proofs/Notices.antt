-- SPDX-License-Identifier: MIT OR Apache-2.0
-- What an endpoint hears of notices: events, and the view after them.
use Rattle.std.proofs.Common.{◌≡◌, ◌≢◌, ◌∙◌, ◌⊎◌, inl, inr, ℕ, Bool, true, false, cond, List, [], ◌∷◌, refl, sym, ap, ◌&&◌}
use Rattle.std.specs.Ordering.{nat_cmp}
use Rattle.std.specs.Cmp.Lexicographic.{slice_cmp}
use Rattle.std.specs.FinSet as finite_set
use Rattle.ffa_model.specs.Notices.{hears_notices}
use Rattle.ffa_model.specs.State.{State}
use Rattle.ffa_model.proofs.Sets.{Bits, contains-retained, same_bits}
use Rattle.ffa_laws.proofs.Bitmaps.{retained-within}
use Rattle.ffa_laws.specs.Events.{Event, Notices, apply_all, notice_change, notified}
use Rattle.ffa_laws.specs.Notices.{NoticePart, notice_part, notices_seen, pending_seen, same_notices, sees_bit}

-- which pending bits e sees
abbrev pub sees : ℕ → State → List ℕ → Bool
sees e s = sees_bit (hears_notices s.ffa e) e

-- what is told where the two are not the same
abbrev pub heard-of : {a b : NoticePart} → (a ≡ b) ⊎ (a ≢ b) → List Event
heard-of {b = b} c = elim c [ inl same ↦ [] | inr differ ↦ Notices b ∷ [] ]

-- what holds of no event, of the event that tells of a change, and of e's own events holds of what e is told
pub either-notified : (P : List Event → Type 0) (e : ℕ) (s next : State) (own : List Event) → P []
    → (notice_part e s ≢ notice_part e next → P (Notices (notice_part e next) ∷ [])) → P own → P (notified e s next own)
either-notified P e s next own none told mine = elim (hears_notices s.ffa e) as (λ h. P (cond h (notice_change e s next) own)) [
  | true ↦ elim (same_notices (notice_part e s) (notice_part e next)) as (λ c. P (heard-of c)) [ inl same ↦ none | inr differ ↦ told differ ]
  | false ↦ mine
]

-- a view with what e hears in a state that follows
abbrev pub heard : ℕ → State → State → State
heard e v next = record v { pending = pending_seen e next; notices = notices_seen e next }

pub notice-applied : (e : ℕ) (s next v : State) → v.pending ≡ pending_seen e s → v.notices ≡ notices_seen e s → apply_all e v (notice_change e s next) ≡ heard e v next
notice-applied e s next v pending notices = elim (same_notices (notice_part e s) (notice_part e next)) as (λ c. apply_all e v (heard-of c) ≡ heard e v next) [
  | inl same ↦ λ i. record v { pending = (pending ∙ ap (λ (p : NoticePart). p.pending) same) i; notices = (notices ∙ ap (λ (p : NoticePart). p.notices) same) i }
  | inr differ ↦ refl
]

-- an event that tells of a change changes the view
pub notice-news : (e : ℕ) (s next v : State) → v.pending ≡ pending_seen e s → v.notices ≡ notices_seen e s → notice_part e s ≢ notice_part e next → heard e v next ≡ v → ⊥
notice-news e s next v pending notices differ same =
    differ (λ i. record { pending = sym (ap (λ (w : State). w.pending) same ∙ pending) i; notices = sym (ap (λ (w : State). w.notices) same ∙ notices) i })

-- of nothing nothing is kept
pub retained-empty : (test : List ℕ → Bool) → finite_set.retain (finite_set.empty {R = slice_cmp nat_cmp}) test ≡ finite_set.empty
retained-empty test = same_bits _ _ (λ x.
    contains-retained finite_set.empty test x ∙ ap (λ b. b && test x) (finite_set.contains-empty (slice_cmp nat_cmp) x) ∙ sym (finite_set.contains-empty (slice_cmp nat_cmp) x))

-- who hears of no notices sees none, whatever there are
pub none-seen : (e : ℕ) (s : State) (a b : Bits) → hears_notices s.ffa e ≡ false → cond (hears_notices s.ffa e) a finite_set.empty ≡ cond (hears_notices s.ffa e) b finite_set.empty
none-seen e s a b deaf = (λ i. cond (deaf i) a finite_set.empty) ∙ (λ i. cond (sym deaf i) b finite_set.empty)

-- a test that is made again
pub retained-twice : (a : Bits) (test : List ℕ → Bool) → finite_set.retain (finite_set.retain a test) test ≡ finite_set.retain a test
retained-twice a test = retained-within a test test (λ x is. is)

-- what e hears is what its view then has
pub notice-seen : (e : ℕ) (v next : State) → v.ffa ≡ next.ffa → notice_part e next ≡ notice_part e (heard e v next)
notice-seen e v next same = λ i. record { pending = pending i; notices = notices i }
  where
    pending : pending_seen e next ≡ finite_set.retain (pending_seen e next) (sees_bit (hears_notices v.ffa e) e)
    pending = sym ((λ i. finite_set.retain (pending_seen e next) (sees_bit (hears_notices (same i) e) e)) ∙ retained-twice next.pending (sees e next))

    twice : (h : Bool) → cond h next.notices finite_set.empty ≡ cond h (cond h next.notices finite_set.empty) finite_set.empty
    twice true = refl
    twice false = refl

    notices : notices_seen e next ≡ cond (hears_notices v.ffa e) (notices_seen e next) finite_set.empty
    notices = twice (hears_notices next.ffa e) ∙ (λ i. cond (hears_notices (sym same i) e) (notices_seen e next) finite_set.empty)
