-- SPDX-License-Identifier: MIT OR Apache-2.0
-- FFA_MEM_RECLAIM, in the runner's view, and to others.
use Rattle.std.proofs.Common.{◌≡◌, ◌≢◌, ◌∙◌, ℕ, Bool, true, false, cond, List, [], ◌∷◌, length, Option, Some, None, refl, sym, ap, ◌==◌, ◌||◌, nat_le, not}
use Rattle.std.specs.Option.{option_map}
use Rattle.std.specs.FinMap as finite
use Rattle.std.proofs.lemmas.Bool.{eqb-true, false≢true, ne_eqb}
use Rattle.ffa_model.specs.declared.transaction.Range.{Range}
use Rattle.ffa_model.specs.Bits.{is_set}
use Rattle.ffa_model.specs.State.{State, Transaction, owner_of, page_at, transaction_of}
use Rattle.ffa_model.specs.Access.{is_from, is_offered, is_receiver, names, transaction_at, ownership_of}
use Rattle.ffa_model.specs.Memory.{zeroed_if, zeroed_page}
use Rattle.ffa_model.specs.Calls.{first_failure}
use Rattle.ffa_model.specs.Transactions.{are_writable}
use Rattle.ffa_model.specs.MemoryReturn.{is_unheld, memory_reclaim, named_ranges, reclaim_guards, reclaimed}
use Rattle.ffa_laws.specs.Steady.{IsSteady}
use Rattle.ffa_laws.specs.View.{view, involves, is_near, kept, seen_by}
use Rattle.ffa_model.specs.RunStates.{schedule_of}
use Rattle.ffa_laws.specs.Events.{Closed, apply_all, closes, where_true}
use Rattle.ffa_model.proofs.Guards.{guard-passes, invalid, denied}
use Rattle.ffa_model.proofs.Accesses.{length-map_at}
use Rattle.ffa_laws.proofs.Views.{shown, view-page, view-transaction}
use Rattle.ffa_laws.proofs.Form.{IsOwn}
use Rattle.ffa_laws.proofs.Told.{IsTold}
use Rattle.ffa_laws.proofs.Maps.{map_at-id}
use Rattle.ffa_laws.proofs.Changes.{other-told, own-same, with_public_parts}
use Rattle.ffa_laws.proofs.Closed.{closed, closed-untold, near-closed, other-closed, own-closed, view-zeroed}
use Rattle.ffa_laws.proofs.Ceilings.{writable-seen}
use Rattle.ffa_model.specs.declared.operation.ErrorCode.TheVariants.{InvalidParameters}
use Rattle.ffa_model.specs.declared.refusal.Refusal.{Refusal}

-- the sender sees its transaction whole
pub seen-whole : (e : ℕ) (t : Transaction) → (t.sender == e) ≡ true → shown e (Some t) ≡ Some t
seen-whole e t mine =
    ap (λ b. option_map (seen_by e) (kept (b || is_receiver e t) (Some t))) mine
    ∙ (λ i. Some (record t { held = cond (mine i) t.held (finite.retain_keys t.held (λ f. f == e)) }))

pub from-seen : (e : ℕ) (t : Transaction) → (t.sender == e) ≡ false → is_from e (shown e (Some t)) ≡ false
from-seen e t other =
    ap (λ b. is_from e (option_map (seen_by e) (kept (b || is_receiver e t) (Some t)))) other
    ∙ elim (is_receiver e t) as (λ b. is_from e (option_map (seen_by e) (kept b (Some t))) ≡ false) [ true ↦ other | false ↦ refl ]

pub second-fails : (a b : Bool) (guards : List (Bool × Refusal)) → b ≡ false → first_failure ((a, invalid) ∷ (b, invalid) ∷ guards) ≡ Some InvalidParameters
second-fails true false guards is = refl
second-fails false b guards is = refl
second-fails true true guards is = absurd (false≢true (sym is))

pub zeroed_if-seen : (e : ℕ) (s : State) (asked : Bool) (ranges : List Range) → zeroed_if asked (view e s) ranges ≡ view e (zeroed_if asked s ranges)
zeroed_if-seen e s true ranges = sym (view-zeroed e s ranges)
zeroed_if-seen e s false ranges = refl

module _ (s : State) (steady : IsSteady s) (h flags : ℕ) where
  abbrev v : State
  v = view s.runner s

  same-failure : (o : Option Transaction) → transaction_of s h ≡ o
      → first_failure (reclaim_guards (ownership_of v) s.runner flags (shown s.runner o)) ≡ first_failure (reclaim_guards (ownership_of s) s.runner flags o)
  same-failure None there = refl
  same-failure (Some t) there =
      elim (t.sender == s.runner) as (λ b. (t.sender == s.runner) ≡ b → first_failure (reclaim_guards (ownership_of v) s.runner flags (shown s.runner (Some t))) ≡ first_failure (reclaim_guards (ownership_of s) s.runner flags (Some t))) [
        | true ↦ λ mine.
            let known : involves s.runner (Some t) ≡ true = ap (λ b. b || is_receiver s.runner t) mine in
            ap (λ o. first_failure (reclaim_guards (ownership_of v) s.runner flags o)) (seen-whole s.runner t mine)
            ∙ (λ i. first_failure (
            (nat_le flags 1, invalid)
            ∷ (is_from s.runner (Some t), invalid)
            ∷ (is_unheld (Some t), denied)
            ∷ (not (is_set 0 flags) || writable-seen s.runner s steady h t there known i, denied)
            ∷ []))
        | false ↦ λ other.
            second-fails (nat_le flags 1) (is_from s.runner (shown s.runner (Some t))) ((is_unheld (shown s.runner (Some t)), denied) ∷ (not (is_set 0 flags) || are_writable (ownership_of v) (named_ranges (shown s.runner (Some t))), denied) ∷ []) (from-seen s.runner t other)
            ∙ sym (second-fails (nat_le flags 1) (is_from s.runner (Some t)) ((is_unheld (Some t), denied) ∷ (not (is_set 0 flags) || are_writable (ownership_of s) t.ranges, denied) ∷ []) other)
      ] refl

  same-state : (o : Option Transaction) → transaction_of s h ≡ o → first_failure (reclaim_guards (ownership_of s) s.runner flags o) ≡ None → (zero : Bool)
      → reclaimed v h zero ≡ view s.runner (reclaimed s h zero)
  same-state None there none zero = absurd (false≢true (guard-passes (reclaim_guards (ownership_of s) s.runner flags None) 1 (sym none)))
  same-state (Some t) there none zero =
      let mine : (t.sender == s.runner) ≡ true = guard-passes (reclaim_guards (ownership_of s) s.runner flags (Some t)) 1 (sym none) in
      let in_view : transaction_of v h ≡ Some t = view-transaction s.runner s h ∙ ap (shown s.runner) there ∙ seen-whole s.runner t mine in
      (λ i. zeroed_if zero (own-closed s steady h t there s.runner (eqb-true t.sender s.runner mine) i) (named_ranges (in_view i)))
      ∙ zeroed_if-seen s.runner (closed s h) zero t.ranges
      ∙ (λ i. view s.runner (zeroed_if zero (closed s h) (named_ranges (sym there i))))

pub own-reclaim : (s : State) → IsSteady s → (handle flags : ℕ) → IsOwn s (memory_reclaim (view s.runner s) handle flags) (memory_reclaim s handle flags)
own-reclaim s steady handle flags = (
  ap (λ o. first_failure (reclaim_guards (ownership_of (view s.runner s)) s.runner flags o)) (view-transaction s.runner s handle)
      ∙ same-failure s steady handle flags (transaction_of s handle) refl,
  λ none. (same-state s steady handle flags (transaction_of s handle) refl none (is_set 0 flags), refl),
)

-- ---- to another endpoint
-- pages that aren't near are no page of the view, and zeros change none
pub zeroed-far : (e : ℕ) (s : State) (asked : Bool) (ranges : List Range) → ((p : ℕ) → names s ranges p ≡ true → is_near e s p ≡ false) → zeroed_if asked (view e s) ranges ≡ view e s
zeroed-far e s false ranges far = refl
zeroed-far e s true ranges far =
    λ i. record (view e s) { pages = map_at-id (λ p page. cond (names s ranges p) (zeroed_page page) page) (view e s).pages None (λ p. at p (names s ranges p) refl) i }
  where
    at : (p : ℕ) (b : Bool) → names s ranges p ≡ b → cond b (zeroed_page (page_at (view e s) p)) (page_at (view e s) p) ≡ page_at (view e s) p
    at p false named = refl
    at p true named =
        let none : page_at (view e s) p ≡ None = view-page e s p ∙ ap (λ b. kept b (page_at s p)) (far p named) in
        ap zeroed_page none ∙ sym none

module _ (e : ℕ) (s : State) (steady : IsSteady s) (other : s.runner ≢ e) (h flags : ℕ) where
  told-closed : (o : Option Transaction) → transaction_of s h ≡ o → first_failure (reclaim_guards (ownership_of s) s.runner flags o) ≡ None → (asked : Bool)
      → view e (zeroed_if asked (closed s h) (named_ranges o)) ≡ apply_all e (view e s) (where_true (is_offered e o) (Closed h ∷ []))
  told-closed None there none asked = absurd (false≢true (guard-passes (reclaim_guards (ownership_of s) s.runner flags None) 1 (sym none)))
  told-closed (Some t) there none asked =
      sym (zeroed_if-seen e (closed s h) asked t.ranges)
      ∙ zeroed-far e (closed s h) asked t.ranges (λ p named. far p named)
      ∙ elim (is_receiver e t) as (λ b. is_receiver e t ≡ b → view e (closed s h) ≡ apply_all e (view e s) (where_true b (Closed h ∷ []))) [
        | true ↦ λ offered. other-closed s steady h t there e not_sender offered
        | false ↦ λ unknown. closed-untold s steady h t there e (λ i. not_sender i || unknown i)
      ] refl
    where
      sender : (t.sender == s.runner) ≡ true
      sender = guard-passes (reclaim_guards (ownership_of s) s.runner flags (Some t)) 1 (sym none)

      not_sender : (t.sender == e) ≡ false
      not_sender = ap (λ f. f == e) (eqb-true t.sender s.runner sender) ∙ ne_eqb s.runner e other

      far : (p : ℕ) → names s t.ranges p ≡ true → is_near e (closed s h) p ≡ false
      far p named =
          near-closed s steady h t there e p
          ∙ ap (λ b. owner_of s p == e || cond b false (involves e (transaction_at s p))) named
          ∙ ap (λ o. (o == e) || false) ((steady.transactions h t there).owned p named)
          ∙ ap (λ b. b || false) not_sender

pub other-reclaim : (e : ℕ) (s : State) → IsSteady s → s.runner ≢ e → (handle flags : ℕ) → IsTold e s (memory_reclaim s handle flags) (closes e s handle)
other-reclaim e s steady other handle flags none =
    other-told e s (memory_reclaim s handle flags).state (apply_all e (view e s) (closes e s h)) (closes e s h) refl (own-same e s)
    (size (is_offered e (transaction_of s h))) (old (is_offered e (transaction_of s h))) refl
    (told-closed e s steady other h flags (transaction_of s h) refl none (is_set 0 flags) ∙ old (is_offered e (transaction_of s h)))
  where
    h : ℕ
    h = handle

    size : (b : Bool) → length (apply_all e (view e s) (where_true b (Closed h ∷ []))).pages ≡ length s.pages
    size true = length-map_at _ (view e s).pages ∙ length-map_at _ s.pages
    size false = length-map_at _ s.pages

    old : (b : Bool) → apply_all e (view e s) (where_true b (Closed h ∷ [])) ≡ with_public_parts (apply_all e (view e s) (where_true b (Closed h ∷ []))) (schedule_of s) (view e s).buffers
    old true = refl
    old false = refl
