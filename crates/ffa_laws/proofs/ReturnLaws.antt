-- SPDX-License-Identifier: MIT OR Apache-2.0
-- FFA_MEM_RELINQUISH in the runner's view, and to others; and what memory that is given back leaves of a steady state.
use Rattle.std.proofs.Common.{◌≡◌, ◌≢◌, ◌∙◌, ℕ, Bool, true, false, cond, List, [], ◌∷◌, ◌++◌, Option, Some, None, refl, sym, ap, inl, inr, arith, ◌==◌, ◌||◌, ◌&&◌, is_some, not}
use Rattle.std.specs.FinMap as finite
use Rattle.std.specs.Option.{option_map}
use Rattle.std.proofs.lemmas.Bool.{cases_Bool, cases_eq, false≢true, true≢false}
use Rattle.std.proofs.lemmas.Option.{none-some}
use Rattle.ffa_model.specs.declared.descriptor.RelinquishDesc.{RelinquishDesc}
use Rattle.ffa_model.specs.declared.rights.Rights.{Rights}
use Rattle.ffa_model.specs.declared.transaction.Range.{Range}
use Rattle.ffa_model.specs.Bits.{is_set}
use Rattle.ffa_model.specs.Rights.{is_lend, may_store}
use Rattle.ffa_model.specs.State.{State, Transaction, buffers_of, owner_of, transaction_of}
use Rattle.ffa_model.specs.Access.{handle_at, held_by, is_from, is_naming, is_receiver, names}
use Rattle.ffa_model.specs.Calls.{first_failure}
use Rattle.ffa_model.specs.Memory.{with_pages, zeroed_if, zeroed_page}
use Rattle.ffa_model.specs.MemoryReturn.{holder_guards, memory_reclaim, memory_relinquish, named_ranges, relinquish_guards, relinquish_read, relinquished, relinquished_from, returned_guards}
use Rattle.ffa_model.specs.RelinquishDescriptor.{relinquish_of}
use Rattle.ffa_model.specs.RunStates.{schedule_of}
use Rattle.ffa_model.specs.Transactions.{not_holding, open_of}
use Rattle.ffa_laws.specs.Steady.{IsSteady}
use Rattle.ffa_laws.specs.View.{view, involves, is_near, kept, seen_by}
use Rattle.ffa_laws.specs.Events.{Event, Held, Zeroed, apply_all, public_change, releases, where_true, with_holder}
use Rattle.ffa_model.proofs.Accesses.{length-map_at, named-in, released-beside, released-itself}
use Rattle.ffa_model.proofs.Guards.{guard-passes, invalid, denied}
use Rattle.ffa_model.proofs.Handles.{get-put}
use Rattle.ffa_laws.proofs.Maps.{first_no, first_none, map_at-id}
use Rattle.ffa_laws.proofs.Views.{held-seen, shown, view-transaction, or_true}
use Rattle.ffa_laws.proofs.Form.{IsOwn, same-first}
use Rattle.ffa_laws.proofs.Told.{IsTold}
use Rattle.ffa_laws.proofs.Changes.{AreRewritten, other-told, own-same, unwritten}
use Rattle.ffa_laws.proofs.BufferLaws.{own-buffers}
use Rattle.ffa_laws.proofs.MessageLaws.{tx-seen}
use Rattle.ffa_laws.proofs.Closed.{closed, get-remove, rewritten-zeroed_if}
use Rattle.ffa_laws.proofs.Holders.{reheld, seen-released, seen-unheld, steady-reheld, view-reheld, view-untold}
use Rattle.ffa_laws.proofs.ReclaimLaws.{second-fails, zeroed-far, zeroed_if-seen}
use Rattle.ffa_laws.proofs.Steadies.{steady-changed}
use Rattle.ffa_model.specs.declared.refusal.Refusal.{Refusal}

-- zeros leave a state steady
pub steady-zeroed : (asked : Bool) (s : State) (ranges : List Range) → IsSteady s → IsSteady (zeroed_if asked s ranges)
steady-zeroed asked s ranges steady =
    steady-changed s steady (zeroed_if asked s ranges).pages s.buffers (schedule_of s) (rewritten-zeroed_if asked s ranges) refl steady.runner steady.requesters steady.buffers

-- A CLOSE
module _ (s : State) (steady : IsSteady s) (h : ℕ) where
  -- what is open then was open before
  pub open-before : (k : ℕ) (t : Transaction) → transaction_of (closed s h) k ≡ Some t → transaction_of s k ≡ Some t
  open-before k t is = go (k == h) (sym (get-remove s.transactions h k) ∙ is)
    where
      go : (b : Bool) → cond b None (transaction_of s k) ≡ Some t → transaction_of s k ≡ Some t
      go true none = absurd (none-some t none)
      go false is = is

  named-before : (p k : ℕ) → is_naming s p (transaction_of (closed s h) k) ≡ true → is_naming s p (transaction_of s k) ≡ true
  named-before p k is = go (k == h) (sym (ap (is_naming s p) (get-remove s.transactions h k)) ∙ is)
    where
      go : (b : Bool) → is_naming s p (cond b None (transaction_of s k)) ≡ true → is_naming s p (transaction_of s k) ≡ true
      go true none = absurd (false≢true none)
      go false is = is

  pub unnamed-still : (p : ℕ) → handle_at s p ≡ None → handle_at (closed s h) p ≡ None
  unnamed-still p none =
      first_no (is_naming s p) (closed s h).transactions (λ k. elim (cases_Bool (is_naming s p (transaction_of (closed s h) k))) [
        | inl is ↦ absurd (true≢false (sym (named-before p k is) ∙ first_none (is_naming s p) s.transactions refl none k))
        | inr not ↦ not
      ])

  pub steady-closed : IsSteady (closed s h)
  steady-closed =
      record {
        some = steady.some;
        few = steady.few;
        each = steady.each;
        runner = steady.runner;
        requesters = steady.requesters;
        one = λ p i k at_i at_k. steady.one p i k (named-before p i at_i) (named-before p k at_k);
        transactions = λ k t is. (let good = steady.transactions k t (open-before k t is) in record { owned = good.owned; receiver = good.receiver; within = good.within; alone = good.alone; ceilings = good.ceilings; taker = good.taker });
        sends = steady.sends;
        numbers = λ k t is. steady.numbers k t (open-before k t is);
        buffers = λ e b known is.
            let own = steady.buffers e b known is in
            record {
              tx = λ q its. record { owner = (own.tx q its).owner; unnamed = unnamed-still q (own.tx q its).unnamed };
              rx = λ q its. record { owner = (own.rx q its).owner; unnamed = unnamed-still q (own.rx q its).unnamed };
            };
        bound = steady.bound;
      }

pub steady-reclaim : (s : State) → IsSteady s → (handle flags : ℕ) → IsSteady (memory_reclaim s handle flags).state
steady-reclaim s steady handle flags =
    steady-zeroed (is_set 0 flags) (closed s handle) (named_ranges (transaction_of s handle)) (steady-closed s steady handle)

-- A RELINQUISH
-- who gives up holds nothing, and others what they held
module _ (s : State) (steady : IsSteady s) (h : ℕ) (t : Transaction) (there : transaction_of s h ≡ Some t) (f : ℕ) where
  left : (e : ℕ) (right : Rights) → held_by (not_holding t f) e ≡ Some right → held_by t e ≡ Some right
  left e right is = elim (cases_eq e f) [
    | inl same ↦ absurd (none-some right (sym (ap (held_by (not_holding t f)) same ∙ released-itself t f) ∙ is))
    | inr other ↦ sym (released-beside t f e other) ∙ is
  ]

  steady-released : IsSteady (reheld s h t (finite.remove t.held f))
  steady-released =
      let good = steady.transactions h t there in
      steady-reheld s steady h t there (finite.remove t.held f) (λ e right is. good.receiver e right (left e right is)) (λ p e right named is. good.within p e right named (left e right is))

pub steady-relinquish : (s : State) → IsSteady s → IsSteady (memory_relinquish s).state
steady-relinquish s steady = by_descriptor (relinquish_read s)
  where
    of : (d : RelinquishDesc) (o : Option Transaction) → transaction_of s d.handle ≡ o → IsSteady (relinquished_from s d o)
    of d None there = steady
    of d (Some t) there = steady-zeroed d.zero (reheld s d.handle t (finite.remove t.held s.runner)) t.ranges (steady-released s steady d.handle t there s.runner)

    by_descriptor : (d : Option RelinquishDesc) → IsSteady (relinquished s d)
    by_descriptor None = steady
    by_descriptor (Some d) = of d (transaction_of s d.handle) refl

-- the bytes of pages alone change
pub rewritten-relinquished : (s : State) (d : Option RelinquishDesc) → AreRewritten s.pages (relinquished s d).pages
rewritten-relinquished s None = unwritten s.pages
rewritten-relinquished s (Some d) =
    elim (transaction_of s d.handle) as (λ o. AreRewritten s.pages (relinquished_from s d o).pages) [
      | None ↦ unwritten s.pages
      | Some t ↦ rewritten-zeroed_if d.zero s t.ranges
    ]

-- ---- in the runner's view
unoffered : (a b : Bool) → (a || b) ≡ false → b ≡ false
unoffered true b is = absurd (true≢false is)
unoffered false b is = is

module _ (s : State) (steady : IsSteady s) where
  abbrev r : ℕ
  r = s.runner

  abbrev v : State
  v = view r s

  read-seen : relinquish_read v ≡ relinquish_read s
  read-seen = ap relinquish_of (tx-seen s steady)

  same-holder : (d : RelinquishDesc) (o : Option Transaction) → first_failure (holder_guards r d (shown r o)) ≡ first_failure (holder_guards r d o)
  same-holder d None = refl
  same-holder d (Some t) =
      elim (involves r (Some t)) as (λ b. involves r (Some t) ≡ b → first_failure (holder_guards r d (option_map (seen_by r) (kept b (Some t)))) ≡ first_failure (holder_guards r d (Some t))) [
        | true ↦ λ known.
            (λ i. first_failure (
            (d.endpoint.0 == r, invalid)
            ∷ (is_receiver r t, invalid)
            ∷ (is_some (held-seen r t i), denied)
            ∷ (not d.zero || (is_lend t.kind && may_store (held-seen r t i)), denied)
            ∷ []))
        | false ↦ λ unknown.
            second-fails (d.endpoint.0 == r) false ((false, denied) ∷ (not d.zero || false, denied) ∷ []) refl
            ∙ sym (second-fails (d.endpoint.0 == r) (is_receiver r t) ((is_some (held_by t r), denied) ∷ (not d.zero || (is_lend t.kind && may_store (held_by t r)), denied) ∷ []) (unoffered (t.sender == r) (is_receiver r t) unknown))
      ] refl

  same-guards : (d : Option RelinquishDesc) → first_failure (relinquish_guards (buffers_of s r) (open_of v) r d) ≡ first_failure (relinquish_guards (buffers_of s r) (open_of s) r d)
  same-guards None = refl
  same-guards (Some d) =
      same-first (is_some (buffers_of s r)) invalid (returned_guards (open_of v) r (Some d)) (returned_guards (open_of s) r (Some d))
      (λ mapped. ap (λ o. first_failure (holder_guards r d o)) (view-transaction r s d.handle) ∙ same-holder d (transaction_of s d.handle))

  -- the checks that the call passes
  abbrev guards : RelinquishDesc → Option Transaction → List (Bool × Refusal)
  guards d o = (is_some (buffers_of s r), invalid) ∷ holder_guards r d o

  same-left : (d : RelinquishDesc) (o : Option Transaction) → transaction_of s d.handle ≡ o → first_failure (guards d o) ≡ None
      → relinquished_from v d (transaction_of v d.handle) ≡ view r (relinquished_from s d o)
  same-left d None there none = absurd (false≢true (guard-passes (guards d None) 2 (sym none)))
  same-left d (Some t) there none =
      ap (relinquished_from v d) in_view
      ∙ (λ i. zeroed_if d.zero (sym (view-reheld s steady d.handle t there (finite.remove t.held r) r (not_holding (seen_by r t) r) known (seen-released r r t)) i) t.ranges)
      ∙ zeroed_if-seen r (reheld s d.handle t (finite.remove t.held r)) d.zero t.ranges
    where
      offered : is_receiver r t ≡ true
      offered = guard-passes (guards d (Some t)) 2 (sym none)

      known : involves r (Some t) ≡ true
      known = ap (λ b. (t.sender == r) || b) offered ∙ or_true (t.sender == r)

      in_view : transaction_of v d.handle ≡ Some (seen_by r t)
      in_view = view-transaction r s d.handle ∙ ap (shown r) there ∙ ap (λ b. option_map (seen_by r) (kept b (Some t))) known

  same-state : (d : Option RelinquishDesc) → first_failure (relinquish_guards (buffers_of s r) (open_of s) r d) ≡ None → relinquished v d ≡ view r (relinquished s d)
  same-state None none = absurd (false≢true (guard-passes (relinquish_guards (buffers_of s r) (open_of s) r None) 1 (sym none)))
  same-state (Some d) none = same-left d (transaction_of s d.handle) refl none

  pub own-relinquish : IsOwn s (memory_relinquish v) (memory_relinquish s)
  own-relinquish = (
    (λ i. first_failure (relinquish_guards (own-buffers r s steady.runner i) (open_of v) r (read-seen i))) ∙ same-guards (relinquish_read s),
    λ none. (ap (relinquished v) read-seen ∙ same-state (relinquish_read s) none, refl),
  )

-- ---- to another endpoint
-- the event that pages were zeroed, where they were
zeroed-told : (e h : ℕ) (asked : Bool) (v : State) (ranges : List Range) → named_ranges (transaction_of v h) ≡ ranges
    → apply_all e v (where_true asked (Zeroed h ∷ [])) ≡ zeroed_if asked v ranges
zeroed-told e h true v ranges same = ap (λ (rs : List Range). with_pages v rs zeroed_page) same
zeroed-told e h false v ranges same = refl

-- of a transaction that isn't there none are
untold : (e h : ℕ) (asked : Bool) (v : State) → transaction_of v h ≡ None → apply_all e v (where_true asked (Zeroed h ∷ [])) ≡ v
untold e h true v none = ap (λ o. with_pages v (named_ranges o) zeroed_page) none ∙ (λ i. record v { pages = map_at-id (λ p page. page) v.pages None (λ p. refl) i })
untold e h false v none = refl

both-ways : (a b : Bool) → (a ≡ true → b ≡ true) → (b ≡ true → a ≡ true) → a ≡ b
both-ways true b to from = sym (to refl)
both-ways false true to from = from refl
both-ways false false to from = refl

module _ (e : ℕ) (s : State) (steady : IsSteady s) (other : s.runner ≢ e) (d : RelinquishDesc) (t : Transaction) (there : transaction_of s d.handle ≡ Some t) where
  abbrev h : ℕ
  h = d.handle

  -- the state before pages are zeroed
  abbrev given_up : State
  given_up = reheld s h t (finite.remove t.held s.runner)

  -- the events by what decides of them: whether e sent it, and whether e is told zeros
  abbrev told : Bool → Bool → List Event
  told mine zeros = where_true mine (Held h s.runner None ∷ []) ++ where_true zeros (Zeroed h ∷ [])

  abbrev after : State
  after = zeroed_if d.zero (view e given_up) t.ranges

  ranges-seen : (x : State) (u : Transaction) → transaction_of x h ≡ Some u → involves e (Some u) ≡ true → named_ranges (transaction_of (view e x) h) ≡ u.ranges
  ranges-seen x u is known = ap named_ranges (view-transaction e x h ∙ ap (shown e) is ∙ ap (λ b. option_map (seen_by e) (kept b (Some u))) known)

  -- the sender sees who gives up
  to-sender : (t.sender == e) ≡ true → apply_all e (view e s) (told true d.zero) ≡ after
  to-sender mine =
      (λ i. apply_all e (with_holder (view e s) h s.runner None (in_view i)) (where_true d.zero (Zeroed h ∷ [])))
      ∙ (λ i. apply_all e (sym (view-reheld s steady h t there (finite.remove t.held s.runner) e (not_holding (seen_by e t) s.runner) known (seen-released e s.runner t)) i) (where_true d.zero (Zeroed h ∷ [])))
      ∙ zeroed-told e h d.zero (view e given_up) t.ranges (ranges-seen given_up (not_holding t s.runner) (get-put s.transactions h (not_holding t s.runner)) known)
    where
      known : involves e (Some t) ≡ true
      known = ap (λ b. b || is_receiver e t) mine

      in_view : transaction_of (view e s) h ≡ Some (seen_by e t)
      in_view = view-transaction e s h ∙ ap (shown e) there ∙ ap (λ b. option_map (seen_by e) (kept b (Some t))) known

  module _ (not_sender : (t.sender == e) ≡ false) where
    unheld : view e given_up ≡ view e s
    unheld =
        view-untold s steady h t there (finite.remove t.held s.runner) e
        (seen-unheld e t (finite.remove t.held s.runner) not_sender (released-beside t s.runner e (λ same. other (sym same))))

    -- another receiver sees zeros alone
    to-receiver : involves e (Some t) ≡ true → apply_all e (view e s) (told false d.zero) ≡ after
    to-receiver known = zeroed-told e h d.zero (view e s) t.ranges (ranges-seen s t there known) ∙ sym (ap (λ x. zeroed_if d.zero x t.ranges) unheld)

    far : involves e (Some t) ≡ false → (p : ℕ) → names s t.ranges p ≡ true → is_near e s p ≡ false
    far unknown p named =
        ap (λ o. owner_of s p == e || involves e o) (named-in s p h t (steady.one p) there named)
        ∙ (λ i. ((steady.transactions h t there).owned p named i == e) || unknown i)
        ∙ ap (λ b. b || false) not_sender

    -- and others nothing
    to-nobody : (zeros : Bool) → involves e (Some t) ≡ false → apply_all e (view e s) (told false zeros) ≡ after
    to-nobody zeros unknown =
        untold e h zeros (view e s) (view-transaction e s h ∙ ap (shown e) there ∙ ap (λ b. option_map (seen_by e) (kept b (Some t))) unknown)
        ∙ sym (ap (λ x. zeroed_if d.zero x t.ranges) unheld ∙ zeroed-far e s d.zero t.ranges (far unknown))

  -- e is told zeros where there are some, and it sent the transaction or is offered it
  module _ (zeros : Bool) (asked : zeros ≡ true → d.zero ≡ true) (tells : involves e (Some t) ≡ true → d.zero ≡ true → zeros ≡ true) where
    told-known : involves e (Some t) ≡ true → zeros ≡ d.zero
    told-known known = both-ways zeros d.zero asked (tells known)

    told-given_up : apply_all e (view e s) (told (t.sender == e) zeros) ≡ after
    told-given_up =
        elim (t.sender == e) as (λ b. (t.sender == e) ≡ b → apply_all e (view e s) (told b zeros) ≡ after) [
          | true ↦ λ mine. ap (λ z. apply_all e (view e s) (told true z)) (told-known (λ i. mine i || is_receiver e t)) ∙ to-sender mine
          | false ↦ λ not_sender.
              elim (is_receiver e t) as (λ b. is_receiver e t ≡ b → apply_all e (view e s) (told false zeros) ≡ after) [
                | true ↦ λ offered. ap (λ z. apply_all e (view e s) (told false z)) (told-known (λ i. not_sender i || offered i)) ∙ to-receiver not_sender (λ i. not_sender i || offered i)
                | false ↦ λ unknown. to-nobody not_sender zeros (λ i. not_sender i || unknown i)
              ] refl
        ] refl

    other-left : view e (relinquished_from s d (Some t)) ≡ apply_all e (view e s) (told (t.sender == e) zeros ++ public_change s (relinquished_from s d (Some t)))
    other-left =
        other-told e s (relinquished_from s d (Some t)) after (told (t.sender == e) zeros) refl (own-same e s)
        ((rewritten-zeroed_if d.zero (view e given_up) t.ranges).each ∙ length-map_at (λ p page. kept (is_near e given_up p) page) s.pages)
        refl told-given_up (sym (zeroed_if-seen e given_up d.zero t.ranges))

pub other-relinquish : (e : ℕ) (s : State) → IsSteady s → s.runner ≢ e → IsTold e s (memory_relinquish s) (releases e s (relinquish_read s))
other-relinquish e s steady other = by_descriptor (relinquish_read s)
  where
    of : (d : RelinquishDesc) (o : Option Transaction) → transaction_of s d.handle ≡ o → (zeros : Bool) → (zeros ≡ true → d.zero ≡ true) → (involves e o ≡ true → d.zero ≡ true → zeros ≡ true)
        → first_failure (guards s steady d o) ≡ None
        → view e (relinquished_from s d o)
        ≡ apply_all e (view e s) ((where_true (is_from e o) (Held d.handle s.runner None ∷ []) ++ where_true zeros (Zeroed d.handle ∷ [])) ++ public_change s (relinquished_from s d o))
    of d None there zeros asked tells none = absurd (false≢true (guard-passes (guards s steady d None) 2 (sym none)))
    of d (Some t) there zeros asked tells none = other-left e s steady other d t there zeros asked tells

    by_descriptor : (d : Option RelinquishDesc) → first_failure (relinquish_guards (buffers_of s s.runner) (open_of s) s.runner d) ≡ None
        → view e (relinquished s d) ≡ apply_all e (view e s) (releases e s d ++ public_change s (relinquished s d))
    by_descriptor None none = absurd (false≢true (guard-passes (relinquish_guards (buffers_of s s.runner) (open_of s) s.runner None) 1 (sym none)))
    by_descriptor (Some d) none =
        of d (transaction_of s d.handle) refl _ (λ told. grind (arith, told, cases_Bool d.zero)) (λ known asked. grind (arith, known, asked)) none
