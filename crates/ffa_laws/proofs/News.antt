-- SPDX-License-Identifier: MIT OR Apache-2.0
-- Each event that is told changes the view, but for messages, and for bytes and pending bits that are told again.
use Rattle.std.proofs.Common.{◌≡◌, ◌≢◌, ◌∙◌, ℕ, zero, suc, ◌+◌, ◌≤◌, ◌<◌, inl, inr, Bool, true, false, cond, List, [], ◌∷◌, ◌++◌, map, Option, Some, None, is_some, refl, sym, ap, subst, arith, ◌==◌, ◌&&◌, ◌||◌, filter, is_none, not, slice_index}
use Rattle.byteorder.specs.Endian.{little_bytes}
use Rattle.std.specs.List.{list_all}
use Rattle.std.specs.Option.{option_map}
use Rattle.std.specs.Ordering.{eq_by_cmp, nat_cmp}
use Rattle.std.specs.Cmp.Lexicographic.{nat_list_cmp_total, slice_cmp}
use Rattle.std.specs.FinSet as finite_set
use Rattle.std.proofs.lemmas.Bool.{and_parts, cases_Bool, eq-eqb, false≢true, true≢false, not-true}
use Rattle.std.proofs.lemmas.Option.{none-some, same_Some}
use Rattle.ffa_model.specs.declared.descriptor.RelinquishDesc.{RelinquishDesc}
use Rattle.ffa_model.specs.declared.operation.ErrorCode.{ErrorCode}
use Rattle.ffa_model.specs.declared.operation.FaultKind.{FaultKind}
use Rattle.ffa_model.specs.declared.operation.Op.{Op}
use Rattle.ffa_model.specs.declared.operation.Op.TheVariants.{Call, Store}
use Rattle.ffa_model.specs.declared.rights.Rights.{Rights}
use Rattle.ffa_model.specs.declared.rights.Kind.{Kind}
use Rattle.ffa_model.specs.declared.rights.Kind.TheVariants.{Share, Lend, Donate}
use Rattle.ffa_model.specs.declared.call.Call as calls
use Rattle.ffa_model.specs.declared.call.Call.TheVariants.{MsgWait, Yield, Run, DirectRequest, DirectResponse, MemDonate, MemLend, MemShare, MemRetrieve, MemRelinquish, MemReclaim, BitmapDestroy, NotificationBind, NotificationUnbind, NotificationSet, NotificationGet, MsgSend2}
use Rattle.ffa_model.specs.SendDescriptor.{SendRecord}
use Rattle.ffa_model.specs.State.{State, Transaction, buffers_of, is_known, transaction_of}
use Rattle.ffa_model.specs.Access.{held_by, is_from, is_held_by, is_offered, is_receiver}
use Rattle.ffa_model.specs.Bits.{bits_of, is_set}
use Rattle.ffa_model.specs.Calls.{first_failure}
use Rattle.ffa_model.specs.Lists.{listed}
use Rattle.ffa_model.specs.Memory.{size_of, store_fault}
use Rattle.ffa_model.specs.MemoryRetrieve.{retrieve_read}
use Rattle.ffa_model.specs.MemoryReturn.{memory_relinquish, relinquish_guards, relinquish_read}
use Rattle.ffa_model.specs.MemorySend.{memory_send, send_guards, send_read, transaction_sent}
use Rattle.ffa_model.specs.Messages.{header_in, message_in, msg_send2, tx_bytes}
use Rattle.ffa_model.specs.Notifications.{binding, class_of, is_bound, has_bitmaps_in, manager_class, message_bits, notification_get, notification_set, notifications_of}
use Rattle.ffa_model.specs.Registers.{decode}
use Rattle.ffa_model.specs.Step.{serve, service}
use Rattle.ffa_model.specs.declared.call.Transfer.{Transfer}
use Rattle.ffa_model.specs.Transactions.{next_handle, open_of, scene_of}
use Rattle.ffa_model.proofs.Accesses.{held-itself, released-itself}
use Rattle.ffa_model.proofs.Guards.{guard-passes}
use Rattle.ffa_model.proofs.Sets.{Bits, contains-retained, same-itself, same_elements}
use Rattle.ffa_laws.specs.Steady.{IsSteady}
use Rattle.ffa_laws.specs.View.{involves, kept, seen_by, view}
use Rattle.ffa_laws.specs.Events.{Event, Wrote, Filled, Pending, Bound, Unbound, Opened, Held, Zeroed, Closed, Public, Notices, apply, apply_all, binds, call_events, events, notified, opens, public_change, releases, takes, takes_from, taking, told_by, where_passed, where_true, with_held, with_holder, writes}
use Rattle.ffa_laws.specs.Notices.{notice_part, notices_seen, pending_seen}
use Rattle.ffa_laws.specs.Public.{public_part, same_public}
use Rattle.ffa_laws.specs.Silence.{AreNews, Silence, may_repeat}
use Rattle.ffa_laws.specs.Moves.{by_runner}
use Rattle.ffa_laws.proofs.Bare.{are-bare, public-seen}
use Rattle.ffa_laws.proofs.Changes.{apply_all-append}
use Rattle.ffa_laws.proofs.Closed.{get-remove}
use Rattle.ffa_laws.proofs.Laws.{other-call}
use Rattle.ffa_laws.proofs.Meets.{are-met}
use Rattle.ffa_laws.proofs.Notices.{either-notified, notice-news}
use Rattle.ffa_laws.proofs.Opened.{get-insert}
use Rattle.ffa_laws.proofs.ReadBacks.{by-either, tells-nothing}
use Rattle.ffa_laws.proofs.ReclaimLaws.{seen-whole}
use Rattle.ffa_laws.proofs.Rows.{all-weaker, is_public, passed-row, public-step, row-of, rows, told_row}
use Rattle.ffa_laws.proofs.SendLaws.{fresh, offer}
use Rattle.ffa_laws.proofs.Taken as retrieve
use Rattle.ffa_laws.proofs.Taken.{Taken, taken}
use Rattle.ffa_laws.proofs.Views.{shown, view-transaction}
use Rattle.ffa_laws.proofs.Publics.{told-of}

-- ---- lists of events
pub news-append : (e : ℕ) (v : State) (xs ys : List Event) → AreNews e v xs → AreNews e (apply_all e v xs) ys → AreNews e v (xs ++ ys)
news-append e v [] ys one two = two
news-append e v (x ∷ xs) ys one two = (one.0, news-append e (apply e v x) xs ys one.1 two)

news-where : (e : ℕ) (v : State) (b : Bool) (es : List Event) → (b ≡ true → AreNews e v es) → AreNews e v (where_true b es)
news-where e v true es news = news refl
news-where e v false es news = tt

-- one that may repeat
repeats : (e : ℕ) (v : State) (b : Bool) (event : Event) → may_repeat event ≡ true → AreNews e v (where_true b (event ∷ []))
repeats e v true event may = (λ not _. true≢false (sym may ∙ not), tt)
repeats e v false event may = tt

-- one that changes the view
changes : (e : ℕ) (v : State) (event : Event) → (apply e v event ≡ v → ⊥) → AreNews e v (event ∷ [])
changes e v event differ = (λ _ same. differ same, tt)

some≢none : {X : Type 0} {x : X} → Some x ≡ None → ⊥
some≢none e = cc

-- ---- bits that rise
Rising : ℕ → List ℕ → Type 0
Rising lo [] = Unit {0}
Rising lo (k ∷ ks) = (lo ≤ k) × Rising (suc k) ks

rising-from : (lo n : ℕ) (f : ℕ → ℕ) → ((i : ℕ) → f i ≡ lo + i) → Rising lo (listed n f)
unfolding Rising
rising-from lo zero f is = tt
rising-from lo (suc n) f is =
    let first = is 0 in
    (omega (arith, first), rising-from (suc (f 0)) n (λ i. f (suc i)) (λ i. (let next = is (suc i) in omega (arith, first, next))))

rising-lower : (lo low : ℕ) (ks : List ℕ) → low ≤ lo → Rising lo ks → Rising low ks
unfolding Rising
rising-lower lo low [] le rising = tt
rising-lower lo low (k ∷ ks) le rising = (let at = rising.0 in omega (arith, at), rising.1)

rising-filter : (test : ℕ → Bool) (lo : ℕ) (ks : List ℕ) → Rising lo ks → Rising lo (filter test ks)
unfolding Rising
rising-filter test lo [] rising = tt
rising-filter test lo (k ∷ ks) rising =
    let rest = rising-filter test (suc k) ks rising.1 in
    elim (test k) as (λ b. Rising lo (cond b (k ∷ filter test ks) (filter test ks))) [
      | true ↦ (rising.0, rest)
      | false ↦ (let at = rising.0 in rising-lower (suc k) lo (filter test ks) (omega (arith, at)) rest)
    ]

-- ---- bindings that come and go one by one
module _ (e receiver class : ℕ) where
  abbrev entry : ℕ → List ℕ
  entry k = binding receiver class k e

  apart : (k j : ℕ) → j < k → eq_by_cmp (slice_cmp nat_cmp) (entry k) (entry j) ≡ false
  apart k j lt = elim (cases_Bool (eq_by_cmp (slice_cmp nat_cmp) (entry k) (entry j))) [
    | inl same ↦ (let number : k ≡ j = ap (λ x. slice_index x 2) (same_elements (entry k) (entry j) same) in absurd (omega (arith, number)))
    | inr differ ↦ differ
  ]

  -- each of these bits is in the set, or none is
  Are : Bool → Bits → List ℕ → Type 0
  Are b set [] = Unit {0}
  Are b set (k ∷ ks) = (finite_set.contains set (entry k) ≡ b) × Are b set ks

  are-filter : (b : Bool) (set : Bits) (test : ℕ → Bool) (ks : List ℕ) → ((k : ℕ) → test k ≡ true → finite_set.contains set (entry k) ≡ b) → Are b set (filter test ks)
  unfolding Are
  are-filter b set test [] each = tt
  are-filter b set test (k ∷ ks) each =
      elim (test k) as (λ c. test k ≡ c → Are b set (cond c (k ∷ filter test ks) (filter test ks))) [
        | true ↦ λ is. (each k is, are-filter b set test ks each)
        | false ↦ λ _. are-filter b set test ks each
      ] refl

  are-inserted : (set : Bits) (j lo : ℕ) (ks : List ℕ) → j < lo → Rising lo ks → Are false set ks → Are false (finite_set.insert set (entry j)) ks
  unfolding Are Rising
  are-inserted set j lo [] lt rising all = tt
  are-inserted set j lo (k ∷ ks) lt rising all =
      let at = rising.0 in (
        (finite_set.contains-insert nat_list_cmp_total set (entry j) (entry k) ∙ (λ i. apart k j (omega (arith, at)) i || all.0 i)),
        are-inserted set j (suc k) ks (omega (arith, at)) rising.1 all.1,
      )

  are-removed : (set : Bits) (j lo : ℕ) (ks : List ℕ) → j < lo → Rising lo ks → Are true set ks → Are true (finite_set.remove set (entry j)) ks
  unfolding Are Rising
  are-removed set j lo [] lt rising all = tt
  are-removed set j lo (k ∷ ks) lt rising all =
      let at = rising.0 in (
        (finite_set.contains-remove nat_list_cmp_total set (entry j) (entry k) ∙ (λ i. not (apart k j (omega (arith, at)) i) && all.0 i)),
        are-removed set j (suc k) ks (omega (arith, at)) rising.1 all.1,
      )

  news-bound : (v : State) (lo : ℕ) (ks : List ℕ) → Rising lo ks → Are false v.bound ks → AreNews e v (map (λ k. Bound receiver class k) ks)
  unfolding Are Rising
  news-bound v lo [] rising all = tt
  news-bound v lo (k ∷ ks) rising all = (
    λ _ same. true≢false (sym (finite_set.contains-insert nat_list_cmp_total v.bound (entry k) (entry k) ∙ ap (λ b. b || finite_set.contains v.bound (entry k)) (same-itself (entry k)))
        ∙ ap (λ (w : State). finite_set.contains w.bound (entry k)) same ∙ all.0),
    news-bound (record v { bound = finite_set.insert v.bound (entry k) }) (suc k) ks rising.1 (are-inserted v.bound k (suc k) ks (omega arith) rising.1 all.1),
  )

  news-unbound : (v : State) (lo : ℕ) (ks : List ℕ) → Rising lo ks → Are true v.bound ks → AreNews e v (map (λ k. Unbound receiver class k) ks)
  unfolding Are Rising
  news-unbound v lo [] rising all = tt
  news-unbound v lo (k ∷ ks) rising all = (
    λ _ same. false≢true (sym (finite_set.contains-remove nat_list_cmp_total v.bound (entry k) (entry k) ∙ ap (λ b. not b && finite_set.contains v.bound (entry k)) (same-itself (entry k)))
        ∙ ap (λ (w : State). finite_set.contains w.bound (entry k)) same ∙ all.0),
    news-unbound (record v { bound = finite_set.remove v.bound (entry k) }) (suc k) ks rising.1 (are-removed v.bound k (suc k) ks (omega arith) rising.1 all.1),
  )

-- ---- the public part
public-applied : (e : ℕ) (v : State) (event : Event) → is_public event ≡ false → public_part (apply e v event) ≡ public_part v
public-applied e v (Held h f right) not = elim (transaction_of v h) as (λ o. public_part (with_holder v h f right o) ≡ public_part v) [ None ↦ refl | Some t ↦ refl ]
public-applied e v (Public values) not = absurd (true≢false not)
public-applied e v event not = refl

public-told : (e : ℕ) (es : List Event) (v : State) → list_all (λ event. not (is_public event)) es ≡ true → public_part (apply_all e v es) ≡ public_part v
public-told e [] v all = refl
public-told e (x ∷ es) v all =
    let (here, rest) = and_parts (not (is_public x)) (list_all (λ event. not (is_public event)) es) all in
    public-told e es (apply e v x) rest ∙ public-applied e v x (not-true (is_public x) here)

pub news-public : (e : ℕ) (s next : State) (told : List Event) → list_all (λ event. not (is_public event)) told ≡ true
    → view e next ≡ apply_all e (view e s) (told ++ public_change s next) → AreNews e (apply_all e (view e s) told) (public_change s next)
news-public e s next told private =
    elim (same_public (public_part s) (public_part next))
    as (λ b. view e next ≡ apply_all e (view e s) (told ++ told-of b) → AreNews e (apply_all e (view e s) told) (told-of b)) [
      | inl same ↦ λ _. tt
      | inr differ ↦ λ leads. changes e (apply_all e (view e s) told) (Public (public_part next)) (λ same.
          let old : public_part next ≡ public_part s =
          sym (public-seen e next) ∙ ap public_part leads ∙ ap public_part (apply_all-append e (view e s) told (Public (public_part next) ∷ [])) ∙ ap public_part same
          ∙ public-told e told (view e s) private ∙ public-seen e s in
          differ (sym old))
    ]

-- ---- the calls
-- a write may repeat, so that it is news to whoever is told it
pub news-store : (e : ℕ) (v s : State) (address n : ℕ) (bytes : List ℕ) → AreNews e v (where_passed (store_fault s address n) (writes e s address bytes))
news-store e v s address n bytes = of (store_fault s address n)
  where
    of : (o : Option FaultKind) → AreNews e v (where_passed o (writes e s address bytes))
    of None = repeats e v _ (Wrote address bytes) refl
    of (Some fault) = tt

module _ (e : ℕ) (s : State) (steady : IsSteady s) where
  abbrev v : State
  v = view e s

  there-seen : (h : ℕ) (t : Transaction) → transaction_of s h ≡ Some t → (t.sender == e) ≡ true → transaction_of v h ≡ Some t
  there-seen h t there mine = view-transaction e s h ∙ ap (shown e) there ∙ seen-whole e t mine

  known-seen : (h : ℕ) (t : Transaction) → transaction_of s h ≡ Some t → involves e (Some t) ≡ true → transaction_of v h ≡ Some (seen_by e t)
  known-seen h t there known = view-transaction e s h ∙ ap (shown e) there ∙ ap (λ b. option_map (seen_by e) (kept b (Some t))) known

  -- a transaction that is known, and is closed
  news-closed : (h : ℕ) (t : Transaction) → transaction_of v h ≡ Some t → AreNews e v (Closed h ∷ [])
  news-closed h t there =
      changes e v (Closed h) (λ same. none-some t (sym (get-remove v.transactions h h ∙ ap (λ b. cond b None (transaction_of v h)) (eq-eqb h h refl)) ∙ ap (λ w. transaction_of w h) same ∙ there))

  -- a holder that changes
  news-held : (h f : ℕ) (right : Option Rights) (t : Transaction) → transaction_of v h ≡ Some t → (held_by (with_held t f right) f ≡ held_by t f → ⊥) → AreNews e v (Held h f right ∷ [])
  news-held h f right t there differ =
      changes e v (Held h f right) (λ same. differ (ap (λ u. held_by u f) (same_Some (with_held t f right) t
      (sym (get-insert v.transactions h (with_held t f right) h ∙ ap (λ b. cond b (Some (with_held t f right)) (transaction_of v h)) (eq-eqb h h refl))
      ∙ sym (ap (λ o. transaction_of (with_holder v h f right o) h) there)
      ∙ ap (λ w. transaction_of w h) same ∙ there))))

  news-sent : (kind : Kind) (x : Transfer) → first_failure (memory_send s kind x).guards ≡ None → AreNews e v (opens e s kind (send_read s kind x.total))
  news-sent kind x none = of (send_read s kind x.total) none
    where
      of : (o : Option SendRecord) → first_failure (send_guards s.ffa (scene_of s) s.runner x o) ≡ None → AreNews e v (opens e s kind o)
      of None none = tt
      of (Some r) none =
          let h = next_handle (open_of s) s.runner in
          let t = transaction_sent s kind r in
          news-where e v (is_receiver e t) _ (λ offered. changes e v (Opened h t _) (λ same.
          some≢none (sym (get-insert v.transactions h t h ∙ ap (λ b. cond b (Some t) (transaction_of v h)) (eq-eqb h h refl))
          ∙ ap (λ w. transaction_of w h) same
          ∙ view-transaction e s h ∙ ap (shown e) (fresh s steady kind r (offer s x r none)))))

  news-taken : (x : Transfer) → Taken s x → AreNews e v (takes e s (retrieve_read s x.total))
  news-taken x its =
      subst (AreNews e v) (sym (ap (takes e s) its.read ∙ ap (takes_from e s its.asked) its.is.there))
      (news-where e v (its.of.sender == e) (taking its.of.kind its.asked.handle s.runner (retrieve.right s x its) ∷ []) (λ mine. of its.of.kind (there-seen its.asked.handle its.of its.is.there mine)))
    where
      unheld : (o : Option Rights) → is_none o ≡ true → o ≡ None
      unheld None is = refl
      unheld (Some right) is = absurd (false≢true is)

      held : transaction_of v its.asked.handle ≡ Some its.of → AreNews e v (Held its.asked.handle s.runner (Some (retrieve.right s x its)) ∷ [])
      held there =
          news-held its.asked.handle s.runner (Some (retrieve.right s x its)) its.of there (λ same.
          some≢none (sym (held-itself its.of s.runner (retrieve.right s x its)) ∙ same ∙ unheld (held_by its.of s.runner) its.is.unheld))

      of : (kind : Kind) → transaction_of v its.asked.handle ≡ Some its.of → AreNews e v (taking kind its.asked.handle s.runner (retrieve.right s x its) ∷ [])
      of Donate there = news-closed its.asked.handle its.of there
      of _ there = held there

  news-released : first_failure (memory_relinquish s).guards ≡ None → AreNews e v (releases e s (relinquish_read s))
  news-released none = read (relinquish_read s) none
    where
      of : (d : RelinquishDesc) (o : Option Transaction) → transaction_of s d.handle ≡ o → is_held_by s.runner o ≡ true → AreNews e v (where_true (is_from e o) (Held d.handle s.runner None ∷ []))
      of d None there holds = tt
      of d (Some t) there holds =
          news-where e v (t.sender == e) (Held d.handle s.runner None ∷ []) (λ mine.
          news-held d.handle s.runner None t (there-seen d.handle t there mine) (λ same.
          true≢false (sym holds ∙ ap is_some (sym same ∙ released-itself t s.runner))))

      read : (o : Option RelinquishDesc) → first_failure (relinquish_guards (buffers_of s s.runner) (open_of s) s.runner o) ≡ None → AreNews e v (releases e s o)
      read None none = tt
      read (Some d) none =
          news-append e v (where_true (is_from e (transaction_of s d.handle)) (Held d.handle s.runner None ∷ [])) (where_true _ (Zeroed d.handle ∷ []))
          (of d (transaction_of s d.handle) refl (guard-passes (relinquish_guards (buffers_of s s.runner) (open_of s) s.runner (Some d)) 3 (sym none)))
          (repeats e (apply_all e v (where_true (is_from e (transaction_of s d.handle)) (Held d.handle s.runner None ∷ []))) _ (Zeroed d.handle) refl)

  news-reclaimed : (h : ℕ) → AreNews e v (where_true (is_offered e (transaction_of s h)) (Closed h ∷ []))
  news-reclaimed h = of (transaction_of s h) refl
    where
      knows : (a b : Bool) → b ≡ true → (a || b) ≡ true
      knows true b is = refl
      knows false b is = is

      of : (o : Option Transaction) → transaction_of s h ≡ o → AreNews e v (where_true (is_offered e o) (Closed h ∷ []))
      of None there = tt
      of (Some t) there = news-where e v (is_receiver e t) (Closed h ∷ []) (λ offered. news-closed h (seen_by e t) (known-seen h t there (knows (t.sender == e) (is_receiver e t) offered)))

  -- what is bound to e, e sees
  seen-bound : (receiver k : ℕ) → finite_set.contains v.bound (binding receiver (class_of e) k e) ≡ is_bound (notifications_of s) receiver (class_of e) k e
  seen-bound receiver k =
      contains-retained s.bound (λ x. slice_index x 0 == e || slice_index x 3 == e) (binding receiver (class_of e) k e)
      ∙ both (finite_set.contains s.bound (binding receiver (class_of e) k e)) (receiver == e) (e == e) (eq-eqb e e refl)
    where
      both : (a b c : Bool) → c ≡ true → (a && (b || c)) ≡ a
      both true true c is = refl
      both true false c is = is
      both false b c is = refl

  -- bits of which none is bound to e yet
  news-new : (receiver sender : ℕ) (ks : List ℕ) (new : ℕ → Bool) → ((k : ℕ) → new k ≡ true → is_bound (notifications_of s) receiver (class_of e) k e ≡ false) → Rising 0 ks
      → AreNews e v (where_true (sender == e) (map (λ k. Bound receiver (class_of e) k) (filter new ks)))
  news-new receiver sender ks new unbound rising =
      news-where e v (sender == e) _ (λ mine.
      news-bound e receiver (class_of e) v 0 (filter new ks) (rising-filter new 0 ks rising)
      (are-filter e receiver (class_of e) false v.bound new ks (λ k is. seen-bound receiver k ∙ unbound k is)))

  news-binds : (receiver sender : ℕ) (ks : List ℕ) → Rising 0 ks → AreNews e v (binds e s receiver sender ks)
  news-binds receiver sender ks = news-new receiver sender ks _ (λ k is. not-true (is_bound (notifications_of s) receiver (class_of e) k e) is)

  news-unbinds : (receiver sender : ℕ) (ks : List ℕ) → Rising 0 ks
      → AreNews e v (where_true (sender == e) (map (λ k. Unbound receiver (class_of e) k) (filter (λ k. is_bound (notifications_of s) receiver (class_of e) k e) ks)))
  news-unbinds receiver sender ks rising =
      let old = λ (k : ℕ). is_bound (notifications_of s) receiver (class_of e) k e in
      news-where e v (sender == e) _ (λ mine.
      news-unbound e receiver (class_of e) v 0 (filter old ks) (rising-filter old 0 ks rising)
      (are-filter e receiver (class_of e) true v.bound old ks (λ k is. seen-bound receiver k ∙ is)))

  rising-word : (word : ℕ) → Rising 0 (bits_of word)
  rising-word word = rising-filter (λ k. is_set k word) 0 (listed 64 (λ k. k)) (rising-from 0 64 (λ k. k) (λ i. omega arith))

  -- what is heard of notices is news
  news-notified : (w next : State) (own : List Event) → w.pending ≡ pending_seen e s → w.notices ≡ notices_seen e s → AreNews e w own → AreNews e w (notified e s next own)
  news-notified w next own bits heard news = either-notified (AreNews e w) e s next own tt (λ differ. changes e w (Notices (notice_part e next)) (notice-news e s next w bits heard differ)) news

  -- a message changes none of it
  filled-notices : (mine : Bool) (bytes : List ℕ)
      → ((apply_all e v (where_true mine (Filled bytes ∷ []))).pending ≡ pending_seen e s) × ((apply_all e v (where_true mine (Filled bytes ∷ []))).notices ≡ notices_seen e s)
  filled-notices true bytes = (refl, refl)
  filled-notices false bytes = (refl, refl)

  news-told : (call : calls.Call) → first_failure (service s call).guards ≡ None → AreNews e v (told_by e s call)
  news-told (MsgWait flags) none = repeats e v _ _ refl
  news-told Yield none = repeats e v _ _ refl
  news-told (Run target context) none = repeats e v _ _ refl
  news-told (DirectRequest message) none = repeats e v _ _ refl
  news-told (DirectResponse message) none = repeats e v _ _ refl
  news-told (MemDonate x) none = news-sent Donate x none
  news-told (MemLend x) none = news-sent Lend x none
  news-told (MemShare x) none = news-sent Share x none
  news-told (MemRetrieve x) none =
      by-either s x (λ c. first_failure c.guards ≡ None → AreNews e v (takes e s (retrieve_read s x.total))) (λ passed. news-taken x (taken s x passed))
      (λ back passed. subst (AreNews e v) (sym (tells-nothing e s x back)) tt) none
  news-told MemRelinquish none = news-released none
  news-told (MemReclaim handle flags) none = news-reclaimed handle.0
  news-told (BitmapDestroy endpoint) none = news-unbinds 0 e (listed 64 (λ k. k)) (rising-from 0 64 (λ k. k) (λ i. omega arith))
  news-told (NotificationBind its) none = news-binds s.runner its.sender.0 (bits_of its.bitmap) (rising-word its.bitmap)
  news-told (NotificationUnbind its) none = news-unbinds s.runner its.sender.0 (bits_of its.bitmap) (rising-word its.bitmap)
  news-told (NotificationSet its) none = news-notified v (notification_set s its).state _ refl refl (repeats e v (its.receiver.0 == e) _ refl)
  news-told (NotificationGet receiver context flags) none = news-notified v (notification_get s receiver.0 context flags).state [] refl refl tt
  news-told MsgSend2 none =
      let filling = Filled (message_in (tx_bytes s s.runner)) in
      let pending = Pending manager_class message_bits in
      let mine = (header_in (tx_bytes s s.runner)).receiver == e in
      let (same_bits_seen, same_notices_seen) = filled-notices mine (message_in (tx_bytes s s.runner)) in
      news-append e v (where_true mine (filling ∷ [])) _
      (repeats e v mine filling refl)
      (news-notified (apply_all e v (where_true mine (filling ∷ []))) (msg_send2 s).state _ same_bits_seen same_notices_seen
      (repeats e (apply_all e v (where_true mine (filling ∷ []))) (mine && has_bitmaps_in (notifications_of s) e) pending refl))
  news-told call none = tt

  all-private : (call : calls.Call) → list_all (λ event. not (is_public event)) (told_by e s call) ≡ true
  all-private call = all-weaker (told_row call) (λ event. not (is_public event)) (told_by e s call) (λ event is. (and_parts _ (not (is_public event)) is).1) (row-of e s call)

  news-call : is_known s e ≡ true → s.runner ≢ e → (call : calls.Call) → AreNews e v (call_events e s call)
  news-call known other call =
      let told = where_passed (first_failure (service s call).guards) (told_by e s call) in
      news-append e v told (public_change s (serve s call).state)
      (of (first_failure (service s call).guards) (news-told call))
      (news-public e s (serve s call).state told (passed-row (λ event. not (is_public event)) (first_failure (service s call).guards) (told_by e s call) (all-private call)) (other-call e s steady known other call))
    where
      of : (o : Option ErrorCode) → (o ≡ None → AreNews e v (told_by e s call)) → AreNews e v (where_passed o (told_by e s call))
      of None news = news refl
      of (Some code) news = tt

  news-op : is_known s e ≡ true → s.runner ≢ e → (op : Op) → AreNews e v (events e s op)
  news-op known other (Call x) = news-call known other (decode x)
  news-op known other (Store address size value) = news-store e v s address (size_of size) (little_bytes (size_of size) value)
  news-op known other _ = tt

pub silence : (s : State) (op : Op) → IsSteady s → Silence op (by_runner op) s
silence s op steady =
    record {
      rows = λ e. rows e s op;
      public = public-step s op;
      heard = record {
        news = λ e known other. news-op e s steady known other op;
        meets = λ sound e known other. are-met e s sound known op;
        bare = λ e known other. are-bare e s steady known other op;
      };
    }
