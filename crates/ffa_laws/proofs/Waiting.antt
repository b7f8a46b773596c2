-- SPDX-License-Identifier: MIT OR Apache-2.0
-- A transaction that isn't retrieved: the bytes of its pages make no difference to who it is offered to.
use Rattle.std.proofs.Common.{◌+◌, ◌*◌, ◌≡◌, ◌≢◌, ◌∙◌, ℕ, Bool, true, false, cond, List, [], ◌∷◌, ◌++◌, map, Option, Some, None, is_some, refl, sym, ap, inl, inr, ◌==◌, is_none}
use Rattle.std.specs.Option.{option_and_then}
use Rattle.std.proofs.lemmas.Bool.{eq-eqb, eqb-true, false≢true, ne_eqb, true≢false}
use Rattle.std.proofs.lemmas.Option.{none-some}
use Rattle.ffa_model.specs.declared.operation.Op.{Op}
use Rattle.ffa_model.specs.declared.rights.Rights.{Rights}
use Rattle.ffa_model.specs.State.{State, Transaction, buffers_of, page_at, transaction_of}
use Rattle.ffa_model.specs.Access.{covers, held_by, is_held_by, is_naming, is_offered, is_receiver, names, right_of}
use Rattle.ffa_model.specs.MemorySend.{transaction_sent}
use Rattle.ffa_model.specs.Step.{step}
use Rattle.ffa_model.specs.Transactions.{next_handle, open_of}
use Rattle.ffa_model.proofs.Accesses.{named-in}
use Rattle.ffa_laws.specs.Steady.{IsSteady}
use Rattle.ffa_laws.specs.Events.{events, messages}
use Rattle.ffa_laws.specs.OwnAccess.{AreApart}
use Rattle.ffa_laws.specs.Readable.{Did, Heard, all_readably, blank, is_unreadable, revealed}
use Rattle.ffa_laws.specs.Loans.{IsSealed, IsWaiting, OfferSaysNothing, SaysNothing, is_page_of}
use Rattle.ffa_laws.proofs.Apart.{stays_apart}
use Rattle.ffa_laws.proofs.Kept.{base-step}
use Rattle.ffa_laws.proofs.Laws.{steady-step}
use Rattle.ffa_laws.proofs.Maps.{first_none}
use Rattle.ffa_laws.proofs.Opened.{get-insert}
use Rattle.ffa_laws.proofs.Origins.{Comes, IsOpened, comes}
use Rattle.ffa_laws.proofs.OwnAccesses.{ownerless, strangers}
use Rattle.ffa_laws.proofs.SendLaws.{alone, fresh}
use Rattle.ffa_laws.proofs.Tellings.{ShowsTx, same-messages, same-next, same-outcome, same-readable, same-revealed, same-runner, same-told}

-- ---- a transaction that waits
waits-now : (e h : ℕ) (s : State) (ops : List Op) → IsSealed e h s ops → IsWaiting e h s
waits-now e h s [] sealed = sealed
waits-now e h s (op ∷ ops) sealed = sealed.0

record Open (s : State) (h : ℕ) : Type 0 where
  pub t : Transaction
  pub there : transaction_of s h ≡ Some t

module _ (e h : ℕ) (s : State) (waiting : IsWaiting e h s) where
  open-now : Open s h
  open-now = of (transaction_of s h) refl waiting.offered
    where
      of : (o : Option Transaction) → transaction_of s h ≡ o → is_offered e o ≡ true → Open s h
      of None there offered = absurd (false≢true offered)
      of (Some t) there offered = record { t = t; there = there }

  -- its pages can't be read by who it is offered to
  waits-away : IsSteady s → AreApart s → (p : ℕ) → is_page_of s h p ≡ true → is_unreadable s e p ≡ true
  waits-away steady apart p named =
      let t = open-now.t in
      let there = open-now.there in
      ap is_none (ap (right_of e (page_at s p)) (named-in s p h t (λ k j at_k at_j. steady.one p k j at_k at_j) there (sym (ap (is_naming s p) there) ∙ named))
      ∙ strangers e (page_at s p) t (none (held_by t e) (sym (ap (is_held_by e) there) ∙ waiting.unheld)) (ne_eqb t.sender e (other t there)))
    where
      none : (o : Option Rights) → is_some o ≡ false → o ≡ None
      none None is = refl
      none (Some right) is = absurd (true≢false is)

      other : (t : Transaction) → transaction_of s h ≡ Some t → t.sender ≢ e
      other t there same = true≢false (sym (sym (ap (is_offered e) there) ∙ waiting.offered) ∙ ap (λ f. is_receiver f t) (sym same) ∙ apart h t there)

-- no page of TX is one of its pages
buffers-clear : (h : ℕ) (s : State) → IsSteady s → ShowsTx (is_page_of s h) s
buffers-clear h s steady x is p its = first_none (is_naming s p) s.transactions refl ((steady.buffers s.runner x steady.runner is).tx p its).unnamed h

-- ---- two states that differ in pages alone that e can't read: an operation, and what comes after it
either : {X : Type 0} (b c : Bool) (x y u v : X) → b ≡ c → (c ≡ true → x ≡ u) → y ≡ v → cond b x y ≡ cond c u v
either b c x y u v same one two = ap (λ d. cond d x y) same ∙ of c one
  where
    of : (d : Bool) → (d ≡ true → x ≡ u) → cond d x y ≡ cond d u v
    of true one = one refl
    of false one = two

module _ (e : ℕ) (hides : ℕ → Bool) (s t : State) (op : Op) (ops : List Op) (same : blank hides t ≡ blank hides s)
    (clear : ShowsTx hides s) (away : (p : ℕ) → hides p ≡ true → is_unreadable s e p ≡ true)
    (still : (p : ℕ) → hides p ≡ true → is_unreadable (step s op).state e p ≡ true) where
  goes_on : SaysNothing e (step s op).state (step t op).state ops → SaysNothing e s t (op ∷ ops)
  goes_on rest =
      record {
        seen =
            λ i. either (t.runner == e) (s.runner == e) ((step t op).outcome ∷ []) (messages e (events e t op)) ((step s op).outcome ∷ []) (messages e (events e s op))
            runs (λ mine. ap (λ o. o ∷ []) (same-outcome hides s t same clear e away (eqb-true s.runner e mine) op)) (same-messages hides s t same clear e away op) i
            ++ rest.seen i;
        readings =
            λ i. either (t.runner == e) (s.runner == e)
            (Did op (revealed e t (step t op).state) ∷ []) (map (λ event. Heard event) (all_readably e t (events e t op)))
            (Did op (revealed e s (step s op).state) ∷ []) (map (λ event. Heard event) (all_readably e s (events e s op)))
            runs (λ mine. ap (λ shown. Did op shown ∷ []) (same-revealed hides s t same clear e away op still)) (ap (map (λ event. Heard event)) (same-told hides s t same clear e away op)) i
            ++ rest.readings i;
        readable = rest.readable;
      }
    where
      runs : (t.runner == e) ≡ (s.runner == e)
      runs = ap (λ r. r == e) (same-runner hides s t same clear)

-- ---- a run in which it waits
-- it names the same pages as long as it is open
same-pages : (s : State) (op : Op) (h : ℕ) → IsSteady s → Open s h → Open (step s op).state h → (p : ℕ) → is_page_of s h p ≡ is_page_of (step s op).state h p
same-pages s op h steady now then p = of (comes s h op)
  where
    of : Comes s h (step s op).state → is_page_of s h p ≡ is_page_of (step s op).state h p
    of (inl lasts) =
        let was = lasts then.t then.there in
        ap (is_naming s p) was.there
        ∙ (λ i. covers (sym was.ranges i) (sym (base-step s op) i + 4096 * p))
        ∙ sym (ap (is_naming (step s op).state p) then.there)
    of (inr opened) = absurd (none-some now.t (sym (ap (transaction_of s) opened.handle ∙ fresh s steady opened.kind opened.read opened.is) ∙ now.there))

module _ (e h : ℕ) (hides : ℕ → Bool) where
  waits-on : (ops : List Op) (s t : State) → IsSteady s → AreApart s → ((p : ℕ) → hides p ≡ is_page_of s h p) → IsSealed e h s ops → blank hides t ≡ blank hides s → SaysNothing e s t ops
  waits-on [] s t steady apart are sealed same =
      record {
        seen = refl;
        readings = refl;
        readable = same-readable hides s t same (λ x is p its. are p ∙ buffers-clear h s steady x is p its) e (λ p hidden. waits-away e h s sealed steady apart p (sym (are p) ∙ hidden));
      }
  waits-on (op ∷ ops) s t steady apart are sealed same =
      let clear : ShowsTx hides s = λ x is p its. are p ∙ buffers-clear h s steady x is p its in
      let next : IsWaiting e h (step s op).state = waits-now e h (step s op).state ops sealed.1 in
      let are_then : (p : ℕ) → hides p ≡ is_page_of (step s op).state h p = λ p. are p ∙ same-pages s op h steady (open-now e h s sealed.0) (open-now e h (step s op).state next) p in
      goes_on e hides s t op ops same clear
      (λ p hidden. waits-away e h s sealed.0 steady apart p (sym (are p) ∙ hidden))
      (λ p hidden. waits-away e h (step s op).state next (steady-step s steady op) (stays_apart s op apart) p (sym (are_then p) ∙ hidden))
      (waits-on ops (step s op).state (step t op).state (steady-step s steady op) (stays_apart s op apart) are_then sealed.1 (same-next hides s t same clear op))

-- ---- the operation that opens it
module _ (s : State) (steady : IsSteady s) (op : Op) (h : ℕ) (opened : IsOpened s (step s op).state h) where
  abbrev next : State
  next = (step s op).state

  sent-pages : (p : ℕ) → is_page_of next h p ≡ names s opened.read.ranges p
  sent-pages p =
      ap (λ u. is_page_of u h p) opened.state
      ∙ ap (is_naming s p) (get-insert s.transactions (next_handle (open_of s) s.runner) (transaction_sent s opened.kind opened.read) h
      ∙ ap (λ b. cond b (Some (transaction_sent s opened.kind opened.read)) (transaction_of s h)) (eq-eqb h (next_handle (open_of s) s.runner) opened.handle))

  sent-clear : ShowsTx (is_page_of next h) s
  sent-clear x is = buffers-clear h next (steady-step s steady op) x (ap (λ (u : State). buffers_of u u.runner) opened.state ∙ is)

  sent-away : (e : ℕ) → s.runner ≢ e → (p : ℕ) → is_page_of next h p ≡ true → is_unreadable s e p ≡ true
  sent-away e other p named =
      let its = (alone s steady opened.kind opened.read opened.is p (sym (sent-pages p) ∙ named)).2 in
      ap is_none (ap (λ o. right_of e (page_at s p) (option_and_then (transaction_of s) o)) its.unnamed
      ∙ ownerless e (page_at s p) (ap (λ f. f == e) its.owner ∙ ne_eqb s.runner e other))

pub offer_says_nothing : (s : State) (op : Op) → IsSteady s → AreApart s → OfferSaysNothing s op
offer_says_nothing s op steady apart e h later t other new sealed same = of (comes s h op)
  where
    waiting : IsWaiting e h (step s op).state
    waiting = waits-now e h (step s op).state later sealed

    of : Comes s h (step s op).state → SaysNothing e s t (op ∷ later)
    of (inl lasts) =
        let now = open-now e h (step s op).state waiting in
        absurd (none-some (lasts now.t now.there).before (sym new ∙ (lasts now.t now.there).there))
    of (inr opened) =
        goes_on e (is_page_of (step s op).state h) s t op later same (sent-clear s steady op h opened) (sent-away s steady op h opened e other)
        (waits-away e h (step s op).state waiting (steady-step s steady op) (stays_apart s op apart))
        (waits-on e h (is_page_of (step s op).state h) later (step s op).state (step t op).state (steady-step s steady op) (stays_apart s op apart) (λ p. refl) sealed
        (same-next (is_page_of (step s op).state h) s t same (sent-clear s steady op h opened) op))
