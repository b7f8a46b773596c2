-- SPDX-License-Identifier: MIT OR Apache-2.0
-- What an endpoint can read over a run, by induction.
use Rattle.std.proofs.Common.{append-nil, ◌≡◌, ◌≢◌, ◌∙◌, ℕ, Bool, true, false, cond, List, [], ◌∷◌, ◌++◌, map, refl, sym, ap, subst, ◌==◌, eq-eqb, eqb-true, true≢false, append_assoc}
use Rattle.ffa_model.specs.declared.operation.Op.{Op}
use Rattle.ffa_model.specs.State.{State, is_known}
use Rattle.ffa_model.specs.Step.{state_after, step}
use Rattle.ffa_laws.specs.Steady.{IsSteady}
use Rattle.ffa_laws.specs.Events.{Event, Wrote, Opened, Zeroed, apply, apply_all, events, message, messages, seen, where_true}
use Rattle.ffa_laws.specs.Readable.{Did, Heard, Reading, RunConfidential, all_readably, readable, readably, readings, revealed}
use Rattle.ffa_laws.specs.Replay.{Lived, seeing}
use Rattle.ffa_laws.proofs.Kept.{known-step}
use Rattle.ffa_laws.proofs.Laws.{steady-step}
use Rattle.ffa_laws.proofs.Readings.{joined, other-reading, read-after, read-outcome}

-- What is seen, and can be read then, by what is met alone.
relive : ℕ → State → List Reading → Lived
relive e v [] = record { seen = []; view = v }
relive e v (Did op shown ∷ rest) = seeing ((step v op).outcome ∷ []) (relive e (joined e (step v op).state shown) rest)
relive e v (Heard event ∷ rest) = seeing (message e event) (relive e (apply e v event) rest)

relive-heard : (e : ℕ) (es : List Event) (v : State) (rest : List Reading) → relive e v (map (λ event. Heard event) es ++ rest) ≡ seeing (messages e es) (relive e (apply_all e v es) rest)
unfolding relive
relive-heard e [] v rest = refl
relive-heard e (x ∷ es) v rest =
    ap (seeing (message e x)) (relive-heard e es (apply e v x) rest)
    ∙ (let later = relive e (apply_all e (apply e v x) es) rest in λ i. record later { seen = sym (append_assoc (message e x) (messages e es) later.seen) i })

-- messages are heard as they are told
pub heard-messages : (e : ℕ) (s : State) (es : List Event) → messages e (all_readably e s es) ≡ messages e es
heard-messages e s [] = refl
heard-messages e s (x ∷ es) = messages-append (readably e s x) (all_readably e s es) ∙ (λ i. one x i ++ heard-messages e s es i)
  where
    messages-append : (xs ys : List Event) → messages e (xs ++ ys) ≡ messages e xs ++ messages e ys
    messages-append [] ys = refl
    messages-append (y ∷ xs) ys = ap (λ zs. message e y ++ zs) (messages-append xs ys) ∙ sym (append_assoc (message e y) (messages e xs) (messages e ys))

    alone : (y : Event) → messages e (y ∷ []) ≡ message e y
    alone y = append-nil (message e y)

    no_message : (told : Bool) (y : Event) → message e y ≡ [] → messages e (where_true told (y ∷ [])) ≡ []
    no_message true y none = alone y ∙ none
    no_message false y none = refl

    one : (y : Event) → messages e (readably e s y) ≡ message e y
    one (Wrote address bytes) = no_message _ (Wrote address bytes) refl
    one (Opened h t pages) = refl
    one (Zeroed h) = no_message _ (Zeroed h) refl
    one y = alone y

abbrev read_lived : ℕ → State → List Op → Lived
read_lived e s ops = record { seen = seen e s ops; view = readable e (state_after s ops) }

lived-is : (e : ℕ) (ops : List Op) (s : State) → IsSteady s → is_known s e ≡ true → read_lived e s ops ≡ relive e (readable e s) (readings e s ops)
unfolding relive
lived-is e [] s steady known = refl
lived-is e (op ∷ ops) s steady known =
    let next = (step s op).state in
    let later : read_lived e next ops ≡ relive e (readable e next) (readings e next ops) = lived-is e ops next (steady-step s steady op) (known-step s op e known) in
    elim (s.runner == e) as (λ b. (s.runner == e) ≡ b → seeing (cond b ((step s op).outcome ∷ []) (messages e (events e s op))) (read_lived e (step s op).state ops)
    ≡ relive e (readable e s) (cond b (Did op (revealed e s (step s op).state) ∷ []) (map (λ event. Heard event) (all_readably e s (events e s op))) ++ readings e (step s op).state ops)) [
      | true ↦ λ mine.
          let is = eqb-true s.runner e mine in
          let told : (step (readable e s) op).outcome ≡ (step s op).outcome = subst (λ f. (step (readable f s) op).outcome ≡ (step s op).outcome) is (read-outcome s steady op) in
          let reads : readable e (step s op).state ≡ joined e (step (readable e s) op).state (revealed e s (step s op).state) =
          subst (λ f. readable f (step s op).state ≡ joined f (step (readable f s) op).state (revealed f s (step s op).state)) is (read-after s steady op) in
          ap (seeing ((step s op).outcome ∷ [])) later
          ∙ (λ i. seeing (sym told i ∷ []) (relive e (reads i) (readings e (step s op).state ops)))
      | false ↦ λ differ.
          let other : s.runner ≢ e = apart-from differ in
          let heard = all_readably e s (events e s op) in
          ap (seeing (messages e (events e s op))) (later ∙ ap (λ v. relive e v (readings e (step s op).state ops)) (other-reading e s steady known other op))
          ∙ ap (λ ms. seeing ms (relive e (apply_all e (readable e s) heard) (readings e (step s op).state ops))) (sym (heard-messages e s (events e s op)))
          ∙ sym (relive-heard e heard (readable e s) (readings e (step s op).state ops))
    ] refl
  where
    apart-from : (s.runner == e) ≡ false → s.runner ≢ e
    apart-from differ same = true≢false (sym (eq-eqb s.runner e same) ∙ differ)

pub run_confidential : (s : State) (ops : List Op) → IsSteady s → RunConfidential s ops
run_confidential s ops steady e t others known there same met =
    let alike : read_lived e t others ≡ read_lived e s ops =
    lived-is e others t there (ap (λ (v : State). is_known v e) same ∙ known) ∙ (λ i. relive e (same i) (met i)) ∙ sym (lived-is e ops s steady known) in
    (ap (λ (l : Lived). l.seen) alike, ap (λ (l : Lived). l.view) alike)
