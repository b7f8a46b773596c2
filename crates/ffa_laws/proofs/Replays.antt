-- SPDX-License-Identifier: MIT OR Apache-2.0
-- The laws of a run, by induction.
use Rattle.std.proofs.Common.{◌≡◌, ◌≢◌, ◌∙◌, ℕ, true, false, cond, List, [], ◌∷◌, ◌++◌, map, refl, sym, ap, subst, ◌==◌, eq-eqb, eqb-true, true≢false, append_assoc}
use Rattle.ffa_model.specs.declared.operation.Op.{Op}
use Rattle.ffa_model.specs.State.{State, is_known}
use Rattle.ffa_model.specs.Calls.{Stepped}
use Rattle.ffa_model.specs.Step.{step}
use Rattle.ffa_laws.specs.Steady.{IsSteady}
use Rattle.ffa_laws.specs.View.{view}
use Rattle.ffa_laws.specs.Events.{Event, Item, Own, Told, apply, apply_all, events, items, message, messages}
use Rattle.ffa_laws.specs.Replay.{Lived, Replays, lived, replay, seeing}
use Rattle.ffa_laws.specs.Isolation.{Isolated}
use Rattle.ffa_laws.proofs.Form.{viewed}
use Rattle.ffa_laws.proofs.Kept.{known-step}
use Rattle.ffa_laws.proofs.Laws.{other-step, own-step, steady-step}

replay-told : (e : ℕ) (v : State) (es : List Event) (rest : List Item) → replay e v (map (λ event. Told event) es ++ rest) ≡ seeing (messages e es) (replay e (apply_all e v es) rest)
replay-told e v [] rest = refl
replay-told e v (event ∷ es) rest =
    ap (seeing (message e event)) (replay-told e (apply e v event) es rest)
    ∙ (λ i. record (replay e (apply_all e (apply e v event) es) rest) { seen = sym (append_assoc (message e event) (messages e es) (replay e (apply_all e (apply e v event) es) rest).seen) i })

lived-is : (e : ℕ) (ops : List Op) (s : State) → IsSteady s → is_known s e ≡ true → lived e s ops ≡ replay e (view e s) (items e s ops)
lived-is e [] s steady known = refl
lived-is e (op ∷ ops) s steady known =
    let later = lived-is e ops (step s op).state (steady-step s steady op) (known-step s op e known) in
    elim (s.runner == e) as (λ b. (s.runner == e) ≡ b → seeing (cond b ((step s op).outcome ∷ []) (messages e (events e s op))) (lived e (step s op).state ops) ≡ replay e (view e s) (cond b (Own op ∷ []) (map (λ event. Told event) (events e s op)) ++ items e (step s op).state ops)) [
      | true ↦ λ mine.
          let acts : step (view e s) op ≡ viewed e (step s op) = subst (λ f. step (view f s) op ≡ viewed f (step s op)) (eqb-true s.runner e mine) (own-step s steady op) in
          ap (seeing ((step s op).outcome ∷ [])) later ∙ ap (λ (st : Stepped). seeing (st.outcome ∷ []) (replay e st.state (items e (step s op).state ops))) (sym acts)
      | false ↦ λ differ.
          ap (seeing (messages e (events e s op))) (later ∙ ap (λ v. replay e v (items e (step s op).state ops)) (other-step e s steady known (apart differ) op))
          ∙ sym (replay-told e (view e s) (events e s op) (items e (step s op).state ops))
    ] refl
  where
    apart : (s.runner == e) ≡ false → s.runner ≢ e
    apart differ same = true≢false (sym (eq-eqb s.runner e same) ∙ differ)

pub replays : (s : State) (ops : List Op) → IsSteady s → Replays s ops
replays s ops steady e known = lived-is e ops s steady known

pub isolated : (s : State) (ops : List Op) → IsSteady s → Isolated s ops
isolated s ops steady e t others known there same same_items =
    let alike : lived e t others ≡ lived e s ops =
    lived-is e others t there (ap (λ (v : State). is_known v e) same ∙ known) ∙ (λ i. replay e (same i) (same_items i)) ∙ sym (lived-is e ops s steady known) in
    (ap (λ (l : Lived). l.seen) alike, ap (λ (l : Lived). l.view) alike)
