-- SPDX-License-Identifier: MIT OR Apache-2.0
-- The laws of a list of operations of any endpoints, by induction.
use Rattle.std.proofs.Common.{◌≡◌, ◌≢◌, ◌∙◌, ℕ, true, false, cond, List, [], ◌∷◌, ◌++◌, length, map, refl, sym, ap, subst, ◌==◌, append_assoc}
use Rattle.std.specs.List.{list_all}
use Rattle.std.proofs.lemmas.Bool.{and_parts, eq-eqb, eqb-true, true≢false}
use Rattle.ffa_model.specs.declared.operation.Op.{Op}
use Rattle.ffa_model.specs.SoundState.{IsSoundState}
use Rattle.ffa_model.specs.State.{State, Party, is_known, is_known_among, own_right_of}
use Rattle.ffa_model.specs.Calls.{Stepped}
use Rattle.ffa_model.specs.Elsewhere.{state_after_as, step_as}
use Rattle.ffa_laws.specs.Steady.{IsSteady}
use Rattle.ffa_laws.specs.View.{view}
use Rattle.ffa_laws.specs.Elsewhere.{events_as}
use Rattle.ffa_laws.specs.ElsewhereRuns.{IsolatedAs, are_known, items_as, seen_as}
use Rattle.ffa_laws.specs.Events.{Event, Item, Own, Told, apply, apply_all, message, messages}
use Rattle.ffa_laws.specs.Isolation.{NeverGrow}
use Rattle.ffa_laws.specs.Replay.{Lived, seeing}
use Rattle.ffa_laws.proofs.ElsewhereLaws.{fixed-step_as, never_grows_as, one_step_as, own-step_as, sound-step_as, steady-step_as}
use Rattle.ffa_laws.proofs.Form.{viewed}
use Rattle.ffa_laws.proofs.Growth.{never_grow}
use Rattle.ffa_laws.proofs.Within.{within-through}

-- the endpoints stay
pub known-as : (s : State) (f : ℕ) (op : Op) (e : ℕ) → is_known s e ≡ true → is_known (step_as s f op).state e ≡ true
known-as s f op e known = subst (λ (parts : List Party × (ℕ × ℕ)). is_known_among (length parts.0) e ≡ true) (sym (fixed-step_as s f op)) known

pub all-known : (s : State) (f : ℕ) (op : Op) (xs : List (ℕ × Op)) → are_known s xs ≡ true → are_known (step_as s f op).state xs ≡ true
all-known s f op xs known = subst (λ (parts : List Party × (ℕ × ℕ)). list_all (λ (x : ℕ × Op). is_known_among (length parts.0) x.0) xs ≡ true) (sym (fixed-step_as s f op)) known

-- items done on a view in turn
replay_as : ℕ → State → List Item → Lived
replay_as e v [] = record { seen = []; view = v }
replay_as e v (Own op ∷ rest) = seeing ((step_as v e op).outcome ∷ []) (replay_as e (step_as v e op).state rest)
replay_as e v (Told event ∷ rest) = seeing (message e event) (replay_as e (apply e v event) rest)

lived_as : ℕ → State → List (ℕ × Op) → Lived
lived_as e s xs = record { seen = seen_as e s xs; view = view e (state_after_as s xs) }

told-as : (e : ℕ) (v : State) (es : List Event) (rest : List Item) → replay_as e v (map (λ event. Told event) es ++ rest) ≡ seeing (messages e es) (replay_as e (apply_all e v es) rest)
unfolding replay_as
told-as e v [] rest = refl
told-as e v (event ∷ es) rest =
    ap (seeing (message e event)) (told-as e (apply e v event) es rest)
    ∙ (let later = replay_as e (apply_all e (apply e v event) es) rest in λ i. record later { seen = sym (append_assoc (message e event) (messages e es) later.seen) i })

lived-is : (e : ℕ) (xs : List (ℕ × Op)) (s : State) → IsSteady s → is_known s e ≡ true → are_known s xs ≡ true → lived_as e s xs ≡ replay_as e (view e s) (items_as e s xs)
unfolding replay_as lived_as
lived-is e [] s steady known all = refl
lived-is e (x ∷ xs) s steady known all =
    let (here, rest) = and_parts (is_known s x.0) (are_known s xs) all in
    let next = (step_as s x.0 x.1).state in
    let later = lived-is e xs next (steady-step_as s x.0 x.1 steady here) (known-as s x.0 x.1 e known) (all-known s x.0 x.1 xs rest) in
    elim (x.0 == e) as (λ b. (x.0 == e) ≡ b → seeing (cond b ((step_as s x.0 x.1).outcome ∷ []) (messages e (events_as e s x.0 x.1))) (lived_as e (step_as s x.0 x.1).state xs)
    ≡ replay_as e (view e s) (cond b (Own x.1 ∷ []) (map (λ event. Told event) (events_as e s x.0 x.1)) ++ items_as e (step_as s x.0 x.1).state xs)) [
      | true ↦ λ mine.
          let acts : step_as (view e s) e x.1 ≡ viewed e (step_as s x.0 x.1) =
          own-step_as s e x.1 steady known ∙ ap (λ (f : ℕ). viewed e (step_as s f x.1)) (sym (eqb-true x.0 e mine)) in
          ap (seeing ((step_as s x.0 x.1).outcome ∷ [])) later
          ∙ ap (λ (st : Stepped). seeing (st.outcome ∷ []) (replay_as e st.state (items_as e (step_as s x.0 x.1).state xs))) (sym acts)
      | false ↦ λ differ.
          ap (seeing (messages e (events_as e s x.0 x.1))) (later ∙ ap (λ v. replay_as e v (items_as e (step_as s x.0 x.1).state xs)) ((one_step_as s x.0 x.1 steady here).others e known (apart differ)))
          ∙ sym (told-as e (view e s) (events_as e s x.0 x.1) (items_as e (step_as s x.0 x.1).state xs))
    ] refl
  where
    apart : (x.0 == e) ≡ false → x.0 ≢ e
    apart differ same = true≢false (sym (eq-eqb x.0 e same) ∙ differ)

pub isolated_as : (s : State) (xs : List (ℕ × Op)) → IsSteady s → are_known s xs ≡ true → IsolatedAs s xs
unfolding lived_as
isolated_as s xs steady all e t others known all_t there same same_items =
    let alike : lived_as e t others ≡ lived_as e s xs =
    lived-is e others t there (ap (λ (v : State). is_known v e) same ∙ known) all_t ∙ (λ i. replay_as e (same i) (same_items i)) ∙ sym (lived-is e xs s steady known all) in
    (ap (λ (l : Lived). l.seen) alike, ap (λ (l : Lived). l.view) alike)

-- what holds of each operation holds of a list of them
pub steady_after_as : (s : State) (xs : List (ℕ × Op)) → IsSteady s → are_known s xs ≡ true → IsSteady (state_after_as s xs)
steady_after_as s [] steady all = steady
steady_after_as s (x ∷ xs) steady all =
    let (here, rest) = and_parts (is_known s x.0) (are_known s xs) all in
    steady_after_as (step_as s x.0 x.1).state xs (steady-step_as s x.0 x.1 steady here) (all-known s x.0 x.1 xs rest)

pub sound_after_as : (s : State) (xs : List (ℕ × Op)) → IsSoundState s → IsSoundState (state_after_as s xs)
sound_after_as s [] sound = sound
sound_after_as s (x ∷ xs) sound = sound_after_as (step_as s x.0 x.1).state xs (sound-step_as s x.0 x.1 sound)

pub grows-through : (s t u : State) → NeverGrow s t → NeverGrow t u → NeverGrow s u
grows-through s t u one later =
    record {
      own_right = λ p. within-through (own_right_of u p) (own_right_of t p) (own_right_of s p) (later.own_right p) (one.own_right p);
      within = later.within;
      manager = λ p none. later.manager p (one.manager p none);
      alone = later.alone;
    }

pub never_grow_as : (s : State) (xs : List (ℕ × Op)) → IsSteady s → are_known s xs ≡ true → NeverGrow s (state_after_as s xs)
never_grow_as s [] steady all = never_grow s [] steady
never_grow_as s (x ∷ xs) steady all =
    let (here, rest) = and_parts (is_known s x.0) (are_known s xs) all in
    let next = (step_as s x.0 x.1).state in
    grows-through s next (state_after_as next xs) (never_grows_as s x.0 x.1 steady here)
    (never_grow_as next xs (steady-step_as s x.0 x.1 steady here) (all-known s x.0 x.1 xs rest))
