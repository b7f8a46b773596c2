-- SPDX-License-Identifier: MIT OR Apache-2.0
-- The laws of a list of operations and interrupts of several processors, and of stores meanwhile, by induction.
use Rattle.std.proofs.Common.{◌≡◌, ◌≢◌, ◌⊎◌, ◌∙◌, get_or, get_or-set_other, get_or-set_same, ℕ, ◌<◌, Bool, true, false, cond, List, [], ◌∷◌, ◌++◌, length, set, Option, Some, None, refl, sym, ap, subst, length-set, ◌==◌, ◌&&◌, ◌%◌, nat_lt, inl, inr}
use Rattle.byteorder.specs.Endian.{little_bytes}
use Rattle.std.proofs.lemmas.Bool.{and_from, and_parts, cases_Bool, cases_eq, eq-eqb, eqb-true, false≢true, ltb-false, ltb-true, true≢false}
use Rattle.std.proofs.lemmas.Option.{none-some, same_Some}
use Rattle.ffa_model.specs.declared.schedule.Status.TheVariants.{Blocked, Preempted}
use Rattle.std.proofs.lemmas.List.{append_assoc, get_or_past, map-append}
use Rattle.std.proofs.lemmas.List.Folds.{list_all-append}
use Rattle.ffa_model.specs.declared.call.Call as calls
use Rattle.ffa_model.specs.declared.call.Call.TheVariants.{Run}
use Rattle.ffa_model.specs.declared.operation.Act.{Act}
use Rattle.ffa_model.specs.declared.operation.Act.TheVariants.{Operate, Interrupt}
use Rattle.ffa_model.specs.declared.operation.Effect.{Effect}
use Rattle.ffa_model.specs.declared.operation.Effect.TheVariants as effects
use Rattle.ffa_model.specs.declared.operation.FaultKind.{FaultKind}
use Rattle.ffa_model.specs.declared.operation.Op.{Op}
use Rattle.ffa_model.specs.declared.operation.Size.{Size}
use Rattle.ffa_model.specs.declared.operation.Op.TheVariants.{Call, Load, Store, Fetch}
use Rattle.ffa_model.specs.declared.operation.Outcome.{Outcome}
use Rattle.ffa_model.specs.declared.operation.Outcome.TheVariants.{Done}
use Rattle.ffa_model.specs.Elsewhere.{as_run_by, state_after_as, step_as, step_elsewhere}
use Rattle.ffa_model.specs.Memory.{access_at, accessed, fault_of, size_of, store_fault, stored}
use Rattle.ffa_model.specs.Registers.{decode}
use Rattle.ffa_model.specs.Rights.{may_store}
use Rattle.ffa_model.specs.RunStates.{Schedule, schedule_of}
use Rattle.ffa_model.specs.Step.{step}
use Rattle.ffa_model.specs.SoundState.{IsSoundState}
use Rattle.ffa_model.specs.State.{State, Party, is_known, is_known_among, is_partition_among}
use Rattle.ffa_model.specs.Calls.{Stepped}
use Rattle.ffa_model.specs.Processors.{Effected, Processors, SameElsewhere, Shared, acted, are_there, effected, interrupt, moved_to, noted, may_resume, on, resumed_by, resumed_by_call, runner_on, shared_after, shared_after_all, state_on, step_resuming, turned}
use Rattle.ffa_laws.specs.Events.{Event, Item, Own, Told, apply, apply_all, message, messages, public_change}
use Rattle.ffa_laws.specs.Elsewhere.{events_as}
use Rattle.ffa_laws.specs.Processors.{HasRunner, events_resuming, interrupt_events}
use Rattle.ffa_laws.specs.ProcessorRuns.{Acts, IsSoundShared, IsSteadyShared, IsolatedOn, Turn, Writes, are_possible, as_turns, as_writes, is_possible, is_store, items_in, items_of, items_on, outcomes_of, seen_in, seen_of, seen_on, told, turn_after, turns_after}
use Rattle.ffa_laws.specs.ElsewhereRuns.{are_known}
use Rattle.ffa_laws.specs.Steady.{IsSteady}
use Rattle.ffa_laws.specs.Stores.{AreStores}
use Rattle.ffa_laws.specs.View.{view}
use Rattle.ffa_laws.specs.Isolation.{NeverGrow}
use Rattle.ffa_model.proofs.Places.{partition-known}
use Rattle.ffa_model.proofs.Processors.{placed-still}
use Rattle.ffa_laws.proofs.ElsewhereLaws.{fixed-step_as, never_grows_as, one_step_as, own-step_as, sound-step_as, steady-step_as, step_as-rests, step_as-runs}
use Rattle.ffa_laws.proofs.ElsewhereRunLaws.{grows-through}
use Rattle.ffa_laws.proofs.Form.{accessed-kept, viewed}
use Rattle.ffa_laws.proofs.SoundLaws.{same-elsewhere}
use Rattle.ffa_laws.proofs.Growth.{never_grow}
use Rattle.ffa_laws.proofs.Kept.{step-fixed}
use Rattle.ffa_laws.proofs.Laws.{own-step, steady-step}
use Rattle.ffa_laws.proofs.ProcessorLaws.{has-runner, interrupt-placed, interrupt-sound, interrupt_never_grows, on-grows, on-sound-state, on-told, one_effect, one_interrupt, operation-placed, operation-sound, operation_never_grows, resumed-view, steady-switched, on-steady, taken}
use Rattle.ffa_laws.proofs.SoundSteady.{sound-steady}
use Rattle.ffa_laws.proofs.Shows.{messages-public}

-- what an endpoint lives through
record Lived : Type 0 where
  seen : List Effect
  view : State

abbrev seeing : List Effect → Lived → Lived
seeing os later = record { seen = os ++ later.seen; view = later.view }

-- an operation of e, whoever runs where it is a store
as_effect : Stepped → Effected
as_effect done = record { state = done.state; effect = effects.Outcome done.outcome }

own_done : ℕ → State → Op → Effected
own_done e v (Store address size value) = as_effect (step_as v e (Store address size value))
own_done e v op = step_resuming v op

own-store : (e : ℕ) (v : State) (op : Op) → is_store op ≡ true → own_done e v op ≡ as_effect (step_as v e op)
unfolding own_done
own-store e v (Store address size value) is = refl
own-store e v op is = absurd (false≢true is)

own-runs : (e : ℕ) (v : State) (op : Op) → v.runner ≡ e → own_done e v op ≡ step_resuming v op
unfolding own_done as_effect
own-runs e v (Store address size value) runs = ap (λ (done : Stepped). let x : Effected = record { state = done.state; effect = effects.Outcome done.outcome } in x) (step_as-runs v e (Store address size value) runs)
own-runs e v (Load address size) runs = refl
own-runs e v (Fetch address) runs = refl
own-runs e v (Call x) runs = refl

-- items done on a view in turn
replay : ℕ → State → List Item → Lived
replay e v [] = record { seen = []; view = v }
replay e v (Own op ∷ rest) = seeing ((own_done e v op).effect ∷ []) (replay e (own_done e v op).state rest)
replay e v (Told event ∷ rest) = seeing (outcomes_of (message e event)) (replay e (apply e v event) rest)

lived : ℕ → Shared → List Turn → Lived
lived e m xs = record { seen = seen_on e m xs; view = view e (turns_after m xs).state }

told-on : (e : ℕ) (v : State) (es : List Event) (rest : List Item) → replay e v (told es ++ rest) ≡ seeing (outcomes_of (messages e es)) (replay e (apply_all e v es) rest)
unfolding replay
told-on e v [] rest = refl
told-on e v (event ∷ es) rest =
    ap (seeing (outcomes_of (message e event))) (told-on e (apply e v event) es rest)
    ∙ (let later = replay e (apply_all e (apply e v event) es) rest in
    λ i. record later {
      seen = (sym (append_assoc (outcomes_of (message e event)) (outcomes_of (messages e es)) later.seen)
          ∙ ap (λ (os : List Effect). os ++ later.seen) (sym (map-append (λ (outcome : Outcome). effects.Outcome outcome) (message e event) (messages e es)))) i;
    })

-- an operation of whoever runs, on its view
viewed_effect : ℕ → Effected → Effected
viewed_effect e done = record { state = view e done.state; effect = done.effect }

own-effect : (s : State) (op : Op) → IsSteady s → step_resuming (view s.runner s) op ≡ viewed_effect s.runner (step_resuming s op)
unfolding viewed_effect
own-effect s op steady = ap (effected (view s.runner s) op) (resumed-view s.runner s op) ∙ of (resumed_by s op)
  where
    of : (o : Option ℕ) → effected (view s.runner s) op o ≡ viewed_effect s.runner (effected s op o)
    of None = ap (λ (st : Stepped). let x : Effected = record { state = st.state; effect = effects.Outcome st.outcome } in x) (own-step s steady op)
    of (Some f) = refl

-- one act, on a view
module _ (e : ℕ) (s : State) (steady : IsSteady s) (known : is_known s e ≡ true) where
  act-replayed : (act : Act) (rest : List Item) → replay e (view e s) (items_of e s act ++ rest) ≡ seeing (seen_of e s act) (replay e (view e (acted s act).state) rest)
  unfolding replay viewed_effect
  act-replayed (Operate op) rest =
      elim (s.runner == e) as (λ b. (s.runner == e) ≡ b → replay e (view e s) (cond b (Own op ∷ []) (told (events_resuming e s op)) ++ rest)
      ≡ seeing (cond b ((step_resuming s op).effect ∷ []) (outcomes_of (messages e (events_resuming e s op)))) (replay e (view e (step_resuming s op).state) rest)) [
        | true ↦ λ mine.
            let acts : own_done e (view e s) op ≡ viewed_effect e (step_resuming s op) =
            own-runs e (view e s) op (eqb-true s.runner e mine)
            ∙ subst (λ f. step_resuming (view f s) op ≡ viewed_effect f (step_resuming s op)) (eqb-true s.runner e mine) (own-effect s op steady) in
            ap (λ (done : Effected). seeing (done.effect ∷ []) (replay e done.state rest)) acts
        | false ↦ λ differ.
            told-on e (view e s) (events_resuming e s op) rest
            ∙ ap (λ v. seeing (outcomes_of (messages e (events_resuming e s op))) (replay e v rest)) (sym ((one_effect s op steady).others e known (apart differ)))
      ] refl
    where
      apart : (s.runner == e) ≡ false → s.runner ≢ e
      apart differ same = true≢false (sym (eq-eqb s.runner e same) ∙ differ)
  act-replayed Interrupt rest =
      told-on e (view e s) (interrupt_events e s) rest
      ∙ ap (λ v. seeing (outcomes_of (messages e (interrupt_events e s))) (replay e v rest)) (sym ((one_interrupt s).others e))

-- ---- behind an act
module _ (m : Shared) (sound : IsSoundShared m) (p : ℕ) (within : p < length m.processors.runners) where
  pub sound-there : IsSoundState (state_on m p)
  sound-there = on-sound-state m.state sound.state m.processors sound.placed p within

  pub sound-behind : (act : Act) → IsSoundShared (shared_after m (p, act))
  sound-behind (Operate op) = record {
    state = operation-sound m.processors p m.state op within sound.placed sound.state;
    placed = operation-placed m.processors p m.state op within sound.placed sound.state;
  }
  sound-behind Interrupt = record {
    state = interrupt-sound (state_on m p) sound-there;
    placed = interrupt-placed m.processors p m.state within sound.placed sound.state;
  }

-- the endpoints stay, and the processors
pub on-parties : (processors : Processors) (p : ℕ) (s : State) → (on processors p s).parties ≡ s.parties
on-parties processors p s = elim (processors.current == p) as (λ b. (cond b s (moved_to s (runner_on processors p))).parties ≡ s.parties) [ true ↦ refl | false ↦ refl ]

act-parties : (s : State) (act : Act) → (acted s act).state.parties ≡ s.parties
act-parties s (Operate op) = of (resumed_by s op)
  where
    of : (o : Option ℕ) → (effected s op o).state.parties ≡ s.parties
    of None = ap (λ (parts : List Party × (ℕ × ℕ)). parts.0) (step-fixed s op)
    of (Some f) = refl
act-parties s Interrupt = elim (s.runner == 0) as (λ b. (taken s b).state.parties ≡ s.parties) [ true ↦ refl | false ↦ refl ]

turned-size : (processors : Processors) (p : ℕ) (s : State) → length (turned processors p s).runners ≡ length processors.runners
turned-size processors p s = elim (processors.current == p) as (λ b. length (cond b processors (noted processors p s)).runners ≡ length processors.runners) [
  | true ↦ refl
  | false ↦ length-set processors.runners processors.current s.runner
]

-- ---- behind a turn
-- a store changes no run state
same-schedule : (s : State) (e : ℕ) (op : Op) → is_store op ≡ true → schedule_of (step_as s e op).state ≡ schedule_of s
same-schedule s e (Store address size value) is = elim (s.runner == e) as (λ b. schedule_of (cond b (step s (Store address size value)) (step_elsewhere s e (Store address size value))).state ≡ schedule_of s) [
  | true ↦ accessed-kept (λ t. schedule_of t ≡ schedule_of s) s (stored s address (little_bytes (size_of size) value)) Done (store_fault s address (size_of size)) refl (λ none. refl)
  | false ↦
      accessed-kept (λ t. schedule_of (as_run_by s.runner t) ≡ schedule_of s) (as_run_by e s) (stored (as_run_by e s) address (little_bytes (size_of size) value)) Done
      (store_fault (as_run_by e s) address (size_of size)) refl (λ none. refl)
]
same-schedule s e op is = absurd (false≢true is)

turn-sound : (m : Shared) → IsSoundShared m → (x : Turn) → is_possible m x ≡ true → IsSoundShared (turn_after m x)
turn-sound m sound (Acts p act) there = sound-behind m sound p (ltb-true p (length m.processors.runners) there) act
turn-sound m sound (Writes e op) there =
    let (known, is) = and_parts (is_known m.state e) (is_store op) there in
    record {
      state = sound-step_as m.state e op sound.state;
      placed = placed-still m.processors m.state (step_as m.state e op).state
          (subst (SameElsewhere (schedule_of m.state)) (sym (same-schedule m.state e op is)) (same-elsewhere (schedule_of m.state))) sound.placed;
    }

-- the same endpoints and processors are there
turn-parties : (m : Shared) (x : Turn) → (turn_after m x).state.parties ≡ m.state.parties
turn-parties m (Acts p act) = act-parties (state_on m p) act ∙ on-parties m.processors p m.state
turn-parties m (Writes e op) = ap (λ (parts : List Party × (ℕ × ℕ)). parts.0) (fixed-step_as m.state e op)

known-behind : (m : Shared) (x : Turn) (e : ℕ) → is_known (turn_after m x).state e ≡ is_known m.state e
known-behind m x e = ap (λ (parties : List Party). is_known_among (length parties) e) (turn-parties m x)

processors-behind : (m : Shared) (x : Turn) → length (turn_after m x).processors.runners ≡ length m.processors.runners
processors-behind m (Acts p act) = turned-size m.processors p m.state
processors-behind m (Writes e op) = refl

possible-behind : (m : Shared) (x y : Turn) → is_possible (turn_after m x) y ≡ is_possible m y
possible-behind m x (Acts p act) = ap (nat_lt p) (processors-behind m x)
possible-behind m x (Writes e op) = ap (λ (b : Bool). b && is_store op) (known-behind m x e)

all-behind : (m : Shared) (x : Turn) (xs : List Turn) → are_possible (turn_after m x) xs ≡ are_possible m xs
all-behind m x [] = refl
all-behind m x (y ∷ ys) = λ i. possible-behind m x y i && all-behind m x ys i

-- ---- what isolation asks stays too
resumed-known : (s : State) (op : Op) (f : ℕ) → resumed_by s op ≡ Some f → is_known s f ≡ true
resumed-known s (Call x) f is = of (decode x) is
  where
    at : (e context : ℕ) (b : Bool) → may_resume (length s.parties) (schedule_of s) e context ≡ b → cond b (Some e) None ≡ Some f → is_known s f ≡ true
    at e context false may is = absurd (none-some f is)
    at e context true may is =
        let (runs, rest) = and_parts (s.runner == 0) _ may in
        let (partition, later) = and_parts (is_partition_among (length s.parties) e) _ rest in
        subst (λ g. is_known s g ≡ true) (same_Some e f is) (partition-known (length s.parties) e partition)

    of : (call : calls.Call) → resumed_by_call s call ≡ Some f → is_known s f ≡ true
    of (Run target context) is = at target.0 context (may_resume (length s.parties) (schedule_of s) target.0 context) refl is
    of call is = absurd (none-some f is)
resumed-known s _ f is = absurd (none-some f is)

act-steady : (s : State) → IsSteady s → (act : Act) → IsSteady (acted s act).state
act-steady s steady (Operate op) = of (resumed_by s op) refl
  where
    of : (o : Option ℕ) → resumed_by s op ≡ o → IsSteady (effected s op o).state
    of None is = steady-step s steady op
    of (Some f) is = steady-switched s steady Blocked f (resumed-known s op f is)
act-steady s steady Interrupt = elim (s.runner == 0) as (λ b. IsSteady (taken s b).state) [ true ↦ steady | false ↦ steady-switched s steady Preempted 0 refl ]

-- there is no processor past the last, so the normal world is read there
none-past : (s : State) (runners : List ℕ) (p : ℕ) → nat_lt p (length runners) ≡ false → is_known s (get_or runners p 0) ≡ true
none-past s runners p past = ap (is_known s) (get_or_past runners p 0 (ltb-false p (length runners) past))

-- who is noted is an endpoint of the machine
noted-known : (processors : Processors) (p : ℕ) (s t : State) → IsSteady s → ((q : ℕ) → HasRunner processors q s) → t.parties ≡ s.parties
    → (q : ℕ) → HasRunner (turned processors p s) q t
noted-known processors p s t steady known parties q =
    elim (processors.current == p) as (λ b. HasRunner (cond b processors (noted processors p s)) q t) [
      | true ↦ λ other. there (runner_on processors q) (known q other)
      | false ↦ λ other. there (runner_on (noted processors p s) q) (of (cases_eq q processors.current) (cases_Bool (nat_lt processors.current (length processors.runners))))
    ]
  where
    there : (e : ℕ) → is_known s e ≡ true → is_known t e ≡ true
    there e is = ap (λ (its : List Party). is_known_among (length its) e) parties ∙ is

    of : (q ≡ processors.current) ⊎ (q ≢ processors.current) → (nat_lt processors.current (length processors.runners) ≡ true) ⊎ (nat_lt processors.current (length processors.runners) ≡ false)
        → is_known s (runner_on (noted processors p s) q) ≡ true
    of (inl here) (inl within) =
        ap (λ r. is_known s (get_or (set processors.runners processors.current s.runner) r 0)) here
        ∙ ap (is_known s) (get_or-set_same processors.runners processors.current s.runner 0 (ltb-true processors.current (length processors.runners) within)) ∙ steady.runner
    of (inl here) (inr past) =
        none-past s (set processors.runners processors.current s.runner) q
        (ap (λ n. nat_lt q n) (length-set processors.runners processors.current s.runner) ∙ ap (λ r. nat_lt r (length processors.runners)) here ∙ past)
    of (inr there) within =
        ap (is_known s) (get_or-set_other processors.runners processors.current q s.runner 0 there) ∙ known q (λ same. there (sym same))

turn-steady : (m : Shared) → IsSteadyShared m → (x : Turn) → is_possible m x ≡ true → IsSteadyShared (turn_after m x)
turn-steady m steady (Acts p act) there = record {
  state = act-steady (state_on m p) (on-steady m.processors p m.state steady.state (steady.runners p)) act;
  runners =
      noted-known m.processors p m.state (acted (state_on m p) act).state steady.state steady.runners
      (act-parties (state_on m p) act ∙ on-parties m.processors p m.state);
}
turn-steady m steady (Writes e op) there = record {
  state = steady-step_as m.state e op steady.state (and_parts (is_known m.state e) (is_store op) there).0;
  runners = λ q other. known-behind m (Writes e op) (runner_on m.processors q) ∙ steady.runners q other;
}

pub steady-shared : (m : Shared) → IsSoundShared m → IsSteadyShared m
steady-shared m sound = record {
  state = sound-steady m.state sound.state;
  runners = λ p. of p (cases_Bool (nat_lt p (length m.processors.runners)));
}
  where
    of : (p : ℕ) → (nat_lt p (length m.processors.runners) ≡ true) ⊎ (nat_lt p (length m.processors.runners) ≡ false) → HasRunner m.processors p m.state
    of p (inl within) = has-runner m.processors p m.state (ltb-true p (length m.processors.runners) within) sound.placed sound.state
    of p (inr past) = λ other. none-past m.state m.processors.runners p past

-- ---- lists of turns
module _ (e : ℕ) (m : Shared) (steady : IsSteadyShared m) (known : is_known m.state e ≡ true) where
  turn-replayed : (x : Turn) → is_possible m x ≡ true → (rest : List Item)
      → replay e (view e m.state) (items_in e m x ++ rest) ≡ seeing (seen_in e m x) (replay e (view e (turn_after m x).state) rest)
  unfolding replay own_done as_effect
  turn-replayed (Acts p act) there rest =
      let t = state_on m p in
      let known_t : is_known t e ≡ true = subst (λ (parties : List Party). is_known_among (length parties) e ≡ true) (sym (on-parties m.processors p m.state)) known in
      let steady_t = on-steady m.processors p m.state steady.state (steady.runners p) in
      ap (replay e (view e m.state)) (append_assoc (told (public_change m.state t)) (items_of e t act) rest)
      ∙ told-on e (view e m.state) (public_change m.state t) (items_of e t act ++ rest)
      ∙ ap (λ os. seeing (outcomes_of os) (replay e (apply_all e (view e m.state) (public_change m.state t)) (items_of e t act ++ rest))) (messages-public e m.state t)
      ∙ ap (λ v. replay e v (items_of e t act ++ rest)) (sym (on-told m.processors p e m.state))
      ∙ act-replayed e t steady_t known_t act rest
  turn-replayed (Writes f op) there rest =
      let s = m.state in
      let (known_f, is) = and_parts (is_known s f) (is_store op) there in
      elim (f == e) as (λ b. (f == e) ≡ b → replay e (view e s) (cond b (Own op ∷ []) (told (events_as e s f op)) ++ rest)
      ≡ seeing (outcomes_of (cond b ((step_as s f op).outcome ∷ []) (messages e (events_as e s f op)))) (replay e (view e (step_as s f op).state) rest)) [
        | true ↦ λ mine.
            let acts : step_as (view e s) e op ≡ viewed e (step_as s f op) =
            own-step_as s e op steady.state known ∙ ap (λ (g : ℕ). viewed e (step_as s g op)) (sym (eqb-true f e mine)) in
            ap (λ (done : Effected). seeing (done.effect ∷ []) (replay e done.state rest)) (own-store e (view e s) op is ∙ ap as_effect acts)
        | false ↦ λ differ.
            told-on e (view e s) (events_as e s f op) rest
            ∙ ap (λ v. seeing (outcomes_of (messages e (events_as e s f op))) (replay e v rest)) (sym ((one_step_as s f op steady.state known_f).others e known (apart differ)))
      ] refl
    where
      apart : (f == e) ≡ false → f ≢ e
      apart differ same = true≢false (sym (eq-eqb f e same) ∙ differ)

lived-is : (e : ℕ) (xs : List Turn) (m : Shared) → IsSteadyShared m → is_known m.state e ≡ true → are_possible m xs ≡ true → lived e m xs ≡ replay e (view e m.state) (items_on e m xs)
unfolding replay lived
lived-is e [] m steady known all = refl
lived-is e (x ∷ xs) m steady known all =
    let (here, rest) = and_parts (is_possible m x) (are_possible m xs) all in
    let later = lived-is e xs (turn_after m x) (turn-steady m steady x here) (known-behind m x e ∙ known) (all-behind m x xs ∙ rest) in
    ap (seeing (seen_in e m x)) later ∙ sym (turn-replayed e m steady known x here (items_on e (turn_after m x) xs))

pub isolated_on : (m : Shared) (xs : List Turn) → IsSteadyShared m → are_possible m xs ≡ true → IsolatedOn m xs
unfolding lived
isolated_on m xs steady all e t others known steady_t all_t same same_items =
    let alike : lived e t others ≡ lived e m xs =
    lived-is e others t steady_t (ap (λ (v : State). is_known v e) same ∙ known) all_t ∙ (λ i. replay e (same i) (same_items i)) ∙ sym (lived-is e xs m steady known all) in
    (ap (λ (l : Lived). l.seen) alike, ap (λ (l : Lived). l.view) alike)

-- what holds of each turn holds of a list of them
pub sound_after_all : (m : Shared) (xs : List Turn) → IsSoundShared m → are_possible m xs ≡ true → IsSoundShared (turns_after m xs)
sound_after_all m [] sound all = sound
sound_after_all m (x ∷ xs) sound all =
    let (here, rest) = and_parts (is_possible m x) (are_possible m xs) all in
    sound_after_all (turn_after m x) xs (turn-sound m sound x here) (all-behind m x xs ∙ rest)

turn_never_grows : (m : Shared) → IsSoundShared m → (x : Turn) → is_possible m x ≡ true → NeverGrow m.state (turn_after m x).state
turn_never_grows m sound (Acts p (Operate op)) there =
    let within : p < length m.processors.runners = ltb-true p (length m.processors.runners) there in
    operation_never_grows m.processors p op m.state (sound-steady m.state sound.state) (has-runner m.processors p m.state within sound.placed sound.state)
turn_never_grows m sound (Acts p Interrupt) there =
    let within : p < length m.processors.runners = ltb-true p (length m.processors.runners) there in
    on-grows m.processors p m.state (interrupt (state_on m p)).state (interrupt_never_grows (state_on m p) (sound-steady (state_on m p) (sound-there m sound p within)))
turn_never_grows m sound (Writes e op) there =
    never_grows_as m.state e op (sound-steady m.state sound.state) (and_parts (is_known m.state e) (is_store op) there).0

pub shared_never_grows : (m : Shared) (xs : List Turn) → IsSoundShared m → are_possible m xs ≡ true → NeverGrow m.state (turns_after m xs).state
shared_never_grows m [] sound all = never_grow m.state [] (sound-steady m.state sound.state)
shared_never_grows m (x ∷ xs) sound all =
    let (here, rest) = and_parts (is_possible m x) (are_possible m xs) all in
    grows-through m.state (turn_after m x).state (turns_after (turn_after m x) xs).state (turn_never_grows m sound x here)
    (shared_never_grows (turn_after m x) xs (turn-sound m sound x here) (all-behind m x xs ∙ rest))

-- acts alone, as the definitions have them
pub acts-after : (m : Shared) (xs : List (ℕ × Act)) → turns_after m (as_turns xs) ≡ shared_after_all m xs
acts-after m [] = refl
acts-after m (x ∷ xs) = acts-after (shared_after m x) xs

pub acts-there : (m : Shared) (xs : List (ℕ × Act)) → are_possible m (as_turns xs) ≡ are_there m xs
acts-there m [] = refl
acts-there m (x ∷ xs) = ap (λ (b : Bool). nat_lt x.0 (length m.processors.runners) && b) (acts-there m xs)

-- stores alone, as they are of the state
pub writes-after : (xs : List (ℕ × Op)) (m : Shared) → turns_after m (as_writes xs) ≡ record m { state = state_after_as m.state xs }
writes-after [] m = refl
writes-after (x ∷ xs) m = writes-after xs (turn_after m (Writes x.0 x.1))

-- one list and then another
pub turns-both : (xs ys : List Turn) (m : Shared) → turns_after m (xs ++ ys) ≡ turns_after (turns_after m xs) ys
turns-both [] ys m = refl
turns-both (x ∷ xs) ys m = turns-both xs ys (turn_after m x)

pub possible-both : (m : Shared) (xs ys : List Turn) → are_possible m xs ≡ true → are_possible m ys ≡ true → are_possible m (xs ++ ys) ≡ true
possible-both m xs ys front back = list_all-append (is_possible m) xs ys ∙ and_from (are_possible m xs) (are_possible m ys) front back

pub possible-after : (xs ys : List Turn) (m : Shared) → are_possible (turns_after m xs) ys ≡ are_possible m ys
possible-after [] ys m = refl
possible-after (x ∷ xs) ys m = possible-after xs ys (turn_after m x) ∙ all-behind m x ys

-- ---- stores before a processor's turn are as in its turn
-- a store changes bytes alone, whoever runs
stored-by : (s : State) (e address : ℕ) (size : Size) (value : ℕ)
    → (step_as s e (Store address size value)).state ≡ (accessed (store_fault (as_run_by e s) address (size_of size)) s (stored s address (little_bytes (size_of size) value)) Done).state
stored-by s e address size value = elim (cases_eq s.runner e) [
  | inl runs ↦
      ap (λ (done : Stepped). done.state) (step_as-runs s e (Store address size value) runs)
      ∙ ap (λ (r : ℕ). (accessed (fault_of (address % size_of size == 0) (access_at s r address) may_store) s (stored s address (little_bytes (size_of size) value)) Done).state) runs
  | inr rests ↦
      ap (λ (done : Stepped). done.state) (step_as-rests s e (Store address size value) rests) ∙ of (store_fault (as_run_by e s) address (size_of size))
]
  where
    of : (o : Option FaultKind)
        → as_run_by s.runner (accessed o (as_run_by e s) (stored (as_run_by e s) address (little_bytes (size_of size) value)) Done).state
        ≡ (accessed o s (stored s address (little_bytes (size_of size) value)) Done).state
    of None = refl
    of (Some fault) = refl

moved-stored : (s : State) (f e address : ℕ) (size : Size) (value : ℕ)
    → moved_to (step_as s e (Store address size value)).state f ≡ (step_as (moved_to s f) e (Store address size value)).state
moved-stored s f e address size value =
    ap (λ (t : State). moved_to t f) (stored-by s e address size value) ∙ of (store_fault (as_run_by e s) address (size_of size))
    ∙ sym (stored-by (moved_to s f) e address size value)
  where
    of : (o : Option FaultKind)
        → moved_to (accessed o s (stored s address (little_bytes (size_of size) value)) Done).state f
        ≡ (accessed o (moved_to s f) (stored (moved_to s f) address (little_bytes (size_of size) value)) Done).state
    of None = refl
    of (Some fault) = refl

module _ (processors : Processors) (p : ℕ) where
  on-stored : (s : State) (e : ℕ) (op : Op) → is_store op ≡ true → on processors p (step_as s e op).state ≡ (step_as (on processors p s) e op).state
  on-stored s e (Store address size value) is = of (processors.current == p)
    where
      of : (b : Bool)
          → cond b (step_as s e (Store address size value)).state (moved_to (step_as s e (Store address size value)).state (runner_on processors p))
          ≡ (step_as (cond b s (moved_to s (runner_on processors p))) e (Store address size value)).state
      of true = refl
      of false = moved-stored s (runner_on processors p) e address size value
  on-stored s e op is = absurd (false≢true is)

  pub on-stores : (may : ℕ → ℕ → Bool) (xs : List (ℕ × Op)) (s : State) → AreStores may xs → on processors p (state_after_as s xs) ≡ state_after_as (on processors p s) xs
  on-stores may [] s are = refl
  on-stores may (x ∷ xs) s ((address, byte, is, lets), are) =
      on-stores may xs (step_as s x.0 x.1).state are
      ∙ ap (λ (t : State). state_after_as t xs) (on-stored s x.0 x.1 (ap is_store is))

-- and leave the run states
pub schedule-after : (may : ℕ → ℕ → Bool) (xs : List (ℕ × Op)) (s : State) → AreStores may xs → schedule_of (state_after_as s xs) ≡ schedule_of s
schedule-after may [] s are = refl
schedule-after may (x ∷ xs) s ((address, byte, is, lets), are) = schedule-after may xs (step_as s x.0 x.1).state are ∙ same-schedule s x.0 x.1 (ap is_store is)

-- who is noted for the processor that did the act before
pub turned-after : (may : ℕ → ℕ → Bool) (processors : Processors) (p : ℕ) (xs : List (ℕ × Op)) (s : State) → AreStores may xs → turned processors p (state_after_as s xs) ≡ turned processors p s
turned-after may processors p xs s are =
    ap (λ (c : Schedule). cond (processors.current == p) processors (let next : Processors = record { current = p; runners = set processors.runners processors.current c.runner } in next)) (schedule-after may xs s are)

-- so who goes on by a call is the same
pub resumed-same : (s t : State) → length t.parties ≡ length s.parties → schedule_of t ≡ schedule_of s → (op : Op) → resumed_by t op ≡ resumed_by s op
resumed-same s t parties schedule (Call x) = of (decode x)
  where
    of : (call : calls.Call) → resumed_by_call t call ≡ resumed_by_call s call
    of (Run target context) = λ i. cond (may_resume (parties i) (schedule i) target.0 context) (Some target.0) None
    of call = refl
resumed-same s t parties schedule (Load address size) = refl
resumed-same s t parties schedule (Store address size value) = refl
resumed-same s t parties schedule (Fetch address) = refl

-- stores of endpoints that there are
pub writes-there : (may : ℕ → ℕ → Bool) (xs : List (ℕ × Op)) (m : Shared) → AreStores may xs → are_known m.state xs ≡ true → are_possible m (as_writes xs) ≡ true
writes-there may [] m are known = refl
writes-there may (x ∷ xs) m ((address, byte, is, lets), are) known =
    let (here, rest) = and_parts (is_known m.state x.0) (are_known m.state xs) known in
    and_from (is_possible m (Writes x.0 x.1)) (are_possible m (as_writes xs)) (and_from (is_known m.state x.0) (is_store x.1) here (ap is_store is)) (writes-there may xs m are rest)
