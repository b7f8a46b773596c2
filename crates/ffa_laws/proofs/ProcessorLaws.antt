-- SPDX-License-Identifier: MIT OR Apache-2.0
-- The laws of interrupts and of operations of several processors: who runs is public, and nothing else changes beside a step.
use Rattle.std.proofs.Common.{◌≡◌, ◌≢◌, ◌∙◌, ℕ, ◌<◌, ◌≤◌, Bool, true, false, cond, [], ◌++◌, length, Option, Some, None, refl, sym, ap, subst, arith, inl, inr, ◌==◌}
use Rattle.std.proofs.lemmas.Bool.{and_parts, cases_eq, eq-eqb, eqb-true, false≢true, ne_eqb}
use Rattle.std.proofs.lemmas.Option.{none-some, same_Some}
use Rattle.ffa_model.specs.declared.call.Call.TheVariants.{Run}
use Rattle.ffa_model.specs.declared.call.Call as calls
use Rattle.ffa_model.specs.declared.operation.Effect.TheVariants as effects
use Rattle.ffa_model.specs.declared.operation.Op.{Op}
use Rattle.ffa_model.specs.declared.operation.Op.TheVariants.{Call}
use Rattle.ffa_model.specs.declared.operation.Outcome.{Outcome}
use Rattle.ffa_model.specs.declared.schedule.Status.{Status}
use Rattle.ffa_model.specs.declared.schedule.Status.TheVariants.{Running, Blocked, Preempted, RunsElsewhere}
use Rattle.ffa_model.specs.Registers.{decode}
use Rattle.ffa_model.specs.Calls.{Stepped, replied}
use Rattle.ffa_model.specs.declared.function.TheConstants.{FFA_INTERRUPT}
use Rattle.ffa_model.specs.declared.operation.Outcome.TheVariants.{Done}
use Rattle.ffa_model.specs.OneChain.{IsSimple}
use Rattle.ffa_model.specs.RunStates.{is_preempted, is_stopped, schedule_of, scheduled, status_in, switched}
use Rattle.ffa_model.specs.Sound.{HasStopped, IsSound, MayGoOn, MayStop}
use Rattle.ffa_model.specs.SoundState.{IsSoundState}
use Rattle.ffa_model.specs.State.{State, is_known, is_partition_among}
use Rattle.ffa_model.specs.Processors.{ArePlaced, Processors, SameElsewhere, effected, interrupt, left_status, may_resume, moved_to, on, resumed_by, resumed_by_call, runner_on, step_on, step_resuming, turned, with_switch}
use Rattle.ffa_model.proofs.Places.{partition-known}
use Rattle.ffa_model.proofs.Processors.{elsewhere-going, on-sound, placed-still, turned-placed}
use Rattle.ffa_model.proofs.Sounds.{sound-going}
use Rattle.ffa_laws.specs.Events.{apply_all, public_change, switches}
use Rattle.ffa_laws.specs.Isolation.{NeverGrow, OneStep}
use Rattle.ffa_laws.specs.Processors.{HasRunner, OneInterrupt, effect_events, events_resuming, interruption, on_processor, resuming}
use Rattle.ffa_laws.specs.Steady.{IsSteady}
use Rattle.ffa_laws.specs.View.{view}
use Rattle.ffa_laws.proofs.Changes.{apply_all-append, other-changed, own-same, unwritten}
use Rattle.ffa_laws.proofs.Growth.{never_grow, step_never_grows}
use Rattle.ffa_laws.proofs.Laws.{one_step}
use Rattle.ffa_laws.proofs.ScheduleLaws.{other-scheduled}
use Rattle.ffa_laws.proofs.SoundKept.{schedule-sound}
use Rattle.ffa_laws.proofs.SoundOperations.{elsewhere-step, step-sound}
use Rattle.ffa_laws.proofs.Steadies.{steady-changed}

-- ---- who runs is public
pub other-switched : (e : ℕ) (s : State) (status : Status) (f : ℕ) → view e (with_switch s status f) ≡ apply_all e (view e s) (public_change s (with_switch s status f))
other-switched e s status f = other-changed e s s.pages s.buffers (switched (schedule_of s) status f) [] (unwritten s.pages) refl (own-same e s) refl

pub steady-switched : (s : State) → IsSteady s → (status : Status) (f : ℕ) → is_known s f ≡ true → IsSteady (with_switch s status f)
steady-switched s steady status f known =
    steady-changed s steady s.pages s.buffers (switched (schedule_of s) status f) (unwritten s.pages) refl known steady.requesters steady.buffers

pub sound-switched : (s : State) → IsSoundState s → (status : Status) (f : ℕ) → MayStop (schedule_of s) status → MayGoOn (schedule_of s) f → IsSoundState (with_switch s status f)
sound-switched s sound status f stops goes =
    let least = sound.sized.some in
    let works = sound.sized.works in
    let some : 1 ≤ length s.works = omega (arith, least, works) in
    schedule-sound s sound (switched (schedule_of s) status f) works (sound-going (schedule_of s) sound.schedule some status f stops goes)

-- ---- interrupts
-- by whether the normal world runs
abbrev pub taken : State → Bool → Stepped
taken s b = cond b (record { state = s; outcome = Done }) (replied (with_switch s Preempted 0) (scheduled FFA_INTERRUPT s.runner))

pub one_interrupt : (s : State) → OneInterrupt s
one_interrupt s = record {
  others = λ e. (elim (s.runner == 0) as (λ b. view e (taken s b).state ≡ apply_all e (view e s) (cond b [] (switches e (interruption s) ++ public_change s (interruption s).state))) [
    | true ↦ refl
    | false ↦ other-scheduled e s (switched (schedule_of s) Preempted 0) (interruption s)
  ]);
  outcome = λ t same. sym (outcome-view s.runner t) ∙ ap (λ (v : State). (interrupt v).outcome) same ∙ outcome-view s.runner s;
}
  where
    outcome-view : (e : ℕ) (t : State) → (interrupt (view e t)).outcome ≡ (interrupt t).outcome
    outcome-view e t = elim (t.runner == 0) as (λ b. (taken (view e t) b).outcome ≡ (taken t b).outcome) [ true ↦ refl | false ↦ refl ]

-- ---- a preempted partition goes on
pub resumed-view : (e : ℕ) (s : State) (op : Op) → resumed_by (view e s) op ≡ resumed_by s op
resumed-view e s (Call x) = refl
resumed-view e s _ = refl

resumed-alike : (e : ℕ) (s t : State) (op : Op) → view e t ≡ view e s → resumed_by t op ≡ resumed_by s op
resumed-alike e s t op same = sym (resumed-view e t op) ∙ ap (λ (v : State). resumed_by v op) same ∙ resumed-view e s op

pub one_effect : (s : State) (op : Op) → IsSteady s → OneStep (resuming op) s
one_effect s op steady = record {
  others = λ e known other. (of-other e known other (resumed_by s op));
  outcome = λ t steady_t same. ap (λ o. (effected t op o).effect) (resumed-alike s.runner s t op same) ∙ of-effect t steady_t same (resumed_by s op);
  own = λ t steady_t same. ap (λ o. view s.runner (effected t op o).state) (resumed-alike s.runner s t op same) ∙ of-own t steady_t same (resumed_by s op);
}
  where
    of-other : (e : ℕ) → is_known s e ≡ true → s.runner ≢ e → (o : Option ℕ) → view e (effected s op o).state ≡ apply_all e (view e s) (effect_events e s op o)
    of-other e known other None = (one_step s op steady).others e known other
    of-other e known other (Some f) = other-switched e s Blocked f

    of-effect : (t : State) → IsSteady t → view s.runner t ≡ view s.runner s → (o : Option ℕ) → (effected t op o).effect ≡ (effected s op o).effect
    of-effect t steady_t same None = ap (λ (outcome : Outcome). effects.Outcome outcome) ((one_step s op steady).outcome t steady_t same)
    of-effect t steady_t same (Some f) = refl

    of-own : (t : State) → IsSteady t → view s.runner t ≡ view s.runner s → (o : Option ℕ) → view s.runner (effected t op o).state ≡ view s.runner (effected s op o).state
    of-own t steady_t same None = (one_step s op steady).own t steady_t same
    of-own t steady_t same (Some f) = ap (λ (v : State). with_switch v Blocked f) same

-- rights don't grow
grown-on : (s t : State) (status : Status) (f : ℕ) → NeverGrow (with_switch s status f) t → NeverGrow s t
grown-on s t status f its = record { own_right = its.own_right; within = its.within; manager = its.manager; alone = its.alone }

pub grown-switched : (s : State) (status : Status) (f : ℕ) → IsSteady s → NeverGrow s (with_switch s status f)
grown-switched s status f steady =
    let its = never_grow s [] steady in
    record { own_right = its.own_right; within = its.within; manager = its.manager; alone = its.alone }

pub effect_never_grows : (s : State) (op : Op) → IsSteady s → NeverGrow s (step_resuming s op).state
effect_never_grows s op steady = of (resumed_by s op)
  where
    of : (o : Option ℕ) → NeverGrow s (effected s op o).state
    of None = step_never_grows s op steady
    of (Some f) = grown-switched s Blocked f steady

-- ---- processors
module _ (processors : Processors) (p : ℕ) where
  -- the state as the processor sees it, in a view
  on-view : (e : ℕ) (s : State) → on processors p (view e s) ≡ view e (on processors p s)
  on-view e s = elim (processors.current == p) as (λ b. cond b (view e s) (moved_to (view e s) (runner_on processors p)) ≡ view e (cond b s (moved_to s (runner_on processors p)))) [
    | true ↦ refl
    | false ↦ refl
  ]

  on-alike : (e : ℕ) (s t : State) → view e t ≡ view e s → view e (on processors p t) ≡ view e (on processors p s)
  on-alike e s t same = sym (on-view e t) ∙ ap (on processors p) same ∙ on-view e s

  pub on-told : (e : ℕ) (s : State) → view e (on processors p s) ≡ apply_all e (view e s) (public_change s (on processors p s))
  on-told e s = elim (processors.current == p) as (λ b. view e (cond b s (moved_to s (runner_on processors p))) ≡ apply_all e (view e s) (public_change s (cond b s (moved_to s (runner_on processors p))))) [
    | true ↦ other-changed e s s.pages s.buffers (schedule_of s) [] (unwritten s.pages) refl (own-same e s) refl
    | false ↦ other-switched e s (left_status s.runner) (runner_on processors p)
  ]

  pub on-known : (e : ℕ) (s : State) → is_known (on processors p s) e ≡ is_known s e
  on-known e s = elim (processors.current == p) as (λ b. is_known (cond b s (moved_to s (runner_on processors p))) e ≡ is_known s e) [ true ↦ refl | false ↦ refl ]

  pub on-steady : (s : State) → IsSteady s → HasRunner processors p s → IsSteady (on processors p s)
  on-steady s steady known = elim (cases_eq processors.current p) [
    | inl same ↦ subst (λ b. IsSteady (cond b s (moved_to s (runner_on processors p)))) (sym (eq-eqb processors.current p same)) steady
    | inr other ↦ subst (λ b. IsSteady (cond b s (moved_to s (runner_on processors p)))) (sym (ne_eqb processors.current p other))
        (steady-switched s steady (left_status s.runner) (runner_on processors p) (known other))
  ]

  pub one_operation : (op : Op) (s : State) → IsSteady s → HasRunner processors p s → OneStep (on_processor processors p op) s
  one_operation op s steady known =
      let now = on processors p s in
      let its = one_effect now op (on-steady s steady known) in
      record {
        others = λ e there other.
            its.others e (on-known e s ∙ there) other
            ∙ ap (λ (v : State). apply_all e v (events_resuming e now op)) (on-told e s)
            ∙ sym (apply_all-append e (view e s) (public_change s now) (events_resuming e now op));
        outcome = λ t steady_t same. its.outcome (on processors p t) (on-steady t steady_t (known-there t same)) (on-alike now.runner s t same);
        own = λ t steady_t same. its.own (on processors p t) (on-steady t steady_t (known-there t same)) (on-alike now.runner s t same);
      }
    where
      known-there : (t : State) → view (on processors p s).runner t ≡ view (on processors p s).runner s → HasRunner processors p t
      known-there t same other = ap (λ (v : State). is_known v (runner_on processors p)) same ∙ known other

  -- rights don't grow
  pub on-grows : (s t : State) → NeverGrow (on processors p s) t → NeverGrow s t
  on-grows s t its = from (processors.current == p) its
    where
      from : (b : Bool) → NeverGrow (cond b s (moved_to s (runner_on processors p))) t → NeverGrow s t
      from true its = its
      from false its = grown-on s t (left_status s.runner) (runner_on processors p) its

  pub operation_never_grows : (op : Op) (s : State) → IsSteady s → HasRunner processors p s → NeverGrow s (step_on processors p s op).state
  operation_never_grows op s steady known =
      on-grows s (step_on processors p s op).state (effect_never_grows (on processors p s) op (on-steady s steady known))

pub interrupt_never_grows : (s : State) → IsSteady s → NeverGrow s (interrupt s).state
interrupt_never_grows s steady = of (s.runner == 0)
  where
    of : (b : Bool) → NeverGrow s (taken s b).state
    of true = never_grow s [] steady
    of false = grown-switched s Preempted 0 steady

-- ---- sound states
is-preempted : (status : Status) → is_preempted status ≡ true → status ≡ Preempted
is-preempted Preempted is = refl
is-preempted _ is = absurd (false≢true is)

module _ (s : State) (sound : IsSoundState s) where
  some-works : 1 ≤ length s.works
  some-works =
      let least = sound.sized.some in
      let works = sound.sized.works in
      omega (arith, least, works)

  pub interrupt-sound : IsSoundState (interrupt s).state
  interrupt-sound = elim (cases_eq s.runner 0) [
    | inl first ↦ subst (λ b. IsSoundState (taken s b).state) (sym (eq-eqb s.runner 0 first)) sound
    | inr other ↦ subst (λ b. IsSoundState (taken s b).state) (sym (ne_eqb s.runner 0 other)) (sound-switched s sound Preempted 0 other (inl refl))
  ]

  -- who is resumed was preempted, and the normal world runs
  pub resumed-fits : (op : Op) (f : ℕ) → resumed_by s op ≡ Some f → (s.runner ≡ 0) × (HasStopped (schedule_of s) f) × (status_in (schedule_of s) f ≡ Preempted)
  resumed-fits (Call x) f is = of (decode x) is
    where
      at : (e context : ℕ) (b : Bool) → may_resume (length s.parties) (schedule_of s) e context ≡ b → cond b (Some e) None ≡ Some f
          → (s.runner ≡ 0) × (HasStopped (schedule_of s) f) × (status_in (schedule_of s) f ≡ Preempted)
      at e context false may is = absurd (none-some f is)
      at e context true may is =
          let same : e ≡ f = same_Some e f is in
          let (runs, rest) = and_parts (s.runner == 0) _ may in
          let (partition, later) = and_parts (is_partition_among (length s.parties) e) _ rest in
          let (zero, stopped) = and_parts (context == 0) _ later in
          let preempts : status_in (schedule_of s) e ≡ Preempted = is-preempted (status_in (schedule_of s) e) stopped in (
            eqb-true s.runner 0 runs,
            subst (HasStopped (schedule_of s)) same (record {
              partition = ap (λ n. is_partition_among n e) sound.sized.works ∙ partition;
              stopped = ap is_stopped preempts;
            }),
            ap (status_in (schedule_of s)) (sym same) ∙ preempts,
          )

      of : (call : calls.Call) → resumed_by_call s call ≡ Some f → (s.runner ≡ 0) × (HasStopped (schedule_of s) f) × (status_in (schedule_of s) f ≡ Preempted)
      of (Run target context) is = at target.0 context (may_resume (length s.parties) (schedule_of s) target.0 context) refl is
      of call is = absurd (none-some f is)
  resumed-fits _ f is = absurd (none-some f is)

  pub effect-sound : (op : Op) → IsSoundState (step_resuming s op).state
  effect-sound op = of (resumed_by s op) refl
    where
      of : (o : Option ℕ) → resumed_by s op ≡ o → IsSoundState (effected s op o).state
      of None is = step-sound s sound op
      of (Some f) is = (let (runs, stopped, preempts) = resumed-fits op f is in sound-switched s sound Blocked f runs (inr stopped))

  -- the same partitions run elsewhere
  pub effect-elsewhere : (op : Op) → SameElsewhere (schedule_of s) (schedule_of (step_resuming s op).state)
  effect-elsewhere op = of (resumed_by s op) refl
    where
      blocked≢elsewhere : Blocked ≡ RunsElsewhere → ⊥
      blocked≢elsewhere h = cc

      preempted≢elsewhere : Preempted ≡ RunsElsewhere → ⊥
      preempted≢elsewhere h = cc

      of : (o : Option ℕ) → resumed_by s op ≡ o → SameElsewhere (schedule_of s) (schedule_of (effected s op o).state)
      of None is = elsewhere-step s sound op
      of (Some f) is =
          (let (runs, stopped, preempts) = resumed-fits op f is in
          elsewhere-going (schedule_of s) sound.schedule some-works Blocked f runs (inr stopped) blocked≢elsewhere (λ away. preempted≢elsewhere (sym preempts ∙ away)))

  pub interrupt-elsewhere : SameElsewhere (schedule_of s) (schedule_of (interrupt s).state)
  interrupt-elsewhere = elim (cases_eq s.runner 0) [
    | inl first ↦ subst (λ b. SameElsewhere (schedule_of s) (schedule_of (taken s b).state)) (sym (eq-eqb s.runner 0 first)) (λ e. ((λ its. its), (λ its. its)))
    | inr other ↦ subst (λ b. SameElsewhere (schedule_of s) (schedule_of (taken s b).state)) (sym (ne_eqb s.runner 0 other))
        (elsewhere-going (schedule_of s) sound.schedule some-works Preempted 0 other (inl refl) preempted≢elsewhere normal-here)
  ]
    where
      preempted≢elsewhere : Preempted ≡ RunsElsewhere → ⊥
      preempted≢elsewhere h = cc

      running≢elsewhere : Running ≡ RunsElsewhere → ⊥
      running≢elsewhere h = cc

      blocked≢elsewhere : Blocked ≡ RunsElsewhere → ⊥
      blocked≢elsewhere h = cc

      normal-here : status_in (schedule_of s) 0 ≢ RunsElsewhere
      normal-here away = elim sound.schedule.normal [ inl runs ↦ running≢elsewhere (sym runs ∙ away) | inr blocked ↦ blocked≢elsewhere (sym blocked ∙ away) ]

  -- as another processor sees it
  module _ (processors : Processors) (placed : ArePlaced processors s) (p : ℕ) (within : p < length processors.runners) where
    pub on-sound-state : IsSoundState (on processors p s)
    on-sound-state = of (processors.current == p) (on-sound processors s sound.schedule some-works placed p within)
      where
        of : (b : Bool) → IsSound (schedule_of (cond b s (moved_to s (runner_on processors p)))) → IsSoundState (cond b s (moved_to s (runner_on processors p)))
        of true schedule = sound
        of false schedule = schedule-sound s sound (switched (schedule_of s) (left_status s.runner) (runner_on processors p)) sound.sized.works schedule

-- where processors and state fit together, an endpoint runs on each
pub has-runner : (processors : Processors) (p : ℕ) (s : State) → p < length processors.runners → ArePlaced processors s → IsSoundState s → HasRunner processors p s
has-runner processors p s within placed sound other = elim (cases_eq (runner_on processors p) 0) [
  | inl first ↦ ap (is_known s) first
  | inr busy ↦ (let its = placed.others p (record { within = within; other = λ h. other (sym h) }) busy in
      partition-known (length s.parties) (runner_on processors p) (ap (λ n. is_partition_among n (runner_on processors p)) (sym sound.sized.works) ∙ its.partition))
]

pub operation-sound : (processors : Processors) (p : ℕ) (s : State) (op : Op) → p < length processors.runners → ArePlaced processors s → IsSoundState s → IsSoundState (step_on processors p s op).state
operation-sound processors p s op within placed sound = effect-sound (on processors p s) (on-sound-state s sound processors placed p within) op

pub operation-placed : (processors : Processors) (p : ℕ) (s : State) (op : Op) → p < length processors.runners → ArePlaced processors s → IsSoundState s
    → ArePlaced (turned processors p s) (step_on processors p s op).state
operation-placed processors p s op within placed sound =
    placed-still (turned processors p s) (on processors p s) (step_on processors p s op).state
    (effect-elsewhere (on processors p s) (on-sound-state s sound processors placed p within) op)
    (turned-placed processors s sound.schedule (some-works s sound) placed p within)

pub interrupt-placed : (processors : Processors) (p : ℕ) (s : State) → p < length processors.runners → ArePlaced processors s → IsSoundState s
    → ArePlaced (turned processors p s) (interrupt (on processors p s)).state
interrupt-placed processors p s within placed sound =
    placed-still (turned processors p s) (on processors p s) (interrupt (on processors p s)).state
    (interrupt-elsewhere (on processors p s) (on-sound-state s sound processors placed p within))
    (turned-placed processors s sound.schedule (some-works s sound) placed p within)

-- ---- without interrupts and other processors
pub effect-simple : (s : State) (op : Op) → length s.works ≡ length s.parties → IsSimple (schedule_of s) → step_resuming s op ≡ effected s op None
effect-simple s op works simple = ap (effected s op) (none op)
  where
    refused : (e : ℕ) (context : ℕ) → may_resume (length s.parties) (schedule_of s) e context ≡ true → ⊥
    refused e context may =
        let (runs, rest) = and_parts (s.runner == 0) _ may in
        let (partition, later) = and_parts (is_partition_among (length s.parties) e) _ rest in
        let (zero, stopped) = and_parts (context == 0) _ later in
        simple.preempted e (ap (λ n. is_partition_among n e) works ∙ partition) (is-preempted (status_in (schedule_of s) e) stopped)

    at : (e : ℕ) (b : Bool) → (b ≡ true → ⊥) → cond b (Some e) None ≡ None
    at e true never = absurd (never refl)
    at e false never = refl

    of : (call : calls.Call) → resumed_by_call s call ≡ None
    of (Run target context) = at target.0 (may_resume (length s.parties) (schedule_of s) target.0 context) (refused target.0 context)
    of call = refl

    none : (op : Op) → resumed_by s op ≡ None
    none (Call x) = of (decode x)
    none _ = refl

pub operation-current : (processors : Processors) (s : State) (op : Op) → step_on processors processors.current s op ≡ step_resuming s op
operation-current processors s op =
    ap (λ b. step_resuming (cond b s (moved_to s (runner_on processors processors.current))) op) (eq-eqb processors.current processors.current refl)
