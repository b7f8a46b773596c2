-- SPDX-License-Identifier: MIT OR Apache-2.0
-- Bytes, access and what is told by an operation or an interrupt of a processor, from the state before: but for who runs all is as
-- it is in the state that the processor sees.
use Rattle.std.proofs.Common.{◌≡◌, ◌≢◌, ◌∙◌, ℕ, ◌<◌, true, false, cond, List, [], ◌∷◌, ◌++◌, length, get_or, Option, Some, None, refl, sym, ap, subst, inr, ◌==◌, ◌&&◌, true≢false}
use Rattle.std.specs.List.{list_all}
use Rattle.std.proofs.lemmas.Option.{none-some}
use Rattle.ffa_model.specs.declared.call.Call as calls
use Rattle.ffa_model.specs.declared.call.Call.TheVariants.{Run}
use Rattle.ffa_model.specs.declared.operation.Effect.TheVariants as effects
use Rattle.ffa_model.specs.declared.operation.Op.{Op}
use Rattle.ffa_model.specs.declared.operation.Op.TheVariants.{Call}
use Rattle.ffa_model.specs.declared.operation.Outcome.{Outcome}
use Rattle.ffa_model.specs.declared.schedule.Status.{Status}
use Rattle.ffa_model.specs.declared.schedule.Status.TheVariants.{Blocked, Preempted}
use Rattle.ffa_model.specs.Access.{access, handle_at}
use Rattle.ffa_model.specs.Calls.{encode}
use Rattle.ffa_model.specs.Lists.{map_at}
use Rattle.ffa_model.specs.Memory.{page_bytes}
use Rattle.ffa_model.specs.Processors.{ArePlaced, Processors, effected, interrupt, moved_to, on, resumed_by, resumed_by_call, runner_on, step_on, step_resuming, with_switch}
use Rattle.ffa_model.specs.Registers.{decode}
use Rattle.ffa_model.specs.Rights.{is_within, may_store}
use Rattle.ffa_model.specs.SoundState.{IsSoundState}
use Rattle.ffa_model.specs.State.{State, is_known, owner_of}
use Rattle.ffa_model.proofs.Accesses.{length-map_at}
use Rattle.ffa_laws.specs.Events.{Event, Wrote, Message, Opened, Zeroed, Public, apply_all, public_change, switches, where_true, with_public, with_public_buffers}
use Rattle.ffa_laws.specs.Isolation.{Integrity}
use Rattle.ffa_laws.specs.OwnAccess.{AreApart, IsSameOrNone, OwnAccess, gives_access, is_call, takes_access}
use Rattle.ffa_laws.specs.Processors.{ConfidentialInterrupt, effect_events, events_resuming, interrupt_events, interruption, on_processor, resuming}
use Rattle.ffa_laws.specs.Public.{PublicPart, public_part}
use Rattle.ffa_laws.specs.Readable.{Confidential, all_readably, blank, blank_where, is_unreadable, readable, readably, revealed}
use Rattle.ffa_laws.specs.Silence.{AreBare, AreMet, AreNews, IsHeard, Silence, may_be_told, may_change_public}
use Rattle.ffa_laws.specs.Steady.{IsSteady}
use Rattle.ffa_laws.specs.View.{view}
use Rattle.ffa_laws.specs.Writers.{OnlyWriters, is_reclaim}
use Rattle.ffa_laws.proofs.Bare.{bare-append, bare-public}
use Rattle.ffa_laws.proofs.Changes.{apply_all-append}
use Rattle.ffa_laws.proofs.Clean.{readably-append}
use Rattle.ffa_laws.proofs.Integrities.{integrity}
use Rattle.ffa_laws.proofs.Meets.{met-append}
use Rattle.ffa_laws.proofs.News.{news-append, news-public, silence}
use Rattle.ffa_laws.proofs.OwnAccesses.{own_access}
use Rattle.ffa_laws.proofs.ProcessorLaws.{has-runner, on-known, on-sound-state, on-steady, on-told, other-switched, taken}
use Rattle.ffa_laws.proofs.Publics.{either-public}
use Rattle.ffa_laws.proofs.Readings.{confidential}
use Rattle.ffa_laws.proofs.SoundSteady.{sound-steady}
use Rattle.ffa_laws.proofs.Within.{within-same}
use Rattle.ffa_laws.proofs.Writers.{only_writers}

-- ---- a change of who runs, as it is told readably
public-readably : (e : ℕ) (s next : State)
    → blank (is_unreadable s e) (apply_all e (view e s) (public_change s next)) ≡ apply_all e (readable e s) (all_readably e s (public_change s next))
public-readably e s next =
    either-public (λ es. blank (is_unreadable s e) (apply_all e (view e s) es) ≡ apply_all e (readable e s) (all_readably e s es)) s next refl
    (λ i. record (with_public (view e s) (public_part next)) {
      pages = (readable e s).pages;
      buffers = map_at (λ j b. with_public_buffers (sym size i) b (get_or (public_part next).buffers j None)) (view e s).buffers;
    })
  where
    size : length (readable e s).pages ≡ length (view e s).pages
    size = length-map_at (λ p page. blank_where (is_unreadable s e p) page) (view e s).pages

switched-readably : (e : ℕ) (s : State) (status : Status) (f : ℕ)
    → readable e (with_switch s status f) ≡ apply_all e (readable e s) (all_readably e s (public_change s (with_switch s status f)))
switched-readably e s status f =
    ap (blank (is_unreadable s e)) (other-switched e s status f) ∙ public-readably e s (with_switch s status f)

-- ---- an operation where partitions may be preempted
resumed-by-run : (s : State) (op : Op) (f : ℕ) → resumed_by s op ≡ Some f → is_call may_change_public op ≡ true
resumed-by-run s (Call x) f is = of (decode x) is
  where
    of : (call : calls.Call) → resumed_by_call s call ≡ Some f → may_change_public call ≡ true
    of (Run target context) is = refl
    of call is = absurd (none-some f is)
resumed-by-run s _ f is = absurd (none-some f is)

public-told : (op : Op) (values : PublicPart) → is_call may_change_public op ≡ true → may_be_told op (Public values) ≡ true
public-told (Call x) values may = may
public-told _ values may = absurd (true≢false (sym may))

module _ (s : State) (op : Op) (sound : IsSoundState s) where
  steady : IsSteady s
  steady = sound-steady s sound

  integrity-resuming : Integrity (resuming op) s
  integrity-resuming e p owner alone other message = of (resumed_by s op)
    where
      of : (o : Option ℕ) → page_bytes (effected s op o).state p ≡ page_bytes s p
      of None = integrity s op steady e p owner alone other message
      of (Some f) = refl

  writers-resuming : OnlyWriters (resuming op) s
  writers-resuming p no_right unreclaimed unfilled = of (resumed_by s op) unreclaimed
    where
      of : (o : Option ℕ) → (is_call is_reclaim op && may_store (access (effected s op o).state s.runner p)) ≡ false → page_bytes (effected s op o).state p ≡ page_bytes s p
      of None none = only_writers s op sound p no_right none unfilled
      of (Some f) none = refl

  rows-resuming : (e : ℕ) → list_all (may_be_told op) (events_resuming e s op) ≡ true
  rows-resuming e = of (resumed_by s op) refl
    where
      of : (o : Option ℕ) → resumed_by s op ≡ o → list_all (may_be_told op) (effect_events e s op o) ≡ true
      of None is = (silence s op steady).rows e
      of (Some f) is = either-public (λ es. list_all (may_be_told op) es ≡ true) s (with_switch s Blocked f) refl (ap (λ b. b && true) (public-told op _ (resumed-by-run s op f is)))

  public-resuming : is_call may_change_public op ≡ false → public_part (step_resuming s op).state ≡ public_part s
  public-resuming never = of (resumed_by s op) refl
    where
      of : (o : Option ℕ) → resumed_by s op ≡ o → public_part (effected s op o).state ≡ public_part s
      of None is = (silence s op steady).public never
      of (Some f) is = absurd (true≢false (sym (resumed-by-run s op f is) ∙ never))

  module _ (e : ℕ) (known : is_known s e ≡ true) (other : s.runner ≢ e) where
    news-resuming : AreNews e (view e s) (events_resuming e s op)
    news-resuming = of (resumed_by s op)
      where
        of : (o : Option ℕ) → AreNews e (view e s) (effect_events e s op o)
        of None = (silence s op steady).heard.news e known other
        of (Some f) = news-public e s (with_switch s Blocked f) [] refl (other-switched e s Blocked f)

    met-resuming : AreMet e (view e s) (events_resuming e s op)
    met-resuming = of (resumed_by s op)
      where
        of : (o : Option ℕ) → AreMet e (view e s) (effect_events e s op o)
        of None = (silence s op steady).heard.meets sound e known other
        of (Some f) = either-public (AreMet e (view e s)) s (with_switch s Blocked f) tt (refl, tt)

    bare-resuming : AreBare e (view e s) (events_resuming e s op)
    bare-resuming = of (resumed_by s op)
      where
        of : (o : Option ℕ) → AreBare e (view e s) (effect_events e s op o)
        of None = (silence s op steady).heard.bare e known other
        of (Some f) = bare-public e s (with_switch s Blocked f) [] (other-switched e s Blocked f)

  silence-resuming : Silence op (resuming op) s
  silence-resuming = record {
    rows = rows-resuming;
    public = public-resuming;
    heard = record { news = news-resuming; meets = λ sound. met-resuming; bare = bare-resuming };
  }

  module _ (apart : AreApart s) where
    access-resuming : (e p : ℕ) → s.runner ≢ e → access (step_resuming s op).state e p ≡ access s e p
    access-resuming e p other = of (resumed_by s op)
      where
        of : (o : Option ℕ) → access (effected s op o).state e p ≡ access s e p
        of None = (own_access s op steady apart).others e p other
        of (Some f) = refl

    grows-resuming : (p : ℕ) → is_call gives_access op ≡ false → is_within (access (step_resuming s op).state s.runner p) (access s s.runner p) ≡ true
    grows-resuming p none = of (resumed_by s op)
      where
        of : (o : Option ℕ) → is_within (access (effected s op o).state s.runner p) (access s s.runner p) ≡ true
        of None = (own_access s op steady apart).grows p none
        of (Some f) = within-same (access s s.runner p)

    shrinks-resuming : (p : ℕ) → is_call takes_access op ≡ false → is_within (access s s.runner p) (access (step_resuming s op).state s.runner p) ≡ true
    shrinks-resuming p none = of (resumed_by s op)
      where
        of : (o : Option ℕ) → is_within (access s s.runner p) (access (effected s op o).state s.runner p) ≡ true
        of None = (own_access s op steady apart).shrinks p none
        of (Some f) = within-same (access s s.runner p)

    keeps-resuming : (p : ℕ) → IsSameOrNone (access s s.runner p) (access (step_resuming s op).state s.runner p)
    keeps-resuming p = of (resumed_by s op)
      where
        of : (o : Option ℕ) → IsSameOrNone (access s s.runner p) (access (effected s op o).state s.runner p)
        of None = (own_access s op steady apart).keeps p
        of (Some f) = inr (inr refl)

    readable-resuming : (e : ℕ) → is_known s e ≡ true → s.runner ≢ e
        → readable e (step_resuming s op).state ≡ apply_all e (readable e s) (all_readably e s (events_resuming e s op))
    readable-resuming e known other = of (resumed_by s op)
      where
        of : (o : Option ℕ) → readable e (effected s op o).state ≡ apply_all e (readable e s) (all_readably e s (effect_events e s op o))
        of None = (confidential s op steady apart).others e known other
        of (Some f) = switched-readably e s Blocked f

    module _ (t : State) (steady_t : IsSteady t) (same : readable s.runner t ≡ readable s.runner s) where
      resumed-readably : resumed_by t op ≡ resumed_by s op
      resumed-readably = sym (resumed-readable s.runner t op) ∙ ap (λ (v : State). resumed_by v op) same ∙ resumed-readable s.runner s op
        where
          resumed-readable : (e : ℕ) (u : State) (op : Op) → resumed_by (readable e u) op ≡ resumed_by u op
          resumed-readable e u (Call x) = refl
          resumed-readable e u _ = refl

      effect-alike : (step_resuming t op).effect ≡ (step_resuming s op).effect
      effect-alike = ap (λ o. (effected t op o).effect) resumed-readably ∙ of (resumed_by s op)
        where
          of : (o : Option ℕ) → (effected t op o).effect ≡ (effected s op o).effect
          of None = ap (λ (outcome : Outcome). effects.Outcome outcome) ((confidential s op steady apart).outcome t steady_t same)
          of (Some f) = refl

      switched-alike : (f : ℕ) → readable s.runner (with_switch t Blocked f) ≡ readable s.runner (with_switch s Blocked f)
      switched-alike f = ap (λ (v : State). with_switch v Blocked f) same

      own-alike : revealed s.runner t (step_resuming t op).state ≡ revealed s.runner s (step_resuming s op).state
          → readable s.runner (step_resuming t op).state ≡ readable s.runner (step_resuming s op).state
      own-alike shown =
          ap (λ o. readable s.runner (effected t op o).state) resumed-readably
          ∙ of (resumed_by s op) (ap (λ o. revealed s.runner t (effected t op o).state) (sym resumed-readably) ∙ shown)
        where
          of : (o : Option ℕ) → revealed s.runner t (effected t op o).state ≡ revealed s.runner s (effected s op o).state
              → readable s.runner (effected t op o).state ≡ readable s.runner (effected s op o).state
          of None shown = (confidential s op steady apart).own t steady_t same shown
          of (Some f) shown = switched-alike f

      quiet-alike : is_call gives_access op ≡ false → readable s.runner (step_resuming t op).state ≡ readable s.runner (step_resuming s op).state
      quiet-alike none = ap (λ o. readable s.runner (effected t op o).state) resumed-readably ∙ of (resumed_by s op)
        where
          of : (o : Option ℕ) → readable s.runner (effected t op o).state ≡ readable s.runner (effected s op o).state
          of None = (confidential s op steady apart).quiet t steady_t same none
          of (Some f) = switched-alike f

-- ---- as a processor sees it
module _ (processors : Processors) (p : ℕ) where
  -- by whether it did the last operation
  on-either : (P : State → Type 0) (s : State) → P s → P (moved_to s (runner_on processors p)) → P (on processors p s)
  on-either P s whole moved = elim (processors.current == p) as (λ b. P (cond b s (moved_to s (runner_on processors p)))) [ true ↦ whole | false ↦ moved ]

  on-access : (s : State) (e q : ℕ) → access (on processors p s) e q ≡ access s e q
  on-access s e q = on-either (λ t. access t e q ≡ access s e q) s refl refl

  on-owner : (s : State) (q : ℕ) → owner_of (on processors p s) q ≡ owner_of s q
  on-owner s q = on-either (λ t. owner_of t q ≡ owner_of s q) s refl refl

  on-handle : (s : State) (q : ℕ) → handle_at (on processors p s) q ≡ handle_at s q
  on-handle s q = on-either (λ t. handle_at t q ≡ handle_at s q) s refl refl

  on-bytes : (s : State) (q : ℕ) → page_bytes (on processors p s) q ≡ page_bytes s q
  on-bytes s q = on-either (λ t. page_bytes t q ≡ page_bytes s q) s refl refl

  on-apart : (s : State) → AreApart s → AreApart (on processors p s)
  on-apart s apart = on-either AreApart s apart apart

  on-revealed : (s t : State) (e : ℕ) → revealed e (on processors p s) t ≡ revealed e s t
  on-revealed s t e = on-either (λ u. revealed e u t ≡ revealed e s t) s refl refl

  on-readable : (e : ℕ) (s : State) → on processors p (readable e s) ≡ readable e (on processors p s)
  on-readable e s =
      elim (processors.current == p)
      as (λ b. cond b (readable e s) (moved_to (readable e s) (runner_on processors p)) ≡ readable e (cond b s (moved_to s (runner_on processors p)))) [ true ↦ refl | false ↦ refl ]

  readable-alike : (e : ℕ) (s t : State) → readable e t ≡ readable e s → readable e (on processors p t) ≡ readable e (on processors p s)
  readable-alike e s t same = sym (on-readable e t) ∙ ap (on processors p) same ∙ on-readable e s

  on-told-readably : (e : ℕ) (s : State) → readable e (on processors p s) ≡ apply_all e (readable e s) (all_readably e s (public_change s (on processors p s)))
  on-told-readably e s =
      on-either (λ t. readable e t ≡ blank (is_unreadable s e) (view e t)) s refl refl
      ∙ ap (blank (is_unreadable s e)) (on-told processors p e s)
      ∙ public-readably e s (on processors p s)

  -- what is told can be read alike
  on-heard : (e : ℕ) (s : State) (es : List Event) → all_readably e (on processors p s) es ≡ all_readably e s es
  on-heard e s [] = refl
  on-heard e s (x ∷ es) = λ i. one x i ++ on-heard e s es i
    where
      one : (x : Event) → readably e (on processors p s) x ≡ readably e s x
      one (Wrote address bytes) = on-either (λ t. readably e t (Wrote address bytes) ≡ readably e s (Wrote address bytes)) s refl refl
      one (Opened h t pages) = on-either (λ u. readably e u (Opened h t pages) ≡ readably e s (Opened h t pages)) s refl refl
      one (Zeroed h) = on-either (λ t. readably e t (Zeroed h) ≡ readably e s (Zeroed h)) s refl refl
      one x = refl

  -- first who runs is told, and then what is told of the state that the processor sees
  told-behind : (e : ℕ) (s next : State) (es : List Event)
      → readable e next ≡ apply_all e (readable e (on processors p s)) (all_readably e (on processors p s) es)
      → readable e next ≡ apply_all e (readable e s) (all_readably e s (public_change s (on processors p s) ++ es))
  told-behind e s next es told =
      told
      ∙ ap (apply_all e (readable e (on processors p s))) (on-heard e s es)
      ∙ ap (λ (v : State). apply_all e v (all_readably e s es)) (on-told-readably e s)
      ∙ sym (apply_all-append e (readable e s) (all_readably e s (public_change s (on processors p s))) (all_readably e s es))
      ∙ ap (apply_all e (readable e s)) (sym (readably-append e s (public_change s (on processors p s)) es))

  -- ---- an operation
  module _ (s : State) (op : Op) (within : p < length processors.runners) (placed : ArePlaced processors s) (sound : IsSoundState s) where
    abbrev now : State
    now = on processors p s

    sound-now : IsSoundState now
    sound-now = on-sound-state s sound processors placed p within

    pub integrity-on : Integrity (on_processor processors p op) s
    integrity-on e q owner alone other message =
        integrity-resuming now op sound-now e q (on-owner s q ∙ owner) (on-handle s q ∙ alone) other message ∙ on-bytes s q

    pub only-writers-on : OnlyWriters (on_processor processors p op) s
    only-writers-on q no_right unreclaimed unfilled =
        writers-resuming now op sound-now q (ap may_store (on-access s now.runner q) ∙ no_right) unreclaimed unfilled ∙ on-bytes s q

    pub own-access-on : AreApart s → OwnAccess (on_processor processors p op) s
    own-access-on apart =
        let there = on-apart s apart in
        let next = (step_on processors p s op).state in
        record {
          others = λ e q other. access-resuming now op sound-now there e q other ∙ on-access s e q;
          grows = λ q none. subst (λ right. is_within (access next now.runner q) right ≡ true) (on-access s now.runner q) (grows-resuming now op sound-now there q none);
          shrinks = λ q none. subst (λ right. is_within right (access next now.runner q) ≡ true) (on-access s now.runner q) (shrinks-resuming now op sound-now there q none);
          keeps = λ q. subst (λ right. IsSameOrNone right (access next now.runner q)) (on-access s now.runner q) (keeps-resuming now op sound-now there q);
        }

    pub silence-on : Silence op (resuming op) now × IsHeard (on_processor processors p op) s
    silence-on = (
      seen,
      record {
        news = λ e known other.
            news-append e (view e s) (public_change s now) (events_resuming e now op) (news-public e s now [] refl (on-told processors p e s))
            (subst (λ v. AreNews e v (events_resuming e now op)) (on-told processors p e s) (seen.heard.news e (there e known) other));
        meets = λ sound_s e known other.
            met-append e (view e s) (public_change s now) (events_resuming e now op) (either-public (AreMet e (view e s)) s now tt (refl, tt))
            (subst (λ v. AreMet e v (events_resuming e now op)) (on-told processors p e s) (seen.heard.meets sound-now e (there e known) other));
        bare = λ e known other.
            bare-append e (view e s) (public_change s now) (events_resuming e now op) (bare-public e s now [] (on-told processors p e s))
            (subst (λ v. AreBare e v (events_resuming e now op)) (on-told processors p e s) (seen.heard.bare e (there e known) other));
      },
    )
      where
        seen : Silence op (resuming op) now
        seen = silence-resuming now op sound-now

        there : (e : ℕ) → is_known s e ≡ true → is_known now e ≡ true
        there e known = on-known processors p e s ∙ known

    pub confidential-on : AreApart s → Confidential (on_processor processors p op) s
    confidential-on apart = record {
      outcome = λ t steady_t same. effect-alike now op sound-now there (on processors p t) (steady-there t steady_t same) (readable-alike now.runner s t same);
      own = λ t steady_t same shown.
          own-alike now op sound-now there (on processors p t) (steady-there t steady_t same) (readable-alike now.runner s t same)
          (on-revealed t (step_on processors p t op).state now.runner ∙ shown ∙ sym (on-revealed s (step_on processors p s op).state now.runner));
      quiet = λ t steady_t same none.
          quiet-alike now op sound-now there (on processors p t) (steady-there t steady_t same) (readable-alike now.runner s t same) none;
      others = λ e known other.
          told-behind e s (step_on processors p s op).state (events_resuming e now op)
          (readable-resuming now op sound-now there e (on-known processors p e s ∙ known) other);
    }
      where
        there : AreApart now
        there = on-apart s apart

        steady-there : (t : State) → IsSteady t → readable now.runner t ≡ readable now.runner s → IsSteady (on processors p t)
        steady-there t steady_t same =
            on-steady processors p t steady_t
            (λ other. ap (λ (v : State). is_known v (runner_on processors p)) same ∙ has-runner processors p s within placed sound other)

  -- ---- an interrupt
  interrupt-readable : (e : ℕ) (s : State) → (interrupt (readable e s)).outcome ≡ (interrupt s).outcome
  interrupt-readable e s = elim (s.runner == 0) as (λ b. (taken (readable e s) b).outcome ≡ (taken s b).outcome) [ true ↦ refl | false ↦ refl ]

  interrupt-told : (e : ℕ) (s : State) → readable e (interrupt s).state ≡ apply_all e (readable e s) (all_readably e s (interrupt_events e s))
  interrupt-told e s = elim (s.runner == 0) as (λ b. readable e (taken s b).state ≡ apply_all e (readable e s) (all_readably e s (cond b [] (switches e (interruption s) ++ public_change s (interruption s).state)))) [
    | true ↦ refl
    | false ↦ (elim ((interruption s).state.runner == e)
        as (λ c. readable e (interruption s).state ≡ apply_all e (readable e s) (all_readably e s (where_true c (Message (encode (interruption s).reply) ∷ []) ++ public_change s (interruption s).state))) [
          | true ↦ switched-readably e s Preempted 0
          | false ↦ switched-readably e s Preempted 0
        ])
  ]

  pub confidential-interrupt : (s : State) → ConfidentialInterrupt processors p s
  confidential-interrupt s =
      let now = on processors p s in
      record {
        outcome = λ t same.
            sym (interrupt-readable now.runner (on processors p t))
            ∙ ap (λ (v : State). (interrupt v).outcome) (readable-alike now.runner s t same)
            ∙ interrupt-readable now.runner now;
        others = λ e. told-behind e s (interrupt now).state (interrupt_events e now) (interrupt-told e now);
      }
