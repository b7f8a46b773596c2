-- SPDX-License-Identifier: MIT OR Apache-2.0
-- Run states stay sound: where a partition begins to work, where one has done its work, and where one stops and another goes on.
use Rattle.std.proofs.Common.{◌≡◌, ◌≢◌, ◌⊎◌, ◌∙◌, ◌↔◌, ℕ, suc, ◌<◌, ◌≤◌, true, false, cond, length, set, Some, None, refl, sym, ap, subst, inl, inr, arith, length-set, ◌==◌, get_or-set_other, get_or-set_same}
use Rattle.std.proofs.lemmas.Bool.{cases_eq, eq-eqb, false≢true, ne_eqb}
use Rattle.std.proofs.lemmas.Option.{none-some, same_Some}
use Rattle.ffa_model.specs.declared.schedule.Status.{Status}
use Rattle.ffa_model.specs.declared.schedule.Status.TheVariants.{Running, Waiting, Yielded, Blocked, Preempted, RunsElsewhere}
use Rattle.ffa_model.specs.declared.schedule.Work.{Work}
use Rattle.ffa_model.specs.Identifiers.{place}
use Rattle.ffa_model.specs.State.{is_partition_among, is_known_among}
use Rattle.ffa_model.specs.RunStates.{Schedule, finished, is_stopped, is_waiting, status_in, switched, with_work, work_in}
use Rattle.ffa_model.specs.Sound.{AreChained, IsBlocked, IsEndpoint, IsFor, IsPartition, IsSound, MayGoOn, MayStop, origin}
use Rattle.ffa_model.proofs.Places.{known-cases, known-place, partition-known, partition-place, same-known}

-- run states by their names
blocked≢running : Blocked ≡ Running → ⊥
blocked≢running h = cc

running≢blocked : Running ≡ Blocked → ⊥
running≢blocked h = cc

running≢waiting : Running ≡ Waiting → ⊥
running≢waiting h = cc

running≢yielded : Running ≡ Yielded → ⊥
running≢yielded h = cc

blocked≢waiting : Blocked ≡ Waiting → ⊥
blocked≢waiting h = cc

blocked≢yielded : Blocked ≡ Yielded → ⊥
blocked≢yielded h = cc

waiting≢running : Waiting ≡ Running → ⊥
waiting≢running h = cc

waiting≢blocked : Waiting ≡ Blocked → ⊥
waiting≢blocked h = cc

waiting≢yielded : Waiting ≡ Yielded → ⊥
waiting≢yielded h = cc

-- a status of another kind
pub not-stopped : (one other : Status) → is_stopped one ≡ true → is_stopped other ≡ false → one ≢ other
not-stopped one other stopped going same = false≢true (sym going ∙ ap is_stopped (sym same) ∙ stopped)

pub waits : (status : Status) → is_waiting status ≡ true → status ≡ Waiting
waits Waiting is = refl
waits _ is = absurd (false≢true is)

-- how the runner stops, by the status in which it does
module _ (c : Schedule) where
  stop-running : (status : Status) → MayStop c status → status ≢ Running
  stop-running Running may h = may
  stop-running Waiting may h = may
  stop-running _ may h = cc

  stop-waiting : (status : Status) → MayStop c status → status ≢ Waiting
  stop-waiting Running may h = may
  stop-waiting Waiting may h = may
  stop-waiting _ may h = cc

  stop-yielded : (status : Status) → MayStop c status → status ≡ Yielded → origin (work_in c c.runner) ≡ Some 0
  stop-yielded status may is = subst (MayStop c) is may

  stop-blocked : (status : Status) → MayStop c status → status ≡ Blocked → c.runner ≡ 0
  stop-blocked status may is = subst (MayStop c) is may

  stop-normal : (status : Status) → MayStop c status → work_in c 0 ≡ None → c.runner ≡ 0 → status ≡ Blocked
  stop-normal Running may none first = absurd may
  stop-normal Waiting may none first = absurd may
  stop-normal Yielded may none first = absurd (none-some 0 (sym (ap origin (ap (work_in c) first ∙ none)) ∙ may))
  stop-normal Blocked may none first = refl
  stop-normal Preempted may none first = absurd (may first)
  stop-normal RunsElsewhere may none first = absurd (may first)

module _ (c : Schedule) (is : IsSound c) (some : 1 ≤ length c.works) where
  abbrev n : ℕ
  n = length c.works

  abbrev r : ℕ
  r = c.runner

  abbrev Known : ℕ → Type 0
  Known e = is_known_among n e ≡ true

  at-place : (e : ℕ) → Known e → place e < length c.statuses
  at-place e known = let lt = known-place n e some known in omega (arith, lt, is.each)

  places-apart : (e f : ℕ) → Known e → Known f → e ≢ f → place e ≢ place f
  places-apart e f known_e known_f differ same = differ (same-known n e f known_e known_f same)

  no-normal : (e : ℕ) → is_partition_among n e ≡ true → e ≢ 0
  no-normal e partition first = let (high, within) = partition-place n e partition in absurd (omega (arith, high, first))

  -- who works for the runner would be its blocker
  none-for-runner : (f : ℕ) → r ≢ 0 → IsFor c r f → ⊥
  none-for-runner f other works = elim (is.chains.between r f works) [
    | inl first ↦ other first
    | inr blocked ↦ running≢blocked (sym is.runs ∙ blocked.status)
  ]

  -- ---- the runner stops in a status, and e runs
  module _ (status : Status) (e : ℕ) (known : Known e) where
    abbrev d : Schedule
    d = switched c status e

    switched-runs : status_in d e ≡ Running
    switched-runs =
        let lt = at-place e known in
        let size = length-set c.statuses (place r) status in
        get_or-set_same (set c.statuses (place r) status) (place e) Running Waiting (omega (arith, lt, size))

    switched-stops : r ≢ e → status_in d r ≡ status
    switched-stops differ =
        get_or-set_other (set c.statuses (place r) status) (place e) (place r) Running Waiting (places-apart r e is.runner known differ)
        ∙ get_or-set_same c.statuses (place r) status Waiting (at-place r is.runner)

    switched-stays : (f : ℕ) → Known f → f ≢ e → f ≢ r → status_in d f ≡ status_in c f
    switched-stays f known_f ne_e ne_r =
        get_or-set_other (set c.statuses (place r) status) (place e) (place f) Running Waiting (places-apart f e known_f known ne_e)
        ∙ get_or-set_other c.statuses (place r) (place f) status Waiting (places-apart f r known_f is.runner ne_r)

    -- an endpoint runs now, has stopped, or is as it was
    abbrev pub Seen : ℕ → Type 0
    Seen f =
        ((f ≡ e) × (status_in d f ≡ Running))
        ⊎ (((f ≡ r) × (f ≢ e) × (status_in d f ≡ status)) ⊎ ((f ≢ e) × (f ≢ r) × (status_in d f ≡ status_in c f)))

    pub seen : (f : ℕ) → Known f → Seen f
    seen f known_f = elim (cases_eq f e) [
      | inl here ↦ inl (here, ap (status_in d) here ∙ switched-runs)
      | inr other ↦ (elim (cases_eq f r) [
        | inl runs ↦ inr (inl (runs, other, ap (status_in d) runs ∙ switched-stops (λ h. other (runs ∙ h))))
        | inr rests ↦ inr (inr (other, rests, switched-stays f known_f other rests))
      ])
    ]

    each-switched : length d.statuses ≡ n
    each-switched = length-set (set c.statuses (place r) status) (place e) Running ∙ length-set c.statuses (place r) status ∙ is.each

  -- ---- the runner stops with the work that it has, and another goes on with its own
  module _ (status : Status) (e : ℕ) (stops : MayStop c status) (goes : MayGoOn c e) where
    pub going-known : Known e
    going-known = elim goes [
      | inl first ↦ ap (is_known_among n) first
      | inr on ↦ partition-known n e on.partition
    ]

    abbrev to : Schedule
    to = switched c status e

    was-stopped : (f : ℕ) → IsPartition c f → f ≡ e → is_stopped (status_in c f) ≡ true
    was-stopped f partition here = elim goes [
      | inl first ↦ absurd (no-normal f partition (here ∙ first))
      | inr on ↦ ap (λ (g : ℕ). is_stopped (status_in c g)) here ∙ on.stopped
    ]

    cases : (f : ℕ) → Known f → Seen status e going-known f
    cases = seen status e going-known

    alone-going : (f : ℕ) → IsEndpoint to f → status_in to f ≡ Running → f ≡ e
    alone-going f known_f runs = elim (cases f known_f) [
      | inl (here, now) ↦ here
      | inr (inl (here, other, now)) ↦ absurd (stop-running c status stops (sym now ∙ runs))
      | inr (inr (ne_e, ne_r, now)) ↦ absurd (ne_r (is.alone f known_f (sym now ∙ runs)))
    ]

    normal-going : (status_in to 0 ≡ Running) ⊎ (status_in to 0 ≡ Blocked)
    normal-going = elim (cases 0 refl) [
      | inl (here, now) ↦ inl now
      | inr (inl (here, other, now)) ↦ inr (now ∙ stop-normal c status stops is.no_work (sym here))
      | inr (inr (ne_e, ne_r, now)) ↦ (elim is.normal [ inl runs ↦ inl (now ∙ runs) | inr blocked ↦ inr (now ∙ blocked) ])
    ]

    idle-going : (f : ℕ) → IsPartition to f → (work_in to f ≡ None) ↔ (status_in to f ≡ Waiting)
    idle-going f partition = elim (cases f (partition-known n f partition)) [
      | inl (here, now) ↦ (
        (λ none. absurd (not-stopped (status_in c f) Waiting (was-stopped f partition here) refl ((is.idle f partition).0 none))),
        (λ waiting. absurd (running≢waiting (sym now ∙ waiting))),
      )
      | inr (inl (here, other, now)) ↦ (
        (λ none. absurd (running≢waiting (sym is.runs ∙ ap (status_in c) (sym here) ∙ (is.idle f partition).0 none))),
        (λ waiting. absurd (stop-waiting c status stops (sym now ∙ waiting))),
      )
      | inr (inr (ne_e, ne_r, now)) ↦ ((λ none. now ∙ (is.idle f partition).0 none), (λ waiting. (is.idle f partition).1 (sym now ∙ waiting)))
    ]

    yielded-going : (f : ℕ) → IsPartition to f → status_in to f ≡ Yielded → origin (work_in to f) ≡ Some 0
    yielded-going f partition yields = elim (cases f (partition-known n f partition)) [
      | inl (here, now) ↦ absurd (running≢yielded (sym now ∙ yields))
      | inr (inl (here, other, now)) ↦ ap (λ (g : ℕ). origin (work_in c g)) here ∙ stop-yielded c status stops (sym now ∙ yields)
      | inr (inr (ne_e, ne_r, now)) ↦ is.yielded f partition (sym now ∙ yields)
    ]

    still-blocked : (f : ℕ) → IsBlocked c f → IsBlocked to f
    still-blocked f old = elim (cases f (partition-known n f old.partition)) [
      | inl (here, now) ↦ absurd (not-stopped (status_in c f) Blocked (was-stopped f old.partition here) refl old.status)
      | inr (inl (here, other, now)) ↦ absurd (running≢blocked (sym is.runs ∙ ap (status_in c) (sym here) ∙ old.status))
      | inr (inr (ne_e, ne_r, now)) ↦ record { partition = old.partition; status = now ∙ old.status }
    ]

    was-blocked : (f : ℕ) → IsBlocked to f → IsBlocked c f
    was-blocked f new = elim (cases f (partition-known n f new.partition)) [
      | inl (here, now) ↦ absurd (running≢blocked (sym now ∙ new.status))
      | inr (inl (here, other, now)) ↦ absurd (no-normal f new.partition (here ∙ stop-blocked c status stops (sym now ∙ new.status)))
      | inr (inr (ne_e, ne_r, now)) ↦ record { partition = new.partition; status = sym now ∙ new.status }
    ]

    was-for : (g f : ℕ) → IsFor to g f → IsFor c g f
    was-for g f its = record { partition = its.partition; works = its.works }

    still-for : (g f : ℕ) → IsFor c g f → IsFor to g f
    still-for g f its = record { partition = its.partition; works = its.works }

    chains-going : AreChained to
    chains-going = record {
      depth = is.chains.depth;
      deeper = λ g f its. is.chains.deeper g f (was-for g f its);
      between = λ g f its. (elim (is.chains.between g f (was-for g f its)) [ inl first ↦ inl first | inr blocked ↦ inr (still-blocked g blocked) ]);
      apart = λ g f h other one two. is.chains.apart g f h other (was-for g f one) (was-for g h two);
      blocked = λ g its. (let (f, works) = is.chains.blocked g (was-blocked g its) in (f, still-for g f works));
    }

    pub sound-going : IsSound (switched c status e)
    sound-going = record {
      each = each-switched status e going-known;
      runner = going-known;
      runs = switched-runs status e going-known;
      alone = alone-going;
      normal = normal-going;
      no_work = is.no_work;
      idle = idle-going;
      yielded = yielded-going;
      chains = chains-going;
    }

  -- ---- a partition that waited begins to work for the runner, which is blocked
  module _ (e : ℕ) (w : Work) (partition : is_partition_among n e ≡ true) (waiting : status_in c e ≡ Waiting) (works_for : origin (Some w) ≡ Some r) where
    begun-known : Known e
    begun-known = partition-known n e partition

    abbrev begun : Schedule
    begun = with_work (switched c Blocked e) e (Some w)

    cases-begun : (f : ℕ) → Known f → Seen Blocked e begun-known f
    cases-begun = seen Blocked e begun-known

    size-begun : length begun.works ≡ n
    size-begun = length-set c.works (place e) (Some w)

    known-begun : (f : ℕ) → IsEndpoint begun f → Known f
    known-begun f known = ap (λ k. is_known_among k f) (sym size-begun) ∙ known

    was-partition : (f : ℕ) → IsPartition begun f → IsPartition c f
    was-partition f its = ap (λ k. is_partition_among k f) (sym size-begun) ∙ its

    still-partition : (f : ℕ) → IsPartition c f → IsPartition begun f
    still-partition f its = ap (λ k. is_partition_among k f) size-begun ∙ its

    work-here : work_in begun e ≡ Some w
    work-here = get_or-set_same c.works (place e) (Some w) None (partition-place n e partition).1

    work-other : (f : ℕ) → Known f → f ≢ e → work_in begun f ≡ work_in c f
    work-other f known differ = get_or-set_other c.works (place e) (place f) (Some w) None (places-apart f e known begun-known differ)

    e-idle : work_in c e ≡ None
    e-idle = (is.idle e partition).1 waiting

    e-other : e ≢ r
    e-other same = waiting≢running (sym waiting ∙ ap (status_in c) same ∙ is.runs)

    -- nobody works for it, and it worked for nobody
    none-for-e : (f : ℕ) → IsFor c e f → ⊥
    none-for-e f its = elim (is.chains.between e f its) [
      | inl first ↦ no-normal e partition first
      | inr blocked ↦ waiting≢blocked (sym waiting ∙ blocked.status)
    ]

    not-for : (g : ℕ) → IsFor c g e → ⊥
    not-for g its = none-some g (sym (ap origin e-idle) ∙ its.works)

    old-for : (g f : ℕ) → f ≢ e → IsFor begun g f → IsFor c g f
    old-for g f differ its =
        let old = was-partition f its.partition in
        record { partition = old; works = ap origin (sym (work-other f (partition-known n f old) differ)) ∙ its.works }

    new-for : (g f : ℕ) → f ≢ e → IsFor c g f → IsFor begun g f
    new-for g f differ its =
        record { partition = still-partition f its.partition; works = ap origin (work-other f (partition-known n f its.partition) differ) ∙ its.works }

    e-for-runner : IsFor begun r e
    e-for-runner = record { partition = still-partition e partition; works = ap origin work-here ∙ works_for }

    for-whom : (g : ℕ) → IsFor begun g e → g ≡ r
    for-whom g its = same_Some g r (sym its.works ∙ ap origin work-here ∙ works_for)

    e-not-normal : 0 ≢ e
    e-not-normal h = no-normal e partition (sym h)

    alone-begun : (f : ℕ) → IsEndpoint begun f → status_in begun f ≡ Running → f ≡ e
    alone-begun f known runs = elim (cases-begun f (known-begun f known)) [
      | inl (here, now) ↦ here
      | inr (inl (here, other, now)) ↦ absurd (blocked≢running (sym now ∙ runs))
      | inr (inr (ne_e, ne_r, now)) ↦ absurd (ne_r (is.alone f (known-begun f known) (sym now ∙ runs)))
    ]

    normal-begun : (status_in begun 0 ≡ Running) ⊎ (status_in begun 0 ≡ Blocked)
    normal-begun = elim (cases-begun 0 refl) [
      | inl (here, now) ↦ inl now
      | inr (inl (here, other, now)) ↦ inr now
      | inr (inr (ne_e, ne_r, now)) ↦ (elim is.normal [ inl runs ↦ inl (now ∙ runs) | inr blocked ↦ inr (now ∙ blocked) ])
    ]

    some-none : {A : Type 0} (a : A) → Some a ≡ None → ⊥
    some-none a h = none-some a (sym h)

    idle-begun : (f : ℕ) → IsPartition begun f → (work_in begun f ≡ None) ↔ (status_in begun f ≡ Waiting)
    idle-begun f its =
        let old = was-partition f its in
        let known = partition-known n f old in
        elim (cases-begun f known) [
          | inl (here, now) ↦ (
            (λ none. absurd (some-none w (sym work-here ∙ ap (work_in begun) (sym here) ∙ none))),
            (λ waiting. absurd (running≢waiting (sym now ∙ waiting))),
          )
          | inr (inl (here, other, now)) ↦ (
            (λ none. absurd (running≢waiting (sym is.runs ∙ ap (status_in c) (sym here) ∙ (is.idle f old).0 (sym (work-other f known other) ∙ none)))),
            (λ waiting. absurd (blocked≢waiting (sym now ∙ waiting))),
          )
          | inr (inr (ne_e, ne_r, now)) ↦ (
            (λ none. now ∙ (is.idle f old).0 (sym (work-other f known ne_e) ∙ none)),
            (λ waiting. work-other f known ne_e ∙ (is.idle f old).1 (sym now ∙ waiting)),
          )
        ]

    yielded-begun : (f : ℕ) → IsPartition begun f → status_in begun f ≡ Yielded → origin (work_in begun f) ≡ Some 0
    yielded-begun f its yields =
        let old = was-partition f its in
        let known = partition-known n f old in
        elim (cases-begun f known) [
          | inl (here, now) ↦ absurd (running≢yielded (sym now ∙ yields))
          | inr (inl (here, other, now)) ↦ absurd (blocked≢yielded (sym now ∙ yields))
          | inr (inr (ne_e, ne_r, now)) ↦ ap origin (work-other f known ne_e) ∙ is.yielded f old (sym now ∙ yields)
        ]

    runner-blocked : (r ≡ 0) ⊎ IsBlocked begun r
    runner-blocked = elim (known-cases n r is.runner) [
      | inl first ↦ inl first
      | inr its ↦ inr (record { partition = still-partition r its; status = switched-stops Blocked e begun-known (λ h. e-other (sym h)) })
    ]

    still-blocked-begun : (f : ℕ) → IsBlocked c f → IsBlocked begun f
    still-blocked-begun f old = elim (cases-begun f (partition-known n f old.partition)) [
      | inl (here, now) ↦ absurd (waiting≢blocked (sym waiting ∙ ap (status_in c) (sym here) ∙ old.status))
      | inr (inl (here, other, now)) ↦ record { partition = still-partition f old.partition; status = now }
      | inr (inr (ne_e, ne_r, now)) ↦ record { partition = still-partition f old.partition; status = now ∙ old.status }
    ]

    abbrev depth-begun : ℕ → ℕ
    depth-begun x = cond (x == e) (suc (is.chains.depth r)) (is.chains.depth x)

    depth-here : depth-begun e ≡ suc (is.chains.depth r)
    depth-here = ap (λ b. cond b (suc (is.chains.depth r)) (is.chains.depth e)) (eq-eqb e e refl)

    depth-other : (x : ℕ) → x ≢ e → depth-begun x ≡ is.chains.depth x
    depth-other x differ = ap (λ b. cond b (suc (is.chains.depth r)) (is.chains.depth x)) (ne_eqb x e differ)

    deeper-begun : (g f : ℕ) → IsFor begun g f → depth-begun g < depth-begun f
    deeper-begun g f its = elim (cases_eq f e) [
      | inl here ↦ (let at : g ≡ r = for-whom g (subst (λ x. IsFor begun g x) here its) in
          let low : depth-begun g ≡ is.chains.depth r = ap depth-begun at ∙ depth-other r (λ h. e-other (sym h)) in
          let high : depth-begun f ≡ suc (is.chains.depth r) = ap depth-begun here ∙ depth-here in
          omega (arith, low, high))
      | inr other ↦ (let old = old-for g f other its in
          let lt = is.chains.deeper g f old in
          let low : depth-begun g ≡ is.chains.depth g = depth-other g (λ h. none-for-e f (subst (λ x. IsFor c x f) h old)) in
          let high : depth-begun f ≡ is.chains.depth f = depth-other f other in
          omega (arith, low, high, lt))
    ]

    between-begun : (g f : ℕ) → IsFor begun g f → (g ≡ 0) ⊎ IsBlocked begun g
    between-begun g f its = elim (cases_eq f e) [
      | inl here ↦ subst (λ x. (x ≡ 0) ⊎ IsBlocked begun x) (sym (for-whom g (subst (λ x. IsFor begun g x) here its))) runner-blocked
      | inr other ↦ (elim (is.chains.between g f (old-for g f other its)) [ inl first ↦ inl first | inr blocked ↦ inr (still-blocked-begun g blocked) ])
    ]

    apart-begun : (g f h : ℕ) → g ≢ 0 → IsFor begun g f → IsFor begun g h → f ≡ h
    apart-begun g f h other one two = elim (cases_eq f e) [
      | inl here ↦ (elim (cases_eq h e) [
        | inl there ↦ here ∙ sym there
        | inr ne ↦ (let at : g ≡ r = for-whom g (subst (λ x. IsFor begun g x) here one) in
            absurd (none-for-runner h (λ first. other (at ∙ first)) (subst (λ x. IsFor c x h) at (old-for g h ne two))))
      ])
      | inr ne ↦ (elim (cases_eq h e) [
        | inl there ↦ (let at : g ≡ r = for-whom g (subst (λ x. IsFor begun g x) there two) in
            absurd (none-for-runner f (λ first. other (at ∙ first)) (subst (λ x. IsFor c x f) at (old-for g f ne one))))
        | inr ne_h ↦ is.chains.apart g f h other (old-for g f ne one) (old-for g h ne_h two)
      ])
    ]

    blocked-begun : (g : ℕ) → IsBlocked begun g → (f : ℕ) × IsFor begun g f
    blocked-begun g its =
        let old = was-partition g its.partition in
        elim (cases-begun g (partition-known n g old)) [
          | inl (here, now) ↦ absurd (running≢blocked (sym now ∙ its.status))
          | inr (inl (here, other, now)) ↦ (e, subst (λ x. IsFor begun x e) (sym here) e-for-runner)
          | inr (inr (ne_e, ne_r, now)) ↦ (let (f, works) = is.chains.blocked g (record { partition = old; status = sym now ∙ its.status }) in
              (f, new-for g f (λ h. not-for g (subst (λ x. IsFor c g x) h works)) works))
        ]

    pub sound-begun : IsSound (with_work (switched c Blocked e) e (Some w))
    sound-begun = record {
      each = each-switched Blocked e begun-known ∙ sym size-begun;
      runner = ap (λ k. is_known_among k e) size-begun ∙ begun-known;
      runs = switched-runs Blocked e begun-known;
      alone = alone-begun;
      normal = normal-begun;
      no_work = work-other 0 refl e-not-normal ∙ is.no_work;
      idle = idle-begun;
      yielded = yielded-begun;
      chains = record { depth = depth-begun; deeper = deeper-begun; between = between-begun; apart = apart-begun; blocked = blocked-begun };
    }

  -- ---- the runner has done its work for an endpoint, which runs
  module _ (e : ℕ) (works_for : origin (work_in c r) ≡ Some e) where
    runner-partition : is_partition_among n r ≡ true
    runner-partition = elim (known-cases n r is.runner) [
      | inl first ↦ absurd (none-some e (sym (ap origin (ap (work_in c) first ∙ is.no_work)) ∙ works_for))
      | inr partition ↦ partition
    ]

    pub runner-for : IsFor c e r
    runner-for = record { partition = runner-partition; works = works_for }

    pub done-known : Known e
    done-known = elim (is.chains.between e r runner-for) [
      | inl first ↦ ap (is_known_among n) first
      | inr blocked ↦ partition-known n e blocked.partition
    ]

    e-apart : e ≢ r
    e-apart same = elim (is.chains.between e r runner-for) [
      | inl first ↦ no-normal r runner-partition (sym same ∙ first)
      | inr blocked ↦ running≢blocked (sym is.runs ∙ ap (status_in c) (sym same) ∙ blocked.status)
    ]

    abbrev done : Schedule
    done = finished c e

    cases-done : (f : ℕ) → Known f → Seen Waiting e done-known f
    cases-done = seen Waiting e done-known

    size-done : length done.works ≡ n
    size-done = length-set c.works (place r) None

    known-done : (f : ℕ) → IsEndpoint done f → Known f
    known-done f known = ap (λ k. is_known_among k f) (sym size-done) ∙ known

    was-partition-done : (f : ℕ) → IsPartition done f → IsPartition c f
    was-partition-done f its = ap (λ k. is_partition_among k f) (sym size-done) ∙ its

    still-partition-done : (f : ℕ) → IsPartition c f → IsPartition done f
    still-partition-done f its = ap (λ k. is_partition_among k f) size-done ∙ its

    runner-idle : work_in done r ≡ None
    runner-idle = get_or-set_same c.works (place r) None None (partition-place n r runner-partition).1

    work-rest : (f : ℕ) → Known f → f ≢ r → work_in done f ≡ work_in c f
    work-rest f known differ = get_or-set_other c.works (place r) (place f) None None (places-apart f r known is.runner differ)

    not-done-for : (g : ℕ) → IsFor done g r → ⊥
    not-done-for g its = none-some g (sym (ap origin runner-idle) ∙ its.works)

    not-runner : (g f : ℕ) → IsFor done g f → f ≢ r
    not-runner g f its same = not-done-for g (subst (λ x. IsFor done g x) same its)

    old-done : (g f : ℕ) → IsFor done g f → IsFor c g f
    old-done g f its =
        let old = was-partition-done f its.partition in
        record { partition = old; works = ap origin (sym (work-rest f (partition-known n f old) (not-runner g f its))) ∙ its.works }

    new-done : (g f : ℕ) → f ≢ r → IsFor c g f → IsFor done g f
    new-done g f differ its =
        record { partition = still-partition-done f its.partition; works = ap origin (work-rest f (partition-known n f its.partition) differ) ∙ its.works }

    alone-done : (f : ℕ) → IsEndpoint done f → status_in done f ≡ Running → f ≡ e
    alone-done f known runs = elim (cases-done f (known-done f known)) [
      | inl (here, now) ↦ here
      | inr (inl (here, other, now)) ↦ absurd (waiting≢running (sym now ∙ runs))
      | inr (inr (ne_e, ne_r, now)) ↦ absurd (ne_r (is.alone f (known-done f known) (sym now ∙ runs)))
    ]

    normal-done : (status_in done 0 ≡ Running) ⊎ (status_in done 0 ≡ Blocked)
    normal-done = elim (cases-done 0 refl) [
      | inl (here, now) ↦ inl now
      | inr (inl (here, other, now)) ↦ absurd (no-normal r runner-partition (sym here))
      | inr (inr (ne_e, ne_r, now)) ↦ (elim is.normal [ inl runs ↦ inl (now ∙ runs) | inr blocked ↦ inr (now ∙ blocked) ])
    ]

    -- a partition that runs now was blocked
    e-blocked : (f : ℕ) → IsPartition c f → f ≡ e → status_in c f ≡ Blocked
    e-blocked f partition here = elim (is.chains.between e r runner-for) [
      | inl first ↦ absurd (no-normal f partition (here ∙ first))
      | inr blocked ↦ ap (status_in c) here ∙ blocked.status
    ]

    idle-done : (f : ℕ) → IsPartition done f → (work_in done f ≡ None) ↔ (status_in done f ≡ Waiting)
    idle-done f its =
        let old = was-partition-done f its in
        let known = partition-known n f old in
        elim (cases-done f known) [
          | inl (here, now) ↦ (
            (λ none. absurd (blocked≢waiting (sym (e-blocked f old here) ∙ (is.idle f old).0 (sym (work-rest f known (λ h. e-apart (sym here ∙ h))) ∙ none)))),
            (λ waiting. absurd (running≢waiting (sym now ∙ waiting))),
          )
          | inr (inl (here, other, now)) ↦ ((λ none. now), (λ waiting. ap (work_in done) here ∙ runner-idle))
          | inr (inr (ne_e, ne_r, now)) ↦ (
            (λ none. now ∙ (is.idle f old).0 (sym (work-rest f known ne_r) ∙ none)),
            (λ waiting. work-rest f known ne_r ∙ (is.idle f old).1 (sym now ∙ waiting)),
          )
        ]

    yielded-done : (f : ℕ) → IsPartition done f → status_in done f ≡ Yielded → origin (work_in done f) ≡ Some 0
    yielded-done f its yields =
        let old = was-partition-done f its in
        let known = partition-known n f old in
        elim (cases-done f known) [
          | inl (here, now) ↦ absurd (running≢yielded (sym now ∙ yields))
          | inr (inl (here, other, now)) ↦ absurd (waiting≢yielded (sym now ∙ yields))
          | inr (inr (ne_e, ne_r, now)) ↦ ap origin (work-rest f known ne_r) ∙ is.yielded f old (sym now ∙ yields)
        ]

    -- whoever else works for somebody blocked doesn't work for e
    still-blocked-done : (g f : ℕ) → f ≢ r → IsFor c g f → IsBlocked c g → IsBlocked done g
    still-blocked-done g f differ its old = elim (cases-done g (partition-known n g old.partition)) [
      | inl (here, now) ↦ absurd (differ (is.chains.apart g f r (no-normal g old.partition) its (subst (λ x. IsFor c x r) (sym here) runner-for)))
      | inr (inl (here, other, now)) ↦ absurd (running≢blocked (sym is.runs ∙ ap (status_in c) (sym here) ∙ old.status))
      | inr (inr (ne_e, ne_r, now)) ↦ record { partition = still-partition-done g old.partition; status = now ∙ old.status }
    ]

    between-done : (g f : ℕ) → IsFor done g f → (g ≡ 0) ⊎ IsBlocked done g
    between-done g f its =
        let old = old-done g f its in
        elim (is.chains.between g f old) [ inl first ↦ inl first | inr blocked ↦ inr (still-blocked-done g f (not-runner g f its) old blocked) ]

    blocked-done : (g : ℕ) → IsBlocked done g → (f : ℕ) × IsFor done g f
    blocked-done g its =
        let old = was-partition-done g its.partition in
        elim (cases-done g (partition-known n g old)) [
          | inl (here, now) ↦ absurd (running≢blocked (sym now ∙ its.status))
          | inr (inl (here, other, now)) ↦ absurd (waiting≢blocked (sym now ∙ its.status))
          | inr (inr (ne_e, ne_r, now)) ↦ (let (f, works) = is.chains.blocked g (record { partition = old; status = sym now ∙ its.status }) in
              (f, new-done g f (λ h. ne_e (same_Some g e (sym works.works ∙ ap (λ (x : ℕ). origin (work_in c x)) h ∙ works_for))) works))
        ]

    pub sound-done : IsSound (finished c e)
    sound-done = record {
      each = each-switched Waiting e done-known ∙ sym size-done;
      runner = ap (λ k. is_known_among k e) size-done ∙ done-known;
      runs = switched-runs Waiting e done-known;
      alone = alone-done;
      normal = normal-done;
      no_work = work-rest 0 refl (λ h. no-normal r runner-partition (sym h)) ∙ is.no_work;
      idle = idle-done;
      yielded = yielded-done;
      chains = record {
        depth = is.chains.depth;
        deeper = λ g f its. is.chains.deeper g f (old-done g f its);
        between = between-done;
        apart = λ g f h other one two. is.chains.apart g f h other (old-done g f one) (old-done g h two);
        blocked = blocked-done;
      };
    }
