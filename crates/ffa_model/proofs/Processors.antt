-- SPDX-License-Identifier: MIT OR Apache-2.0
-- Who runs elsewhere: nobody else by a call or an interrupt, and the runner where another processor does an operation.
use Rattle.std.proofs.Common.{◌≡◌, ◌≢◌, ◌∙◌, ◌↔◌, ℕ, ◌<◌, ◌≤◌, true, cond, length, refl, sym, ap, subst, subst₂, inl, inr, length-set, Some, get_or-set_other, get_or-set_same}
use Rattle.std.proofs.lemmas.Bool.{cases_eq, eq-eqb, ne_eqb}
use Rattle.ffa_model.specs.declared.schedule.Status.{Status}
use Rattle.ffa_model.specs.declared.schedule.Status.TheVariants.{Running, Waiting, Blocked, RunsElsewhere}
use Rattle.ffa_model.specs.declared.schedule.Work.{Work}
use Rattle.ffa_model.specs.State.{State, is_known_among, is_partition_among}
use Rattle.ffa_model.specs.RunStates.{Schedule, finished, is_stopped, schedule_of, status_in, switched, with_work, work_in}
use Rattle.ffa_model.specs.Sound.{IsPartition, IsSound, MayGoOn, MayStop, origin}
use Rattle.ffa_model.specs.Processors.{ArePlaced, IsAnother, IsElsewhere, Processors, SameElsewhere, left_status, moved_to, noted, on, runner_on, turned}
use Rattle.ffa_model.proofs.Places.{known-cases, partition-known}
use Rattle.ffa_model.proofs.Sounds.{done-known, going-known, runner-for, seen, sound-going}

running≢elsewhere : Running ≡ RunsElsewhere → ⊥
running≢elsewhere h = cc

waiting≢elsewhere : Waiting ≡ RunsElsewhere → ⊥
waiting≢elsewhere h = cc

blocked≢elsewhere : Blocked ≡ RunsElsewhere → ⊥
blocked≢elsewhere h = cc

module _ (c : Schedule) (is : IsSound c) (some : 1 ≤ length c.works) where
  -- an endpoint runs elsewhere just where it did, if neither who stops does so then, nor who goes on did
  same-status : (status : Status) (e f : ℕ) → is_known_among (length c.works) e ≡ true → status ≢ RunsElsewhere → status_in c e ≢ RunsElsewhere → is_known_among (length c.works) f ≡ true
      → (status_in c f ≡ RunsElsewhere) ↔ (status_in (switched c status e) f ≡ RunsElsewhere)
  same-status status e f known stays here known_f = elim (seen c is some status e known f known_f) [
    | inl (at, now) ↦ ((λ away. absurd (here (ap (status_in c) (sym at) ∙ away))), (λ away. absurd (running≢elsewhere (sym now ∙ away))))
    | inr (inl (at, other, now)) ↦ (
      (λ away. absurd (running≢elsewhere (sym is.runs ∙ ap (status_in c) (sym at) ∙ away))),
      (λ away. absurd (stays (sym now ∙ away))),
    )
    | inr (inr (ne_e, ne_r, now)) ↦ ((λ away. now ∙ away), (λ away. sym now ∙ away))
  ]

  pub elsewhere-going : (status : Status) (e : ℕ) → MayStop c status → MayGoOn c e → status ≢ RunsElsewhere → status_in c e ≢ RunsElsewhere → SameElsewhere c (switched c status e)
  elsewhere-going status e stops goes stays here f = (
    (λ its. record { partition = its.partition; status = (same-status status e f known stays here (partition-known (length c.works) f its.partition)).0 its.status }),
    (λ its. record { partition = its.partition; status = (same-status status e f known stays here (partition-known (length c.works) f its.partition)).1 its.status }),
  )
    where
      known : is_known_among (length c.works) e ≡ true
      known = going-known c is some status e stops goes

  pub elsewhere-begun : (e : ℕ) (w : Work) → is_partition_among (length c.works) e ≡ true → status_in c e ≡ Waiting → SameElsewhere c (with_work (switched c Blocked e) e (Some w))
  elsewhere-begun e w partition waiting f = (
    (λ its. record {
      partition = ap (λ k. is_partition_among k f) size ∙ its.partition;
      status = (same-status Blocked e f known blocked≢elsewhere here (partition-known (length c.works) f its.partition)).0 its.status;
    }),
    (λ its. (let was : IsPartition c f = ap (λ k. is_partition_among k f) (sym size) ∙ its.partition in
        record { partition = was; status = (same-status Blocked e f known blocked≢elsewhere here (partition-known (length c.works) f was)).1 its.status })),
  )
    where
      known : is_known_among (length c.works) e ≡ true
      known = partition-known (length c.works) e partition

      here : status_in c e ≢ RunsElsewhere
      here away = waiting≢elsewhere (sym waiting ∙ away)

      size : length (with_work (switched c Blocked e) e (Some w)).works ≡ length c.works
      size = length-set c.works _ (Some w)

  -- the normal world is never elsewhere
  normal-here : status_in c 0 ≢ RunsElsewhere
  normal-here away = elim is.normal [
    | inl runs ↦ running≢elsewhere (sym runs ∙ away)
    | inr blocked ↦ blocked≢elsewhere (sym blocked ∙ away)
  ]

  pub elsewhere-done : (e : ℕ) → origin (work_in c c.runner) ≡ Some e → SameElsewhere c (finished c e)
  elsewhere-done e works_for f = (
    (λ its. record {
      partition = ap (λ k. is_partition_among k f) size ∙ its.partition;
      status = (same-status Waiting e f known waiting≢elsewhere here (partition-known (length c.works) f its.partition)).0 its.status;
    }),
    (λ its. (let was : IsPartition c f = ap (λ k. is_partition_among k f) (sym size) ∙ its.partition in
        record { partition = was; status = (same-status Waiting e f known waiting≢elsewhere here (partition-known (length c.works) f was)).1 its.status })),
  )
    where
      known : is_known_among (length c.works) e ≡ true
      known = done-known c is some e works_for

      here : status_in c e ≢ RunsElsewhere
      here away = elim (is.chains.between e c.runner (runner-for c is some e works_for)) [
        | inl first ↦ normal-here (ap (status_in c) (sym first) ∙ away)
        | inr blocked ↦ blocked≢elsewhere (sym blocked.status ∙ away)
      ]

      size : length (finished c e).works ≡ length c.works
      size = length-set c.works _ _

-- how the runner stops where another processor goes on
pub left-normal : (e : ℕ) → e ≡ 0 → left_status e ≡ Blocked
left-normal e first = ap (λ b. cond b Blocked RunsElsewhere) (eq-eqb e 0 first)

pub left-away : (e : ℕ) → e ≢ 0 → left_status e ≡ RunsElsewhere
left-away e other = ap (λ b. cond b Blocked RunsElsewhere) (ne_eqb e 0 other)

pub left-stops : (c : Schedule) → MayStop c (left_status c.runner)
left-stops c = elim (cases_eq c.runner 0) [
  | inl first ↦ subst (MayStop c) (sym (left-normal c.runner first)) first
  | inr other ↦ subst (MayStop c) (sym (left-away c.runner other)) other
]

module _ (processors : Processors) (s : State) (is : IsSound (schedule_of s)) (some : 1 ≤ length s.works) (placed : ArePlaced processors s) (p : ℕ) (within : p < length processors.runners) where
  abbrev c : Schedule
  c = schedule_of s

  abbrev e : ℕ
  e = runner_on processors p

  abbrev next : Processors
  next = noted processors p s

  size : length next.runners ≡ length processors.runners
  size = length-set processors.runners processors.current s.runner

  noted-here : runner_on next processors.current ≡ s.runner
  noted-here = get_or-set_same processors.runners processors.current s.runner 0 placed.current

  noted-other : (q : ℕ) → q ≢ processors.current → runner_on next q ≡ runner_on processors q
  noted-other q other = get_or-set_other processors.runners processors.current q s.runner 0 other

  was-another : (q : ℕ) → IsAnother next q → q ≢ processors.current → IsAnother processors q
  was-another q its other = record { within = subst (λ k. q < k) size its.within; other = other }

  on-same : processors.current ≡ p → on processors p s ≡ s
  on-same same = ap (λ b. cond b s (moved_to s e)) (eq-eqb processors.current p same)

  on-other : processors.current ≢ p → on processors p s ≡ moved_to s e
  on-other other = ap (λ b. cond b s (moved_to s e)) (ne_eqb processors.current p other)

  turned-same : processors.current ≡ p → turned processors p s ≡ processors
  turned-same same = ap (λ b. cond b processors next) (eq-eqb processors.current p same)

  turned-other : processors.current ≢ p → turned processors p s ≡ next
  turned-other other = ap (λ b. cond b processors next) (ne_eqb processors.current p other)

  module _ (other : processors.current ≢ p) where
    p-another : IsAnother processors p
    p-another = record { within = within; other = λ h. other (sym h) }

    goes : MayGoOn c e
    goes = elim (cases_eq e 0) [
      | inl first ↦ inl first
      | inr busy ↦ (let its = placed.others p p-another busy in inr (record { partition = its.partition; stopped = ap is_stopped its.status }))
    ]

    pub moved-goes : MayGoOn c e
    moved-goes = goes

    known : is_known_among (length c.works) e ≡ true
    known = going-known c is some (left_status c.runner) e (left-stops c) goes

    abbrev d : Schedule
    d = schedule_of (moved_to s e)

    runner-differs : c.runner ≢ 0 → c.runner ≢ e
    runner-differs partition same =
        let its = placed.others p p-another (λ h. partition (same ∙ h)) in
        running≢elsewhere (sym is.runs ∙ ap (status_in c) same ∙ its.status)

    runner-away : c.runner ≢ 0 → IsElsewhere d c.runner
    runner-away busy = record {
      partition = elim (known-cases (length c.works) c.runner is.runner) [ inl first ↦ absurd (busy first) | inr its ↦ its ];
      status = elim (seen c is some (left_status c.runner) e known c.runner is.runner) [
        | inl (at, now) ↦ absurd (runner-differs busy at)
        | inr (inl (at, ne, now)) ↦ now ∙ left-away c.runner busy
        | inr (inr (ne_e, ne_r, now)) ↦ absurd (ne_r refl)
      ];
    }

    still-away : (f : ℕ) → f ≢ e → IsElsewhere c f → IsElsewhere d f
    still-away f differ its = record {
      partition = its.partition;
      status = elim (seen c is some (left_status c.runner) e known f (partition-known (length c.works) f its.partition)) [
        | inl (at, now) ↦ absurd (differ at)
        | inr (inl (at, ne, now)) ↦ absurd (running≢elsewhere (sym is.runs ∙ ap (status_in c) (sym at) ∙ its.status))
        | inr (inr (ne_e, ne_r, now)) ↦ now ∙ its.status
      ];
    }

    others-moved : (q : ℕ) → IsAnother next q → runner_on next q ≢ 0 → IsElsewhere d (runner_on next q)
    others-moved q its busy = elim (cases_eq q processors.current) [
      | inl here ↦ (let at : runner_on next q ≡ s.runner = ap (runner_on next) here ∙ noted-here in
          subst (IsElsewhere d) (sym at) (runner-away (λ h. busy (at ∙ h))))
      | inr there ↦ (let at = noted-other q there in
          let was = was-another q its there in
          let away = placed.others q was (λ h. busy (at ∙ h)) in
          subst (IsElsewhere d) (sym at) (still-away (runner_on processors q) (λ same. its.other (placed.apart q p was p-another (λ h. busy (at ∙ h)) same)) away))
    ]

    apart-moved : (q r : ℕ) → IsAnother next q → IsAnother next r → runner_on next q ≢ 0 → runner_on next q ≡ runner_on next r → q ≡ r
    apart-moved q r one two busy alike = elim (cases_eq q processors.current) [
      | inl here ↦ (elim (cases_eq r processors.current) [
        | inl too ↦ here ∙ sym too
        | inr there ↦ absurd (clash r two there (λ h. busy (alike ∙ h)) (sym alike ∙ ap (runner_on next) here ∙ noted-here))
      ])
      | inr there ↦ (elim (cases_eq r processors.current) [
        | inl here ↦ absurd (clash q one there busy (alike ∙ ap (runner_on next) here ∙ noted-here))
        | inr too ↦ (let at_q = noted-other q there in let at_r = noted-other r too in
            placed.apart q r (was-another q one there) (was-another r two too) (λ h. busy (at_q ∙ h)) (sym at_q ∙ alike ∙ at_r))
      ])
    ]
      where
        -- the runner doesn't run elsewhere too
        clash : (q : ℕ) → IsAnother next q → q ≢ processors.current → runner_on next q ≢ 0 → runner_on next q ≡ s.runner → ⊥
        clash q its there busy runs =
            let at = noted-other q there in
            let away = placed.others q (was-another q its there) (λ h. busy (at ∙ h)) in
            running≢elsewhere (sym is.runs ∙ ap (status_in c) (sym runs ∙ at) ∙ away.status)

    found-moved : (f : ℕ) → IsElsewhere d f → (q : ℕ) × IsAnother next q × (runner_on next q ≡ f)
    found-moved f its = elim (seen c is some (left_status c.runner) e known f (partition-known (length c.works) f its.partition)) [
      | inl (at, now) ↦ absurd (running≢elsewhere (sym now ∙ its.status))
      | inr (inl (at, ne, now)) ↦ (processors.current, record { within = subst (λ k. processors.current < k) (sym size) placed.current; other = other }, noted-here ∙ sym at)
      | inr (inr (ne_e, ne_r, now)) ↦ (let (q, another, at) = placed.found f (record { partition = its.partition; status = sym now ∙ its.status }) in
          (q, record { within = subst (λ k. q < k) (sym size) another.within; other = λ h. ne_e (sym at ∙ ap (runner_on processors) h) }, noted-other q another.other ∙ at))
    ]

    placed-moved : ArePlaced next (moved_to s e)
    placed-moved = record {
      count = size ∙ placed.count;
      current = subst (λ k. p < k) (sym size) within;
      others = others-moved;
      apart = apart-moved;
      found = found-moved;
    }

    sound-moved : IsSound d
    sound-moved = sound-going c is some (left_status c.runner) e (left-stops c) goes

  -- who runs where, as processor p sees it
  pub turned-placed : ArePlaced (turned processors p s) (on processors p s)
  turned-placed = elim (cases_eq processors.current p) [
    | inl same ↦ subst₂ ArePlaced (sym (turned-same same)) (sym (on-same same)) placed
    | inr other ↦ subst₂ ArePlaced (sym (turned-other other)) (sym (on-other other)) (placed-moved other)
  ]

  pub on-sound : IsSound (schedule_of (on processors p s))
  on-sound = elim (cases_eq processors.current p) [
    | inl same ↦ subst (λ t. IsSound (schedule_of t)) (sym (on-same same)) is
    | inr other ↦ subst (λ t. IsSound (schedule_of t)) (sym (on-other other)) (sound-moved other)
  ]

-- the same partitions run elsewhere: they are where they were
pub placed-still : (processors : Processors) (s t : State) → SameElsewhere (schedule_of s) (schedule_of t) → ArePlaced processors s → ArePlaced processors t
placed-still processors s t same placed = record {
  count = placed.count;
  current = placed.current;
  others = λ q its busy. (same (runner_on processors q)).0 (placed.others q its busy);
  apart = placed.apart;
  found = λ e its. placed.found e ((same e).1 its);
}
