-- SPDX-License-Identifier: MIT OR Apache-2.0
-- Where no partition was preempted or runs elsewhere, sound run states are one chain.
use Rattle.std.proofs.Common.{◌≡◌, ◌≢◌, ◌⊎◌, ◌∙◌, ℕ, zero, suc, ◌+◌, ◌<◌, ◌≤◌, true, false, List, [], ◌∷◌, length, get_or, Option, Some, None, nat_eq, refl, sym, ap, subst, inl, inr, arith, ◌||◌}
use Rattle.std.specs.List.{list_any}
use Rattle.std.proofs.lemmas.Bool.{cases_eq, eq-eqb, false≢true, ne_eqb}
use Rattle.std.proofs.lemmas.Map.Keys.{IsDistinct-from_apart}
use Rattle.std.proofs.lemmas.Option.{none-some, same_Some}
use Rattle.ffa_model.specs.declared.schedule.Status.{Status}
use Rattle.ffa_model.specs.declared.schedule.Status.TheVariants.{Running, Waiting, Yielded, Blocked, Preempted, RunsElsewhere}
use Rattle.ffa_model.specs.declared.schedule.Work.{Work}
use Rattle.ffa_model.specs.declared.schedule.Work.TheVariants.{Run, Request}
use Rattle.ffa_model.specs.Identifiers.{identifier, place}
use Rattle.ffa_model.specs.State.{is_partition_among}
use Rattle.ffa_model.specs.RunStates.{Schedule, status_in, work_in}
use Rattle.ffa_model.specs.Sound.{IsBlocked, IsFor, IsPartition, IsSound, origin}
use Rattle.ffa_model.specs.OneChain.{IsLinked, IsOneChain, IsSimple}
use Rattle.ffa_model.proofs.Places.{known-cases, known-named, partition-known, partition-place}

module _ (c : Schedule) (is : IsSound c) where
  abbrev n : ℕ
  n = length c.works

  -- who works has set out from somewhere
  set-out : (w : Work) → (e : ℕ) × (origin (Some w) ≡ Some e)
  set-out Run = (0, refl)
  set-out (Request by) = (by.0, refl)

  worker : (f : ℕ) → IsPartition c f → status_in c f ≢ Waiting → (e : ℕ) × IsFor c e f
  worker f partition busy = of (work_in c f) refl
    where
      of : (w : Option Work) → work_in c f ≡ w → (e : ℕ) × IsFor c e f
      of None none = absurd (busy ((is.idle f partition).0 none))
      of (Some w) some = let (e, from) = set-out w in (e, record { partition = partition; works = ap origin some ∙ from })

  running≢waiting : Running ≡ Waiting → ⊥
  running≢waiting h = cc

  blocked≢waiting : Blocked ≡ Waiting → ⊥
  blocked≢waiting h = cc

  -- from a partition that runs or is blocked up to the normal world
  module _ (normal : status_in c 0 ≡ Blocked) where
    climb : (k e : ℕ) (fs : List ℕ) → is.chains.depth e < k → IsPartition c e → status_in c e ≢ Waiting → IsLinked c e fs → (partitions : List ℕ) × IsLinked c 0 partitions
    climb zero e fs low partition busy linked = absurd (omega (arith, low))
    climb (suc k) e fs low partition busy linked =
        let (g, its) = worker e partition busy in
        let deep = is.chains.deeper g e its in
        elim (is.chains.between g e its) [
          | inl first ↦ (e ∷ fs, (normal, partition, its.works ∙ ap Some first, linked))
          | inr blocked ↦ climb k g (e ∷ fs) (omega (arith, low, deep)) blocked.partition (λ h. blocked≢waiting (sym blocked.status ∙ h)) (blocked.status, partition, its.works, linked)
        ]

  whole : (partitions : List ℕ) × IsLinked c 0 partitions
  whole = elim (known-cases n c.runner is.runner) [
    | inl first ↦ ([], first)
    | inr partition ↦ climb (blocked-normal partition) (suc (is.chains.depth c.runner)) c.runner [] (omega arith) partition (λ h. running≢waiting (sym is.runs ∙ h)) refl
  ]
    where
      blocked-normal : is_partition_among n c.runner ≡ true → status_in c 0 ≡ Blocked
      blocked-normal partition = elim is.normal [
        | inl runs ↦ (let first = is.alone 0 refl runs in let (high, within) = partition-place n c.runner partition in absurd (omega (arith, high, first)))
        | inr blocked ↦ blocked
      ]

  -- along the chain it goes deeper
  deeper-along : (e : ℕ) (fs : List ℕ) → IsLinked c e fs → (k d : ℕ) → k < length fs → is.chains.depth e < is.chains.depth (get_or fs k d)
  deeper-along e [] linked k d lt = absurd (omega (arith, lt))
  deeper-along e (f ∷ fs) linked zero d lt = is.chains.deeper e f (record { partition = linked.1; works = linked.2 })
  deeper-along e (f ∷ fs) linked (suc k) d lt =
      let one = is.chains.deeper e f (record { partition = linked.1; works = linked.2 }) in
      let more = deeper-along f fs linked.3 k d (omega (arith, lt)) in
      omega (arith, one, more)

  apart-along : (e : ℕ) (fs : List ℕ) → IsLinked c e fs → (i j d : ℕ) → i < j → j < length (e ∷ fs) → get_or (e ∷ fs) i d ≢ get_or (e ∷ fs) j d
  apart-along e fs linked i zero d ordered lt same = absurd (omega (arith, ordered))
  apart-along e fs linked zero (suc j) d ordered lt same =
      let deep = deeper-along e fs linked j d (omega (arith, lt)) in
      let alike = ap is.chains.depth same in
      absurd (omega (arith, deep, alike))
  apart-along e [] linked (suc i) (suc j) d ordered lt same = absurd (omega (arith, lt))
  apart-along e (f ∷ fs) linked (suc i) (suc j) d ordered lt same = apart-along f fs linked.3 i j d (omega (arith, ordered)) (omega (arith, lt)) same

  -- a member of a list
  abbrev Among : ℕ → List ℕ → Type 0
  Among e xs = list_any (nat_eq e) xs ≡ true

  later : (e x : ℕ) (xs : List ℕ) → Among e xs → Among e (x ∷ xs)
  later e x xs there = elim (nat_eq e x) as (λ b. (b || list_any (nat_eq e) xs) ≡ true) [ true ↦ refl | false ↦ there ]

  first-among : (e : ℕ) (xs : List ℕ) → Among e (e ∷ xs)
  first-among e xs = ap (λ b. b || list_any (nat_eq e) xs) (eq-eqb e e refl)

  -- whoever a member of the chain works for is one too
  before-among : (e : ℕ) (fs : List ℕ) → IsLinked c e fs → (g f : ℕ) → IsFor c g f → Among f fs → Among g (e ∷ fs)
  before-among e [] linked g f its there = absurd (false≢true there)
  before-among e (x ∷ fs) linked g f its there = elim (cases_eq f x) [
    | inl here ↦ (let same : g ≡ e = same_Some g e (sym its.works ∙ ap (λ y. origin (work_in c y)) here ∙ linked.2) in
        subst (λ y. Among y (e ∷ x ∷ fs)) (sym same) (first-among e (x ∷ fs)))
    | inr other ↦ later g e (x ∷ fs) (before-among x fs linked.3 g f its (ap (λ b. b || list_any (nat_eq f) fs) (sym (ne_eqb f x other)) ∙ there))
  ]

  -- the chain ends in the runner
  last-among : (e : ℕ) (fs : List ℕ) → IsLinked c e fs → Among c.runner (e ∷ fs)
  last-among e [] linked = subst (λ y. Among y (e ∷ [])) (sym linked) (first-among e [])
  last-among e (f ∷ fs) linked = later c.runner e (f ∷ fs) (last-among f fs linked.3)

  -- how deep partitions stand at most
  bound : (m : ℕ) → (b : ℕ) × ((i : ℕ) → i < m → is.chains.depth (identifier i) < b)
  bound zero = (0, λ i lt. absurd (omega (arith, lt)))
  bound (suc m) = (let (b, below) = bound m in (
    suc (b + is.chains.depth (identifier m)),
    λ i lt. (elim (cases_eq i m) [
      | inl same ↦ (let at : is.chains.depth (identifier i) ≡ is.chains.depth (identifier m) = ap (λ j. is.chains.depth (identifier j)) same in omega (arith, at))
      | inr other ↦ (let low = below i (omega (arith, lt, other)) in omega (arith, low))
    ]),
  ))

  module _ (simple : IsSimple c) where
    abbrev links : List ℕ
    links = 0 ∷ whole.0

    partition-busy : (e f : ℕ) → IsFor c e f → e ≢ 0 → (f ≡ c.runner) ⊎ IsBlocked c f
    partition-busy e f its other = of (status_in c f) refl
      where
        of : (status : Status) → status_in c f ≡ status → (f ≡ c.runner) ⊎ IsBlocked c f
        of Running at = inl (is.alone f (partition-known n f its.partition) at)
        of Waiting at = absurd (none-some e (sym (ap origin ((is.idle f its.partition).1 at)) ∙ its.works))
        of Yielded at = absurd (other (same_Some e 0 (sym its.works ∙ is.yielded f its.partition at)))
        of Blocked at = inr (record { partition = its.partition; status = at })
        of Preempted at = absurd (simple.preempted f its.partition at)
        of RunsElsewhere at = absurd (simple.elsewhere f its.partition at)

    abbrev deepest : ℕ
    deepest = (bound n).0

    partition-low : (f : ℕ) → IsPartition c f → is.chains.depth f < deepest
    partition-low f partition =
        let (high, within) = partition-place n f partition in
        subst (λ g. is.chains.depth g < deepest) (known-named n f (partition-known n f partition)) ((bound n).1 (place f) within)

    -- a partition among the links is one behind the first
    behind : (f : ℕ) → IsPartition c f → Among f links → Among f whole.0
    behind f partition there =
        let (high, within) = partition-place n f partition in
        ap (λ b. b || list_any (nat_eq f) whole.0) (sym (ne_eqb f 0 (λ h. absurd (omega (arith, high, h))))) ∙ there

    -- down to the runner
    descend : (k e : ℕ) → deepest ≤ k + is.chains.depth e → IsBlocked c e → Among e links
    descend zero e high blocked = (let low = partition-low e blocked.partition in absurd (omega (arith, high, low)))
    descend (suc k) e high blocked =
        let (f, its) = is.chains.blocked e blocked in
        let deep = is.chains.deeper e f its in
        let other : e ≢ 0 = λ h. (let (above, within) = partition-place n e blocked.partition in absurd (omega (arith, above, h))) in
        before-among 0 whole.0 whole.1 e f its (behind f its.partition (elim (partition-busy e f its other) [
          | inl runs ↦ subst (λ g. Among g links) (sym runs) (last-among 0 whole.0 whole.1)
          | inr on ↦ descend k f (omega (arith, high, deep)) on
        ]))

    pub one-chain : IsOneChain c
    one-chain = record {
      partitions = whole.0;
      linked = whole.1;
      once = IsDistinct-from_apart nat_eq links (λ i j d ordered lt. ne_eqb _ _ (apart-along 0 whole.0 whole.1 i j d ordered lt));
      blocked = λ e known at. elim (known-cases n e known) [
        | inl first ↦ subst (λ g. Among g links) (sym first) (first-among 0 whole.0)
        | inr partition ↦ descend deepest e (omega arith) (record { partition = partition; status = at })
      ];
    }
