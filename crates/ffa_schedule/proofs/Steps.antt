-- SPDX-License-Identifier: MIT OR Apache-2.0
-- What is kept before and after a step, as run states.
use Rattle.std.proofs.Common.{◌≡◌, ◌≢◌, ◌∙◌, ℕ, ◌≤◌, true, List, length, replicate, set, Option, Some, None, refl, sym, ap, subst, arith, length-set, ◌||◌}
use Rattle.std.proofs.lemmas.Bool.{false≢true}
use Rattle.std.proofs.lemmas.List.{length-replicate}
use Rattle.ffa_model.specs.declared.limits.TheConstants.{MOST_ENDPOINTS}
use Rattle.ffa_model.specs.declared.schedule.Status.{Status}
use Rattle.ffa_model.specs.declared.schedule.Status.TheVariants.{Waiting, Yielded, Blocked}
use Rattle.ffa_model.specs.declared.schedule.Work.{Work}
use Rattle.ffa_model.specs.First.{first_status}
use Rattle.ffa_model.specs.Identifiers.{place}
use Rattle.ffa_model.specs.Lists.{listed}
use Rattle.ffa_model.specs.State.{is_partition_among}
use Rattle.ffa_model.specs.RunStates.{Schedule, finished, first_schedule, is_waiting, is_yielded, status_in, switched, with_work, work_in}
use Rattle.ffa_model.specs.Sound.{MayGoOn, MayStop, origin}
use Rattle.ffa_model.proofs.FirstChain.{first-schedule-sound}
use Rattle.ffa_model.proofs.Sounds.{sound-begun, sound-done, sound-going, waits}
use Rattle.ffa_schedule.specs.Kept.{IsKept}

abbrev pub schedule : ℕ → List Status → List (Option Work) → Schedule
schedule runner statuses works = record { runner = runner; statuses = statuses; works = works }

-- two statuses were written, and perhaps a work
pub written : (r p q : ℕ) (a b : Status) (xs ys zs : List Status) (works : List (Option Work)) → ys ≡ set xs p a → zs ≡ set ys q b
    → schedule r zs works ≡ schedule r (set (set xs p a) q b) works
written r p q a b xs ys zs works one two = ap (λ (ws : List Status). schedule r ws works) (two ∙ ap (λ (ws : List Status). set ws q b) one)

pub worked : (r p : ℕ) (statuses : List Status) (w : Option Work) (xs ys : List (Option Work)) → ys ≡ set xs p w → schedule r statuses ys ≡ schedule r statuses (set xs p w)
worked r p statuses w xs ys is = ap (schedule r statuses) is

-- at first the normal world runs, and the others wait
pub first-view : (statuses : List Status) (works : List (Option Work)) (n : ℕ) → statuses ≡ listed n first_status → works ≡ replicate n None
    → record { runner = 0; statuses = statuses; works = works } ≡ first_schedule n
first-view statuses works n one other = λ i. let c : Schedule = record { runner = 0; statuses = one i; works = other i } in c

pub first-kept : (c : Schedule) (n : ℕ) → c ≡ first_schedule n → 1 ≤ n → n ≤ MOST_ENDPOINTS → IsKept c
first-kept c n is some few =
    subst IsKept (sym is) (record { sound = first-schedule-sound n some few; some = (let size = length-replicate {A = Option Work} n None in omega (arith, size, some)) })

-- what is kept through each step
pub kept-going : (c d : Schedule) (status : Status) (e : ℕ) → IsKept c → MayStop c status → MayGoOn c e → d ≡ switched c status e → IsKept d
kept-going c d status e kept stops goes is =
    subst IsKept (sym is) (record { sound = sound-going c kept.sound kept.some status e stops goes; some = kept.some })

pub kept-begun : (c d : Schedule) (e : ℕ) (w : Work) → IsKept c → is_partition_among (length c.works) e ≡ true → is_waiting (status_in c e) ≡ true → origin (Some w) ≡ Some c.runner
    → d ≡ with_work (switched c Blocked e) e (Some w) → IsKept d
kept-begun c d e w kept partition waiting works_for is =
    subst IsKept (sym is) (record {
      sound = sound-begun c kept.sound kept.some e w partition (waits (status_in c e) waiting) works_for;
      some = (let size = length-set c.works (place e) (Some w) in let least = kept.some in omega (arith, size, least));
    })

pub kept-done : (c d : Schedule) (e : ℕ) → IsKept c → origin (work_in c c.runner) ≡ Some e → d ≡ finished c e → IsKept d
kept-done c d e kept works_for is =
    subst IsKept (sym is) (record {
      sound = sound-done c kept.sound kept.some e works_for;
      some = (let size = length-set c.works (place c.runner) None in let least = kept.some in omega (arith, size, least));
    })

-- a target that doesn't wait, and is given cycles, has yielded
pub has-yielded : (status : Status) → (is_waiting status || is_yielded status) ≡ true → status ≢ Waiting → status ≡ Yielded
has-yielded Waiting idle other = absurd (other refl)
has-yielded Yielded idle other = refl
has-yielded _ idle other = absurd (false≢true idle)
