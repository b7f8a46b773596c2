-- SPDX-License-Identifier: MIT OR Apache-2.0
-- Who runs on each processor of a machine, as it is kept.
use Rattle.std.proofs.Common.{◌≡◌, ◌≢◌, ◌∙◌, ℕ, suc, zero, ◌<◌, ◌≤◌, Bool, true, false, cond, Option, Some, None, List, [], ◌∷◌, length, map, get_or, set, replicate, refl, sym, ap, subst, subst₂, arith}
use Rattle.std.proofs.lemmas.Bool.{ne_eqb}
use Rattle.std.proofs.lemmas.List.{get_or-replicate, length-map, map-set}
use Rattle.ffa_model.specs.declared.endpoint.Endpoint.{Endpoint}
use Rattle.ffa_model.specs.declared.manifest.Manifest.{Manifest}
use Rattle.ffa_model.specs.declared.manifest.Ffa.{Ffa}
use Rattle.ffa_model.specs.First.{first, first_held, party_of}
use Rattle.ffa_model.specs.Ram.{Ram, page_of}
use Rattle.ffa_model.proofs.FirstChain.{first-here}
use Rattle.ffa_spmc.specs.Booted.{IsBootedHeld}
use Rattle.ffa_model.specs.declared.endpoint.EndpointId.{EndpointId}
use Rattle.ffa_model.specs.declared.limits.TheConstants.{MOST_PROCESSORS}
use Rattle.ffa_model.specs.declared.operation.Effect.{Effect}
use Rattle.ffa_model.specs.declared.operation.Effect.TheVariants as effects
use Rattle.ffa_model.specs.declared.operation.Op.{Op}
use Rattle.ffa_model.specs.declared.operation.Outcome.{Outcome}
use Rattle.ffa_model.specs.declared.schedule.Status.{Status}
use Rattle.ffa_model.specs.Processors.{ArePlaced, IsHere, Processors, SameElsewhere, effected, first_processors, interrupt, left_status, moved_to, noted, on, runner_on, turned, with_switch}
use Rattle.ffa_model.specs.RunStates.{Schedule, schedule_of}
use Rattle.ffa_model.specs.Sound.{MayGoOn}
use Rattle.ffa_model.specs.SoundState.{IsSoundState}
use Rattle.ffa_model.specs.State.{State}
use Rattle.ffa_model.proofs.Processors.{moved-goes, placed-still, turned-placed}
use Rattle.ffa_laws.proofs.ProcessorLaws.{effect-elsewhere, interrupt-elsewhere}
use Rattle.ffa_laws.proofs.SoundOperations.{elsewhere-step}
use Rattle.ffa_spmc.specs.declared.run.Run.{Run}
use Rattle.ffa_spmc.specs.Among.{IsDoneReading, IsRead}
use Rattle.ffa_spmc.specs.Operated.{IsDone}
use Rattle.ffa_spmc.specs.Clustered.{IsEffected, in_state, pages_observed}
use Rattle.ffa_spmc.specs.Snapshot.{Snapshot}

abbrev pub nobody : EndpointId
nobody = record { 0 = 0 }

abbrev pub numbers : List EndpointId → List ℕ
numbers items = map (λ (e : EndpointId). e.0) items

abbrev pub kept_as : ℕ → List EndpointId → Processors
kept_as current items = record { current = current; runners = numbers items }

number-at : (items : List EndpointId) (p : ℕ) → get_or (numbers items) p 0 ≡ (get_or items p nobody).0
number-at [] p = refl
number-at (e ∷ items) zero = refl
number-at (e ∷ items) (suc p) = number-at items p

pub booted-here-held : (ffa : Ffa) (base tables blocks : ℕ) (es : List Endpoint) (held : ℕ → List ℕ) → 1 ≤ length es → IsHere (first_held ffa base tables blocks es held)
unfolding first
booted-here-held ffa base tables blocks es held some e its = first-here (length es) some e (record { partition = its.partition; status = its.status })

pub boot-here-held : (m : Manifest) (given : Ram) (s : State) (ram : Ram) → IsBootedHeld m given s ram → IsHere s
unfolding first
boot-here-held m given s ram booted =
    let least : 1 ≤ length s.parties = booted.sound.sized.some in
    let size : length s.parties ≡ length m.endpoints.items = ap (λ (t : State). length t.parties) booted.state ∙ length-map m.endpoints.items party_of in
    subst IsHere (sym booted.state) (booted-here-held m.ffa m.ram_base.0 m.tables.0 m.ram_blocks m.endpoints.items (page_of given) (omega (arith, least, size)))

-- at first the normal world runs on all but the first
pub first-placed : (s : State) → IsHere s → ArePlaced first_processors s
first-placed s here = record {
  count = refl;
  current = omega arith;
  others = λ p its busy. absurd (busy (get_or-replicate MOST_PROCESSORS p 0 0 its.within));
  apart = λ p q one two busy alike. absurd (busy (get_or-replicate MOST_PROCESSORS p 0 0 one.within));
  found = λ e its. absurd (here e its);
}

pub first-kept : (items : List EndpointId) (n : ℕ) → n ≡ MOST_PROCESSORS → items ≡ replicate n nobody → kept_as 0 items ≡ first_processors
first-kept items n all is = ap (kept_as 0) (is ∙ ap (λ (k : ℕ). replicate k nobody) all)

-- another processor does an operation
module _ (machine : Snapshot) (current p : ℕ) (items : List EndpointId) (placed : ArePlaced (kept_as current items) machine.state) (sound : IsSoundState machine.state) (low : p < MOST_PROCESSORS) (other : p ≢ current)
    (slice : List EndpointId) (same : slice ≡ items) where
  abbrev s : State
  s = machine.state

  abbrev processors : Processors
  processors = kept_as current items

  within : p < length (numbers items)
  within = let count = placed.count in omega (arith, count, low)

  some : 1 ≤ length s.works
  some =
      let least = sound.sized.some in
      let works = sound.sized.works in
      omega (arith, least, works)

  differ : current ≢ p
  differ h = other (sym h)

  next-is : (get_or slice p nobody).0 ≡ runner_on processors p
  next-is = ap (λ (xs : List EndpointId). (get_or xs p nobody).0) same ∙ sym (number-at items p)

  pub goes-next : MayGoOn (schedule_of s) (get_or slice p nobody).0
  goes-next = subst (MayGoOn (schedule_of s)) (sym next-is) (moved-goes processors s sound.schedule some placed p within differ)

  turned-is : turned processors p s ≡ noted processors p s
  turned-is = ap (λ b. cond b processors (noted processors p s)) (ne_eqb current p differ)

  on-is : on processors p s ≡ moved_to s (runner_on processors p)
  on-is = ap (λ b. cond b s (moved_to s (runner_on processors p))) (ne_eqb current p differ)

  module _ (runner : EndpointId) (runs : runner.0 ≡ s.runner) (left : Status) (is_left : left ≡ left_status runner.0) (new : Snapshot) (switched : new ≡ in_state machine (with_switch s left (get_or slice p nobody).0))
      (written : List EndpointId) (notes : written ≡ set items current runner) where
    pub kept-next : kept_as p written ≡ turned processors p s
    kept-next =
        ap (kept_as p) notes
        ∙ ap (λ (xs : List ℕ). let ps : Processors = record { current = p; runners = xs } in ps) (map-set (λ (e : EndpointId). e.0) items current runner ∙ ap (λ (r : ℕ). set (numbers items) current r) runs)
        ∙ sym turned-is

    state-next : new.state ≡ on processors p s
    state-next =
        ap (λ (x : Snapshot). x.state) switched
        ∙ (λ i. with_switch s ((is_left ∙ ap left_status runs) i) (next-is i))
        ∙ sym on-is

    pub placed-next : ArePlaced (kept_as p written) new.state
    placed-next = subst₂ ArePlaced (sym kept-next) (sym state-next) (turned-placed processors s sound.schedule some placed p within)

-- an operation while others write to TX changes nothing of who runs elsewhere
read-elsewhere : (run : Run) (begins : Bool) (old new : Snapshot) → IsRead run begins old new → SameElsewhere (schedule_of old.state) (schedule_of new.state)
read-elsewhere run begins old new read =
    subst (SameElsewhere (schedule_of old.state)) (ap (λ (t : State). schedule_of t) read.state.same) (λ e. ((λ its. its), (λ its. its)))

done-elsewhere : (old new : Snapshot) (op : Op) (outcome : Outcome) → IsSoundState old.state → IsDone old op outcome new → SameElsewhere (schedule_of old.state) (schedule_of new.state)
done-elsewhere old new op outcome sound done =
    subst (λ (t : State). SameElsewhere (schedule_of old.state) (schedule_of t)) (sym done.operated.state) (elsewhere-step old.state sound op)

elsewhere-through : (a b c : Schedule) → SameElsewhere a b → SameElsewhere b c → SameElsewhere a c
elsewhere-through a b c one other e = ((λ its. (other e).0 ((one e).0 its)), (λ its. (one e).1 ((other e).1 its)))

reading-elsewhere : (o : Option Run) (old new : Snapshot) (op : Op) (outcome : Outcome) → IsSoundState old.state → IsDoneReading o old op outcome new → SameElsewhere (schedule_of old.state) (schedule_of new.state)
reading-elsewhere None old new op outcome sound done = done-elsewhere old new op outcome sound done
reading-elsewhere (Some run) old new op outcome sound done =
    elsewhere-through (schedule_of old.state) (schedule_of done.seen.state) (schedule_of new.state) (read-elsewhere run true old done.seen done.read)
    (elsewhere-through (schedule_of done.seen.state) (schedule_of done.left.state) (schedule_of new.state)
    (done-elsewhere done.seen done.left op outcome done.read.sound done.done) (read-elsewhere run false done.left new done.ended))

effected-elsewhere : (shared : Bool) (old new : Snapshot) (op : Op) (effect : Effect) → IsSoundState old.state → IsEffected shared old op effect new → SameElsewhere (schedule_of old.state) (schedule_of new.state)
effected-elsewhere shared old new op (effects.Outcome outcome) sound done = reading-elsewhere (pages_observed shared old.state op) old new op outcome sound done.1
effected-elsewhere shared old new op (effects.Resumed e) sound done =
    subst (λ (t : State). SameElsewhere (schedule_of old.state) (schedule_of t)) (sym (ap (λ (x : Snapshot). x.state) done.1))
    (subst (λ (o : Option ℕ). SameElsewhere (schedule_of old.state) (schedule_of (effected old.state op o).state)) done.0 (effect-elsewhere old.state sound op))

-- behind an operation of the selected processor
pub placed-effected : (processors : Processors) (shared : Bool) (old new : Snapshot) (op : Op) (effect : Effect) → IsSoundState old.state → ArePlaced processors old.state
    → IsEffected shared old op effect new → ArePlaced processors new.state
placed-effected processors shared old new op effect sound placed done =
    placed-still processors old.state new.state (effected-elsewhere shared old new op effect sound done) placed

-- and behind an interrupt that it takes
pub placed-interrupted : (processors : Processors) (s : State) (new : State) → IsSoundState s → ArePlaced processors s → new ≡ (interrupt s).state → ArePlaced processors new
placed-interrupted processors s new sound placed is = subst (ArePlaced processors) (sym is) (placed-still processors s (interrupt s).state (interrupt-elsewhere s sound) placed)
