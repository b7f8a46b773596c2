-- SPDX-License-Identifier: MIT OR Apache-2.0
-- What a contract sees of a machine that several processors run, what an operation of one of them comes to, and what a list of acts does.
use Rattle.std.specs.Prelude.{◌≡◌, ℕ, ◌==◌, ◌&&◌, Bool, true, false, List, [], ◌∷◌, ◌++◌, Option, Some, None, refl, if◌then◌else◌}
use Rattle.std.specs.Option.{option_map_or}
use Rattle.std.specs.Coded.{Coded, code_by, coded×, coded_ℕ, coded_list}
use Rattle.ffa_model.specs.declared.operation.Act.{Act}
use Rattle.ffa_model.specs.declared.operation.Act.TheVariants.{Operate, Interrupt}
use Rattle.ffa_model.specs.declared.operation.Effect.{Effect}
use Rattle.ffa_model.specs.declared.operation.Effect.TheVariants.{Outcome, Resumed}
use Rattle.ffa_model.specs.declared.operation.Op.{Op}
use Rattle.ffa_model.specs.declared.schedule.Status.TheVariants.{Blocked}
use Rattle.ffa_model.specs.Memory.{page_of_address}
use Rattle.ffa_model.specs.Numbers.{Identifier}
use Rattle.ffa_model.specs.Processors.{Processors, Shared, acted_on, effects_on, interrupt, on, resumed_by, shared_after, shared_after_all, state_on, turned, with_switch}
use Rattle.ffa_model.specs.SoundState.{IsSoundState}
use Rattle.ffa_model.specs.State.{State}
use Rattle.ffa_model.specs.Step.{step}
use Rattle.ffa_laws.specs.Isolation.{NeverGrow}
use Rattle.ffa_laws.specs.ProcessorRuns.{Acts, IsolatedOn, Turn, are_possible, as_turns, as_writes, turns_after}
use Rattle.ffa_laws.specs.Reads.{AreBeside}
use Rattle.ffa_laws.specs.Stores.{AreStores, AreWritten}
use Rattle.ffa_spmc.specs.Among.{IsDoneAlone, IsDoneReading, is_in, pages_read}
use Rattle.ffa_spmc.specs.Snapshot.{Snapshot, coded_snapshot}
use Rattle.ffa_spmc.specs.declared.run.Run.{Run}

-- the machine as the processor of the last operation sees it, and who runs on each other one
pub record Clustered : Type 0 where
  pub machine : Snapshot
  pub processors : Processors

abbrev pub coded_clustered : Coded Clustered
coded_clustered =
    code_by (Snapshot × (ℕ × List ℕ)) (coded× coded_snapshot (coded× coded_ℕ (coded_list coded_ℕ)))
    (λ c. (c.machine, (c.processors.current, c.processors.runners)))
    (λ p. record { machine = p.0; processors = record { current = p.1.0; runners = p.1.1 } }) (λ _. refl)

-- the machine in another state, with all else as it is
abbrev pub in_state : Snapshot → State → Snapshot
in_state x s = record x { state = s }

-- the machine as processor p sees it
abbrev pub seen_by : ℕ → Clustered → Snapshot
seen_by p c = in_state c.machine (on c.processors p c.machine.state)

-- the pages of the runner's TX that are observed at once for an operation, where others may write to them
abbrev pub pages_observed : Bool → State → Op → Option Run
pages_observed shared s op = if shared then pages_read s op else None

-- An operation of the runner where partitions may be preempted is done as any operation, with pages of TX as they were observed; or
-- it lets a preempted partition go on: then all but the run states is as it was.
abbrev pub IsEffected : Bool → Snapshot → Op → Effect → Snapshot → Type 0
IsEffected shared old op (Outcome outcome) new =
    (resumed_by old.state op ≡ None) × IsDoneReading (pages_observed shared old.state op) old op outcome new
IsEffected shared old op (Resumed e) new =
    (resumed_by old.state op ≡ Some e.0) × (new ≡ in_state old (with_switch old.state Blocked e.0))

-- while nobody else wrote, the state is exactly the one that the definitions give
abbrev pub IsEffectedAlone : State → Op → Effect → State → Type 0
IsEffectedAlone old op (Outcome outcome) new = IsDoneAlone old op outcome new
IsEffectedAlone old op (Resumed e) new = new ≡ with_switch old Blocked e.0

-- OF THE STATE ALONE

-- If there is a run, its pages were read at once, or are no longer as they were read. They alone may have other bytes then.
abbrev pub IsSeen : Option Run → State → State → Type 0
IsSeen None s t = t ≡ s
IsSeen (Some run) s t = AreBeside s t (is_in run) × IsSoundState t

-- What `Cluster::op` promises of the state (`act_in_turn`: `served`). Pages of TX are seen at once, and the operation is a step of the
-- state with these bytes. Only after it the pages have the bytes that others wrote. Or a preempted partition goes on, and only run states change.
abbrev pub IsServed : Bool → State → Op → Effect → State → Type 0
IsServed shared old op (Outcome outcome) new =
    (seen : State) × (resumed_by old op ≡ None) × IsSeen (pages_observed shared old op) old seen
    × (outcome ≡ (step seen op).outcome) × IsSeen (pages_observed shared old op) (step seen op).state new
IsServed shared old op (Resumed e) new = (resumed_by old op ≡ Some e.0) × (new ≡ with_switch old Blocked e.0)

-- An act in the state as its processor sees it: an operation is served, and an interrupt changes the run states alone.
abbrev pub IsActed : Bool → State → Act → Effect → State → Type 0
IsActed shared old (Operate op) effect new = IsServed shared old op effect new
IsActed shared old Interrupt effect new = (effect ≡ Outcome (interrupt old).outcome) × (new ≡ (interrupt old).state)

-- an act of processor p, which is selected first
pub record IsActedOn (shared : Bool) (old : Shared) (p : ℕ) (act : Act) (effect : Effect) (new : Shared) : Type 0 where
  pub acted : IsActed shared (state_on old p) act effect new.state
  pub processors : new.processors ≡ turned old.processors p old.state

-- between acts nobody writes, or others write into any pages to which they may
abbrev pub IsBetween : Bool → Shared → Shared → Type 0
IsBetween false old new = new ≡ old
IsBetween true old new = (new.processors ≡ old.processors) × AreWritten old.state new.state

-- Acts that are done one after another, each of the processor beside it. Others may write to TX during an act if `shared`, and between acts
-- if `between`.
abbrev pub AreActed : (shared between : Bool) → Shared → List (ℕ × Act) → List Effect → Shared → Type 0
AreActed shared between old [] told new = (told ≡ []) × IsBetween between old new
AreActed shared between old (x ∷ xs) told new =
    (begun next : Shared) × (effect : Effect) × (rest : List Effect)
    × IsBetween between old begun × (told ≡ effect ∷ rest)
    × IsActedOn shared begun x.0 x.1 effect next × AreActed shared between next xs rest new

-- acts had these effects and led to this machine, as the definitions say of the list; each endpoint sees of them what isolation
-- says, and no right grew
pub record IsRunOfActs (old : Shared) (acts : List (ℕ × Act)) (told : List Effect) (new : Shared) : Type 0 where
  pub effects : told ≡ effects_on old acts
  pub state : new ≡ shared_after_all old acts
  pub isolated : IsolatedOn old (as_turns acts)
  pub never_grow : NeverGrow old.state new.state

-- WHILE OTHERS WRITE

-- whether e is who acts, and the address is in a page of its TX that the act sees at once
abbrev pub is_seen_by : Bool → State → Act → Identifier → ℕ → Bool
is_seen_by shared s (Operate op) e address =
    e == s.runner
    && option_map_or (λ run. option_map_or (is_in run) (page_of_address s address) false) (pages_observed shared s op) false
is_seen_by shared s Interrupt e address = false

-- Acts one after another with these effects. If `between`, anybody may store between acts. Right before and right after an act, whoever
-- acts may store into the pages of its TX that the act sees at once.
abbrev pub AreAmongWrites : (shared between : Bool) → Shared → List (ℕ × Act) → List Effect → List Turn → Type 0
AreAmongWrites shared between m [] told turns =
    (told ≡ []) × ((others : List (ℕ × Op)) × AreStores (λ e address. between) others × (turns ≡ as_writes others))
AreAmongWrites shared between m (x ∷ xs) told turns =
    (others before behind : List (ℕ × Op)) × (rest : List Turn) × (later : List Effect)
    × (turns ≡ as_writes (others ++ before) ++ (Acts x.0 x.1 ∷ (as_writes behind ++ rest)))
    × AreStores (λ e address. between) others
    × AreStores (is_seen_by shared (state_on (turns_after m (as_writes others)) x.0) x.1) (before ++ behind)
    × (told ≡ (acted_on (turns_after m (as_writes (others ++ before))) x).effect ∷ later)
    × AreAmongWrites shared between (turns_after (shared_after (turns_after m (as_writes (others ++ before))) x) (as_writes behind)) xs later rest

-- acts led from one machine to another as such a list does, of which each endpoint sees what isolation says, and no right grew
pub record IsRunOfTurns (shared between : Bool) (old : Shared) (acts : List (ℕ × Act)) (told : List Effect) (new : Shared) : Type 0 where
  pub turns : List Turn
  pub among : AreAmongWrites shared between old acts told turns
  pub possible : are_possible old turns ≡ true
  pub state : turns_after old turns ≡ new
  pub isolated : IsolatedOn old turns
  pub never_grow : NeverGrow old.state new.state
