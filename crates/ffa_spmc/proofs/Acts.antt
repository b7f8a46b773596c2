-- SPDX-License-Identifier: MIT OR Apache-2.0
-- Acts of several processors that are done one after another.
use Rattle.std.proofs.Common.{◌≡◌, ◌∙◌, ℕ, ◌+◌, ◌*◌, Bool, true, false, List, [], ◌∷◌, ◌++◌, length, Option, Some, None, refl, sym, ap, subst}
use Rattle.std.specs.Prelude.{nat_lt}
use Rattle.std.specs.List.{list_all}
use Rattle.std.proofs.lemmas.Bool.{and_from, and_parts, ltb-true}
use Rattle.std.proofs.lemmas.List.{map-append}
use Rattle.std.proofs.lemmas.List.Folds.{list_all-append}
use Rattle.ffa_model.specs.declared.limits.TheConstants.{MOST_PROCESSORS}
use Rattle.ffa_model.specs.declared.operation.Act.{Act}
use Rattle.ffa_model.specs.declared.operation.Act.TheVariants.{Operate, Interrupt}
use Rattle.ffa_model.specs.declared.operation.Effect.{Effect}
use Rattle.ffa_model.specs.declared.operation.Effect.TheVariants as effects
use Rattle.ffa_model.specs.declared.operation.Op.{Op}
use Rattle.ffa_model.specs.declared.operation.Outcome.{Outcome}
use Rattle.ffa_model.specs.Elsewhere.{state_after_as}
use Rattle.ffa_model.specs.Memory.{page_bytes}
use Rattle.ffa_model.specs.Processors.{Effected, Processors, Shared, acted_on, are_there, effected, effects_on, resumed_by, shared_after, shared_after_all, state_on, step_resuming}
use Rattle.ffa_model.specs.RunStates.{schedule_of}
use Rattle.ffa_model.specs.SoundState.{IsSoundState}
use Rattle.ffa_model.specs.State.{State, Party, is_known, is_known_among}
use Rattle.ffa_model.specs.Step.{step}
use Rattle.ffa_laws.specs.ElsewhereRuns.{are_known}
use Rattle.ffa_laws.specs.Isolation.{NeverGrow}
use Rattle.ffa_laws.specs.ProcessorRuns.{Acts, IsSoundShared, Turn, Writes, are_possible, as_turns, as_writes, is_possible, turns_after}
use Rattle.ffa_laws.specs.Reads.{AreBeside}
use Rattle.ffa_laws.specs.Stores.{AreStores, AreWritten, MayAllStore, all_stores, stores}
use Rattle.ffa_laws.proofs.ProcessorRunLaws.{acts-after, acts-there, isolated_on, on-parties, on-stores, possible-after, possible-both, resumed-same, shared_never_grows, sound-behind, sound-there, sound_after_all, steady-shared, turned-after, turns-both, writes-after, writes-there}
use Rattle.ffa_laws.proofs.SoundOperations.{step-sound}
use Rattle.ffa_laws.proofs.Stores.{written-stored}
use Rattle.ffa_spmc.specs.declared.run.Run.{Run}
use Rattle.ffa_spmc.specs.Among.{IsDoneReading, is_in, pages_read}
use Rattle.ffa_spmc.specs.Clustered.{AreActed, AreAmongWrites, IsActedOn, IsBetween, IsEffected, IsEffectedAlone, IsRunOfActs, IsRunOfTurns, IsSeen, IsServed, is_seen_by, pages_observed}
use Rattle.ffa_spmc.specs.Snapshot.{Snapshot}
use Rattle.ffa_spmc.proofs.TxPages.{IsWrittenBy, any-stores, both-stores, left-written, seen-written}

-- what an operation of a machine does of its state
reading-served : (o : Option Run) (old : Snapshot) (op : Op) (outcome : Outcome) (new : Snapshot) → IsDoneReading o old op outcome new
    → (seen : State) × IsSeen o old.state seen × (outcome ≡ (step seen op).outcome) × IsSeen o (step seen op).state new.state
reading-served None old op outcome new done = (old.state, refl, done.outcome, done.operated.state)
reading-served (Some run) old op outcome new among = (
  among.seen.state,
  (among.read.state, among.read.sound),
  among.done.outcome,
  (subst (λ (s : State). AreBeside s new.state (is_in run)) among.done.operated.state among.ended.state, among.ended.sound),
)

pub served : (shared : Bool) (old new : Snapshot) (op : Op) (effect : Effect) → IsEffected shared old op effect new → IsServed shared old.state op effect new.state
served shared old new op (effects.Outcome outcome) (none, done) =
    let (seen, first, told, last) = reading-served (pages_observed shared old.state op) old op outcome new done in (seen, none, first, told, last)
served shared old new op (effects.Resumed e) (some, is) = (some, ap (λ (x : Snapshot). x.state) is)

pub unshared : (shared : Bool) (old new : Snapshot) (op : Op) (effect : Effect) → IsEffected shared old op effect new → IsEffectedAlone old.state op effect new.state
    → IsServed false old.state op effect new.state
unshared shared old new op (effects.Outcome outcome) (none, done) alone = (old.state, none, refl, alone.outcome, alone.state)
unshared shared old new op (effects.Resumed e) (some, is) alone = (some, alone)

-- while nobody else writes, it has the effect of the small machine, and leaves its state
served-is : (old : State) (op : Op) (effect : Effect) (new : State) → IsServed false old op effect new
    → (effect ≡ (step_resuming old op).effect) × (new ≡ (step_resuming old op).state)
served-is old op (effects.Outcome outcome) new (seen, none, same, told, left) = (
  ap effects.Outcome (told ∙ ap (λ (s : State). (step s op).outcome) same) ∙ ap (λ o. (effected old op o).effect) (sym none),
  left ∙ ap (λ (s : State). (step s op).state) same ∙ ap (λ o. (effected old op o).state) (sym none),
)
served-is old op (effects.Resumed e) new (some, is) = (ap (λ o. (effected old op o).effect) (sym some), is ∙ ap (λ o. (effected old op o).state) (sym some))

pub effected-is : (old : Snapshot) (op : Op) (effect : Effect) (new : Snapshot) → IsEffected false old op effect new
    → (effect ≡ (step_resuming old.state op).effect) × (new.state ≡ (step_resuming old.state op).state)
effected-is old op effect new its = served-is old.state op effect new.state (served false old new op effect its)

-- so has an act
acted-is : (old : Shared) (p : ℕ) (act : Act) (effect : Effect) (new : Shared) → IsActedOn false old p act effect new
    → (effect ≡ (acted_on old (p, act)).effect) × (new ≡ shared_after old (p, act))
acted-is old p (Operate op) effect new its =
    let (told, is) = served-is (state_on old p) op effect new.state its.acted in (told, λ i. record { processors = its.processors i; state = is i })
acted-is old p Interrupt effect new its = (its.acted.0, λ i. record { processors = its.processors i; state = its.acted.1 i })

-- and a list of them
acted-all : (old : Shared) (acts : List (ℕ × Act)) (told : List Effect) (new : Shared) → AreActed false false old acts told new
    → (told ≡ effects_on old acts) × (new ≡ shared_after_all old acts)
acted-all old [] told new same = same
acted-all old (x ∷ xs) told new (begun, next, effect, rest, same, is, done, later) =
    let (one, behind) = acted-is old x.0 x.1 effect next (subst (λ (m : Shared). IsActedOn false m x.0 x.1 effect next) same done) in
    let (all, last) = acted-all next xs rest new later in (
      is ∙ (λ i. one i ∷ all i) ∙ ap (λ (m : Shared). (acted_on old x).effect ∷ effects_on m xs) behind,
      last ∙ ap (λ (m : Shared). shared_after_all m xs) behind,
    )

-- so a list has the laws of lists
pub acted-run : (old : Shared) (acts : List (ℕ × Act)) (told : List Effect) (new : Shared) → IsSoundShared old → are_there old acts ≡ true → AreActed false false old acts told new
    → IsRunOfActs old acts told new
acted-run old acts told new sound there acted =
    let (effects, state) = acted-all old acts told new acted in
    let possible = acts-there old acts ∙ there in
    record {
      effects = effects;
      state = state;
      isolated = isolated_on old (as_turns acts) (steady-shared old sound) possible;
      never_grow =
          subst (λ (m : Shared). NeverGrow old.state m.state) (acts-after old acts ∙ sym state) (shared_never_grows old (as_turns acts) sound possible);
    }

-- ---- stores
known-both : (s : State) (xs ys : List (ℕ × Op)) → are_known s xs ≡ true → are_known s ys ≡ true → are_known s (xs ++ ys) ≡ true
known-both s xs ys front back = list_all-append (λ (x : ℕ × Op). is_known s x.0) xs ys ∙ and_from (are_known s xs) (are_known s ys) front back

page-known : (s : State) (e : ℕ) → is_known s e ≡ true → (bytes : List ℕ) (address : ℕ) → are_known s (stores e address bytes) ≡ true
page-known s e known [] address = refl
page-known s e known (b ∷ bytes) address = and_from (is_known s e) (are_known s (stores e (address + 1) bytes)) known (page-known s e known bytes (address + 1))

all-known : (s t : State) (xs : List (ℕ × ℕ)) → MayAllStore s xs → are_known s (all_stores t xs) ≡ true
all-known s t [] may = refl
all-known s t (x ∷ xs) (known, one, may) =
    known-both s (stores x.0 (t.ram_base + 4096 * x.1) (page_bytes t x.1)) (all_stores t xs)
    (page-known s x.0 known (page_bytes t x.1) (t.ram_base + 4096 * x.1)) (all-known s t xs may)

-- what is written is stores of endpoints that there are, each as a test lets it
record AreWrites (may : ℕ → ℕ → Bool) (m next : Shared) : Type 0 where
  writes : List (ℕ × Op)
  stores : AreStores may writes
  possible : are_possible m (as_writes writes) ≡ true
  state : turns_after m (as_writes writes) ≡ next

no-writes : (may : ℕ → ℕ → Bool) (m next : Shared) → next ≡ m → AreWrites may m next
no-writes may m next same = record { writes = []; stores = tt; possible = refl; state = sym same }

stores-writes : (may : ℕ → ℕ → Bool) (m : Shared) (xs : List (ℕ × Op)) → AreStores may xs → are_known m.state xs ≡ true → AreWrites may m (record m { state = state_after_as m.state xs })
stores-writes may m xs are known = record { writes = xs; stores = are; possible = writes-there may xs m are known; state = writes-after xs m }

written-writes : (may : ℕ → ℕ → Bool) (m : Shared) (t : State) → IsSoundState m.state → (its : AreWritten m.state t) → AreStores may (all_stores t its.pages)
    → AreWrites may m (record m { state = t })
written-writes may m t sound its are =
    subst (λ (s : State). AreWrites may m (record m { state = s })) (written-stored m.state t sound its)
    (stores-writes may m (all_stores t its.pages) are (all-known m.state t its.pages its.may))

between-writes : (between : Bool) (old new : Shared) → IsSoundState old.state → IsBetween between old new → AreWrites (λ e address. between) old new
between-writes false old new sound same = no-writes (λ e address. false) old new same
between-writes true old new sound (still, written) =
    subst (λ (ps : Processors). AreWrites (λ e address. true) old (record { processors = ps; state = new.state })) (sym still)
    (written-writes (λ e address. true) old new.state sound written (any-stores new.state written.pages))

-- ---- an act between stores
-- who may store where, before an act in a machine and after it
abbrev may_then : Bool → Shared → ℕ × Act → ℕ → ℕ → Bool
may_then shared m x = is_seen_by shared (state_on m x.0) x.1

record IsTurned (shared : Bool) (m : Shared) (x : ℕ × Act) (effect : Effect) (next : Shared) : Type 0 where
  begun : Shared
  before : AreWrites (may_then shared m x) m begun
  told : effect ≡ (acted_on begun x).effect
  behind : AreWrites (may_then shared m x) (shared_after begun x) next

plain-turned : (shared : Bool) (m : Shared) (p : ℕ) (act : Act) (effect : Effect) (next : Shared) → IsActedOn false m p act effect next → IsTurned shared m (p, act) effect next
plain-turned shared m p act effect next its =
    let (told, is) = acted-is m p act effect next its in
    let may = may_then shared m (p, act) in
    record { begun = m; before = no-writes may m m refl; told = told; behind = no-writes may (shared_after m (p, act)) next is }

-- by what was seen of TX
module _ (m : Shared) (p : ℕ) (op : Op) (outcome : Outcome) (new : Shared) (sound : IsSoundState (state_on m p)) (its : IsActedOn true m p (Operate op) (effects.Outcome outcome) new) where
  abbrev here : State
  here = state_on m p

  abbrev seen : State
  seen = its.acted.0

  front : IsWrittenBy (pages_read here op) here here seen
  front = seen-written here seen op sound (pages_read here op) refl its.acted.2

  back : IsWrittenBy (pages_read here op) here (step seen op).state new.state
  back = left-written here seen op sound front.written.sound (pages_read here op) refl its.acted.2 new.state its.acted.4

  abbrev written : List (ℕ × Op)
  written = all_stores seen front.written.pages

  abbrev may : ℕ → ℕ → Bool
  may = may_then true m (p, Operate op)

  known : are_known m.state written ≡ true
  known =
      subst (λ (parties : List Party). list_all (λ (x : ℕ × Op). is_known_among (length parties) x.0) written ≡ true) (on-parties m.processors p m.state)
      (all-known here seen front.written.pages front.written.may)

  abbrev begun : Shared
  begun = record m { state = state_after_as m.state written }

  seen-then : state_on begun p ≡ seen
  seen-then = on-stores m.processors p may written m.state front.stores ∙ written-stored here seen sound front.written

  none-then : resumed_by seen op ≡ None
  none-then =
      resumed-same here seen (ap (λ (s : State). length s.parties) (sym front.written.same)) (ap (λ (s : State). schedule_of s) (sym front.written.same)) op ∙ its.acted.1

  effect-then : acted_on begun (p, Operate op) ≡ effected seen op None
  effect-then = ap (λ (s : State). step_resuming s op) seen-then ∙ ap (effected seen op) none-then

  after : shared_after begun (p, Operate op) ≡ record { processors = new.processors; state = (step seen op).state }
  after = λ i. record { processors = (turned-after may m.processors p written m.state front.stores ∙ sym its.processors) i; state = (effect-then i).state }

  served-turned : IsTurned true m (p, Operate op) (effects.Outcome outcome) new
  served-turned = record {
    begun = begun;
    before = stores-writes may m written front.stores known;
    told = ap effects.Outcome its.acted.3 ∙ ap (λ (done : Effected). done.effect) (sym effect-then);
    behind =
        subst (λ (n : Shared). AreWrites may n new) (sym after)
        (written-writes may (record { processors = new.processors; state = (step seen op).state }) new.state (step-sound seen front.written.sound op) back.written back.stores);
  }

one-turned : (shared : Bool) (m : Shared) (p : ℕ) (act : Act) (effect : Effect) (next : Shared) → IsSoundState (state_on m p) → IsActedOn shared m p act effect next
    → IsTurned shared m (p, act) effect next
one-turned false m p act effect next sound its = plain-turned false m p act effect next its
one-turned true m p (Operate op) (effects.Outcome outcome) next sound its = served-turned m p op outcome next sound its
one-turned true m p (Operate op) (effects.Resumed e) next sound its = plain-turned true m p (Operate op) (effects.Resumed e) next (record { acted = its.acted; processors = its.processors })
one-turned true m p Interrupt effect next sound its = plain-turned true m p Interrupt effect next (record { acted = its.acted; processors = its.processors })

-- ---- lists
writes-append : (xs ys : List (ℕ × Op)) → as_writes (xs ++ ys) ≡ as_writes xs ++ as_writes ys
writes-append xs ys = map-append (λ (x : ℕ × Op). Writes x.0 x.1) xs ys

record AreTurned (shared between : Bool) (m : Shared) (acts : List (ℕ × Act)) (told : List Effect) (new : Shared) : Type 0 where
  turns : List Turn
  among : AreAmongWrites shared between m acts told turns
  state : turns_after m turns ≡ new
  possible : are_possible m turns ≡ true

-- what is possible after some turns is so before them
possible-back : (xs ys : List Turn) (m n : Shared) → turns_after m xs ≡ n → are_possible n ys ≡ true → are_possible m ys ≡ true
possible-back xs ys m n leads possible = sym (possible-after xs ys m) ∙ subst (λ (k : Shared). are_possible k ys ≡ true) (sym leads) possible

-- an act with what is stored before and after it, and then a list
module _ (shared between : Bool) (old begun next new : Shared) (x : ℕ × Act) (effect : Effect)
    (others : AreWrites (λ e address. between) old begun) (one : IsTurned shared begun x effect next) (there : is_possible old (Acts x.0 x.1) ≡ true) where
  abbrev lead : List Turn
  lead = as_writes (others.writes ++ one.before.writes)

  abbrev trail : List Turn
  trail = as_writes one.behind.writes

  begins : turns_after old lead ≡ one.begun
  begins =
      ap (turns_after old) (writes-append others.writes one.before.writes) ∙ turns-both (as_writes others.writes) (as_writes one.before.writes) old
      ∙ ap (λ (n : Shared). turns_after n (as_writes one.before.writes)) others.state ∙ one.before.state

  acts : turns_after old (lead ++ (Acts x.0 x.1 ∷ [])) ≡ shared_after one.begun x
  acts = turns-both lead (Acts x.0 x.1 ∷ []) old ∙ ap (λ (n : Shared). shared_after n x) begins

  own : AreStores (may_then shared (turns_after old (as_writes others.writes)) x) (one.before.writes ++ one.behind.writes)
  own =
      subst (λ (m : Shared). AreStores (may_then shared m x) (one.before.writes ++ one.behind.writes)) (sym others.state)
      (both-stores (may_then shared begun x) one.before.writes one.behind.writes one.before.stores one.behind.stores)

  more-turned : (xs : List (ℕ × Act)) (rest : List Effect) → AreTurned shared between next xs rest new → AreTurned shared between old (x ∷ xs) (effect ∷ rest) new
  more-turned xs rest later = record {
    turns = lead ++ (Acts x.0 x.1 ∷ (trail ++ later.turns));
    among = (
      others.writes,
      one.before.writes,
      one.behind.writes,
      later.turns,
      rest,
      refl,
      others.stores,
      own,
      ap (λ (e : Effect). e ∷ rest) (one.told ∙ ap (λ (n : Shared). (acted_on n x).effect) (sym begins)),
      subst (λ (n : Shared). AreAmongWrites shared between n xs rest later.turns)
          (sym (ap (λ (n : Shared). turns_after (shared_after n x) trail) begins ∙ one.behind.state)) later.among,
    );
    state =
        turns-both lead (Acts x.0 x.1 ∷ (trail ++ later.turns)) old ∙ ap (λ (n : Shared). turns_after (shared_after n x) (trail ++ later.turns)) begins
        ∙ turns-both trail later.turns (shared_after one.begun x) ∙ ap (λ (n : Shared). turns_after n later.turns) one.behind.state ∙ later.state;
    possible =
        possible-both old lead (Acts x.0 x.1 ∷ (trail ++ later.turns))
        (ap (are_possible old) (writes-append others.writes one.before.writes)
        ∙ possible-both old (as_writes others.writes) (as_writes one.before.writes) others.possible
        (possible-back (as_writes others.writes) (as_writes one.before.writes) old begun others.state one.before.possible))
        (and_from (is_possible old (Acts x.0 x.1)) (are_possible old (trail ++ later.turns)) there
        (possible-back (lead ++ (Acts x.0 x.1 ∷ [])) (trail ++ later.turns) old (shared_after one.begun x) acts
        (possible-both (shared_after one.begun x) trail later.turns one.behind.possible
        (possible-back trail later.turns (shared_after one.begun x) next one.behind.state later.possible))));
  }

sound-written : (may : ℕ → ℕ → Bool) (m next : Shared) → IsSoundShared m → AreWrites may m next → IsSoundShared next
sound-written may m next sound its = subst IsSoundShared its.state (sound_after_all m (as_writes its.writes) sound its.possible)

abbrev are_low : List (ℕ × Act) → Bool
are_low xs = list_all (λ (x : ℕ × Act). nat_lt x.0 MOST_PROCESSORS) xs

all-turned : (shared between : Bool) (acts : List (ℕ × Act)) (old new : Shared) (told : List Effect) → IsSoundShared old → are_low acts ≡ true
    → AreActed shared between old acts told new → AreTurned shared between old acts told new
all-turned shared between [] old new told sound low (none, last) =
    let its = between-writes between old new sound.state last in
    record { turns = as_writes its.writes; among = (none, (its.writes, its.stores, refl)); state = its.state; possible = its.possible }
all-turned shared between (x ∷ xs) old new told sound low (begun, next, effect, rest, free, first, done, left) =
    let (here, others) = and_parts (nat_lt x.0 MOST_PROCESSORS) (are_low xs) low in
    let there : ((m : Shared) → IsSoundShared m → is_possible m (Acts x.0 x.1) ≡ true) = λ m its. ap (nat_lt x.0) its.placed.count ∙ here in
    let its = between-writes between old begun sound.state free in
    let good = sound-written (λ e address. between) old begun sound its in
    let one = one-turned shared begun x.0 x.1 effect next (sound-there begun good x.0 (ltb-true x.0 (length begun.processors.runners) (there begun good))) done in
    let acts = sound-written (may_then shared begun x) begun one.begun good one.before in
    let behind = sound-behind one.begun acts x.0 (ltb-true x.0 (length one.begun.processors.runners) (there one.begun acts)) x.1 in
    let later = all-turned shared between xs next new rest (sound-written (may_then shared begun x) (shared_after one.begun x) next behind one.behind) others left in
    subst (λ (es : List Effect). AreTurned shared between old (x ∷ xs) es new) (sym first)
    (more-turned shared between old begun next new x effect its one (there old sound) xs rest later)

pub acted-among : (shared between : Bool) (old : Shared) (acts : List (ℕ × Act)) (told : List Effect) (new : Shared) → IsSoundShared old → are_there old acts ≡ true
    → AreActed shared between old acts told new → IsRunOfTurns shared between old acts told new
acted-among shared between old acts told new sound there acted =
    let all = all-turned shared between acts old new told sound (ap (λ (n : ℕ). list_all (λ (x : ℕ × Act). nat_lt x.0 n) acts) (sym sound.placed.count) ∙ there) acted in
    record {
      turns = all.turns;
      among = all.among;
      possible = all.possible;
      state = all.state;
      isolated = isolated_on old all.turns (steady-shared old sound) all.possible;
      never_grow = subst (λ (m : Shared). NeverGrow old.state m.state) all.state (shared_never_grows old all.turns sound all.possible);
    }
