-- SPDX-License-Identifier: MIT OR Apache-2.0
-- The runner's loads, fetches and stores of a machine are those of its state.
use Rattle.std.proofs.Common.{◌≡◌, ◌∙◌, ℕ, ◌-◌, ◌/◌, ◌%◌, ◌<◌, ◌≤◌, Bool, true, false, List, length, Option, Some, None, Result, Ok, Err, refl, sym, ap, subst, arith}
use Rattle.std.specs.Prelude.{⊤, ◌==◌, is_ok}
use Rattle.std.proofs.lemmas.Bool.{eqb-true, true≢false}
use Rattle.std.proofs.lemmas.Option.{none-some}
use Rattle.byteorder.specs.Endian.{little_bytes}
use Rattle.ffa_model.specs.declared.leaf.Leaf.{Leaf}
use Rattle.ffa_model.specs.declared.operation.FaultKind.{FaultKind}
use Rattle.ffa_model.specs.declared.operation.FaultKind.TheVariants.{Translation, Alignment}
use Rattle.ffa_model.specs.declared.operation.Outcome.{Outcome}
use Rattle.ffa_model.specs.declared.operation.Outcome.TheVariants.{Data, Done, Fault}
use Rattle.ffa_model.specs.declared.operation.Size.{Size}
use Rattle.ffa_model.specs.declared.rights.Rights.{Rights}
use Rattle.ffa_model.specs.Agreement.{root}
use Rattle.ffa_model.specs.Identifiers.{identifier, place}
use Rattle.ffa_model.specs.Memory as memory
use Rattle.ffa_model.specs.Memory.{access_at, accessed, fault_of, size_of, written}
use Rattle.ffa_model.specs.Ram.{Ram}
use Rattle.ffa_model.specs.Reach.{at_end, loaded, loaded_by, may_store_to, number_in_ram, offset, page_index, reach, reach_by, store_answer_by, ram_after_store_by, with_bytes_reached}
use Rattle.ffa_model.specs.Rights.{may_write, may_store}
use Rattle.ffa_model.specs.State.{Page, State, page_at}
use Rattle.ffa_model.specs.Walk.{Answer, walk}
use Rattle.ffa_model.proofs.Accepted.{accepted}
use Rattle.ffa_model.proofs.Places.{known-named, known-place}
use Rattle.ffa_model.specs.declared.operation.Op.TheVariants.{Store}
use Rattle.ffa_model.specs.SoundState.{IsSoundState}
use Rattle.ffa_laws.proofs.SoundOperations.{step-sound}
use Rattle.ffa_laws.proofs.SoundSteady.{runner-known}
use Rattle.ffa_walker.specs.Offset.{KeepsOffset}
use Rattle.ffa_walker.proofs.Offsets.{KeepsOffset-walk}
use Rattle.ffa_physmem.specs.Moments.{IsWriting, Only, Past, TurnsIn}
use Rattle.ffa_stage2.specs.Tables.{IsAside}
use Rattle.ffa_spmc.specs.Moments.{AreMoments}
use Rattle.ffa_spmc.specs.Meaning.{HasTables, IsManager, Parts, access_by_place, state_of}
use Rattle.ffa_spmc.specs.Walks.{walk_of}
use Rattle.ffa_spmc.specs.Managed.{Managed}
use Rattle.ffa_spmc.specs.Unowned.{KeepsUnowned}
use Rattle.ffa_spmc.proofs.Held.{base_is, owned-aside, size_is}
use Rattle.ffa_spmc.proofs.Agreements.{agrees}
use Rattle.ffa_spmc.proofs.Machines.{StillHasTables, tables-same, tables-written}
use Rattle.ffa_spmc.proofs.Moments.{beside-moments}
use Rattle.ffa_spmc.proofs.Reaches.{owned-in, number-is, placed, reach-is, reached}
use Rattle.ffa_spmc.proofs.Stores.{state-written}
use Rattle.ffa_spmc.proofs.Unowned.{unowned-same, unowned-written}

-- what a load or a fetch that answered this gives
abbrev pub outcome_of : Result ℕ FaultKind → Outcome
outcome_of (Ok value) = Data value
outcome_of (Err fault) = Fault fault

-- what a store that answered this gives
abbrev pub done_or_fault : Result ⊤ FaultKind → Outcome
done_or_fault (Ok done) = Done
done_or_fault (Err fault) = Fault fault

-- who meets no fault has a right
right-of : (aligned : Bool) (right : Option Rights) (may : Option Rights → Bool) → fault_of aligned right may ≡ None → (r : Rights) × (right ≡ Some r)
right-of true (Some r) may none = (r, refl)
right-of true None may none = absurd (none-some Translation (sym none))
right-of false right may none = absurd (none-some Alignment (sym none))

ok-no-err : {X Y : Type 0} {a : X} {b : Y} → Ok a ≡ Err b → ⊥
ok-no-err same = true≢false (ap is_ok same)

abbrev ok-or : ℕ → Result ℕ FaultKind → ℕ
ok-or d (Ok a) = a
ok-or d (Err e) = d

ok-same : {a b : ℕ} → ◌≡◌ {A = Result ℕ FaultKind} (Ok a) (Ok b) → a ≡ b
ok-same {a} same = ap (ok-or a) same

-- a page of RAM that an endpoint owns, to which an address leads
record IsThere (x : Parts) (address : ℕ) : Type 0 where
  page : Page
  there : page_at (state_of x) (page_index x.ram address) ≡ Some page
  inside : page_index x.ram address < length x.ram.pages
  number : (address - (state_of x).ram_base) / 4096 ≡ page_index x.ram address
  within : offset x.ram address ≡ address % 4096

-- What a store of these bytes leaves, by the fault that it meets: the tables give the access that they gave, which is that of the
-- state.
record Leaves (x : Parts) (address : ℕ) (bytes : List ℕ) (met : Option FaultKind) (new : Ram) : Type 0 where
  tables : HasTables new x.manifest (access_by_place (state_of x))
  still : StillHasTables x new
  state : state_of (record x { ram = new }) ≡ (accessed met (state_of x) (memory.stored (state_of x) address bytes) Done).state
  unowned : KeepsUnowned (state_of x) x.ram new

module _ (x : Parts) (machine : IsManager x) where
  abbrev s : State
  s = state_of x

  -- the root of the runner's table
  abbrev pub own_root : ℕ
  own_root = root s (place s.runner)

  known : place s.runner < length s.parties
  known = known-place (length s.parties) s.runner machine.sound.sized.some (runner-known s machine.sound)

  named : identifier (place s.runner) ≡ s.runner
  named = known-named (length s.parties) s.runner (runner-known s machine.sound)

  aligned : s.ram_base % 4096 ≡ 0
  aligned =
      let base : s.ram_base ≡ x.manifest.ram_base.0 = base_is x in
      let place = (accepted x.manifest.ram_base.0 x.manifest.tables.0 x.manifest.ram_blocks x.manifest.endpoints.items x.manifest.accepted).aligned in
      omega (arith, base, place)

  -- its access over the walk ends where the state's does
  own-reach : (address n : ℕ) (allowed : Leaf → Bool) (may : Option Rights → Bool)
      → ((r : Rights) → allowed (record { phys = address; read = true; write = may_write r.level; exec = r.exec }) ≡ may (Some r))
      → reach x.ram own_root address n allowed ≡ reached (fault_of (address % n == 0) (access_at s s.runner address) may) address
  own-reach address n allowed may same =
      reach-is x.ram s (agrees x machine) (place s.runner) known address n allowed may same
      ∙ ap (λ (f : ℕ). reached (fault_of (address % n == 0) (access_at s f address) may) address) named

  -- a load or a fetch of n bytes
  pub loaded-is : (address n : ℕ) (allowed : Leaf → Bool) (may : Option Rights → Bool)
      → ((r : Rights) → allowed (record { phys = address; read = true; write = may_write r.level; exec = r.exec }) ≡ may (Some r))
      → outcome_of (loaded x.ram own_root address n allowed)
      ≡ (accessed (fault_of (address % n == 0) (access_at s s.runner address) may) s s (Data (memory.number_at s address n))).outcome
  loaded-is address n allowed may same =
      ap (λ (r : Result ℕ FaultKind). outcome_of (at_end (λ physical. number_in_ram x.ram physical n) r)) (own-reach address n allowed may same)
      ∙ ending (fault_of (address % n == 0) (access_at s s.runner address) may) refl
    where
      ending : (o : Option FaultKind) → fault_of (address % n == 0) (access_at s s.runner address) may ≡ o
          → outcome_of (at_end (λ physical. number_in_ram x.ram physical n) (reached o address)) ≡ (accessed o s s (Data (memory.number_at s address n))).outcome
      ending (Some fault) is = refl
      ending None is =
          let (r, right) = right-of (address % n == 0) (access_at s s.runner address) may is in
          let right_there : access_at s (identifier (place s.runner)) address ≡ Some r = ap (λ (f : ℕ). access_at s f address) named ∙ right in
          ap Data (number-is x.ram s (agrees x machine) (place s.runner) known address n r aligned right_there)

  -- an access without a fault leads to a page that an endpoint owns
  page-reached : (address n : ℕ) → fault_of (address % n == 0) (access_at s s.runner address) may_store ≡ None → IsThere x address
  page-reached address n is =
      let (r, right) = right-of (address % n == 0) (access_at s s.runner address) may_store is in
      let p = placed s s.runner address r right in
      let low : s.ram_base ≤ address = p.low in
      let base : s.ram_base ≡ x.ram.base = base_is x ∙ sym machine.tables.base in
      let whole : s.ram_base % 4096 ≡ 0 = aligned in
      let number : (address - s.ram_base) / 4096 ≡ page_index x.ram address = omega (arith, base) in
      let there : page_at s (page_index x.ram address) ≡ Some p.page = ap (page_at s) (sym number) ∙ p.there in
      record {
        page = p.page;
        there = there;
        inside = subst (λ (n : ℕ). page_index x.ram address < n) (size_is x) (owned-in s (page_index x.ram address) p.page there);
        number = number;
        within = omega (arith, base, whole, low);
      }

  after : (address : ℕ) (bytes : List ℕ) (o : Option FaultKind) (n : ℕ) → fault_of (address % n == 0) (access_at s s.runner address) may_store ≡ o
      → Leaves x address bytes o (with_bytes_reached x.ram bytes (reached o address))
  after address bytes (Some fault) n is = record { tables = machine.tables; still = machine.tables; state = refl; unowned = unowned-same s x.ram x.ram refl }
  after address bytes None n is =
      let p = page-reached address n is in
      record {
        tables = tables-same x machine (page_index x.ram address) (offset x.ram address) bytes p.page p.inside p.there;
        still = tables-written x machine (page_index x.ram address) (offset x.ram address) bytes p.page p.inside p.there;
        state =
            state-written x (page_index x.ram address) (offset x.ram address) bytes p.inside
            ∙ ap (λ (k : ℕ). written s (page_index x.ram address) k bytes) p.within
            ∙ ap (λ (k : ℕ). written s k (address % 4096) bytes) (sym p.number);
        unowned = unowned-written s x.ram (page_index x.ram address) (offset x.ram address) bytes p.page p.there;
      }

  -- a store ends in no page of the tables
  aside-reached : (address physical : ℕ) (o : Option FaultKind) (n : ℕ) → fault_of (address % n == 0) (access_at s s.runner address) may_store ≡ o → reached o address ≡ Ok physical
      → IsAside (length x.manifest.endpoints.items) x.manifest.tables.0 x.manifest.ram_blocks (page_index x.ram physical)
  aside-reached address physical (Some fault) n is at = absurd (ok-no-err (sym at))
  aside-reached address physical None n is at =
      let p = page-reached address n is in
      subst (λ (a : ℕ). IsAside (length x.manifest.endpoints.items) x.manifest.tables.0 x.manifest.ram_blocks (page_index x.ram a)) (ok-same at) (owned-aside x machine (page_index x.ram address) p.page p.there)

  -- The same as callers see it: `now` is what a contract sees of the manager, and this is what the walk of the address
  -- answered.
  module _ {past : Past} (now : Managed) (view : record { state = s; ram = x.ram; past = past } ≡ now) (address : ℕ) (walked : Answer) (is : walked ≡ walk_of now.ram now.state now.state.runner address) where
    walked-is : walked ≡ walk x.ram own_root address
    walked-is = is ∙ ap (λ (seen : Managed). walk_of seen.ram seen.state seen.state.runner address) (sym view)

    -- a walk keeps the place in the page
    pub offset-kept : KeepsOffset address walked
    offset-kept = subst (KeepsOffset address) (sym walked-is) (KeepsOffset-walk x.ram own_root address)

    pub loaded-seen : (n : ℕ) (allowed : Leaf → Bool) (may : Option Rights → Bool) (answer : Result ℕ FaultKind)
        → ((right : Rights) → allowed (record { phys = address; read = true; write = may_write right.level; exec = right.exec }) ≡ may (Some right))
        → answer ≡ loaded_by x.ram walked address n allowed
        → outcome_of answer
        ≡ (accessed (fault_of (address % n == 0) (access_at now.state now.state.runner address) may) now.state now.state (Data (memory.number_at now.state address n))).outcome
    loaded-seen n allowed may answer same loaded =
        ap outcome_of (loaded ∙ ap (λ (w : Answer). loaded_by x.ram w address n allowed) walked-is)
        ∙ loaded-is address n allowed may same
        ∙ ap (λ (seen : Managed). (accessed (fault_of (address % n == 0) (access_at seen.state seen.state.runner address) may) seen.state seen.state (Data (memory.number_at seen.state address n))).outcome) view

    module _ (size : Size) (value : ℕ) where
      -- the fault that the store meets, if it meets one
      abbrev met : Option FaultKind
      met = memory.store_fault s address (size_of size)

      walk-reached : reach_by x.ram walked address (size_of size) may_store_to ≡ reached met address
      walk-reached =
          ap (λ (w : Answer). reach_by x.ram w address (size_of size) may_store_to) walked-is
          ∙ own-reach address (size_of size) may_store_to may_store (λ r. refl)

      module _ (new : Ram) (wrote : new ≡ ram_after_store_by x.ram walked address (size_of size) value) where
        new-is : new ≡ with_bytes_reached x.ram (little_bytes (size_of size) value) (reached met address)
        new-is = wrote ∙ ap (with_bytes_reached x.ram (little_bytes (size_of size) value)) walk-reached

        left : Leaves x address (little_bytes (size_of size) value) met new
        left = subst (Leaves x address (little_bytes (size_of size) value) met) (sym new-is) (after address (little_bytes (size_of size) value) met (size_of size) refl)

        pub machine-stored : IsManager (record x { ram = new })
        machine-stored = record {
          laws = machine.laws;
          tables = left.still;
          layout = machine.layout;
          owners = machine.owners;
          open_transactions = machine.open_transactions;
          sound = subst IsSoundState (sym left.state) (step-sound s machine.sound (Store address size value));
        }

        pub state-stored : state_of (record x { ram = new }) ≡ (memory.store now.state address size value).state
        state-stored = left.state ∙ ap (λ (seen : Managed). (memory.store seen.state address size value).state) view

        pub unowned-stored : KeepsUnowned now.state now.ram new
        unowned-stored = subst (λ (seen : Managed). KeepsUnowned seen.state seen.ram new) view left.unowned

        -- between its writes
        pub moments-stored : (later : Past) → TurnsIn new later
            → Only past later (λ _ st. (physical : ℕ) × (reach_by x.ram walked address (size_of size) may_store_to ≡ Ok physical) × IsWriting x.ram (λ p. p == page_index x.ram physical) st)
            → AreMoments now.state now.ram new now.past later
        moments-stored later turns only =
            subst (λ (seen : Managed). AreMoments seen.state seen.ram new seen.past later) view
            (beside-moments x machine new left.tables turns only (λ _ st (physical, is, writing). (
              λ p. p == page_index x.ram physical,
              λ p same. subst (IsAside (length x.manifest.endpoints.items) x.manifest.tables.0 x.manifest.ram_blocks) (sym (eqb-true p (page_index x.ram physical) same))
                  (aside-reached address physical met (size_of size) refl (sym walk-reached ∙ is)),
              writing,
            )))

      pub answer-stored : (answer : Result ⊤ FaultKind) → answer ≡ store_answer_by x.ram walked address (size_of size)
          → done_or_fault answer ≡ (memory.store now.state address size value).outcome
      answer-stored answer answered =
          ap done_or_fault (answered ∙ ap (at_end (λ physical. tt)) walk-reached)
          ∙ ending met
          ∙ ap (λ (seen : Managed). (memory.store seen.state address size value).outcome) view
        where
          ending : (o : Option FaultKind)
              → done_or_fault (at_end (λ physical. tt) (reached o address)) ≡ (accessed o s (memory.stored s address (little_bytes (size_of size) value)) Done).outcome
          ending None = refl
          ending (Some fault) = refl
