-- SPDX-License-Identifier: MIT OR Apache-2.0
-- FFA_MEM_RETRIEVE_REQ changes the state as the small machine's.
use Rattle.std.proofs.Common.{◌≡◌, ◌∙◌, ℕ, ◌<◌, Bool, true, false, List, length, take, Option, Some, None, Result, Ok, Err, refl, sym, ap, subst, inl, inr}
use Rattle.std.specs.Prelude.{◌==◌, ◌&&◌, is_none, IfOk, OnOk, OnErr, ◌++◌}
use Rattle.std.specs.Option.{option_map_or}
use Rattle.std.specs.Result.{result_err}
use Rattle.std.proofs.lemmas.Bool.{false≢true, cases_Bool}
use Rattle.std.proofs.lemmas.Option.{same_Some}
use Rattle.ffa_model.specs.declared.refusal.Refusal.{Refusal}
use Rattle.ffa_model.specs.MemorySend.{transfer_guards}
use Rattle.ffa_model.specs.declared.endpoint.Version.{Version}
use Rattle.ffa_memshare.specs.declared.descriptor_call.DescriptorCall.{DescriptorCall}
use Rattle.ffa_model.specs.DescriptorPlaces.{Versioned, in_version}
use Rattle.ffa_model.specs.declared.call.Call.TheVariants.{MemRetrieve}
use Rattle.ffa_model.specs.declared.call.Reply.TheVariants.{Retrieved}
use Rattle.ffa_model.specs.declared.descriptor.RetrieveDesc.{RetrieveDesc}
use Rattle.ffa_model.specs.declared.endpoint.EndpointId.{EndpointId}
use Rattle.ffa_model.specs.declared.operation.ErrorCode.{ErrorCode}
use Rattle.ffa_model.specs.declared.rights.Kind.{Kind}
use Rattle.ffa_model.specs.declared.rights.Kind.TheVariants.{Share, Lend, Donate}
use Rattle.ffa_model.specs.declared.rights.Rights.{Rights}
use Rattle.ffa_model.specs.Access.{access, held_by, is_receiver, names, ownership_of}
use Rattle.ffa_model.specs.Buffers.{buffers_in, buffers_with_rx, filled, is_full}
use Rattle.ffa_model.specs.Calls.{first_failure, replied, served}
use Rattle.ffa_model.specs.HypervisorRetrieve.{asks_back, retrieve_by}
use Rattle.ffa_model.specs.Identifiers.{identifier, place}
use Rattle.ffa_model.specs.MemoryRetrieve.{holding_guards, named_read, receiver_retrieve, response_length, response_to, retrieve_guards, retrieve_read, retrieved, retrieved_from, retrieved_right, right_for, with_retrieved}
use Rattle.ffa_model.specs.Ram.{Ram}
use Rattle.ffa_model.specs.ResponseBytes.{response_bytes, response_size}
use Rattle.ffa_model.specs.RetrieveDescriptor.{endpoints_named, retrieve_of}
use Rattle.ffa_model.specs.Rights.{is_at_most, is_donate}
use Rattle.ffa_model.specs.SoundState.{IsKnown, IsSoundState}
use Rattle.ffa_model.specs.State.{State, Transaction, Buffers, is_known, transaction_of, version_of}
use Rattle.ffa_model.specs.declared.call.Transfer.{Transfer}
use Rattle.ffa_model.specs.Transactions.{ceiling, scene_of}
use Rattle.ffa_model.proofs.CallAccesses.{access-filled, runner-known}
use Rattle.ffa_model.proofs.Guards.{guard-passes}
use Rattle.ffa_model.proofs.KeptCalls.{taken-sound}
use Rattle.ffa_laws.proofs.SoundOperations.{call-sound}
use Rattle.ffa_pages.specs.Entry.{Entry}
use Rattle.ffa_rxtx.specs.Parts.{with_rx_bytes, ownership_in}
use Rattle.ffa_memshare.specs.declared.changed.Changed.{Changed}
use Rattle.ffa_memshare.specs.declared.changed.Value.{Value}
use Rattle.ffa_memshare.specs.Changes.{IsMoved}
use Rattle.ffa_memshare.specs.Grants.{with_rights}
use Rattle.ffa_memshare.specs.Ranges.{in_ranges}
use Rattle.ffa_memshare.specs.Retrieved.{IsPassedOn, IsRetrieved, IsTaken}
use Rattle.ffa_memshare.specs.Scenes.{descriptor_in, scene_in}
use Rattle.ffa_memshare.specs.SlotChanges.{IsClosed, IsHeldBy}
use Rattle.ffa_memshare.specs.Stored.{Pooled, open_in, pool_slot, transaction_in}
use Rattle.ffa_spmc.specs.AccessChange.{IsAccessChange}
use Rattle.ffa_spmc.specs.Meaning.{AreOpenTransactions, HasTables, IsManager, IsOffered, Parts, access_by_place, state_of}
use Rattle.ffa_spmc.specs.Replies.{change_told, value_or_error, value_reply}
use Rattle.ffa_spmc.specs.Unowned.{KeepsUnowned}
use Rattle.ffa_physmem.specs.Moments.{Past}
use Rattle.ffa_physmem.specs.Work.{AddsAtMost, no_work}
use Rattle.ffa_physmem.proofs.Work.{adds-none}
use Rattle.ffa_stage2.specs.Tables.{IsBuilt}
use Rattle.std.proofs.Math.Bool.{and-false}
use Rattle.ffa_memshare.specs.Work.{LosesNone, retrieved_work}
use Rattle.ffa_spmc.specs.Work.{retrieve_work}
use Rattle.arrayvec.specs.ArrayVec.{array_vec_len}
use Rattle.ffa_spmc.proofs.Works.{loses-by}
use Rattle.ffa_spmc.proofs.Answered.{answered-by, passed-state, refused-so}
use Rattle.ffa_spmc.proofs.Closes.{open-closed, open-reheld}
use Rattle.ffa_spmc.proofs.Donations.{owners-passed, pages-passed}
use Rattle.ffa_spmc.proofs.Fills.{runner-there, state-filled, tables-filled, after_fill}
use Rattle.ffa_spmc.proofs.Granted.{donate-granted, retrieve-granted}
use Rattle.ffa_spmc.proofs.Held.{parties_are}
use Rattle.ffa_spmc.proofs.AccessChanges.{access-changed, none-changed, retrieved-kept, retrieved-new}
use Rattle.ffa_spmc.proofs.Moves.{of-manifest, same-owners, slot-given, tables-moved}
use Rattle.ffa_spmc.proofs.Pools.{normal-is, ownership-is, open-slot, slot-open}
use Rattle.ffa_spmc.proofs.Sends.{sent-is}
use Rattle.ffa_spmc.proofs.Unowned.{open-entered, unowned-filled, unowned-moved, unowned-same, unowned-then}
use Rattle.ffa_spmc.proofs.MemoryParts.{memory_parts_in}

-- what the checks of a call read is the same in the state
pub scene-is : (x : Parts) → IsManager x → scene_in (memory_parts_in x) ≡ scene_of (state_of x)
scene-is x machine = λ i. record {
  endpoints = (machine.layout.endpoints ∙ sym (parties_are x)) i;
  ram = (ap (ownership_in x.kept.pages) machine.layout.base ∙ ownership-is x machine) i;
  normal = normal-is x machine i;
  buffers = x.kept.buffers;
  open_transactions = open_in x.kept.pool;
}

-- the code's runner is that of the run states; and it has retrieved what its TX describes, or was refused
module _ (x : Parts) (machine : IsManager x) (e : EndpointId) (at : e.0 ≡ x.kept.chain.runner) (call : DescriptorCall) (alike : call.ffa ≡ (state_of x).ffa)
    (spoken : call.version ≡ version_of (state_of x) (state_of x).runner) (own : asks_back (state_of x) call.transfer ≡ false)
    (ram : Ram) (pages : List (Option Entry)) (pool : Pooled) (buffers : List (Option Buffers)) where
  abbrev s : State
  s = state_of x

  abbrev registers : Transfer
  registers = call.transfer

  abbrev total : ℕ
  total = call.transfer.total

  abbrev pub after_retrieve : Parts
  after_retrieve = record x { ram = ram; kept = record x.kept { pages = pages; pool = pool; buffers = buffers } }

  abbrev bytes : Versioned
  bytes = descriptor_in x.ram x.kept.buffers e.0 call

  abbrev guards : List (Bool × Refusal)
  guards = (receiver_retrieve s registers).guards

  -- what the pool has done
  abbrev IsDone : Option Changed → Value → Type 0
  IsDone news value = IsRetrieved call.ffa (memory_parts_in x) (memory_parts_in after_retrieve) e bytes news value

  descriptor-is : retrieve_of call.ffa e.0 bytes ≡ retrieve_read s total
  descriptor-is = λ i. retrieve_of (alike i) (at i) (in_version (spoken i) (take total (sent-is x machine e.0 at i)))

  names-are : endpoints_named bytes ≡ named_read s total
  names-are = λ i. endpoints_named (in_version (spoken i) (take total (sent-is x machine e.0 at i)))

  module _ (news : Option Changed) (value : Value) (none : None ≡ first_failure guards) (done : IsDone news value) (full : buffers ≡ buffers_with_rx x.kept.buffers e.0 true) where
    abbrev d : RetrieveDesc
    d = done.asked

    abbrev t : Transaction
    t = done.transaction

    abbrev right : Rights
    right = done.right

    read : retrieve_read s total ≡ Some d
    read = sym descriptor-is ∙ done.described

    was : transaction_of s d.handle ≡ Some t
    was = done.was

    right-is : right ≡ right_for (ownership_of s) t s.runner d
    right-is = done.is ∙ (λ i. right_for ((ap (ownership_in x.kept.pages) machine.layout.base ∙ ownership-is x machine) i) t (at i) d)

    -- the checks have passed
    abbrev checked : List (Bool × Refusal)
    checked = transfer_guards s.buffers s.runner registers ++ (holding_guards s.ffa (ownership_of s) (is_full (buffers_in s.buffers s.runner)) s.runner (named_read s total) d (Some t))

    passes : None ≡ first_failure checked
    passes =
        none
        ∙ ap (λ o. first_failure (retrieve_guards s.ffa (scene_of s) s.runner registers (named_read s total) o)) read
        ∙ ap (λ o. first_failure (transfer_guards s.buffers s.runner registers ++ (holding_guards s.ffa (ownership_of s) (is_full (buffers_in s.buffers s.runner)) s.runner (named_read s total) d o))) was

    receiver : is_receiver s.runner t ≡ true
    receiver = guard-passes checked 5 passes

    within : is_at_most right (ceiling (ownership_of s) t s.runner) ≡ true
    within = ap (λ (r : Rights). is_at_most r (ceiling (ownership_of s) t s.runner)) right-is ∙ guard-passes checked 11 passes

    known : IsKnown s s.runner
    known = runner-known s machine.sound

    moves : IsMoved x.ram done.answer.granted (length x.manifest.endpoints.items) x.manifest.tables.0 x.manifest.ram_blocks (place e.0) (names s t.ranges) (λ p. Some right) false
    moves = of-manifest x machine (λ base n tables blocks. IsMoved x.ram done.answer.granted n tables blocks (place e.0) (in_ranges base t.ranges) (λ p. Some right) false) done.answer.moved

    passed : IsPassedOn t.kind x.kept.pages pages (names s t.ranges) e right
    passed = of-manifest x machine (λ base n tables blocks. IsPassedOn t.kind x.kept.pages pages (in_ranges base t.ranges) e right) done.pages

    -- before the answer
    abbrev before : Parts
    before = record x { ram = done.answer.granted; kept = record x.kept { pages = pages; pool = pool } }

    state-taken : state_of before ≡ with_retrieved s d.handle t s.runner right
    state-taken =
        (λ i. record s {
          pages = pages-passed x machine done.answer.granted pages (place e.0) t.ranges e right moves t.kind passed i;
          transactions = (done.open_transactions i).transactions;
          sent = (done.open_transactions i).sent;
        })
        ∙ (λ i. with_retrieved s d.handle t (at i) right)

    access-granted : (i p : ℕ) → p < length s.pages
        → with_rights (access_by_place s) (place s.runner) (names s t.ranges) (λ q. Some right) i p ≡ access_by_place (retrieved_right s d.handle t s.runner right) i p
    access-granted i p lt = of (is_donate t.kind) refl
      where
        of : (b : Bool) → is_donate t.kind ≡ b
            → with_rights (access_by_place s) (place s.runner) (names s t.ranges) (λ q. Some right) i p ≡ access_by_place (retrieved_right s d.handle t s.runner right) i p
        of true donated = donate-granted s machine.sound d.handle t was (λ q. Some right) i p lt s.runner right known donated refl
        of false borrowed = retrieve-granted s machine.sound d.handle t was (λ q. Some right) i p lt s.runner right known borrowed refl

    access-taken : (i p : ℕ) → p < length s.pages
        → with_rights (access_by_place s) (place e.0) (names s t.ranges) (λ q. Some right) i p ≡ access_by_place (state_of before) i p
    access-taken i p lt =
        ap (λ (f : ℕ). with_rights (access_by_place s) (place f) (names s t.ranges) (λ q. Some right) i p) at
        ∙ access-granted i p lt
        ∙ access-filled (with_retrieved s d.handle t s.runner right) s.runner (response_bytes (version_of s s.runner) (response_to d.handle t s.runner right)) (identifier i) p
        ∙ sym (ap (λ (z : State). access_by_place z i p) state-taken)

    open-taken : AreOpenTransactions x.manifest pages pool.slots
    open-taken = of t.kind refl done.slot passed
      where
        of : (kind : Kind) → t.kind ≡ kind → IsTaken kind x.kept.pool pool d.handle e.0 right → IsPassedOn kind x.kept.pages pages (names s t.ranges) e right → AreOpenTransactions x.manifest pages pool.slots
        of Donate is taken marked =
            let its : IsClosed x.kept.pool pool d.handle = taken in
            let same : its.transaction ≡ t = same_Some its.transaction t (sym (slot-open x machine its.slot d.handle its.transaction its.was) ∙ was) in
            let there : pool_slot x.kept.pool.slots its.slot ≡ Some (d.handle, t) = its.was ∙ ap (λ (u : Transaction). Some (d.handle, u)) same in
            subst (AreOpenTransactions x.manifest pages) (sym its.slots)
            (open-closed x.manifest x.kept.pages pages x.kept.pool.slots machine.open_transactions its.slot d.handle t there (slot-given x.kept.pages pages (names s t.ranges) e right marked) marked.size)
        of Lend is taken same =
            let its : IsHeldBy x.kept.pool pool d.handle e.0 (Some right) = taken in
            subst (λ (table : List (Option Entry)). AreOpenTransactions x.manifest table pool.slots) (sym same)
            (subst (AreOpenTransactions x.manifest x.kept.pages) (sym its.slots)
            (open-reheld x.manifest x.kept.pages x.kept.pool.slots machine.open_transactions its.slot d.handle its.transaction its.was e.0 (Some right)))
        of Share is taken same =
            let its : IsHeldBy x.kept.pool pool d.handle e.0 (Some right) = taken in
            subst (λ (table : List (Option Entry)). AreOpenTransactions x.manifest table pool.slots) (sym same)
            (subst (AreOpenTransactions x.manifest x.kept.pages) (sym its.slots)
            (open-reheld x.manifest x.kept.pages x.kept.pool.slots machine.open_transactions its.slot d.handle its.transaction its.was e.0 (Some right)))

    machine-taken : IsManager before
    machine-taken =
        record {
          laws = machine.laws;
          tables = tables-moved x machine done.answer.granted x.kept.pages (place e.0) t.ranges (λ p. Some right) false moves (same-owners x.kept.pages) (state_of before) access-taken;
          layout = machine.layout;
          owners = owners-passed x machine done.answer.granted pages (place e.0) t.ranges e right moves t.kind passed;
          open_transactions = open-taken;
          sound = subst IsSoundState (sym state-taken) (taken-sound s machine.sound d.handle t was s.runner right known receiver within);
        }

    -- and with it
    abbrev answer : List ℕ
    answer = response_bytes call.version (response_to d.handle t e.0 right)

    there : is_known (state_of before) e.0 ≡ true
    there = runner-there x machine e.0 at

    filled-is : after_retrieve ≡ after_fill before machine-taken e.0 there answer
    filled-is = λ i. record x { ram = done.answer.answered i; kept = record x.kept { pages = pages; pool = pool; buffers = full i } }

    pub state-retrieved : state_of after_retrieve ≡ retrieved s (retrieve_read s total)
    state-retrieved =
        ap state_of filled-is
        ∙ state-filled before machine-taken e.0 there answer
        ∙ (λ i. filled (state-taken i) (at i) (response_bytes (spoken i) (response_to d.handle t (at i) right)))
        ∙ ap (retrieved_right s d.handle t s.runner) right-is
        ∙ sym (ap (retrieved s) read ∙ ap (retrieved_from s d) was)

    pub machine-retrieved : IsManager after_retrieve
    machine-retrieved =
        record {
          laws = machine.laws;
          tables = subst (λ (y : Parts). HasTables y.ram y.manifest (access_by_place (state_of y))) (sym filled-is) (tables-filled before machine-taken e.0 there answer);
          layout = machine.layout;
          owners = machine-taken.owners;
          open_transactions = open-taken;
          sound =
              subst IsSoundState ((λ i. (served s (retrieve_by (own i) s registers)).state) ∙ passed-state s (receiver_retrieve s registers) (sym none) ∙ sym state-retrieved)
              (call-sound s machine.sound (MemRetrieve registers));
        }

    pub unowned-retrieved : KeepsUnowned s x.ram ram
    unowned-retrieved =
        subst (KeepsUnowned s x.ram) (sym done.answer.answered)
        (unowned-then s x.ram done.answer.granted (with_rx_bytes done.answer.granted (buffers_in x.kept.buffers e.0) answer)
        (unowned-moved x machine done.answer.granted (place e.0) t.ranges (λ p. Some right) false moves (open-entered x machine d.handle t was))
        (unowned-filled x machine e.0 (runner-there x machine e.0 at) done.answer.granted answer))

    pub length-retrieved : value_reply value ≡ (receiver_retrieve s registers).reply
    length-retrieved =
        ap value_reply done.value ∙ ap Retrieved (done.answer.bytes ∙ ap (λ (v : Version). response_size v 1 t.ranges) spoken
        ∙ sym (ap (response_length s) read ∙ ap (λ o. option_map_or (λ (u : Transaction). response_size (version_of s s.runner) 1 u.ranges) o 0) was))

    -- of access
    offered : IsOffered x.manifest t
    offered = let slot = open-slot x machine d.handle t was in machine.open_transactions.offered slot.0 d.handle t slot.1

    by-runner : (f p : ℕ) → (names s t.ranges p && s.runner == f) ≡ (names s t.ranges p && e.0 == f)
    by-runner f p = ap (λ (g : ℕ). names s t.ranges p && g == f) (sym at)

    none-of : (o : Option Rights) → is_none o ≡ true → o ≡ None
    none-of None is = refl
    none-of (Some its) is = absurd (false≢true is)

    unheld : held_by t s.runner ≡ None
    unheld = none-of (held_by t s.runner) (guard-passes checked 10 passes)

    other : t.sender ≡ s.runner → ⊥
    other same = false≢true (sym offered.other ∙ ap (λ (f : ℕ). is_receiver f t) same ∙ receiver)

    -- the receiver has no right to the pages before
    loses-none : LosesNone (access_by_place s (place e.0)) (names s t.ranges) (λ _. Some right)
    loses-none = loses-by s (state_of before) e.0 t.ranges (λ _. Some right) access-taken
        (λ p lt named. elim (cases_Bool (s.runner == identifier (place e.0))) [
          | inl its ↦ inl (retrieved-new s machine.sound (identifier (place e.0)) p lt d.handle t was s.runner unheld other (λ i. named i && its i))
          | inr kept ↦ inr (ap (λ (z : State). access z (identifier (place e.0)) p) state-taken
              ∙ sym (access-filled (with_retrieved s d.handle t s.runner right) s.runner (response_bytes (version_of s s.runner) (response_to d.handle t s.runner right)) (identifier (place e.0)) p)
              ∙ retrieved-kept s machine.sound (identifier (place e.0)) p lt d.handle t was s.runner right (ap (λ b. names s t.ranges p && b) kept ∙ and-false (names s t.ranges p)))
        ])

    pub access-retrieved : IsAccessChange s (state_of after_retrieve) news
    access-retrieved =
        subst (IsAccessChange s (state_of after_retrieve)) (sym done.access)
        (access-changed x after_retrieve machine machine-retrieved refl t.ranges (Some e) offered.placed
        (λ f p lt its. inl (retrieved-new s machine.sound f p lt d.handle t was s.runner unheld other (by-runner f p ∙ its)))
        (λ f p lt kept.
        ap (λ (z : State). access z f p) (state-retrieved ∙ ap (retrieved s) read ∙ ap (retrieved_from s d) was)
        ∙ retrieved-kept s machine.sound f p lt d.handle t was s.runner (right_for (ownership_of s) t s.runner d) (by-runner f p ∙ kept)))

  -- the clauses of the pool's call
  module _ (r : Result Value ErrorCode) (news : Option Changed)
      (refusal : result_err r ≡ first_failure (retrieve_guards call.ffa
      (scene_in (memory_parts_in x)) e.0 registers (endpoints_named bytes) (retrieve_of call.ffa e.0 bytes)))
      (kept : OnErr r (pool ≡ x.kept.pool)) (kept_pages : OnErr r (pages ≡ x.kept.pages)) (kept_buffers : OnErr r (buffers ≡ x.kept.buffers)) (kept_ram : OnErr r (ram ≡ x.ram))
      (full : OnOk r (buffers ≡ buffers_with_rx x.kept.buffers e.0 true)) (done : IfOk r (IsDone news)) where
    refuses : result_err r ≡ first_failure guards
    refuses = refusal ∙ (λ i. first_failure (retrieve_guards (alike i) (scene-is x machine i) (at i) registers (names-are i) (descriptor-is i)))

    unchanged : OnErr r (after_retrieve ≡ x)
    unchanged = of r kept kept_pages kept_buffers kept_ram
      where
        of : (r : Result Value ErrorCode) → OnErr r (pool ≡ x.kept.pool) → OnErr r (pages ≡ x.kept.pages) → OnErr r (buffers ≡ x.kept.buffers) → OnErr r (ram ≡ x.ram) → OnErr r (after_retrieve ≡ x)
        of (Ok value) a b c d = tt
        of (Err code) same_pool same_pages same_buffers same_ram = λ i. record x { ram = same_ram i; kept = record x.kept { pages = same_pages i; pool = same_pool i; buffers = same_buffers i } }

    state-done : OnOk r (state_of after_retrieve ≡ retrieved s (retrieve_read s total))
    state-done = of r refuses full done
      where
        of : (r : Result Value ErrorCode) → result_err r ≡ first_failure guards → OnOk r (buffers ≡ buffers_with_rx x.kept.buffers e.0 true) → IfOk r (IsDone news)
            → OnOk r (state_of after_retrieve ≡ retrieved s (retrieve_read s total))
        of (Ok value) none fills facts = state-retrieved news value none facts fills
        of (Err code) fails fills facts = tt

    told : IfOk r (λ value. value_reply value ≡ (receiver_retrieve s registers).reply)
    told = of r refuses full done
      where
        of : (r : Result Value ErrorCode) → result_err r ≡ first_failure guards → OnOk r (buffers ≡ buffers_with_rx x.kept.buffers e.0 true) → IfOk r (IsDone news)
            → IfOk r (λ value. value_reply value ≡ (receiver_retrieve s registers).reply)
        of (Ok value) none fills facts = length-retrieved news value none facts fills
        of (Err code) fails fills facts = tt

    pub retrieve-served : replied (state_of after_retrieve) (value_or_error r) ≡ served s (receiver_retrieve s registers)
    retrieve-served =
        answered-by s (state_of after_retrieve) (receiver_retrieve s registers) r value_reply refuses
        (refused-so r (λ is. ap state_of is) unchanged) state-done told

    pub retrieve-machine : IsManager after_retrieve
    retrieve-machine = of r refuses unchanged full done
      where
        of : (r : Result Value ErrorCode) → result_err r ≡ first_failure guards → OnErr r (after_retrieve ≡ x) → OnOk r (buffers ≡ buffers_with_rx x.kept.buffers e.0 true) → IfOk r (IsDone news) → IsManager after_retrieve
        of (Ok value) none same fills facts = machine-retrieved news value none facts fills
        of (Err code) fails same fills facts = subst IsManager (sym same) machine

    pub retrieve-unowned : KeepsUnowned s x.ram ram
    retrieve-unowned = of r refuses kept_ram full done
      where
        of : (r : Result Value ErrorCode) → result_err r ≡ first_failure guards → OnErr r (ram ≡ x.ram) → OnOk r (buffers ≡ buffers_with_rx x.kept.buffers e.0 true) → IfOk r (IsDone news) → KeepsUnowned s x.ram ram
        of (Ok value) none same fills facts = unowned-retrieved news value none facts fills
        of (Err code) fails same fills facts = unowned-same s x.ram ram same

    pub retrieve-changes : IsAccessChange s (state_of after_retrieve) (change_told r news)
    retrieve-changes = of r refuses unchanged full done
      where
        of : (r : Result Value ErrorCode) → result_err r ≡ first_failure guards → OnErr r (after_retrieve ≡ x) → OnOk r (buffers ≡ buffers_with_rx x.kept.buffers e.0 true) → IfOk r (IsDone news)
            → IsAccessChange s (state_of after_retrieve) (change_told r news)
        of (Ok value) none same fills facts = access-retrieved news value none facts fills
        of (Err code) fails same fills facts = none-changed s (state_of after_retrieve) (λ f p. ap (λ (y : Parts). access (state_of y) f p) same)

    -- how much it does
    pub retrieve-few : (past later : Past) → OnErr r (later ≡ past)
        → ((asked : RetrieveDesc) (t : Transaction) (rights : ℕ → ℕ → Option Rights) → retrieve_of call.ffa e.0 bytes ≡ Some asked
        → transaction_in x.kept.pool.slots asked.handle ≡ Some t
        → IsBuilt x.ram (array_vec_len x.kept.layout.regions) x.kept.layout.tables.0 x.kept.layout.blocks rights
        → LosesNone (rights (place e.0)) (in_ranges x.kept.layout.base.0 t.ranges) (λ _. Some (right_for (ownership_in x.kept.pages x.kept.layout.base.0) t e.0 asked))
        → AddsAtMost past later (retrieved_work x.kept.layout.base.0 (right_for (ownership_in x.kept.pages x.kept.layout.base.0) t e.0 asked) t.ranges))
        → AddsAtMost past later (retrieve_work s (retrieve_read s total))
    retrieve-few past later kept_past few = of r refuses kept_past full done
      where
        of : (r : Result Value ErrorCode) → result_err r ≡ first_failure guards → OnErr r (later ≡ past) → OnOk r (buffers ≡ buffers_with_rx x.kept.buffers e.0 true) → IfOk r (IsDone news)
            → AddsAtMost past later (retrieve_work s (retrieve_read s total))
        of (Ok value) passes same fills facts =
            let d : RetrieveDesc = facts.asked in
            let t : Transaction = facts.transaction in
            let is = right-is news value passes facts fills in
            subst (AddsAtMost past later)
            (ap (λ (q : Rights). retrieved_work s.ram_base q t.ranges) is
            ∙ sym (ap (λ (o : Option Transaction). option_map_or (λ (q : Transaction). retrieved_work s.ram_base (right_for (ownership_of s) q s.runner d) q.ranges) o no_work) facts.was)
            ∙ sym (ap (retrieve_work s) (read news value passes facts fills)))
            (subst (λ (q : Rights). LosesNone (access_by_place s (place e.0)) (names s t.ranges) (λ _. Some q) → AddsAtMost past later (retrieved_work s.ram_base q t.ranges))
            (sym (facts.is ∙ ap (λ (b : ℕ). right_for (ownership_in x.kept.pages b) t e.0 d) machine.layout.base))
            (of-manifest x machine
            (λ base n tables blocks. (rights : ℕ → ℕ → Option Rights) → IsBuilt x.ram n tables blocks rights
            → LosesNone (rights (place e.0)) (in_ranges base t.ranges) (λ _. Some (right_for (ownership_in x.kept.pages base) t e.0 d))
            → AddsAtMost past later (retrieved_work base (right_for (ownership_in x.kept.pages base) t e.0 d) t.ranges))
            (λ rights built loses. few d t rights facts.described facts.was built loses)
            (access_by_place s) machine.tables.built)
            (loses-none news value passes facts fills))
        of (Err code) fails same fills facts = subst (λ (l : Past). AddsAtMost past l (retrieve_work s (retrieve_read s total))) (sym same) (adds-none (retrieve_work s (retrieve_read s total)))
