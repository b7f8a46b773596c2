-- SPDX-License-Identifier: MIT OR Apache-2.0
-- A hypervisor's retrieve changes the state as the small machine's: RX of the runner tells what it sent.
use Rattle.std.proofs.Common.{◌≡◌, ◌∙◌, ℕ, Bool, true, false, List, length, take, Option, Some, None, Result, Ok, Err, refl, sym, ap, subst}
use Rattle.std.specs.Prelude.{if◌then◌else◌, IfOk, OnErr, OnOk}
use Rattle.std.specs.Option.{option_map_or}
use Rattle.std.specs.Result.{result_err}
use Rattle.ffa_model.specs.declared.call.Call.TheVariants.{MemRetrieve}
use Rattle.ffa_model.specs.declared.call.Reply.{Reply}
use Rattle.ffa_model.specs.declared.call.Reply.TheVariants.{Retrieved}
use Rattle.ffa_model.specs.declared.call.Transfer.{Transfer}
use Rattle.ffa_model.specs.declared.endpoint.EndpointId.{EndpointId}
use Rattle.ffa_model.specs.declared.endpoint.Version.{Version}
use Rattle.ffa_model.specs.declared.operation.ErrorCode.{ErrorCode}
use Rattle.ffa_model.specs.declared.refusal.Refusal.{Refusal}
use Rattle.ffa_model.specs.Buffers.{buffers_in, buffers_with_rx, filled, is_full}
use Rattle.ffa_model.specs.Access.{access}
use Rattle.ffa_model.specs.Calls.{Stepped, first_failure, replied, served}
use Rattle.ffa_model.specs.DescriptorPlaces.{Versioned, in_version}
use Rattle.ffa_model.specs.HypervisorRetrieve.{asks_back, back_guards, is_asked_back, back_length, handle_alone, handle_read, hypervisor_retrieve, memory_retrieve, read_back, retrieve_by, sent_record, told_back}
use Rattle.ffa_model.specs.MemoryRetrieve.{receiver_retrieve, retrieve_read}
use Rattle.ffa_model.specs.Ram.{Ram}
use Rattle.ffa_model.specs.ResponseBytes.{response_bytes, response_size}
use Rattle.ffa_model.specs.State.{State, Transaction, Buffers, is_known, transaction_of, version_of}
use Rattle.ffa_model.proofs.CallAccesses.{access-filled}
use Rattle.ffa_laws.proofs.Form.{served-kept}
use Rattle.ffa_laws.proofs.ReadBacks.{read-kept}
use Rattle.ffa_memshare.specs.declared.changed.Changed.{Changed}
use Rattle.ffa_memshare.specs.declared.descriptor_call.DescriptorCall.{DescriptorCall}
use Rattle.ffa_memshare.specs.Retrieved.{IsReadBack}
use Rattle.ffa_memshare.specs.Scenes.{descriptor_in}
use Rattle.ffa_memshare.specs.Stored.{transaction_in}
use Rattle.ffa_rxtx.specs.Parts.{with_rx_bytes}
use Rattle.ffa_tlb.specs.declared.translations.Entry.{Entry as Held}
use Rattle.ffa_spmc.specs.Managed.{Managed}
use Rattle.ffa_spmc.specs.Meaning.{HasTables, IsManager, Parts, access_by_place, state_of}
use Rattle.ffa_model.specs.declared.call.Call.TheVariants.{MemRetrieve}
use Rattle.ffa_physmem.specs.Work.{loans_of}
use Rattle.ffa_spmc.specs.Work.{call_work, retrieve_work}
use Rattle.ffa_spmc.specs.Served.{IsAnswered, IsReplied}
use Rattle.ffa_spmc.specs.Unowned.{KeepsUnowned}
use Rattle.ffa_spmc.specs.Replies.{reply_of}
use Rattle.ffa_spmc.proofs.AccessChanges.{none-changed}
use Rattle.ffa_spmc.proofs.Answered.{answered-by, passed-state, refused-so}
use Rattle.ffa_spmc.proofs.Fills.{after_fill, runner-there, state-filled, tables-filled, tables-still}
use Rattle.ffa_spmc.proofs.Machines.{machine-called}
use Rattle.ffa_spmc.proofs.Sends.{sent-is}
use Rattle.ffa_spmc.proofs.Unowned.{unowned-filled, unowned-same}

-- the call in registers, of who runs
abbrev pub call_of : State → Transfer → DescriptorCall
call_of s registers = record { transfer = registers; ffa = s.ffa; version = version_of s s.runner }

pub asked-is : (x : Parts) (machine : IsManager x) (e : EndpointId) (at : e.0 ≡ x.kept.chain.runner) (call : DescriptorCall) (registers : Transfer)
    → call ≡ call_of (state_of x) registers
    → is_asked_back call.ffa x.kept.buffers e.0 call.transfer (descriptor_in x.ram x.kept.buffers e.0 call) ≡ asks_back (state_of x) registers
asked-is x machine e at call registers is =
    ap (λ (k : DescriptorCall). is_asked_back k.ffa x.kept.buffers e.0 k.transfer (descriptor_in x.ram x.kept.buffers e.0 k)) is
    ∙ (λ i. is_asked_back (state_of x).ffa x.kept.buffers (at i) registers (in_version (version_of (state_of x) (state_of x).runner) (take registers.total (sent-is x machine e.0 at i))))

module _ (x : Parts) (machine : IsManager x) (e : EndpointId) (at : e.0 ≡ x.kept.chain.runner) (call : DescriptorCall) (registers : Transfer)
    (is : call ≡ call_of (state_of x) registers) (back : asks_back (state_of x) registers ≡ true) (ram : Ram) (buffers : List (Option Buffers)) where
  abbrev s : State
  s = state_of x

  abbrev total : ℕ
  total = registers.total

  abbrev pub after_reading : Parts
  after_reading = record x { ram = ram; kept = record x.kept { buffers = buffers } }

  abbrev bytes : Versioned
  bytes = descriptor_in x.ram x.kept.buffers e.0 call

  abbrev guards : List (Bool × Refusal)
  guards = (hypervisor_retrieve s registers).guards

  handle-is : handle_alone bytes ≡ handle_read s total
  handle-is = λ i. handle_alone (in_version (is i).version (take (is i).transfer.total (sent-is x machine e.0 at i)))

  spoken : call.version ≡ version_of s s.runner
  spoken = ap (λ (k : DescriptorCall). k.version) is

  there : is_known s e.0 ≡ true
  there = runner-there x machine e.0 at

  module _ (size : ℕ) (none : None ≡ first_failure guards) (done : IsReadBack x.ram ram x.kept.buffers x.kept.pool e bytes size) (full : buffers ≡ buffers_with_rx x.kept.buffers e.0 true) where
    abbrev h : ℕ
    h = done.handle

    abbrev t : Transaction
    t = done.transaction

    abbrev answer : List ℕ
    answer = response_bytes call.version (sent_record h t)

    read : handle_read s total ≡ Some h
    read = sym handle-is ∙ done.asked

    was : transaction_of s h ≡ Some t
    was = done.was

    filled-is : after_reading ≡ after_fill x machine e.0 there answer
    filled-is = λ i. record x { ram = done.told.answered i; kept = record x.kept { buffers = full i } }

    state-read : state_of after_reading ≡ read_back s (handle_read s total)
    state-read =
        ap state_of filled-is
        ∙ state-filled x machine e.0 there answer
        ∙ (λ i. filled s (at i) (response_bytes (spoken i) (sent_record h t)))
        ∙ sym (ap (read_back s) read ∙ ap (told_back s h) was)

    machine-read : IsManager after_reading
    machine-read =
        subst IsManager (sym filled-is)
        (machine-called x (after_fill x machine e.0 there answer).ram (after_fill x machine e.0 there answer).kept.buffers x.kept.chain machine
        (tables-filled x machine e.0 there answer) (MemRetrieve registers)
        (sym (ap state_of filled-is) ∙ state-read ∙ sym (passed-state s (hypervisor_retrieve s registers) (sym none))
        ∙ (λ i. (served s (retrieve_by (sym back i) s registers)).state)))

    unowned-read : KeepsUnowned s x.ram ram
    unowned-read = subst (KeepsUnowned s x.ram) (sym done.told.answered) (unowned-filled x machine e.0 there x.ram answer)

    tables-read : HasTables ram x.manifest (access_by_place s)
    tables-read = subst (λ (r : Ram). HasTables r x.manifest (access_by_place s)) (sym done.told.answered) (tables-still x machine e.0 there answer)

    length-read : Retrieved size ≡ (hypervisor_retrieve s registers).reply
    length-read =
        ap Retrieved (done.told.bytes ∙ ap (λ (v : Version). response_size v (length t.receivers) t.ranges) spoken
        ∙ sym (ap (back_length s) read ∙ ap (λ o. option_map_or (λ (u : Transaction). response_size (version_of s s.runner) (length u.receivers) u.ranges) o 0) was))

  -- the clauses of the pool's call
  module _ (r : Result ℕ ErrorCode)
      (refusal : result_err r ≡ first_failure (back_guards (is_full (buffers_in x.kept.buffers e.0)) e.0 (transaction_in x.kept.pool.slots) (handle_alone bytes)))
      (kept_buffers : OnErr r (buffers ≡ x.kept.buffers)) (kept_ram : OnErr r (ram ≡ x.ram))
      (full : OnOk r (buffers ≡ buffers_with_rx x.kept.buffers e.0 true)) (done : IfOk r (IsReadBack x.ram ram x.kept.buffers x.kept.pool e bytes)) where
    refuses : result_err r ≡ first_failure guards
    refuses = refusal ∙ (λ i. first_failure (back_guards (is_full (buffers_in x.kept.buffers (at i))) (at i) (transaction_in x.kept.pool.slots) (handle-is i)))

    pub unchanged : OnErr r (after_reading ≡ x)
    unchanged = of r kept_buffers kept_ram
      where
        of : (r : Result ℕ ErrorCode) → OnErr r (buffers ≡ x.kept.buffers) → OnErr r (ram ≡ x.ram) → OnErr r (after_reading ≡ x)
        of (Ok size) a b = tt
        of (Err code) same_buffers same_ram = λ i. record x { ram = same_ram i; kept = record x.kept { buffers = same_buffers i } }

    pub back-served : replied (state_of after_reading) (reply_of Retrieved r) ≡ served s (hypervisor_retrieve s registers)
    back-served =
        answered-by s (state_of after_reading) (hypervisor_retrieve s registers) r Retrieved refuses (refused-so r (λ same. ap state_of same) unchanged)
        (of-state r refuses full done) (of-length r refuses full done)
      where
        of-state : (r : Result ℕ ErrorCode) → result_err r ≡ first_failure guards → OnOk r (buffers ≡ buffers_with_rx x.kept.buffers e.0 true)
            → IfOk r (IsReadBack x.ram ram x.kept.buffers x.kept.pool e bytes) → OnOk r (state_of after_reading ≡ (hypervisor_retrieve s registers).state)
        of-state (Ok size) none fills facts = state-read size none facts fills
        of-state (Err code) fails fills facts = tt

        of-length : (r : Result ℕ ErrorCode) → result_err r ≡ first_failure guards → OnOk r (buffers ≡ buffers_with_rx x.kept.buffers e.0 true)
            → IfOk r (IsReadBack x.ram ram x.kept.buffers x.kept.pool e bytes) → IfOk r (λ size. Retrieved size ≡ (hypervisor_retrieve s registers).reply)
        of-length (Ok size) none fills facts = length-read size none facts fills
        of-length (Err code) fails fills facts = tt

    pub back-machine : IsManager after_reading
    back-machine = of r refuses unchanged full done
      where
        of : (r : Result ℕ ErrorCode) → result_err r ≡ first_failure guards → OnErr r (after_reading ≡ x) → OnOk r (buffers ≡ buffers_with_rx x.kept.buffers e.0 true)
            → IfOk r (IsReadBack x.ram ram x.kept.buffers x.kept.pool e bytes) → IsManager after_reading
        of (Ok size) none same fills facts = machine-read size none facts fills
        of (Err code) fails same fills facts = subst IsManager (sym same) machine

    pub back-unowned : KeepsUnowned s x.ram ram
    back-unowned = of r refuses kept_ram full done
      where
        of : (r : Result ℕ ErrorCode) → result_err r ≡ first_failure guards → OnErr r (ram ≡ x.ram) → OnOk r (buffers ≡ buffers_with_rx x.kept.buffers e.0 true)
            → IfOk r (IsReadBack x.ram ram x.kept.buffers x.kept.pool e bytes) → KeepsUnowned s x.ram ram
        of (Ok size) none same fills facts = unowned-read size none facts fills
        of (Err code) fails same fills facts = unowned-same s x.ram ram same

    pub back-tables : HasTables ram x.manifest (access_by_place s)
    back-tables = of r refuses kept_ram full done
      where
        of : (r : Result ℕ ErrorCode) → result_err r ≡ first_failure guards → OnErr r (ram ≡ x.ram) → OnOk r (buffers ≡ buffers_with_rx x.kept.buffers e.0 true)
            → IfOk r (IsReadBack x.ram ram x.kept.buffers x.kept.pool e bytes) → HasTables ram x.manifest (access_by_place s)
        of (Ok size) none same fills facts = tables-read size none facts fills
        of (Err code) fails same fills facts = subst (λ (m : Ram). HasTables m x.manifest (access_by_place s)) (sym same) machine.tables

-- a hypervisor's retrieve is answered by its part, and changes nobody's access
pub answered-back : (old new : Managed) (held : List Held) (told : Option Changed) (registers : Transfer) (reply : Reply) → asks_back old.state registers ≡ true
    → IsReplied old new (hypervisor_retrieve old.state registers) (loans_of 1) reply → IsAnswered old new held held told told true (memory_retrieve old.state registers) (call_work old.state (MemRetrieve registers)) reply
answered-back old new held told registers reply asks its =
    subst (λ (b : Bool). IsAnswered old new held held told told true (retrieve_by b old.state registers) (if b then loans_of 1 else retrieve_work old.state (retrieve_read old.state registers.total)) reply) (sym asks)
    (record {
      changed = None;
      replied = its;
      forgotten = record {
        access = none-changed old.state new.state (λ e p. ap (λ (t : Stepped). access t.state e p) its.served
            ∙ served-kept (λ t. access t e p ≡ access old.state e p) old.state (hypervisor_retrieve old.state registers) refl
            (λ none. read-kept (λ t. access t e p ≡ access old.state e p) old.state refl (λ bytes. access-filled old.state old.state.runner bytes e p) (handle_read old.state registers.total)));
        rest = λ e p. refl;
      };
      told = refl;
      silent = tt;
      unchanged = λ error. refl;
      untold = λ error. refl;
    })

-- and a receiver's by its own
pub answered-own : (old new : Managed) (held kept : List Held) (before now : Option Changed) (registers : Transfer) (reply : Reply) → asks_back old.state registers ≡ false
    → IsAnswered old new held kept before now true (receiver_retrieve old.state registers) (retrieve_work old.state (retrieve_read old.state registers.total)) reply
    → IsAnswered old new held kept before now true (memory_retrieve old.state registers) (call_work old.state (MemRetrieve registers)) reply
answered-own old new held kept before now registers reply own its =
    subst (λ (b : Bool). IsAnswered old new held kept before now true (retrieve_by b old.state registers) (if b then loans_of 1 else retrieve_work old.state (retrieve_read old.state registers.total)) reply) (sym own) its
