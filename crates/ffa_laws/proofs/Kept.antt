-- SPDX-License-Identifier: MIT OR Apache-2.0
-- What the calls do to pages, and that the endpoints stay.
use Rattle.std.proofs.Common.{◌≡◌, ℕ, true, false, cond, List, Option, Some, None, refl, sym, ap, subst, ◌-◌, ◌/◌, ◌%◌, length}
use Rattle.byteorder.specs.Endian.{little_bytes}
use Rattle.ffa_model.specs.declared.descriptor.RelinquishDesc.{RelinquishDesc}
use Rattle.ffa_model.specs.declared.descriptor.RetrieveDesc.{RetrieveDesc}
use Rattle.ffa_model.specs.declared.operation.Op.{Op}
use Rattle.ffa_model.specs.declared.operation.Op.TheVariants.{Call, Load, Store, Fetch}
use Rattle.ffa_model.specs.declared.operation.Outcome.TheVariants.{Data, Done}
use Rattle.ffa_model.specs.declared.operation.ErrorCode.{ErrorCode}
use Rattle.ffa_model.specs.declared.operation.Size.{Size}
use Rattle.ffa_model.specs.declared.rights.Kind.{Kind}
use Rattle.ffa_model.specs.declared.rights.Kind.TheVariants.{Share, Lend, Donate}
use Rattle.ffa_model.specs.declared.call.Call as calls
use Rattle.ffa_model.specs.declared.call.Call.TheVariants.{PartitionInfoGet, MsgWait, MemDonate, MemLend, MemShare, MemRetrieve, MemRelinquish, MemReclaim, MsgSend2, Version}
use Rattle.ffa_model.specs.Registers.{decode}
use Rattle.ffa_model.specs.SendDescriptor.{SendRecord}
use Rattle.ffa_model.specs.State.{State, Page, Party, buffers_of, is_known, is_known_among, transaction_of, version_of}
use Rattle.ffa_model.specs.Calls.{first_failure}
use Rattle.ffa_model.specs.Memory.{fetch_fault, number_at, read_fault, size_of, store_fault, stored, written_pages}
use Rattle.ffa_model.specs.MemoryRetrieve.{retrieve_read, retrieved, retrieved_from}
use Rattle.ffa_model.specs.MemoryReturn.{relinquish_read, relinquished, relinquished_from}
use Rattle.ffa_model.specs.MemorySend.{memory_sent, send_read}
use Rattle.ffa_model.specs.Buffers.{filled, filled_pages}
use Rattle.ffa_model.specs.Setup.{info_bytes, is_count_alone, uuid_bytes}
use Rattle.ffa_model.specs.Messages.{header_in, message_in, send2_guards, tx_bytes}
use Rattle.ffa_model.specs.Step.{serve, service, step}
use Rattle.ffa_laws.specs.Isolation.{is_send2}
use Rattle.ffa_laws.specs.OwnAccess.{is_call, is_memory_call}
use Rattle.ffa_laws.proofs.Versions.{version-leaves}
use Rattle.ffa_laws.proofs.Form.{accessed-kept, served-kept, waited-kept}
use Rattle.ffa_laws.proofs.ReadBacks.{either-kept}

-- ---- the endpoints stay the same, and where RAM and the tables begin
abbrev pub fixed : State → List Party × (ℕ × ℕ)
fixed s = (s.parties, (s.ram_base, s.tables))

sent-fixed : (s : State) (kind : Kind) (r : Option SendRecord) → fixed (memory_sent s kind r) ≡ fixed s
sent-fixed s kind None = refl
sent-fixed s kind (Some r) = refl

retrieved-fixed : (s : State) (d : Option RetrieveDesc) → fixed (retrieved s d) ≡ fixed s
retrieved-fixed s None = refl
retrieved-fixed s (Some d) = elim (transaction_of s d.handle) as (λ o. fixed (retrieved_from s d o) ≡ fixed s) [ None ↦ refl | Some t ↦ refl ]

relinquished-fixed : (s : State) (d : Option RelinquishDesc) → fixed (relinquished s d) ≡ fixed s
relinquished-fixed s None = refl
relinquished-fixed s (Some d) = elim (transaction_of s d.handle) as (λ o. fixed (relinquished_from s d o) ≡ fixed s) [ None ↦ refl | Some t ↦ refl ]

service-fixed : (s : State) (call : calls.Call) → fixed (service s call).state ≡ fixed s
service-fixed s (PartitionInfoGet uuid flags) = elim (is_count_alone flags) as (λ b. fixed (cond b s (filled s s.runner (info_bytes s.ffa (version_of s s.runner) s.parties (uuid_bytes uuid)))) ≡ fixed s) [ true ↦ refl | false ↦ refl ]
service-fixed s (Version word) = version-leaves (λ t. fixed t ≡ fixed s) s.ffa s word refl (λ version. refl)
service-fixed s (MsgWait flags) = waited-kept (λ t. fixed t ≡ fixed s) s flags refl refl
service-fixed s (MemDonate x) = sent-fixed s Donate (send_read s Donate x.total)
service-fixed s (MemLend x) = sent-fixed s Lend (send_read s Lend x.total)
service-fixed s (MemShare x) = sent-fixed s Share (send_read s Share x.total)
service-fixed s (MemRetrieve x) = either-kept (λ t. fixed t ≡ fixed s) s x (retrieved-fixed s (retrieve_read s x.total)) refl (λ bytes. refl)
service-fixed s MemRelinquish = relinquished-fixed s (relinquish_read s)
service-fixed s call = refl

pub step-fixed : (s : State) (op : Op) → fixed (step s op).state ≡ fixed s
step-fixed s (Call x) = served-kept (λ t. fixed t ≡ fixed s) s (service s (decode x)) refl (λ none. service-fixed s (decode x))
step-fixed s (Load address size) = accessed-kept (λ t. fixed t ≡ fixed s) s s (Data (number_at s address (size_of size))) (read_fault s address (size_of size)) refl (λ none. refl)
step-fixed s (Store address size value) = accessed-kept (λ t. fixed t ≡ fixed s) s (stored s address (little_bytes (size_of size) value)) Done (store_fault s address (size_of size)) refl (λ none. refl)
step-fixed s (Fetch address) = accessed-kept (λ t. fixed t ≡ fixed s) s s (Data (number_at s address 4)) (fetch_fault s address) refl (λ none. refl)

pub known-step : (s : State) (op : Op) (e : ℕ) → is_known s e ≡ true → is_known (step s op).state e ≡ true
known-step s op e known = subst (λ parts. is_known_among (length parts.0) e ≡ true) (sym (step-fixed s op)) known

pub known-before : (s : State) (op : Op) (e : ℕ) → is_known (step s op).state e ≡ true → is_known s e ≡ true
known-before s op e known = subst (λ parts. is_known_among (length parts.0) e ≡ true) (step-fixed s op) known

pub base-step : (s : State) (op : Op) → (step s op).state.ram_base ≡ s.ram_base
base-step s op = ap (λ parts. parts.1.0) (step-fixed s op)

pub place-step : (s : State) (op : Op) → (step s op).state.tables ≡ s.tables
place-step s op = ap (λ parts. parts.1.1) (step-fixed s op)

-- ---- pages
-- What holds of the pages of a state, and of pages into which an operation writes, holds of the pages that each operation
-- leaves, where it holds of those that a call on memory transactions leaves.
module _ (R : List (Option Page) → Type 0) (s : State) (same : R s.pages) (by_info : (bytes : List ℕ) → R (filled_pages s.pages bytes (buffers_of s s.runner))) where
  abbrev send_failure : Option ErrorCode
  send_failure = first_failure (send2_guards s.parties s.buffers (version_of s s.runner) s.runner (header_in (tx_bytes s s.runner)))

  abbrev sent_pages : List (Option Page)
  sent_pages = filled_pages s.pages (message_in (tx_bytes s s.runner)) (buffers_of s (header_in (tx_bytes s s.runner)).receiver)

  abbrev stored_pages : ℕ → Size → ℕ → List (Option Page)
  stored_pages address size value = written_pages s.pages ((address - s.ram_base) / 4096) (address % 4096) (little_bytes (size_of size) value)

  -- what a call leaves that nothing refuses
  abbrev Leaves : calls.Call → Type 0
  Leaves call = first_failure (service s call).guards ≡ None → R (service s call).state.pages

  kept-service : (call : calls.Call) → (is_send2 call ≡ true → send_failure ≡ None → R sent_pages) → (is_memory_call call ≡ true → Leaves call) → Leaves call
  kept-service (PartitionInfoGet uuid flags) by_send by_memory none =
      elim (is_count_alone flags) as (λ b. R (cond b s (filled s s.runner (info_bytes s.ffa (version_of s s.runner) s.parties (uuid_bytes uuid)))).pages) [
        | true ↦ same
        | false ↦ by_info (info_bytes s.ffa (version_of s s.runner) s.parties (uuid_bytes uuid))
      ]
  kept-service (Version word) by_send by_memory none = version-leaves (λ t. R t.pages) s.ffa s word same (λ version. same)
  kept-service (MsgWait flags) by_send by_memory none = waited-kept (λ t. R t.pages) s flags same same
  kept-service (MemDonate x) by_send by_memory none = by_memory refl none
  kept-service (MemLend x) by_send by_memory none = by_memory refl none
  kept-service (MemShare x) by_send by_memory none = by_memory refl none
  kept-service (MemRetrieve x) by_send by_memory none = by_memory refl none
  kept-service MemRelinquish by_send by_memory none = by_memory refl none
  kept-service (MemReclaim handle flags) by_send by_memory none = by_memory refl none
  kept-service MsgSend2 by_send by_memory none = by_send refl none
  kept-service call by_send by_memory none = same

  pub kept-call : (call : calls.Call) → (is_send2 call ≡ true → send_failure ≡ None → R sent_pages) → (is_memory_call call ≡ true → Leaves call) → R (serve s call).state.pages
  kept-call call by_send by_memory = served-kept (λ t. R t.pages) s (service s call) same (kept-service call by_send by_memory)

  pub kept-step : (op : Op) → ((address : ℕ) (size : Size) (value : ℕ) → store_fault s address (size_of size) ≡ None → R (stored_pages address size value))
      → (is_call is_send2 op ≡ true → send_failure ≡ None → R sent_pages)
      → ((x : List ℕ) → is_memory_call (decode x) ≡ true → Leaves (decode x)) → R (step s op).state.pages
  kept-step (Call x) by_store by_send by_memory = kept-call (decode x) by_send (by_memory x)
  kept-step (Load address size) by_store by_send by_memory = accessed-kept (λ t. R t.pages) s s (Data (number_at s address (size_of size))) (read_fault s address (size_of size)) same (λ none. same)
  kept-step (Store address size value) by_store by_send by_memory =
      accessed-kept (λ t. R t.pages) s (stored s address (little_bytes (size_of size) value)) Done (store_fault s address (size_of size)) same (by_store address size value)
  kept-step (Fetch address) by_store by_send by_memory = accessed-kept (λ t. R t.pages) s s (Data (number_at s address 4)) (fetch_fault s address) same (λ none. same)
