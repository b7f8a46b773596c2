-- SPDX-License-Identifier: MIT OR Apache-2.0
-- An operation changes neither how many endpoints there are nor how many pages.
use Rattle.std.proofs.Common.{◌≡◌, ◌∙◌, ℕ, zero, suc, ◌+◌, ◌/◌, ◌-◌, Bool, true, false, cond, List, length, take, drop, Option, Some, None, refl, sym, ap, subst, length-set}
use Rattle.std.specs.Prelude.{if◌then◌else◌, slice_index_or}
use Rattle.byteorder.specs.Endian.{little_bytes}
use Rattle.ffa_model.specs.declared.call.Call as calls
use Rattle.ffa_model.specs.declared.call.Call.TheVariants.{PartitionInfoGet, MemDonate, MemLend, MemShare, MemRetrieve, MemRelinquish, MemReclaim, MsgSend2, Version, MsgWait}
use Rattle.ffa_model.specs.declared.descriptor.RelinquishDesc.{RelinquishDesc}
use Rattle.ffa_model.specs.declared.descriptor.RetrieveDesc.{RetrieveDesc}
use Rattle.ffa_model.specs.declared.operation.Op.{Op}
use Rattle.ffa_model.specs.declared.operation.Op.TheVariants.{Call, Load, Store, Fetch}
use Rattle.ffa_model.specs.declared.operation.Outcome.TheVariants.{Data, Done}
use Rattle.ffa_model.specs.declared.rights.Kind.{Kind}
use Rattle.ffa_model.specs.declared.rights.Kind.TheVariants.{Share, Lend, Donate}
use Rattle.ffa_model.specs.declared.rights.Rights.{Rights}
use Rattle.ffa_model.specs.declared.transaction.Range.{Range}
use Rattle.ffa_model.specs.Access.{names, ownership_of}
use Rattle.ffa_model.specs.Bits.{is_set}
use Rattle.ffa_model.specs.Buffers.{filled, filled_pages}
use Rattle.ffa_model.specs.Memory.{changed_pages, fetch_fault, number_at, page_with, read_fault, size_of, store_fault, stored, written_pages, written_run, zeroed_page}
use Rattle.ffa_model.specs.MemoryRetrieve.{donated_page, response_to, retrieve_read, retrieved, retrieved_from, right_for, with_retrieved}
use Rattle.ffa_model.specs.MemoryReturn.{named_ranges, relinquish_read, relinquished, relinquished_from}
use Rattle.ffa_model.specs.MemorySend.{is_told_normal, memory_sent, offered_in, send_read}
use Rattle.ffa_model.specs.Messages.{header_in, message_in, tx_bytes}
use Rattle.ffa_model.specs.Registers.{decode}
use Rattle.ffa_model.specs.ResponseBytes.{response_bytes}
use Rattle.ffa_model.specs.Rights.{is_donate}
use Rattle.ffa_model.specs.SendDescriptor.{SendRecord}
use Rattle.ffa_model.specs.Setup.{info_bytes, is_count_alone, uuid_bytes}
use Rattle.ffa_model.specs.State.{State, Buffers, Page, Transaction, buffers_of, transaction_of, version_of}
use Rattle.ffa_model.specs.Step.{service, step}
use Rattle.ffa_model.specs.Transactions.{closed, not_holding, open_of, with_open, with_transaction}
use Rattle.ffa_model.proofs.Accesses.{length-map_at}
use Rattle.ffa_laws.proofs.Form.{accessed-kept, served-kept, waited-kept}
use Rattle.ffa_laws.proofs.Kept.{place-step}
use Rattle.ffa_laws.proofs.ReadBacks.{either-kept}
use Rattle.ffa_stage2.specs.Tables.{IsAside}
use Rattle.ffa_laws.proofs.Versions.{version-leaves}
use Rattle.ffa_spmc.specs.Unowned.{IsNoTable}

-- how many endpoints there are, and how many pages
abbrev sizes : State → ℕ × ℕ
sizes s = (length s.parties, length s.pages)

changed-size : (b : Bool) (s : State) (ranges : List Range) (change : Option Page → Option Page) → length (if b then changed_pages s ranges change else s.pages) ≡ length s.pages
changed-size true s ranges change = length-map_at (λ p page. if names s ranges p then change page else page) s.pages
changed-size false s ranges change = refl

written-size : (n : ℕ) (pages : List (Option Page)) (first : ℕ) (bytes : List ℕ) → length (written_run n pages first bytes) ≡ length pages
written-size zero pages first bytes = refl
written-size (suc n) pages first bytes =
    written-size n (written_pages pages first 0 (take 4096 bytes)) (first + 1) (drop 4096 bytes)
    ∙ length-set pages first (page_with 0 (take 4096 bytes) (slice_index_or pages first None))

filled-size : (pages : List (Option Page)) (bytes : List ℕ) (o : Option Buffers) → length (filled_pages pages bytes o) ≡ length pages
filled-size pages bytes None = refl
filled-size pages bytes (Some b) = written-size b.pages pages b.rx bytes

of-pages : (s : State) (n : ℕ) → n ≡ length s.pages → (length s.parties, n) ≡ sizes s
of-pages s n is = ap (λ (k : ℕ). (length s.parties, k)) is

sent-sizes : (s : State) (kind : Kind) (r : Option SendRecord) → sizes (memory_sent s kind r) ≡ sizes s
sent-sizes s kind None = refl
sent-sizes s kind (Some r) = of-pages s _ (changed-size r.zero (with_open s (offered_in (open_of s) s.runner kind (is_told_normal (ownership_of s) s.normal r.ranges) r)) r.ranges zeroed_page)

retrieved-sizes : (s : State) (d : Option RetrieveDesc) → sizes (retrieved s d) ≡ sizes s
retrieved-sizes s None = refl
retrieved-sizes s (Some d) = of (transaction_of s d.handle)
  where
    of : (o : Option Transaction) → sizes (retrieved_from s d o) ≡ sizes s
    of None = refl
    of (Some t) =
        let right : Rights = right_for (ownership_of s) t s.runner d in
        let before : State = with_retrieved s d.handle t s.runner right in
        of-pages s _
        (filled-size before.pages (response_bytes (version_of s s.runner) (response_to d.handle t s.runner right)) (buffers_of before s.runner)
        ∙ changed-size (is_donate t.kind) s t.ranges (donated_page s.runner right))

relinquished-sizes : (s : State) (d : Option RelinquishDesc) → sizes (relinquished s d) ≡ sizes s
relinquished-sizes s None = refl
relinquished-sizes s (Some d) = of (transaction_of s d.handle)
  where
    of : (o : Option Transaction) → sizes (relinquished_from s d o) ≡ sizes s
    of None = refl
    of (Some t) = of-pages s _ (changed-size d.zero (with_open s (with_transaction (open_of s) d.handle (not_holding t s.runner))) t.ranges zeroed_page)

service-sizes : (s : State) (call : calls.Call) → sizes (service s call).state ≡ sizes s
service-sizes s (PartitionInfoGet uuid flags) =
    elim (is_count_alone flags) as (λ b. sizes (cond b s (filled s s.runner (info_bytes s.ffa (version_of s s.runner) s.parties (uuid_bytes uuid)))) ≡ sizes s) [
      | true ↦ refl
      | false ↦ of-pages s _ (filled-size s.pages (info_bytes s.ffa (version_of s s.runner) s.parties (uuid_bytes uuid)) (buffers_of s s.runner))
    ]
service-sizes s (Version word) = version-leaves (λ t. sizes t ≡ sizes s) s.ffa s word refl (λ version. refl)
service-sizes s (MsgWait flags) = waited-kept (λ t. sizes t ≡ sizes s) s flags refl refl
service-sizes s MsgSend2 =
    of-pages s _ (filled-size s.pages (message_in (tx_bytes s s.runner)) (buffers_of s (header_in (tx_bytes s s.runner)).receiver))
service-sizes s (MemDonate x) = sent-sizes s Donate (send_read s Donate x.total)
service-sizes s (MemLend x) = sent-sizes s Lend (send_read s Lend x.total)
service-sizes s (MemShare x) = sent-sizes s Share (send_read s Share x.total)
service-sizes s (MemRetrieve x) =
    either-kept (λ t. sizes t ≡ sizes s) s x (retrieved-sizes s (retrieve_read s x.total)) refl (λ bytes. of-pages s _ (filled-size s.pages bytes (buffers_of s s.runner)))
service-sizes s MemRelinquish = relinquished-sizes s (relinquish_read s)
service-sizes s (MemReclaim handle flags) =
    let h : ℕ = handle.0 in
    of-pages s _ (changed-size (is_set 0 flags) (with_open s (closed (open_of s) h)) (named_ranges (transaction_of s h)) zeroed_page)
service-sizes s call = refl

step-sizes : (s : State) (op : Op) → sizes (step s op).state ≡ sizes s
step-sizes s (Call x) = served-kept (λ t. sizes t ≡ sizes s) s (service s (decode x)) refl (λ none. service-sizes s (decode x))
step-sizes s (Load address size) = accessed-kept (λ t. sizes t ≡ sizes s) s s (Data (number_at s address (size_of size))) (read_fault s address (size_of size)) refl (λ none. refl)
step-sizes s (Store address size value) =
    accessed-kept (λ t. sizes t ≡ sizes s) s (stored s address (little_bytes (size_of size) value)) Done (store_fault s address (size_of size)) refl
    (λ none. of-pages s _ (length-set s.pages ((address - s.ram_base) / 4096) _))
step-sizes s (Fetch address) = accessed-kept (λ t. sizes t ≡ sizes s) s s (Data (number_at s address 4)) (fetch_fault s address) refl (λ none. refl)

-- so there are as many pages
pub pages-step : (s : State) (op : Op) → length (step s op).state.pages ≡ length s.pages
pages-step s op = ap (λ (n : ℕ × ℕ). n.1) (step-sizes s op)

-- and the tables stand where they did
pub tables-step : (s : State) (op : Op) (p : ℕ) → IsNoTable (step s op).state p ≡ IsNoTable s p
tables-step s op p = λ i. IsAside (step-sizes s op i).0 (place-step s op i) ((step-sizes s op i).1 / 512) p

pub tables-kept : (s : State) (op : Op) (p : ℕ) → IsNoTable s p → IsNoTable (step s op).state p
tables-kept s op p aside = subst (λ z. z) (sym (tables-step s op p)) aside
