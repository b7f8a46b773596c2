-- SPDX-License-Identifier: MIT OR Apache-2.0
-- Another's operation leaves an endpoint's buffers in their pages.
use Rattle.std.proofs.Common.{◌≡◌, ◌≢◌, ◌∙◌, ℕ, Bool, true, false, cond, List, length, get_or, Option, Some, None, refl, sym, ap, get_or-set_other}
use Rattle.std.specs.Option.{option_map_or}
use Rattle.byteorder.specs.Endian.{little_bytes}
use Rattle.ffa_model.specs.declared.descriptor.RelinquishDesc.{RelinquishDesc}
use Rattle.ffa_model.specs.declared.operation.Op.{Op}
use Rattle.ffa_model.specs.declared.operation.Op.TheVariants.{Call, Load, Store, Fetch}
use Rattle.ffa_model.specs.declared.operation.Outcome.TheVariants.{Data, Done}
use Rattle.ffa_model.specs.declared.rights.Kind.{Kind}
use Rattle.ffa_model.specs.declared.rights.Kind.TheVariants.{Share, Lend, Donate}
use Rattle.ffa_model.specs.declared.descriptor.RetrieveDesc.{RetrieveDesc}
use Rattle.ffa_model.specs.declared.call.Call as calls
use Rattle.ffa_model.specs.declared.call.Call.TheVariants.{PartitionInfoGet, MsgWait, RxRelease, RxtxMap, RxtxUnmap, MemDonate, MemLend, MemShare, MemRetrieve, MemRelinquish, MsgSend2, Version}
use Rattle.ffa_model.specs.SendDescriptor.{SendRecord}
use Rattle.ffa_model.specs.Identifiers.{place}
use Rattle.ffa_model.specs.Lists.{is_in_run}
use Rattle.ffa_model.specs.State.{State, Buffers, is_known, transaction_of, version_of}
use Rattle.ffa_model.specs.Buffers.{buffers_with, buffers_with_rx, filled, new_buffers}
use Rattle.ffa_model.specs.Memory.{fetch_fault, number_at, read_fault, size_of, store_fault, stored}
use Rattle.ffa_model.specs.MemoryRetrieve.{retrieve_read, retrieved, retrieved_from}
use Rattle.ffa_model.specs.MemoryReturn.{relinquish_read, relinquished, relinquished_from}
use Rattle.ffa_model.specs.MemorySend.{memory_sent, send_read}
use Rattle.ffa_model.specs.Messages.{header_in, tx_bytes}
use Rattle.ffa_model.specs.Registers.{decode}
use Rattle.ffa_model.specs.Setup.{info_bytes, is_count_alone, uuid_bytes}
use Rattle.ffa_model.specs.Step.{service, step}
use Rattle.ffa_model.proofs.Places.{same-known}
use Rattle.ffa_laws.specs.Steady.{IsSteady}
use Rattle.ffa_laws.specs.Isolation.{is_rx}
use Rattle.ffa_laws.proofs.Form.{accessed-kept, served-kept, waited-kept}
use Rattle.ffa_laws.proofs.ReadBacks.{either-kept}
use Rattle.ffa_laws.proofs.Versions.{version-leaves}
use Rattle.ffa_laws.proofs.Written.{at-changed, is_at, with_rx_full}

module _ (s : State) (steady : IsSteady s) (e : ℕ) (known : is_known s e ≡ true) (other : s.runner ≢ e) (p : ℕ) where
  abbrev rx_in : List (Option Buffers) → Bool
  rx_in bs = option_map_or (λ (b : Buffers). is_in_run b.rx b.pages p) (get_or bs (place e) None) false

  -- RX that is full or empty stays where it is, whosever it is
  rx-filled : (f : ℕ) (full : Bool) → rx_in (buffers_with_rx s.buffers f full) ≡ rx_in s.buffers
  rx-filled f full =
      ap (λ o. option_map_or (λ (b : Buffers). is_in_run b.rx b.pages p) o false) (at-changed (with_rx_full full) s.buffers (place f) (place e) refl)
      ∙ of (is_at (place f) (place e)) (get_or s.buffers (place e) None)
    where
      of : (b : Bool) (o : Option Buffers) → option_map_or (λ (x : Buffers). is_in_run x.rx x.pages p) (cond b (with_rx_full full o) o) false ≡ option_map_or (λ (x : Buffers). is_in_run x.rx x.pages p) o false
      of true None = refl
      of true (Some x) = refl
      of false o = refl

  -- the runner's buffers are others
  rx-beside : (b : Option Buffers) → rx_in (buffers_with s.buffers s.runner b) ≡ rx_in s.buffers
  rx-beside b =
      ap (λ o. option_map_or (λ (x : Buffers). is_in_run x.rx x.pages p) o false)
      (get_or-set_other s.buffers (place s.runner) (place e) b None (λ same. other (same-known (length s.parties) s.runner e steady.runner known (sym same))))

  rx-sent : (kind : Kind) (o : Option SendRecord) → is_rx (memory_sent s kind o) e p ≡ is_rx s e p
  rx-sent kind None = refl
  rx-sent kind (Some r) = refl

  rx-retrieved : (o : Option RetrieveDesc) → is_rx (retrieved s o) e p ≡ is_rx s e p
  rx-retrieved None = refl
  rx-retrieved (Some d) = elim (transaction_of s d.handle) as (λ o. is_rx (retrieved_from s d o) e p ≡ is_rx s e p) [ None ↦ refl | Some t ↦ rx-filled s.runner true ]

  rx-relinquished : (o : Option RelinquishDesc) → is_rx (relinquished s o) e p ≡ is_rx s e p
  rx-relinquished None = refl
  rx-relinquished (Some d) = elim (transaction_of s d.handle) as (λ o. is_rx (relinquished_from s d o) e p ≡ is_rx s e p) [ None ↦ refl | Some t ↦ refl ]

  rx-service : (call : calls.Call) → is_rx (service s call).state e p ≡ is_rx s e p
  rx-service RxRelease = rx-filled s.runner false
  rx-service (Version word) = version-leaves (λ t. is_rx t e p ≡ is_rx s e p) s.ffa s word refl (λ version. refl)
  rx-service (MsgWait flags) = waited-kept (λ t. is_rx t e p ≡ is_rx s e p) s flags refl (rx-filled s.runner false)
  rx-service (RxtxMap tx rx pages) = rx-beside (Some (new_buffers s.ram_base tx rx pages))
  rx-service (RxtxUnmap endpoint) = rx-beside None
  rx-service (PartitionInfoGet uuid flags) =
      elim (is_count_alone flags) as (λ b. is_rx (cond b s (filled s s.runner (info_bytes s.ffa (version_of s s.runner) s.parties (uuid_bytes uuid)))) e p ≡ is_rx s e p) [ true ↦ refl | false ↦ rx-filled s.runner true ]
  rx-service (MemDonate x) = rx-sent Donate (send_read s Donate x.total)
  rx-service (MemLend x) = rx-sent Lend (send_read s Lend x.total)
  rx-service (MemShare x) = rx-sent Share (send_read s Share x.total)
  rx-service (MemRetrieve x) =
      either-kept (λ t. is_rx t e p ≡ is_rx s e p) s x (rx-retrieved (retrieve_read s x.total)) refl (λ bytes. rx-filled s.runner true)
  rx-service MemRelinquish = rx-relinquished (relinquish_read s)
  rx-service MsgSend2 = rx-filled (header_in (tx_bytes s s.runner)).receiver true
  rx-service call = refl

  pub rx-kept : (op : Op) → is_rx (step s op).state e p ≡ is_rx s e p
  rx-kept (Call x) = served-kept (λ t. is_rx t e p ≡ is_rx s e p) s (service s (decode x)) refl (λ none. rx-service (decode x))
  rx-kept (Load address size) = accessed-kept (λ t. is_rx t e p ≡ is_rx s e p) s s (Data (number_at s address (size_of size))) (read_fault s address (size_of size)) refl (λ none. refl)
  rx-kept (Store address size value) = accessed-kept (λ t. is_rx t e p ≡ is_rx s e p) s (stored s address (little_bytes (size_of size) value)) Done (store_fault s address (size_of size)) refl (λ none. refl)
  rx-kept (Fetch address) = accessed-kept (λ t. is_rx t e p ≡ is_rx s e p) s s (Data (number_at s address 4)) (fetch_fault s address) refl (λ none. refl)
