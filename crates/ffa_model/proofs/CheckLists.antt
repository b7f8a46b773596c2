-- SPDX-License-Identifier: MIT OR Apache-2.0
-- The guards of calls on memory have the names that their rows list, whether or not there is what they ask about.
use Rattle.std.proofs.Common.{◌≡◌, ℕ, Bool, true, false, List, [], map, Option, Some, None, refl, ◌==◌, ◌++◌, find, if◌then◌else◌}
use Rattle.std.specs.List.{flat_map}
use Rattle.std.specs.FinMap as map_get
use Rattle.std.specs.Option.{option_map_or}
use Rattle.ffa_model.specs.declared.call.Transfer.{Transfer}
use Rattle.ffa_model.specs.declared.descriptor.RetrieveDesc.{RetrieveDesc}
use Rattle.ffa_model.specs.declared.descriptor.RelinquishDesc.{RelinquishDesc}
use Rattle.ffa_model.specs.declared.function.TheConstants.{FFA_MEM_SHARE, FFA_MEM_RETRIEVE_REQ, FFA_MEM_RELINQUISH}
use Rattle.ffa_model.specs.declared.manifest.Ffa.{Ffa}
use Rattle.ffa_model.specs.declared.refusal.Refusal.{Refusal}
use Rattle.ffa_model.specs.HypervisorRetrieve.{back_guards, handle_read, retrieve_by}
use Rattle.ffa_model.specs.MemoryRetrieve.{holding_guards, named_read, retrieve_guards, retrieve_read}
use Rattle.ffa_model.specs.MemoryReturn.{relinquish_guards}
use Rattle.ffa_model.specs.MemorySend.{send_guards, transfer_guards}
use Rattle.ffa_model.specs.Buffers.{buffers_in, is_full}
use Rattle.ffa_model.specs.Rows.{rows}
use Rattle.ffa_model.specs.SendDescriptor.{SendRecord}
use Rattle.ffa_model.specs.State.{State, Buffers, Transaction, buffers_of, transaction_of}
use Rattle.ffa_model.specs.Transactions.{OpenTransactions, Scene, scene_of}
use Rattle.ffa_model.specs.Checks.{for_hypervisor, for_receiver, made}

abbrev pub row_checks : ℕ → List Refusal
row_checks function = option_map_or (λ row. row.checks) (find (λ row. row.function == function) rows) []

abbrev pub AreMade : List (Bool × Refusal) → List Refusal → Type 0
AreMade guards all = (read : ℕ) × (map (λ guard. guard.1) guards ≡ made read all)

pub send_listed : (ffa : Ffa) (c : Scene) (e : ℕ) (x : Transfer) (r : Option SendRecord) → AreMade (send_guards ffa c e x r) (row_checks FFA_MEM_SHARE)
send_listed ffa c e x None = (0, refl)
send_listed ffa c e x (Some r) = (1, refl)

-- of the transaction that the handle names
abbrev holding_listed : (ffa : Ffa) (c : Scene) (e : ℕ) (x : Transfer) (named : List ℕ) (d : RetrieveDesc) (full : Bool) (t : Option Transaction)
    → AreMade (transfer_guards c.buffers e x ++ holding_guards ffa c.ram full e named d t) (flat_map for_receiver (row_checks FFA_MEM_RETRIEVE_REQ))
holding_listed ffa c e x named d full None = (1, refl)
holding_listed ffa c e x named d full (Some t) = (2, refl)

receiver_listed : (ffa : Ffa) (c : Scene) (e : ℕ) (x : Transfer) (named : List ℕ) (d : Option RetrieveDesc)
    → AreMade (retrieve_guards ffa c e x named d) (flat_map for_receiver (row_checks FFA_MEM_RETRIEVE_REQ))
receiver_listed ffa c e x named None = (0, refl)
receiver_listed ffa c e x named (Some d) =
    holding_listed ffa c e x named d (is_full (buffers_in c.buffers e)) (map_get.get c.open_transactions.transactions d.handle)

-- a hypervisor's
back_listed : (full : Bool) (e : ℕ) (named : ℕ → Option Transaction) (h : Option ℕ)
    → AreMade (back_guards full e named h) (flat_map for_hypervisor (row_checks FFA_MEM_RETRIEVE_REQ))
back_listed full e named None = (0, refl)
back_listed full e named (Some h) = (1, refl)

pub retrieve_listed : (s : State) (x : Transfer) (back : Bool)
    → AreMade (retrieve_by back s x).guards (flat_map (if back then for_hypervisor else for_receiver) (row_checks FFA_MEM_RETRIEVE_REQ))
retrieve_listed s x true = back_listed (is_full (buffers_of s s.runner)) s.runner (transaction_of s) (handle_read s x.total)
retrieve_listed s x false = receiver_listed s.ffa (scene_of s) s.runner x (named_read s x.total) (retrieve_read s x.total)

pub relinquish_listed : (own : Option Buffers) (open_transactions : OpenTransactions) (e : ℕ) (d : Option RelinquishDesc) → AreMade (relinquish_guards own open_transactions e d) (row_checks FFA_MEM_RELINQUISH)
relinquish_listed own open_transactions e None = (0, refl)
relinquish_listed own open_transactions e (Some d) = (1, refl)
